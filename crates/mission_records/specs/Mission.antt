-- The stored mission, and the line writes that change it.
use Rattle.std.specs.Prelude.{ℕ, zero, suc, pos, negsuc, ◌+◌, ◌*◌, ◌/◌, ◌%◌, min, ◌==◌, nat_lt}
use Rattle.std.specs.Prelude.{List, [], ◌∷◌, ◌++◌, take, drop, slice_index, codes, if◌then◌else◌}
use Rattle.std.specs.Str.{bytes_eq}
use Rattle.storage_lines.specs.declared.areas.Area.TheVariants as area
use Rattle.storage_lines.specs.declared.lines.LineWrite.{LineWrite}
use Rattle.storage_lines.specs.Areas.{listed, logical_of}
use Rattle.storage_lines.specs.Lines.{after}
use Rattle.storage_lines.specs.Pieces.{writes_of_piece, writes_of}
use Rattle.param_tree.specs.declared.Var.{Var}
use Rattle.param_tree.specs.declared.Kind.TheVariants.{I16}
use Rattle.param_tree.specs.Rules.{name16}
use Rattle.param_tree.specs.Rows.{vehicle_rows}
use Rattle.param_records.specs.declared.values.Value.{Value}
use Rattle.param_records.specs.declared.values.Value.TheVariants.{Whole, Bits}
use Rattle.param_records.specs.Values.{params_of}
use Rattle.param_records.specs.Changes.{set_pieces}
use Rattle.param_records.specs.Steps.{records_in_storage}
use Rattle.mission_commands.specs.declared.commands.Command.{Command}
use Rattle.mission_records.specs.declared.reading.TheConstants.{CAPACITY}

-- the mission's area begins with this
abbrev pub version : List ℕ
version = 0xAE ∷ 0x65 ∷ 0 ∷ 0 ∷ []

-- the row of the vehicle's table that says how many commands are stored
abbrev pub total_row : Var
total_row = record {
  name = name16 (codes "MIS_TOTAL");
  key = 20;
  element = 1;
  kind = I16;
  part = 0;
  default = 0;
}

-- the bytes of the mission's area
abbrev pub mission_area : List ℕ → List ℕ
mission_area bytes = logical_of area.Mission bytes

-- how many commands a value says: a negative number counts as none
abbrev pub count_of : Value → ℕ
count_of (Whole (pos n)) = n
count_of (Whole (negsuc n)) = 0
count_of (Bits pattern) = 0

-- how many commands are stored: what MIS_TOTAL says, and none without the version
abbrev pub total_of : List ℕ → ℕ
total_of bytes = if bytes_eq (take 4 (mission_area bytes)) version
    then min CAPACITY (count_of (params_of bytes total_row)) else 0

-- where the command with this index stands
abbrev pub place_of_command : ℕ → ℕ
place_of_command i = 4 + 15 * i

-- the fifteen bytes of the command with this index
abbrev pub bytes_at : ℕ → List ℕ → List ℕ
bytes_at i area = listed 15 (λ k. slice_index area (place_of_command i + k))

-- the number of two bytes, little endian
abbrev pub two_bytes : ℕ → ℕ → ℕ
two_bytes low high = low + 0x100 * high

-- The command in fifteen bytes. A first byte of 1 means the long form, with an id of two bytes and
-- a content of ten; any other byte is the id itself, before a content of twelve.
abbrev pub command_of : List ℕ → Command
command_of bytes = if slice_index bytes 0 == 1
    then record {
      id = two_bytes (slice_index bytes 1) (slice_index bytes 2);
      p1 = two_bytes (slice_index bytes 3) (slice_index bytes 4);
      content = take 10 (drop 5 bytes) ++ 0 ∷ 0 ∷ [];
    }
    else record {
      id = slice_index bytes 0;
      p1 = two_bytes (slice_index bytes 1) (slice_index bytes 2);
      content = take 12 (drop 3 bytes);
    }

-- a command's fifteen bytes: an id above 255 takes the long form
abbrev pub command_bytes : Command → List ℕ
command_bytes c = if nat_lt c.id 0x100
    then c.id ∷ c.p1 % 0x100 ∷ c.p1 / 0x100 ∷ c.content
    else 1 ∷ c.id % 0x100 ∷ c.id / 0x100 ∷ c.p1 % 0x100 ∷ c.p1 / 0x100 ∷ take 10 c.content

-- the first n commands
unfoldable pub commands_in : ℕ → List ℕ → List Command
commands_in zero area = []
commands_in (suc n) area = commands_in n area ++ command_of (bytes_at n area) ∷ []

-- the stored mission: the first commands, as many as are stored
abbrev pub mission_of : List ℕ → List Command
mission_of bytes = commands_in (total_of bytes) (mission_area bytes)

-- MIS_TOTAL becomes this number
abbrev pub total_writes : List ℕ → ℕ → List LineWrite
total_writes bytes number =
    writes_of bytes (set_pieces vehicle_rows (records_in_storage bytes) total_row number)

-- the version is written
abbrev pub version_writes : List ℕ → List LineWrite
version_writes bytes = writes_of_piece area.Mission 0 version bytes

-- a command's bytes are written
abbrev pub command_writes : List ℕ → ℕ → Command → List LineWrite
command_writes bytes i c = writes_of_piece area.Mission (place_of_command i) (command_bytes c) bytes

-- a mission begins: MIS_TOTAL becomes 0, and then the version is written
abbrev pub begin_writes : List ℕ → List LineWrite
begin_writes bytes = total_writes bytes 0 ++ version_writes (after bytes (total_writes bytes 0))

-- a command is put at an index: its bytes, and then MIS_TOTAL
abbrev pub put_writes : List ℕ → ℕ → Command → List LineWrite
put_writes bytes i c = command_writes bytes i c
    ++ total_writes (after bytes (command_writes bytes i c)) (i + 1)
