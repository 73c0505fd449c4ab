-- The text of a dump: what an image stands for.
--
--     image 16384 guard 0 alone
--     param FORMAT_VERSION i16 120
--     param RTL_ALT i32 1500
--     ..
--     param FENCE_ALT_MAX f32 42C80000
--     ..
--     mission 1
--     command 0 16 5 01E80B004C52401C62F41705
--     fence 1
--     fence 0 5003 473977420 85455970 42C80000
--     sha256 H
--
-- with a line for each parameter, each command of the mission and each item of the fence, and 64
-- lower-case digits for H.
use Rattle.std.specs.Prelude.{◌≡◌, ℕ, ◌*◌, List, ◌++◌, length, codes, decimal}
use Rattle.std.specs.Fmt.{signed_decimal}
use Rattle.std.specs.List.{flat_map, enumerate_from}
use Rattle.std.specs.Int.{to_be_bytes, w32}
use Rattle.hex.specs.Hex.{encode_upper, encode_lower}
use Rattle.sha2.specs.Sha256.{sha256}
use Rattle.flash_traits.specs.Words.{Words}
use Rattle.sector_log.specs.Bytes.{IsValue}
use Rattle.sector_image.specs.Stands.{Reading, IsReadAs, entries_in, count_in, shape_of_reading}
use Rattle.sector_image.specs.declared.kept.Shape.{Shape}
use Rattle.param_tree.specs.declared.Kind.{Kind}
use Rattle.param_tree.specs.declared.Kind.TheVariants.{I8, I16, I32, F32, Vec3}
use Rattle.param_tree.specs.declared.Var.{Var}
use Rattle.param_tree.specs.Rules.{name_of}
use Rattle.param_tree.specs.Rows.{vehicle_rows}
use Rattle.param_records.specs.declared.values.Value.{Value}
use Rattle.param_records.specs.declared.values.Value.TheVariants.{Whole, Bits}
use Rattle.param_records.specs.Values.{params_of}
use Rattle.mission_commands.specs.declared.commands.Command.{Command}
use Rattle.mission_records.specs.Mission.{mission_of}
use Rattle.fence_records.specs.declared.items.FenceItem.{FenceItem}
use Rattle.fence_records.specs.Lists.{fence_of}
use Rattle.printed_text.specs.Pieces.{with_newline}
use Rattle.image_report.specs.Texts.{size_text, shape_name}

-- the type of a row; each of three floats that are stored as one value is printed by itself
abbrev pub kind_name : Kind → List ℕ
kind_name I8 = codes "i8"
kind_name I16 = codes "i16"
kind_name I32 = codes "i32"
kind_name F32 = codes "f32"
kind_name Vec3 = codes "f32"

-- a whole number in decimal, or a float's pattern as eight upper-case hexadecimal digits
abbrev pub value_text : Value → List ℕ
value_text (Whole number) = signed_decimal number
value_text (Bits pattern) = encode_upper (to_be_bytes w32 pattern)

-- `param FORMAT_VERSION i16 120`, the name without the zeros after it
abbrev pub param_text : Var → Value → List ℕ
param_text row value = with_newline (codes "param " ++ name_of row ++ codes " "
    ++ kind_name row.kind ++ codes " " ++ value_text value)

-- the line of a row by the storage bytes
unfoldable pub param_line : List ℕ → Var → List ℕ
param_line bytes row = param_text row (params_of bytes row)

-- a line for each row of the table, in its order
unfoldable pub param_lines : List ℕ → List ℕ
param_lines bytes = flat_map (param_line bytes) vehicle_rows

-- a line for each element of a list, by its index and itself
unfoldable pub numbered_lines : {X : Type 0} → (ℕ → X → List ℕ) → List X → List ℕ
numbered_lines line xs = flat_map (λ p. line p.0 p.1) (enumerate_from 0 xs)

-- `mission 1`, the number of commands
abbrev pub mission_line : ℕ → List ℕ
mission_line count = with_newline (codes "mission " ++ decimal count)

-- `command 0 16 5 01E80B004C52401C62F41705`: the index, the command's number, p1, and the twelve
-- bytes of content in upper-case hexadecimal digits
abbrev pub command_line : ℕ → Command → List ℕ
command_line index c = with_newline (codes "command " ++ decimal index ++ codes " "
    ++ decimal c.id ++ codes " " ++ decimal c.p1 ++ codes " " ++ encode_upper c.content)

-- the stored mission, a line for each command
unfoldable pub mission_lines : List ℕ → List ℕ
mission_lines bytes = mission_line (length (mission_of bytes))
    ++ numbered_lines command_line (mission_of bytes)

-- `fence 1`, the number of items
abbrev pub fence_line : ℕ → List ℕ
fence_line count = with_newline (codes "fence " ++ decimal count)

-- `fence 0 5003 473977420 85455970 42C80000`: the index, the item's number, latitude and longitude
-- in 1e-7 degree, and the pattern of its param1
abbrev pub fence_item_line : ℕ → FenceItem → List ℕ
fence_item_line index item = with_newline (codes "fence " ++ decimal index ++ codes " "
    ++ decimal item.command ++ codes " " ++ signed_decimal item.x ++ codes " "
    ++ signed_decimal item.y ++ codes " " ++ encode_upper (to_be_bytes w32 item.param1))

-- the stored fence, a line for each item
unfoldable pub fence_lines : List ℕ → List ℕ
fence_lines bytes = fence_line (length (fence_of bytes))
    ++ numbered_lines fence_item_line (fence_of bytes)

-- what the storage bytes hold, section after section
abbrev pub stored_text : List ℕ → List ℕ
stored_text bytes = param_lines bytes ++ (mission_lines bytes ++ fence_lines bytes)

-- `image 16384 guard 0 alone`
abbrev pub head_line : ℕ → ℕ → Shape → List ℕ
head_line sector_bytes count shape = with_newline (size_text sector_bytes ++ codes " guard "
    ++ decimal count ++ codes " " ++ shape_name shape)

-- `sha256 H`, the digest of the storage bytes
unfoldable pub digest_line : List ℕ → List ℕ
digest_line bytes = with_newline (codes "sha256 " ++ encode_lower (sha256 bytes))

-- the text of an image of this sector size, guard count and state that stands for these bytes
unfoldable pub dump_text : ℕ → ℕ → Shape → List ℕ → List ℕ
dump_text sector_bytes count shape bytes = head_line sector_bytes count shape ++ stored_text bytes
    ++ digest_line bytes

-- The text of words that are an image: what they tell, and the bytes that they stand for.
pub record IsDump (w : Words) (text : List ℕ) : Type 0 where
  pub reading : Reading
  pub bytes : List ℕ
  pub reads : IsReadAs w reading
  pub value : IsValue (entries_in reading) bytes
  pub is : text ≡ dump_text (2 * length w.s0) (count_in reading) (shape_of_reading reading) bytes
