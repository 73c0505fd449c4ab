-- The pieces of a change.
use Rattle.std.specs.Prelude.{ℕ, ◌≡◌, Bool, not, ◌&&◌, IsTrue, ◌+◌, ◌-◌, ◌*◌, ◌%◌, nat_lt, ◌==◌, List, [], ◌∷◌, ◌++◌, length, take, drop, if◌then◌else◌, All}
use Rattle.std.specs.List.{find}
use Rattle.std.specs.Option.{option_map_or, is_none}
use Rattle.param_tree.specs.declared.Kind.{Kind}
use Rattle.param_tree.specs.declared.Kind.TheVariants.{I8, I16, I32, F32, Vec3}
use Rattle.param_tree.specs.declared.Var.{Var}
use Rattle.param_tree.specs.Rules.{is_part}
use Rattle.storage_lines.specs.declared.areas.Area.TheVariants.{Param}
use Rattle.storage_lines.specs.Areas.{logical_of}
use Rattle.storage_lines.specs.Pieces.{Piece}
use Rattle.param_records.specs.declared.records.TheConstants.{PARAM_BYTES}
use Rattle.param_records.specs.Records.{Record, size_of, four_bytes, header, sentinel, spelling, records_of, end_of, place_from}

-- bytes for a logical place of the parameter storage
abbrev pub piece : ℕ → List ℕ → Piece
piece at bytes = record { area = Param; at = at; bytes = bytes }

-- Of a header that stands in two lines, the bytes in the line with byte 1, which has the type, come
-- last.
abbrev pub header_pieces : ℕ → List ℕ → List Piece
header_pieces at head = if nat_lt (at % 8) 5 then piece at head ∷ []
    else (if at % 8 == 7 then piece at (take 1 head) ∷ piece (at + 1) (drop 1 head) ∷ []
    else piece (at + (8 - at % 8)) (drop (8 - at % 8) head)
    ∷ piece at (take (8 - at % 8) head) ∷ [])

-- a record appended at a place: the sentinel after it, its value, its header
abbrev pub appending : ℕ → Record → List Piece
appending at r = piece (at + 4 + length r.value) sentinel ∷ piece (at + 4) r.value
    ∷ header_pieces at (four_bytes (header r))

-- some bytes of a value replaced, from byte k on
abbrev pub overwritten : ℕ → List ℕ → List ℕ → List ℕ
overwritten k new value = take k value ++ (new ++ drop (k + length new) value)

-- the bytes of one part of a value
abbrev pub part_size : Kind → ℕ
part_size I8 = 1
part_size I16 = 2
part_size I32 = 4
part_size F32 = 4
part_size Vec3 = 4

-- a part's bytes, of a pattern or of a whole number in two's complement
abbrev pub part_bytes : Kind → ℕ → List ℕ
part_bytes kind number = take (part_size kind) (four_bytes number)

-- the default of a part of the row's record
abbrev pub default_at : List Var → Var → ℕ → ℕ
default_at rows row p = option_map_or (λ v. v.default) (find (is_part row p) rows) 0

-- the row's part is this number, and each other part of its record its default
abbrev pub part_number : List Var → Var → ℕ → ℕ → ℕ
part_number rows row number p = if row.part == p then number else default_at rows row p

-- the value of a new record: the number, for three floats at the row's part and beside the defaults
-- of the other parts
abbrev pub fresh_bytes : Kind → List Var → Var → ℕ → List ℕ
fresh_bytes Vec3 rows row number = four_bytes (part_number rows row number 0)
    ++ (four_bytes (part_number rows row number 1) ++ four_bytes (part_number rows row number 2))
fresh_bytes kind rows row number = part_bytes kind number

-- a new record for the row
abbrev pub fresh : List Var → Var → ℕ → Record
fresh rows row number = record {
  key = row.key;
  element = row.element;
  kind = row.kind;
  value = fresh_bytes row.kind rows row number;
}

-- The pieces that set a row: the part's bytes in the first record that matches; where there is
-- none, nothing for the default, and else a new record.
abbrev pub set_pieces : List Var → List Record → Var → ℕ → List Piece
set_pieces rows records row number = option_map_or
    (λ at. piece (at + 4 * row.part) (part_bytes row.kind number) ∷ [])
    (place_from 4 row.key row.element row.kind records)
    (if number == row.default then []
    else appending (4 + length (spelling records)) (fresh rows row number))

-- A record must be appended, and doesn't fit with the sentinel after it: each takes four bytes
-- beside the value.
abbrev pub is_full : List Record → Var → ℕ → Bool
is_full records row number =
    is_none (place_from 4 row.key row.element row.kind records)
    && (not (number == row.default)
    && nat_lt PARAM_BYTES (4 + length (spelling records) + 8 + size_of row.kind))

-- the same as a fact
abbrev pub IsFull : List Record → Var → ℕ → Type 0
IsFull records row number = IsTrue (is_full records row number)

-- the records of the table's rows are where they were, and so is the end
pub record SamePlaces (rows : List Var) (old new : List ℕ) : Type 0 where
  pub places : All (λ row.
      place_from 4 row.key row.element row.kind (records_of (logical_of Param new))
      ≡ place_from 4 row.key row.element row.kind (records_of (logical_of Param old))) rows
  pub end : end_of (logical_of Param new) ≡ end_of (logical_of Param old)

-- The storage formatted: line 1 has the value of MIS_TOTAL, which is 0, and the sentinel; then line
-- 0 has the magic and the header of MIS_TOTAL.
abbrev pub formatting : List Piece
formatting = piece 8 (0 ∷ 0 ∷ 0xFF ∷ 0xFF ∷ 0x3F ∷ 0 ∷ 0 ∷ 0 ∷ [])
    ∷ piece 0 (0x50 ∷ 0x41 ∷ 0x06 ∷ 0 ∷ 0x14 ∷ 0x42 ∷ 0 ∷ 0 ∷ []) ∷ []

-- what the storage then has: MIS_TOTAL, of key 20 and element 1, with the value 0
abbrev pub total_zero : Record
total_zero = record { key = 20; element = 1; kind = I16; value = 0 ∷ 0 ∷ [] }
