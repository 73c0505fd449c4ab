-- An index while records are added to it, one after the other.
use Rattle.std.specs.Prelude.{ℕ, ◌≡◌, ◌+◌, ◌&&◌, ◌==◌, List, length, Option, Some, slice_get, if◌then◌else◌}
use Rattle.std.specs.Option.{is_none}
use Rattle.param_tree.specs.declared.Var.{Var}
use Rattle.param_records.specs.declared.records.Header.{Header}
use Rattle.param_records.specs.Records.{Record, size_of, spelling, kind_eq, place_from}
use Rattle.param_index.specs.Places.{Places}

-- the index is of these rows and these records
pub record IsIndexOfRecords (rows : List Var) (records : List Record) (index : Places)
    : Type 0 where
  pub places : (i : ℕ) (row : Var) → slice_get rows i ≡ Some row
      → slice_get index.of_rows i ≡ Some (place_from 4 row.key row.element row.kind records)
  pub end : index.end ≡ 4 + length (spelling records)

-- a row's place, once a record with this header has its value at a place: the first one that
-- matches is the row's
abbrev pub place_with : Header → ℕ → Var → Option ℕ → Option ℕ
place_with header at row was =
    if is_none was && ((header.key == row.key)
    && ((header.element == row.element) && kind_eq header.kind row.kind)) then Some at else was

-- the record has this header, and a value of its kind
pub record HasHeader (header : Header) (r : Record) : Type 0 where
  pub key : r.key ≡ header.key
  pub element : r.element ≡ header.element
  pub kind : r.kind ≡ header.kind
  pub value : length r.value ≡ size_of header.kind
