-- What the rows read while a change is written.
use Rattle.std.specs.Prelude.{◌≡◌, ◌≢◌, ◌⊎◌, ℕ, ℤ, ◌+◌, ◌-◌, ◌*◌, ◌/◌, ◌<◌, ◌≤◌, ◌^◌, List, [], ◌∷◌, ◌++◌, length, take, drop, slice_get, IfSome, Option, Some, None}
use Rattle.param_tree.specs.declared.Kind.{Kind}
use Rattle.param_tree.specs.declared.Var.{Var}
use Rattle.param_tree.specs.Rules.{IsTable}
use Rattle.storage_lines.specs.declared.lines.LineWrite.{LineWrite}
use Rattle.storage_lines.specs.declared.lines.TheConstants.{STORAGE_BYTES}
use Rattle.storage_lines.specs.declared.areas.Area.{Area}
use Rattle.storage_lines.specs.declared.areas.Area.TheVariants.{Param}
use Rattle.storage_lines.specs.Areas.{logical_of, place_of}
use Rattle.storage_lines.specs.Lines.{after}
use Rattle.storage_lines.specs.Pieces.{writes_of}
use Rattle.storage_lines.specs.Bytes.{IsBytes}
use Rattle.storage_lines.specs.Laws.{EndsWithLine}
use Rattle.param_records.specs.declared.values.Value.{Value}
use Rattle.param_records.specs.Records.{Record, magic, HasRecords, records_of, end_of, value_in, place_from}
use Rattle.param_records.specs.Values.{value_from, value_of_number, params_of}
use Rattle.param_records.specs.Patterns.{IsNumberOf, IsInRangeOf, number_of_whole}
use Rattle.param_records.specs.Changes.{part_size, part_bytes, overwritten, fresh, set_pieces, IsFull, formatting, total_zero}

-- the records of the storage
abbrev pub records_in_storage : List ℕ → List Record
records_in_storage bytes = records_of (logical_of Param bytes)

-- the parameter storage begins with the magic
abbrev pub HasMagic : List ℕ → Type 0
HasMagic bytes = take 4 (logical_of Param bytes) ≡ magic

-- the logical place of the value of the row's record
abbrev pub place_of_row : List ℕ → Var → Option ℕ
place_of_row bytes row = place_from 4 row.key row.element row.kind (records_in_storage bytes)

-- the row's bytes keep this number
abbrev pub IsKept : Kind → ℕ → Type 0
IsKept kind number = (number < 2 ^ 32)
    × (value_from kind 0 (part_bytes kind number) ≡ value_of_number kind number)

-- The row's value while it is rewritten: the first c bytes of the part are new.
abbrev pub torn_value : Var → ℕ → ℕ → List ℕ → Value
torn_value row number c value =
    value_from row.kind row.part
    (overwritten (4 * row.part) (take c (part_bytes row.kind number)) value)

-- no record is elsewhere, and neither is the end
pub record MovesNone (old now : List ℕ) : Type 0 where
  pub places : (key element : ℕ) (kind : Kind)
      → place_from 4 key element kind (records_in_storage now)
      ≡ place_from 4 key element kind (records_in_storage old)
  pub end : end_of (logical_of Param now) ≡ end_of (logical_of Param old)

-- each other area is as it was
abbrev pub KeepsOtherAreas : List ℕ → List ℕ → Type 0
KeepsOtherAreas old now = (area : Area) → area ≢ Param → logical_of area now ≡ logical_of area old

-- the row has no new record, and its old value
abbrev pub IsAbsent : Var → List ℕ → List ℕ → Type 0
IsAbsent row old now =
    (records_in_storage now ≡ records_in_storage old) × (params_of now row ≡ params_of old row)

-- the row's new record stands after the old ones, and the row has its new value
abbrev pub IsAppended : List Var → Var → ℕ → List ℕ → List ℕ → Type 0
IsAppended rows row number old now =
    (records_in_storage now ≡ records_in_storage old ++ fresh rows row number ∷ [])
    × (params_of now row ≡ value_of_number row.kind number)

-- the part of the row's value has new bytes up to the end of a line, and old ones after it
abbrev pub IsTorn : Var → ℕ → ℕ → List ℕ → List ℕ → Type 0
IsTorn row number at value now = (c : ℕ) × (c ≤ part_size row.kind)
    × EndsWithLine Param (at + 4 * row.part) (part_size row.kind) c
    × (params_of now row ≡ torn_value row number c value)

-- the part of the row's value lies in one line
abbrev pub IsInOneLine : Var → ℕ → Type 0
IsInOneLine row at = place_of Param (at + 4 * row.part) / 8
    ≡ place_of Param (at + 4 * row.part + part_size row.kind - 1) / 8

-- After a prefix of the writes that set a row: every other row has its old value. A new record is
-- absent or whole. A value that is rewritten is new up to the end of a line and old after it, and
-- so old or new where it lies in one line; no record moves. No other area changes.
pub record ReadsBetween (rows : List Var) (var : ℕ) (row : Var) (number : ℕ) (old now : List ℕ)
    : Type 0 where
  pub front : take 4 (logical_of Param now) ≡ take 4 (logical_of Param old)
  pub others : (i : ℕ) (other : Var) → i ≢ var → slice_get rows i ≡ Some other
      → params_of now other ≡ params_of old other
  pub appended : place_of_row old row ≡ None
      → IsAbsent row old now ⊎ IsAppended rows row number old now
  pub rewritten : (at : ℕ) (value : List ℕ) → place_of_row old row ≡ Some at
      → value_in row.key row.element row.kind (records_in_storage old) ≡ Some value
      → IsTorn row number at value now
  pub in_one_line : (at : ℕ) → place_of_row old row ≡ Some at → IsInOneLine row at
      → (params_of now row ≡ params_of old row)
      ⊎ (params_of now row ≡ value_of_number row.kind number)
  pub moves_none : (at : ℕ) → place_of_row old row ≡ Some at → MovesNone old now

-- Some writes set a row: what holds after each prefix of them, and after all where the storage has
-- the magic.
pub record SetsRow (rows : List Var) (var : ℕ) (row : Var) (number : ℕ) (old : List ℕ)
    (writes : List LineWrite) : Type 0 where
  pub each : (j : ℕ) → j ≤ length writes
      → ReadsBetween rows var row number old (after old (take j writes))
  pub whole : HasMagic old → params_of (after old writes) row ≡ value_of_number row.kind number
  pub new_record : HasMagic old → place_of_row old row ≡ None → number ≢ row.default
      → records_in_storage (after old writes) ≡ records_in_storage old ++ fresh rows row number ∷ []
  pub areas : (j : ℕ) → j ≤ length writes → KeepsOtherAreas old (after old (take j writes))

-- The lines after those of a batch set the row at an index to a number that it keeps.
abbrev pub SetsWell : List Var → ℕ → ℕ → List ℕ → List LineWrite → List LineWrite → Type 0
SetsWell rows var number before old new = IsBytes (logical_of Param before)
    → IfSome (slice_get rows var)
    (λ row. IsKept row.kind number → SetsRow rows var row number before (drop (length old) new))

-- The writes of the pieces that set a row set it.
abbrev pub SetsInSteps : Type 0
SetsInSteps = (bytes : List ℕ) (rows : List Var) (var : ℕ) (row : Var) (number : ℕ)
    → length bytes ≡ STORAGE_BYTES → IsBytes (logical_of Param bytes) → IsTable rows
    → slice_get rows var ≡ Some row → IsKept row.kind number
    → ¬ IsFull (records_in_storage bytes) row number
    → SetsRow rows var row number bytes
    (writes_of bytes (set_pieces rows (records_in_storage bytes) row number))

-- Some writes format the storage: after all of them it has MIS_TOTAL's record alone, after fewer it
-- is as unformatted as before. No other area changes.
pub record Formats (old : List ℕ) (writes : List LineWrite) : Type 0 where
  pub whole : HasRecords (logical_of Param (after old writes)) (total_zero ∷ []) 10
  pub unformatted : ¬ HasMagic old
      → (j : ℕ) → j < length writes → ¬ HasMagic (after old (take j writes))
  pub areas : (j : ℕ) → j ≤ length writes → KeepsOtherAreas old (after old (take j writes))

-- The writes of the pieces that format the storage format it.
abbrev pub FormatsInSteps : Type 0
FormatsInSteps = (bytes : List ℕ) → length bytes ≡ STORAGE_BYTES
    → Formats bytes (writes_of bytes formatting)

-- A row's bytes keep what a pattern is for its kind, and a whole number in its range.
pub record NumbersKept : Type 0 where
  pub pattern : (kind : Kind) (bits number : ℕ) → IsNumberOf kind bits number → IsKept kind number
  pub whole : (kind : Kind) (number : ℤ) → IsInRangeOf kind number
      → IsKept kind (number_of_whole number)

-- The records of bytes: where they begin with the magic, the one list that they spell up to the
-- first end; elsewhere none.
pub record RecordsRead : Type 0 where
  pub has : (bytes : List ℕ) → IsBytes bytes → take 4 bytes ≡ magic
      → HasRecords bytes (records_of bytes) (end_of bytes)
  pub only : (bytes : List ℕ) (records : List Record) (at : ℕ) → HasRecords bytes records at
      → (take 4 bytes ≡ magic) × (records_of bytes ≡ records) × (end_of bytes ≡ at)
  pub none : (bytes : List ℕ) → take 4 bytes ≢ magic → (records_of bytes ≡ []) × (end_of bytes ≡ 4)
