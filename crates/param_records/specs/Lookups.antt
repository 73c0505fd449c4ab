-- What the look-up of a record gives.
use Rattle.std.specs.Prelude.{◌≡◌, ℕ, List, Some, None}
use Rattle.param_tree.specs.declared.Kind.{Kind}
use Rattle.param_tree.specs.declared.Var.{Var}
use Rattle.storage_lines.specs.declared.areas.Area.TheVariants.{Param}
use Rattle.storage_lines.specs.Areas.{logical_of}
use Rattle.param_records.specs.declared.records.Lookup.{Lookup}
use Rattle.param_records.specs.declared.records.Lookup.TheVariants.{At, End}
use Rattle.param_records.specs.Records.{records_of, end_of, place_from}

-- the place of the value of the first record that matches; where none does, that of the first end
abbrev pub IsLookup : List ℕ → ℕ → ℕ → Kind → Lookup → Type 0
IsLookup bytes key element kind (At at) = place_from 4 key element kind (records_of bytes) ≡ Some at
IsLookup bytes key element kind (End end) =
    (place_from 4 key element kind (records_of bytes) ≡ None) × (end ≡ end_of bytes)

-- the look-up of the row's record in the storage
abbrev pub IsLookupOf : List ℕ → Var → Lookup → Type 0
IsLookupOf bytes row lookup = IsLookup (logical_of Param bytes) row.key row.element row.kind lookup
