-- The places that an index keeps.
use Rattle.std.specs.Prelude.{ℕ, ◌≡◌, List, Option, Some, slice_get}
use Rattle.param_tree.specs.declared.Var.{Var}
use Rattle.storage_lines.specs.declared.areas.Area.TheVariants.{Param}
use Rattle.storage_lines.specs.Areas.{logical_of}
use Rattle.param_records.specs.Records.{end_of}
use Rattle.param_records.specs.Steps.{place_of_row}

-- What is kept: for each row the logical place of the value of its record, None where it has no
-- record, and the place of the first end.
pub record Places : Type 0 where
  pub of_rows : List (Option ℕ)
  pub end : ℕ

-- The index is of these rows and bytes: the place that it keeps for each row is that of the value
-- of the first record that matches, and its end is the first end.
pub record IsIndexOf (rows : List Var) (bytes : List ℕ) (index : Places) : Type 0 where
  pub places : (i : ℕ) (row : Var) → slice_get rows i ≡ Some row
      → slice_get index.of_rows i ≡ Some (place_of_row bytes row)
  pub end : index.end ≡ end_of (logical_of Param bytes)
