-- What the rows read while a rule's writes are made.
use Rattle.std.specs.Prelude.{◌≡◌, ◌⊎◌, ◌≤◌, ℕ, IsTrue, List, [], ◌∷◌, ◌++◌, length, take}
use Rattle.param_tree.specs.declared.Var.{Var}
use Rattle.param_tree.specs.Rules.{IsTable}
use Rattle.storage_lines.specs.declared.lines.LineWrite.{LineWrite}
use Rattle.storage_lines.specs.declared.lines.TheConstants.{STORAGE_BYTES}
use Rattle.storage_lines.specs.declared.areas.Area.TheVariants.{Param}
use Rattle.storage_lines.specs.Areas.{logical_of}
use Rattle.storage_lines.specs.Bytes.{IsBytes}
use Rattle.storage_lines.specs.Lines.{after}
use Rattle.param_records.specs.Values.{value_from, params_of}
use Rattle.param_records.specs.Steps.{records_in_storage, KeepsOtherAreas}
use Rattle.param_convert.specs.declared.rules.Rule.{Rule}
use Rattle.param_convert.specs.Rules.{is_new_row, HasRows}
use Rattle.param_convert.specs.Conversion.{new_record, Converts, convert_writes}

-- the records of some bytes, and after them the one that the rule makes of a value
abbrev pub HasAdded : Rule → List ℕ → List ℕ → List ℕ → Type 0
HasAdded rule value old now =
    records_in_storage now ≡ records_in_storage old ++ new_record rule value ∷ []

-- After a prefix of the rule's writes: the new record is absent, or whole with the old record's
-- value, and stands after all old ones; its rows have their old values or that one. Every row of
-- another record has its old value, and no other area changes. The parameter storage has bytes, and
-- begins as it did.
pub record AddsOne (rows : List Var) (rule : Rule) (old now : List ℕ) : Type 0 where
  pub front : take 4 (logical_of Param now) ≡ take 4 (logical_of Param old)
  pub low : IsBytes (logical_of Param now)
  pub added : (records_in_storage now ≡ records_in_storage old)
      ⊎ ((value : List ℕ) × Converts rows (records_in_storage old) rule value
      × HasAdded rule value old now)
  pub own : (row : Var) → IsTrue (is_new_row rule row) → (params_of now row ≡ params_of old row)
      ⊎ ((value : List ℕ) × Converts rows (records_in_storage old) rule value
      × (params_of now row ≡ value_from row.kind row.part value))
  pub others : (row : Var) → ¬ IsTrue (is_new_row rule row) → params_of now row ≡ params_of old row
  pub areas : KeepsOtherAreas old now

-- After all of them: the new record is there, and its rows have the old value.
pub record HasConverted (rule : Rule) (value old now : List ℕ) : Type 0 where
  pub added : HasAdded rule value old now
  pub rows : (row : Var) → IsTrue (is_new_row rule row)
      → params_of now row ≡ value_from row.kind row.part value

-- Some writes are a conversion: what holds after each prefix of them, and after all where the rule
-- makes a record.
pub record IsConversion (rows : List Var) (rule : Rule) (old : List ℕ) (writes : List LineWrite)
    : Type 0 where
  pub each : (j : ℕ) → j ≤ length writes → AddsOne rows rule old (after old (take j writes))
  pub whole : (value : List ℕ) → Converts rows (records_in_storage old) rule value
      → HasConverted rule value old (after old writes)

-- The writes of a rule are one.
abbrev pub ConvertsInSteps : Type 0
ConvertsInSteps = (bytes : List ℕ) (rows : List Var) (rule : Rule)
    → length bytes ≡ STORAGE_BYTES → IsBytes (logical_of Param bytes) → IsTable rows
    → HasRows rows rule → IsConversion rows rule bytes (convert_writes rows rule bytes)
