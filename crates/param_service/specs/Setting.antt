-- What setting a row does.
use Rattle.std.specs.Prelude.{◌≡◌, ℕ, List, Option}
use Rattle.param_tree.specs.declared.Var.{Var}
use Rattle.storage_lines.specs.declared.lines.LineWrite.{LineWrite}
use Rattle.storage_lines.specs.Lines.{after}
use Rattle.param_records.specs.declared.values.Value.{Value}
use Rattle.param_records.specs.Values.{params_of}
use Rattle.param_service.specs.Requests.{IsNumberFor}
use Rattle.param_service.specs.Budget.{allowed_writes}
use Rattle.param_service.specs.Service.{set_writes}

-- the row at the index was to be set to a pattern's number, with so many lines where a limit is
-- given: with these writes, after which it has this value
pub record IsSet (bytes : List ℕ) (allowed : Option ℕ) (row : Var) (index bits : ℕ)
    (writes : List LineWrite) (value : Value) : Type 0 where
  pub number : Option ℕ
  pub meant : IsNumberFor row bits number
  pub written : writes ≡ allowed_writes allowed (set_writes bytes index number)
  pub shown : value ≡ params_of (after bytes writes) row
