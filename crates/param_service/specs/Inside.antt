-- The state inside.
use Rattle.std.specs.Prelude.{◌≡◌, ◌≤◌, ℕ, List, All, length}
use Rattle.param_tree.specs.declared.Var.{Var}
use Rattle.param_tree.specs.Rows.{vehicle_rows}
use Rattle.param_service.specs.Requests.{parameters}

-- the vehicle's table, and for each of the eight stations a row or the end
pub record IsState (rows : List Var) (next_rows : List ℕ) : Type 0 where
  pub table : rows ≡ vehicle_rows
  pub stations : length next_rows ≡ 8
  pub within : All (λ next. next ≤ parameters) next_rows
