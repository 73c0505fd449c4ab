-- What the core keeps.
use Rattle.std.specs.Prelude.{List, ℕ}
use Rattle.param_tree.specs.Rows.{vehicle_rows}
use Rattle.param_index.specs.Places.{Places, IsIndexOf}
use Rattle.vehicle_core.specs.Vehicle.{Vehicle}

-- the vehicle, and the places of the parameter records
pub record CoreState : Type 0 where
  pub vehicle : Vehicle
  pub index : Places

-- the places are those of these storage bytes
abbrev pub IsIndexed : List ℕ → CoreState → Type 0
IsIndexed bytes core = IsIndexOf vehicle_rows bytes core.index
