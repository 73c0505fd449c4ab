-- What the parameter protocol keeps.
use Rattle.std.specs.Prelude.{ℕ, List}
use Rattle.param_tree.specs.Rows.{vehicle_rows}
use Rattle.param_index.specs.Places.{Places, IsIndexOf}

-- the next row of each station's list, 240 where none is being sent, and the places of the records
pub record State : Type 0 where
  pub next_rows : List ℕ
  pub index : Places

-- the places are those of these storage bytes
abbrev pub IsIndexed : List ℕ → State → Type 0
IsIndexed bytes state = IsIndexOf vehicle_rows bytes state.index
