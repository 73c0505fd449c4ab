-- When an event that was received wears the guard row.
use Rattle.std.specs.Prelude.{ℕ, List, [], ◌∷◌, ◌++◌}
use Rattle.flash_traits.specs.declared.board.Board.{Ghosts}
use Rattle.flash_traits.specs.Losses.{Received, SentFrame}
use Rattle.vehicle_runs.specs.Guard.{MayWear}
use Rattle.vehicle_node.specs.Standing.{Node, StaysWithin}

-- An event was received, and where the words are told, the run that the node stood for issues lines
-- enough with it to wear the guard row.
pub record WearsIn {B : Type 0} (g : Ghosts B) (old : Node) (board after_board : B) : Type 0 where
  pub event : Received
  pub lists : (e : List Received) (f : List SentFrame) → g.has_lists board e f
      → (sent : List SentFrame) × g.has_lists after_board (e ++ event ∷ []) (f ++ sent)
  pub lines : g.tells after_board
      → (count : ℕ) (b : List ℕ) (events : List Received) (sent : List SentFrame) (m : ℕ)
      → StaysWithin count old b events sent m
      → MayWear old.budget count b (events ++ event ∷ [])
