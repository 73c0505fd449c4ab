-- When the guard row is used up: only after lines enough.
use Rattle.std.specs.Prelude.{ℕ, List, ◌++◌}
use Rattle.flash_traits.specs.declared.board.Board.{Ghosts}
use Rattle.flash_traits.specs.Words.{Words}
use Rattle.flash_traits.specs.Losses.{Received, SentFrame}
use Rattle.guard_row.specs.Row.{IsGuardRow}
use Rattle.sector_image.specs.Stands.{Stands}
use Rattle.vehicle_runs.specs.Guard.{MayWear}
use Rattle.vehicle_node.specs.Standing.{Node, StaysWithin}

-- Events were received, the last of which may not be finished, and where the words are told, the
-- run that the node stood for issues lines enough with them to wear the guard row.
pub record WearsSince {B : Type 0} (g : Ghosts B) (old : Node) (board after_board : B)
    : Type 0 where
  pub events : List Received
  pub lists : (e : List Received) (f : List SentFrame) → g.has_lists board e f
      → (sent : List SentFrame) × g.has_lists after_board (e ++ events) (f ++ sent)
  pub lines : g.tells after_board
      → (count : ℕ) (b : List ℕ) (e : List Received) (f : List SentFrame) (m : ℕ)
      → StaysWithin count old b e f m → MayWear old.budget count b (e ++ events)

-- The same from these words on, where `begun` says that the lists were empty there.
pub record WearsFrom {B : Type 0} (g : Ghosts B) (budget : ℕ) (before : Words) (begun : Type 0)
    (board : B) : Type 0 where
  pub events : List Received
  pub lists : begun → (frames : List SentFrame) × g.has_lists board events frames
  pub lines : g.tells board → (count : ℕ) (b : List ℕ) → IsGuardRow before.guard count
      → Stands before b → MayWear budget count b events
