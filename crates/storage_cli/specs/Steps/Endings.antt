-- What the answers of all commands have in common.
use Rattle.std.specs.Prelude.{◌≡◌, ℕ}
use Rattle.flash_traits.specs.declared.board.Board as board
use Rattle.flash_traits.specs.declared.stream.Sink as sink
use Rattle.flash_traits.specs.Causes.{Rose}
use Rattle.storage_cli.specs.declared.status.TheConstants.{OUTPUT_FAILED}
use Rattle.storage_cli.specs.Statuses.{TellsFaults, ToldBoard, ToldOutput, PrintsStatus, Prints}

-- A status that tells a fault comes only where the count of its kind rose, no count changes that it
-- doesn't tell, and the line of each status is printed.
pub record Ends {B K : Type 0} (b : board.Ghosts B) (k : sink.Ghosts K) (old new : B)
    (before now : K) (status : ℕ) : Type 0 where
  pub faults : TellsFaults status (b.faults old) (b.faults new)
  pub output : status ≡ OUTPUT_FAILED → Rose (k.faults before) (k.faults now)
  pub told : ToldBoard status (b.faults old) (b.faults new)
  pub printed : ToldOutput status (k.faults before) (k.faults now)
  pub lines : PrintsStatus status (Prints k before now)
