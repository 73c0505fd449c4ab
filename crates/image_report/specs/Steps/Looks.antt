-- What the looks at a board have in common.
use Rattle.std.specs.Prelude.{Result}
use Rattle.flash_traits.specs.declared.board.Board.{Ghosts}
use Rattle.flash_traits.specs.declared.board.Fault.{Fault}
use Rattle.flash_traits.specs.declared.board.Fault.TheVariants.{Read}
use Rattle.flash_traits.specs.Causes.{FailsBy}
use Rattle.flash_traits.specs.Calls.{OnlyReads}

-- The call only reads, and it fails only where a read failed, which is counted. No other count
-- changes.
pub record Looks {B T : Type 0} (g : Ghosts B) (old new : B) (result : Result T Fault)
    : Type 0 where
  pub reads : OnlyReads g old new
  pub fails : FailsBy Read (g.faults old) (g.faults new) result
