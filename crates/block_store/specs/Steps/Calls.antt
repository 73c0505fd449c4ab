-- What every private call of the store says, whatever else it does.
use Rattle.std.specs.Prelude.{◌≡◌, Result, IfErr}
use Rattle.flash_traits.specs.declared.board.Board.{Ghosts}
use Rattle.flash_traits.specs.declared.board.Fault.{Fault}
use Rattle.flash_traits.specs.declared.board.Fault.TheVariants.{Flash}
use Rattle.flash_traits.specs.Calls.{ErasesNothing}
use Rattle.flash_traits.specs.Causes.{HasCause, counts_after, told_by}
use Rattle.block_store.specs.declared.PutError.{PutError}
use Rattle.block_store.specs.Refusals.{OnFault, OnNoRoom, put_fault_in}

-- Nothing is erased, and the call fails only where a program failed, which is counted.
pub record OnlyPrograms {B T : Type 0} (g : Ghosts B) (old : B) (result : Result T Fault) (new : B)
    : Type 0 where
  pub erases : ErasesNothing g old new
  pub cause : HasCause Flash (g.faults old) (g.faults new) result
  pub kind : IfErr result (λ kind. kind ≡ Flash)

-- The call fails only where a program or an erase failed, which is counted, no other count of faults
-- changes, and room is never wanting.
pub record FindsRoom {B T : Type 0} (g : Ghosts B) (old : B) (result : Result T PutError) (new : B)
    : Type 0 where
  pub never_full : IfErr result (λ e. OnNoRoom e (λ room. ⊥))
  pub fault : IfErr result (λ e. OnFault e (λ kind. kind ≡ Flash))
  pub counts : g.faults new ≡ counts_after (told_by put_fault_in result) (g.faults old)
