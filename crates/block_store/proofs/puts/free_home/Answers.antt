use Rattle.std.proofs.Common.{sym, subst}
use Rattle.std.specs.Prelude.{IfErr}
use Rattle.block_store.specs.declared.State.{State}
use Rattle.block_store.specs.Store.{home_free_in}
use Rattle.block_store.specs.Steps.Inside.{state_of}
use Rattle.block_store.specs.Refusals.{OnWorn, IsWornWith}
use Rattle.block_store.proofs.puts.free_home.Goals as goal

pub returns-else-free-size-clause-worn_copied : goal.returns-else-free-size-clause-worn_copied
returns-else-free-size-clause-worn_copied g c =
    subst (λ (s : State). IfErr c.turn.result (λ e. OnWorn e (λ count. IsWornWith g.B.Board c.turn.new.board c.turn.new.images (home_free_in (state_of s))))) (sym c.in-Alone.is) c.turn.ensures.worn_copied

pub returns-in-Spilled-clause-worn_copied : goal.returns-in-Spilled-clause-worn_copied
returns-in-Spilled-clause-worn_copied g c =
    subst (λ (s : State). IfErr c.switch.result (λ e. OnWorn e (λ count. IsWornWith g.B.Board c.switch.new.board c.switch.new.images (home_free_in (state_of s))))) (sym c.in-Spilled.is) c.switch.ensures.worn_copied
