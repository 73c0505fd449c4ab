use Rattle.std.proofs.Common.{subst, arith}
use Rattle.std.specs.Prelude.{IfErr}
use Rattle.sector_image.specs.declared.kept.Kept.{Kept}
use Rattle.sector_image.specs.Fits.{free_of}
use Rattle.sector_image.proofs.Keeping.{then_keeps, more_keeps}
use Rattle.block_store.specs.Refusals.{OnWorn, IsWornWith}
use Rattle.block_store.proofs.moves.turn.Goals as goal

pub returns-clause-worn_copied : goal.returns-clause-worn_copied
returns-clause-worn_copied g c =
    subst (λ (k : Kept). IfErr c.switch.result (λ e. OnWorn e (λ count. IsWornWith g.B.Board c.switch.new.board c.switch.new.images (free_of k)))) c.in_ok-spilled.ensures.kept c.switch.ensures.worn_copied

pub returns-clause-changes : goal.returns-clause-changes
returns-clause-changes g c = then_keeps g.B.Board g.met.B.Board.reads 0 2 c.in_ok-spilled.ensures.changes c.switch.ensures.changes

pub returns-in_err-spilled-clause-changes : goal.returns-in_err-spilled-clause-changes
returns-in_err-spilled-clause-changes g c = more_keeps g.B.Board g.met.B.Board.reads 0 2 (omega (arith)) c.in_err-spilled.ensures.changes
