use Rattle.std.proofs.Common.{◌≡◌, ◌∙◌, sym, subst, ℕ}
use Rattle.flash_traits.specs.declared.board.Fault.{Fault}
use Rattle.flash_traits.specs.declared.board.Fault.TheVariants.{Attach}
use Rattle.flash_traits.specs.Words.{Words}
use Rattle.sector_image.specs.FirstBad.{FirstBad}
use Rattle.storage_cli.specs.Steps.Stops.{StopsByCause}
use Rattle.storage_cli.proofs.Formatting.{no_cause, on_ok_part}
use Rattle.storage_cli.proofs.replaying.replay_on.Goals as goal

pub returns-clause-foreign_where : goal.returns-clause-foreign_where
returns-clause-foreign_where g c = λ told place bad.
    let ok = sym c.is_err.ensures.value ∙ c.if-is_err.false in
    let same = on_ok_part c.attach.result _ ok c.attach.ensures.words (c.replay_image.ensures.reads.changes.told told) in
    c.replay_image.ensures.foreign_where told place (subst (λ (w : Words). FirstBad w place) (sym same) bad)

pub returns-clause-cause : goal.returns-clause-cause
returns-clause-cause g c =
    let ok = sym c.is_err.ensures.value ∙ c.if-is_err.false in
    let before = g.B.Board.faults c.args.board.now in
    let same : g.B.Board.faults c.attach.new.self ≡ before = no_cause c.attach.result Attach before (g.B.Board.faults c.attach.new.self) ok c.attach.ensures.cause in
    subst (λ (f : Fault → ℕ). StopsByCause f (g.B.Board.faults c.replay_image.new.board) c.replay_image.result) same c.replay_image.ensures.cause
