use Rattle.std.proofs.Common.{◌≡◌, ◌∙◌, ap, sym, subst, Result, true, ℕ}
use Rattle.std.specs.Prelude.{IfOk, IfErr, is_err}
use Rattle.flash_traits.specs.declared.board.Fault.{Fault}
use Rattle.flash_traits.specs.declared.board.Fault.TheVariants.{Attach}
use Rattle.flash_traits.specs.Causes.{counts_after}
use Rattle.flash_traits.specs.Words.{Words}
use Rattle.sector_image.specs.FirstBad.{FirstBad}
use Rattle.image_report.specs.Refusals.{fault_in}
use Rattle.storage_cli.specs.declared.stop.Stop.{Stop}
use Rattle.storage_cli.specs.declared.printing.Printed.{Printed}
use Rattle.storage_cli.specs.Steps.Stops.{IsFirst, StopsByCause}
use Rattle.storage_cli.specs.Steps.Printing.{sink_count_at}
use Rattle.storage_cli.proofs.Causes.{never_both}
use Rattle.storage_cli.proofs.Formatting.{no_cause, on_ok_part}
use Rattle.storage_cli.proofs.TextEndings.{ending_cause, ending_output, first_ending, stops_ending}
use Rattle.storage_cli.proofs.printing.print_text.Goals as goal

pub returns-in-Ok-clause-foreign_where : goal.returns-in-Ok-clause-foreign_where
returns-in-Ok-clause-foreign_where g c = λ is told place bad.
    let ok = sym c.is_err.ensures.value ∙ c.if-is_err.false in
    let same = on_ok_part c.attach.result _ ok c.attach.ensures.words (c.in-Ok.ensures.told told) in
    absurd (never_both (g.B.Board.words c.attach.new.self) place (c.in-Ok.ensures.stands is told) (subst (λ (w : Words). FirstBad w place) (sym same) bad))

pub returns-in-Err-clause-foreign : goal.returns-in-Err-clause-foreign
returns-in-Err-clause-foreign g c = λ told.
    let ok = sym c.is_err.ensures.value ∙ c.if-is_err.false in
    let same = on_ok_part c.attach.result _ ok c.attach.ensures.words (c.in-Err.ensures.told told) in
    subst (λ (w : Words). IfErr c.ending_of.result (IsFirst w)) same
    (subst (λ (r : Result Printed Stop). IfErr r (IsFirst (g.B.Board.words c.attach.new.self))) (sym c.ending_of.ensures)
    (first_ending c.in-Err.error (g.B.Board.tells c.write_text.new.board) (g.B.Board.words c.attach.new.self) c.in-Err.ensures.first told))

pub returns-in-Err-clause-foreign_where : goal.returns-in-Err-clause-foreign_where
returns-in-Err-clause-foreign_where g c = λ is told place bad.
    let ok = sym c.is_err.ensures.value ∙ c.if-is_err.false in
    let same = on_ok_part c.attach.result _ ok c.attach.ensures.words (c.in-Err.ensures.told told) in
    subst (λ (r : Result Printed Stop). is_err r ≡ true) (sym c.ending_of.ensures)
    (stops_ending c.in-Err.error (g.B.Board.tells c.write_text.new.board) (g.B.Board.words c.attach.new.self) (c.in-Err.ensures.stands is) told place (subst (λ (w : Words). FirstBad w place) (sym same) bad))

pub returns-in-Ok-clause-cause : goal.returns-in-Ok-clause-cause
returns-in-Ok-clause-cause g c =
    let ok = sym c.is_err.ensures.value ∙ c.if-is_err.false in
    let before = g.B.Board.faults c.args.board.now in
    let same : g.B.Board.faults c.attach.new.self ≡ before = no_cause c.attach.result Attach before (g.B.Board.faults c.attach.new.self) ok c.attach.ensures.cause in
    c.in-Ok.ensures.counts ∙ same

pub returns-in-Err-clause-cause : goal.returns-in-Err-clause-cause
returns-in-Err-clause-cause g c =
    let ok = sym c.is_err.ensures.value ∙ c.if-is_err.false in
    let before = g.B.Board.faults c.args.board.now in
    let same : g.B.Board.faults c.attach.new.self ≡ before = no_cause c.attach.result Attach before (g.B.Board.faults c.attach.new.self) ok c.attach.ensures.cause in
    let now = g.B.Board.faults c.write_text.new.board in
    subst (λ (r : Result Printed Stop). StopsByCause before now r) (sym c.ending_of.ensures)
    (ending_cause c.in-Err.error before now (c.in-Err.ensures.counts ∙ ap (counts_after (fault_in c.in-Err.error)) same))

pub returns-in-Err-clause-output : goal.returns-in-Err-clause-output
returns-in-Err-clause-output g c =
    let before = g.K.Sink.faults c.args.out.now in
    let now = g.K.Sink.faults c.write_text.new.out in
    subst (λ (r : Result Printed Stop). IfOk r (λ (p : Printed). now ≡ sink_count_at p before)) (sym c.ending_of.ensures) (ending_output c.in-Err.error before now c.in-Err.ensures.output)
