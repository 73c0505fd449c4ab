use Rattle.std.proofs.Common.{refl}
use Rattle.std.proofs.lemmas.Result.{err_from_is_err_and}
use Rattle.flash_traits.specs.Calls.{OnlyReads}
use Rattle.sector_image.specs.FirstBad.{GuardRow}
use Rattle.sector_image.proofs.SurveyLemmas.{on_row, on_row_fault, surveys_after}
use Rattle.sector_image.proofs.surveying.survey.Goals as goal

pub returns-in_err-guard-clause-foreign : goal.returns-in_err-guard-clause-foreign
returns-in_err-guard-clause-foreign g c =
    let p = err_from_is_err_and c.from_residual.result c.from_residual.ensures.1 in
    rw (p.1, p.2) (on_row c.in_err-guard.field-0.0 _ _ (λ place word bad told. GuardRow (refl, bad told)) c.in_err-guard.ensures.word)

pub returns-in_err-guard-clause-fault : goal.returns-in_err-guard-clause-fault
returns-in_err-guard-clause-fault g c =
    let p = err_from_is_err_and c.from_residual.result c.from_residual.ensures.1 in
    rw (p.1, p.2) (on_row_fault c.in_err-guard.field-0.0 _ c.in_err-guard.ensures.fault)

pub returns-clause-foreign : goal.returns-clause-foreign
returns-clause-foreign g c =
    let counted : OnlyReads g.B.Board c.args.board.now c.count.new.board =
    record { changes = c.count.ensures.changes; keeps_told = c.count.ensures.keeps_told; moment = c.count.ensures.moment } in
    (surveys_after g.B.Board g.met.B.Board.reads c.survey_sectors-survey.result counted c.in_ok-guard.ensures.counts c.survey_sectors-survey.ensures.calls).foreign
