use Rattle.std.proofs.Common.{◌≡◌, ◌∙◌, subst, ℕ}
use Rattle.flash_traits.proofs.Moments.{reads_then}
use Rattle.script_board.specs.Image.{words_of}
use Rattle.storage_cli.specs.Steps.Stops.{stop_of_fault, stop_of_survey, IsFirst}
use Rattle.storage_cli.specs.Steps.Replaying.{IsReadStop}
use Rattle.storage_cli.proofs.Causes.{first_fault, on_stop, caused, cause_later}
use Rattle.storage_cli.proofs.ReplayStops.{survey_first, survey_stop, survey_cause, read_stop, read_cause}
use Rattle.storage_cli.proofs.replaying.read_image.Goals as goal

pub returns-in_err-survey-clause-foreign : goal.returns-in_err-survey-clause-foreign
returns-in_err-survey-clause-foreign g c = λ told.
    let e = c.in_err-survey.field-0.0 in
    let words = g.B.Board.words c.args.board.now in
    on_stop c.from_residual.result (stop_of_survey e) c.from_residual.ensures.1 (IsFirst words) (survey_first e (g.B.Board.tells c.survey.new.board) words c.in_err-survey.ensures.foreign told)

pub returns-in_err-survey-clause-stops : goal.returns-in_err-survey-clause-stops
returns-in_err-survey-clause-stops g c =
    let e = c.in_err-survey.field-0.0 in
    on_stop c.from_residual.result (stop_of_survey e) c.from_residual.ensures.1 IsReadStop (survey_stop e c.in_err-survey.ensures.fault)

pub returns-in_err-survey-clause-cause : goal.returns-in_err-survey-clause-cause
returns-in_err-survey-clause-cause g c =
    let e = c.in_err-survey.field-0.0 in
    let before = g.B.Board.faults c.args.board.now in
    let now = g.B.Board.faults c.survey.new.board in
    caused c.from_residual.result (stop_of_survey e) c.from_residual.ensures.1 before now (survey_cause e before now c.in_err-survey.ensures.counts)

pub returns-in_err-copy_image-clause-foreign : goal.returns-in_err-copy_image-clause-foreign
returns-in_err-copy_image-clause-foreign g c = λ told.
    let e = c.in_err-copy_image.field-0.0 in
    let words = g.B.Board.words c.args.board.now in
    on_stop c.from_residual-in_err-copy_image.result (stop_of_fault e) c.from_residual-in_err-copy_image.ensures.1 (IsFirst words) (first_fault e words)

pub returns-in_err-copy_image-clause-stops : goal.returns-in_err-copy_image-clause-stops
returns-in_err-copy_image-clause-stops g c =
    let e = c.in_err-copy_image.field-0.0 in
    on_stop c.from_residual-in_err-copy_image.result (stop_of_fault e) c.from_residual-in_err-copy_image.ensures.1 IsReadStop (read_stop e c.in_err-copy_image.ensures.fails.kind)

pub returns-in_err-copy_image-clause-cause : goal.returns-in_err-copy_image-clause-cause
returns-in_err-copy_image-clause-cause g c =
    let e = c.in_err-copy_image.field-0.0 in
    let before = g.B.Board.faults c.args.board.now in
    let mid = g.B.Board.faults c.survey.new.board in
    let now = g.B.Board.faults c.copy_image.new.board in
    caused c.from_residual-in_err-copy_image.result (stop_of_fault e) c.from_residual-in_err-copy_image.ensures.1 before now
    (cause_later (stop_of_fault e) before mid now c.in_ok-survey.ensures.counts (read_cause e mid now c.in_err-copy_image.ensures.fails.kind c.in_err-copy_image.ensures.fails.cause))

pub returns-in_err-copy_image-clause-reads : goal.returns-in_err-copy_image-clause-reads
returns-in_err-copy_image-clause-reads g c = reads_then g.B.Board g.met.B.Board.reads c.survey.ensures.reads c.copy_image.ensures.reads

pub returns-clause-reads : goal.returns-clause-reads
returns-clause-reads g c = reads_then g.B.Board g.met.B.Board.reads c.survey.ensures.reads c.copy_image.ensures.reads

pub returns-clause-copied : goal.returns-clause-copied
returns-clause-copied g c = λ told.
    let is = c.in_ok-copy_image.ensures.copied told in
    subst (λ (n : ℕ). words_of n c.copy_image.new.bytes ≡ g.B.Board.words c.args.board.now) c.survey.ensures.reads.changes.geometry
    (is ∙ c.survey.ensures.reads.changes.content (c.copy_image.ensures.reads.changes.told told))
