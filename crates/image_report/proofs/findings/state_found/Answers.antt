use Rattle.std.proofs.Common.{subst}
use Rattle.flash_traits.specs.Words.{Words}
use Rattle.sector_image.specs.Stands.{IsReadAs}
use Rattle.sector_image.specs.FirstBad.{foreign_place}
use Rattle.sector_image.proofs.ImageLaws.{never_both}
use Rattle.image_report.proofs.Found.{state_of}
use Rattle.image_report.proofs.findings.state_found.Goals as goal

pub returns-in-Ok-clause-found : goal.returns-in-Ok-clause-found
returns-in-Ok-clause-found g c = λ told.
    let state = state_of g.B.Board c.survey.new.board c.in-Ok.survey.shape c.in-Ok.survey.kept c.survey.new.images c.in-Ok.ensures.fits told in
    (state.reading, subst (λ (w : Words). IsReadAs w state.reading) (c.survey.ensures.reads.changes.content told) state.reads, state.shape)

pub returns-in-Err-Foreign-clause-found : goal.returns-in-Err-Foreign-clause-found
returns-in-Err-Foreign-clause-found g c = λ told reading reads.
    never_both (g.B.Board.words c.args.board.now) reading (foreign_place c.in-Err-Foreign.field-0-0 c.in-Err-Foreign.field-0-1 c.in-Err-Foreign.field-0-2) reads ((rw c.in-Err-Foreign.field-0-is at c.in-Err-Foreign.ensures.foreign) told)
