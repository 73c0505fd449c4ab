use Rattle.std.proofs.Common.{◌≡◌, subst, arith}
use Rattle.std.proofs.lemmas.Grind.{common_steps}
use Rattle.flash_traits.specs.Words.{Words, halfwords_in}
use Rattle.flash_traits.specs.declared.board.Region.{Region}
use Rattle.flash_traits.specs.declared.board.Mark.TheVariants.{InUse}
use Rattle.flash_traits.specs.declared.board.Mark.{Mark}
use Rattle.sector_log.specs.Sector.{IsSector, HasHead, BadLog}
use Rattle.sector_image.specs.Stands.{One}
use Rattle.sector_image.specs.FirstBad.{At}
use Rattle.sector_image.proofs.ImageLaws.{only_mark}
use Rattle.sector_image.proofs.SurveyLemmas.{refuses_still, refuses_then, bad_only_head, bad_only_log}
use Rattle.sector_image.proofs.surveying.survey_voided.Goals as goal

pub returns-in_err-head_at-clause-calls : goal.returns-in_err-head_at-clause-calls
returns-in_err-head_at-clause-calls g c = refuses_still g.B.Board g.met.B.Board.reads c.from_residual.result c.in_err-head_at.field-0.0 c.from_residual.ensures.1
    (λ place told bad. bad_only_head (g.B.Board.words c.args.board.now) c.args.guard c.first_sector-region.result place c.first_sector-region.ensures (c.requires.row (c.head_at.ensures.calls.reads.changes.told told)) c.requires.odd bad)
    c.in_err-head_at.ensures.calls

pub returns-in_err-home-clause-calls : goal.returns-in_err-home-clause-calls
returns-in_err-home-clause-calls g c = refuses_then g.B.Board g.met.B.Board.reads c.from_residual-in_err-home.result c.in_err-home.field-0.0 c.from_residual-in_err-home.ensures.1 c.head_at.ensures.calls.reads c.in_ok-head_at.ensures.calls.counts
    (λ place told bad.
    let W = g.B.Board.words c.args.board.now in
    let region = c.first_sector-region.result in
    let told_mid = c.bytes_at.ensures.calls.reads.changes.told told in
    let same : g.B.Board.words c.head_at.new.board ≡ W = c.head_at.ensures.calls.reads.changes.content told_mid in
    let in_use : c.in_ok-head_at.field-0 ≡ InUse = only_mark c.in_ok-head_at.field-0 c.in_ok-head_at.ensures.may in
    bad_only_log W c.args.guard region place c.first_sector-region.ensures (c.requires.row (c.head_at.ensures.calls.reads.changes.told told_mid)) c.requires.odd
    (subst (λ (m : Mark). HasHead (halfwords_in W region) m) in_use (c.in_ok-head_at.ensures.head told_mid))
    (subst (λ (w : Words). At region (BadLog (halfwords_in w region)) place) same bad))
    c.in_err-home.ensures.calls

pub returns-clause-finds : goal.returns-clause-finds
returns-clause-finds g c = record {
  fits = grind (arith, common_steps);
  stands = λ told.
      let W = g.B.Board.words c.args.board.now in
      let region = c.first_sector-region.result in
      let told_mid = c.bytes_at.ensures.calls.reads.changes.told told in
      let same : g.B.Board.words c.head_at.new.board ≡ W = c.head_at.ensures.calls.reads.changes.content told_mid in
      let home = c.in_ok-home.ensures.log told in (
        One c.args.guard home.0,
        record {
          guard = c.requires.row (c.head_at.ensures.calls.reads.changes.told told_mid);
          odd = c.requires.odd;
          first = subst (λ (q : Region). IsSector (halfwords_in W q) InUse home.0) c.first_sector-region.ensures (subst (λ (w : Words). IsSector (halfwords_in w region) InUse home.0) same home.1);
        },
        home.3,
      );
}
