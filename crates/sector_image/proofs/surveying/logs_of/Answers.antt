use Rattle.std.proofs.Common.{◌≡◌, subst}
use Rattle.flash_traits.specs.Words.{Words, halfwords_in}
use Rattle.flash_traits.specs.declared.board.Region.{Region}
use Rattle.sector_log.specs.Sector.{IsSector, BadLog}
use Rattle.sector_log.specs.Log.{IsLogOf}
use Rattle.guard_row.specs.Home.{second_of}
use Rattle.sector_image.specs.FirstBad.{At}
use Rattle.sector_image.proofs.SurveyLemmas.{refuses_still, refuses_then, bad_home_log, bad_other_log}
use Rattle.sector_image.proofs.surveying.logs_of.Goals as goal

pub returns-in_err-home-clause-calls : goal.returns-in_err-home-clause-calls
returns-in_err-home-clause-calls g c = refuses_still g.B.Board g.met.B.Board.reads c.from_residual.result c.in_err-home.field-0.0 c.from_residual.ensures.1
    (λ place told bad. bad_home_log (g.B.Board.words c.args.board.now) c.args.guard c.args.first c.args.second c.first_sector.result place c.first_sector.ensures (c.requires.heads (c.bytes_at.ensures.calls.reads.changes.told told)) bad)
    c.in_err-home.ensures.calls

pub returns-in_err-other-clause-calls : goal.returns-in_err-other-clause-calls
returns-in_err-other-clause-calls g c = refuses_then g.B.Board g.met.B.Board.reads c.from_residual-in_err-other.result c.in_err-other.field-0.0 c.from_residual-in_err-other.ensures.1 c.bytes_at.ensures.calls.reads c.in_ok-home.ensures.calls.counts
    (λ place told bad.
    let W = g.B.Board.words c.args.board.now in
    let told_mid = c.bytes_at-2.ensures.calls.reads.changes.told told in
    let same : g.B.Board.words c.bytes_at.new.board ≡ W = c.bytes_at.ensures.calls.reads.changes.content told_mid in
    let home = c.in_ok-home.ensures.log told_mid in
    bad_other_log W c.args.guard c.args.first c.args.second home.0 c.second_sector.result place c.second_sector.ensures (c.requires.heads (c.bytes_at.ensures.calls.reads.changes.told told_mid))
    (subst (λ (q : Region). IsSector (halfwords_in W q) c.args.first home.0) c.first_sector.ensures home.1)
    (subst (λ (w : Words). At c.second_sector.result (BadLog (halfwords_in w c.second_sector.result)) place) same bad))
    c.in_err-other.ensures.calls

pub returns-clause-logs : goal.returns-clause-logs
returns-clause-logs g c = λ told.
    let W = g.B.Board.words c.args.board.now in
    let told_mid = c.bytes_at-2.ensures.calls.reads.changes.told told in
    let same : g.B.Board.words c.bytes_at.new.board ≡ W = c.bytes_at.ensures.calls.reads.changes.content told_mid in
    let home = c.in_ok-home.ensures.log told_mid in
    let other = c.in_ok-other.ensures.log told in
    record {
      home_entries = home.0;
      other_entries = other.0;
      heads = c.requires.heads (c.bytes_at.ensures.calls.reads.changes.told told_mid);
      first = subst (λ (q : Region). IsSector (halfwords_in W q) c.args.first home.0) c.first_sector.ensures home.1;
      second = subst (λ (w : Words). IsSector (halfwords_in w (second_of c.args.guard)) c.args.second other.0) same
          (subst (λ (q : Region). IsSector (halfwords_in (g.B.Board.words c.bytes_at.new.board) q) c.args.second other.0) c.second_sector.ensures other.1);
      home_log = subst (λ (q : Region). IsLogOf c.in_ok-home.home q c.args.first home.0) c.first_sector.ensures home.2;
      other_log = subst (λ (q : Region). IsLogOf c.in_ok-other.other q c.args.second other.0) c.second_sector.ensures other.2;
      home_value = home.3;
      other_value = other.3;
    }
