use Rattle.std.proofs.Common.{◌≡◌, sym, subst}
use Rattle.flash_traits.specs.Words.{Words, halfwords_in}
use Rattle.flash_traits.specs.declared.board.Region.{Region}
use Rattle.flash_traits.specs.declared.board.Mark.{Mark}
use Rattle.std.specs.Prelude.{IsTrue}
use Rattle.sector_log.specs.declared.heads.Marks.{Marks}
use Rattle.sector_log.specs.Heads.{may_stand}
use Rattle.sector_log.specs.Sector.{HasHead, BadHead}
use Rattle.guard_row.specs.Home.{second_of}
use Rattle.sector_image.specs.FirstBad.{At, AreHeads}
use Rattle.sector_image.specs.Fits.{other_mark_of}
use Rattle.sector_image.proofs.SurveyLemmas.{refuses_still, refuses_then, bad_home_head, bad_other_head}
use Rattle.sector_image.proofs.surveying.heads_of.Goals as goal

pub returns-in_err-home-clause-calls : goal.returns-in_err-home-clause-calls
returns-in_err-home-clause-calls g c = refuses_still g.B.Board g.met.B.Board.reads c.from_residual.result c.in_err-home.field-0.0 c.from_residual.ensures.1
    (λ place told bad. bad_home_head (g.B.Board.words c.args.board.now) c.args.guard c.first_sector.result place c.first_sector.ensures (c.requires.row (c.head_at.ensures.calls.reads.changes.told told)) c.requires.even bad)
    c.in_err-home.ensures.calls

pub returns-in_err-other-clause-calls : goal.returns-in_err-other-clause-calls
returns-in_err-other-clause-calls g c = refuses_then g.B.Board g.met.B.Board.reads c.from_residual-in_err-other.result c.in_err-other.field-0.0 c.from_residual-in_err-other.ensures.1 c.head_at.ensures.calls.reads c.in_ok-home.ensures.calls.counts
    (λ place told bad.
    let W = g.B.Board.words c.args.board.now in
    let told_mid = c.head_at-2.ensures.calls.reads.changes.told told in
    let same : g.B.Board.words c.head_at.new.board ≡ W = c.head_at.ensures.calls.reads.changes.content told_mid in
    bad_other_head W c.args.guard c.in_ok-home.home c.second_sector.result place c.second_sector.ensures (c.requires.row (c.head_at.ensures.calls.reads.changes.told told_mid)) c.requires.even c.in_ok-home.ensures.may
    (subst (λ (q : Region). HasHead (halfwords_in W q) c.in_ok-home.home) c.first_sector.ensures (c.in_ok-home.ensures.head told_mid))
    (subst (λ (m : Marks). At c.second_sector.result (BadHead (may_stand m) (halfwords_in W c.second_sector.result)) place) c.marks_beside.ensures
    (subst (λ (w : Words). At c.second_sector.result (BadHead (may_stand c.marks_beside.result) (halfwords_in w c.second_sector.result)) place) same bad)))
    c.in_err-other.ensures.calls

pub returns-clause-heads : goal.returns-clause-heads
returns-clause-heads g c = λ told.
    let W = g.B.Board.words c.args.board.now in
    let told_mid = c.head_at-2.ensures.calls.reads.changes.told told in
    let same : g.B.Board.words c.head_at.new.board ≡ W = c.head_at.ensures.calls.reads.changes.content told_mid in
    let heads : AreHeads W c.args.guard c.in_ok-home.home c.in_ok-other.other = record {
      guard = c.requires.row (c.head_at.ensures.calls.reads.changes.told told_mid);
      even = c.requires.even;
      home_may = c.in_ok-home.ensures.may;
      other_may = subst (λ (m : Marks). IsTrue (may_stand m c.in_ok-other.other)) c.marks_beside.ensures c.in_ok-other.ensures.may;
      first = subst (λ (q : Region). HasHead (halfwords_in W q) c.in_ok-home.home) c.first_sector.ensures (c.in_ok-home.ensures.head told_mid);
      second = subst (λ (w : Words). HasHead (halfwords_in w (second_of c.args.guard)) c.in_ok-other.other) same
          (subst (λ (q : Region). HasHead (halfwords_in (g.B.Board.words c.head_at.new.board) q) c.in_ok-other.other) c.second_sector.ensures (c.in_ok-other.ensures.head told));
    } in
    subst (λ (m : Mark). AreHeads W c.args.guard m (other_mark_of c.shape_of.result)) (sym c.shape_of.ensures.home)
    (subst (λ (n : Mark). AreHeads W c.args.guard c.in_ok-home.home n) (sym c.shape_of.ensures.other) heads)
