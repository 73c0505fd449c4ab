use Rattle.std.proofs.Common.{◌≡◌, ℕ, ◌*◌, ◌/◌, Option, Some, length, refl, sym, ◌∙◌, ap, subst, arith}
use Rattle.flash_traits.specs.Words.{Words, halfwords_in}
use Rattle.flash_traits.proofs.Moments.{reads_then}
use Rattle.flash_traits.specs.declared.board.Region.{Region}
use Rattle.flash_traits.specs.declared.board.Mark.TheVariants.{InUse}
use Rattle.sector_log.specs.Sector.{IsSector, BadLog}
use Rattle.sector_log.specs.Appends.{IsLogIn}
use Rattle.sector_image.specs.declared.kept.Kept.{Kept}
use Rattle.sector_image.specs.declared.kept.Shape.TheVariants.{Spilled}
use Rattle.sector_image.specs.Images.{both_bytes}
use Rattle.sector_image.specs.Room.{left_to_copy}
use Rattle.guard_row.specs.Home.{second_of}
use Rattle.sector_image.specs.FirstBad.{At, FirstBad, foreign_place}
use Rattle.sector_image.specs.Fits.{TwoLogWords, torn_chunk}
use Rattle.sector_image.proofs.LawsBelow.{sector_parts}
use Rattle.sector_image.proofs.Regions.{half_of, length_second}
use Rattle.sector_image.proofs.Standing.{stands_now}
use Rattle.sector_image.proofs.SurveyLemmas.{refuses_then, found_rules, spilled_value, spilled_known, spilled_words, no_room}
use Rattle.sector_image.proofs.surveying.survey_spilled.Goals as goal

-- the log was read before, so it can't fail now
pub returns-in_err-log_at-clause-calls : goal.returns-in_err-log_at-clause-calls
returns-in_err-log_at-clause-calls g c = refuses_then g.B.Board g.met.B.Board.reads c.from_residual-in_err-log_at.result c.in_err-log_at.field-0.0 c.from_residual-in_err-log_at.ensures.1 c.logs_of.ensures.calls.reads c.in_ok-logs.ensures.calls.counts
    (λ place told bad.
    let W = g.B.Board.words c.args.board.now in
    let told1 = c.log_at.ensures.calls.reads.changes.told told in
    let same1 : g.B.Board.words c.logs_of.new.board ≡ W = c.logs_of.ensures.calls.reads.changes.content told1 in
    let logs = c.in_ok-logs.ensures.logs told1 in
    let here = subst (λ (q : Region). At q (BadLog (halfwords_in W q)) place) c.second_sector-region.ensures (subst (λ (w : Words). At c.second_sector-region.result (BadLog (halfwords_in w c.second_sector-region.result)) place) same1 bad) in
    absurd (sector_parts.no_bad_log (halfwords_in W (second_of c.args.guard)) InUse logs.other_entries place.at place.word logs.second here.1))
    c.in_err-log_at.ensures.calls

pub returns-then-left-logs-clause-calls : goal.returns-then-left-logs-clause-calls
returns-then-left-logs-clause-calls g c = record {
  reads = reads_then g.B.Board g.met.B.Board.reads (reads_then g.B.Board g.met.B.Board.reads c.logs_of.ensures.calls.reads c.log_at.ensures.calls.reads) c.is_completable.ensures.reads;
  foreign = λ told.
      let W = g.B.Board.words c.args.board.now in
      let told2 = c.is_completable.ensures.reads.changes.told told in
      let told1 = c.log_at.ensures.calls.reads.changes.told told2 in
      let told0 = c.logs_of.ensures.calls.reads.changes.told told1 in
      let same1 : g.B.Board.words c.logs_of.new.board ≡ W = c.logs_of.ensures.calls.reads.changes.content told1 in
      let same2 : g.B.Board.words c.log_at.new.board ≡ W = c.log_at.ensures.calls.reads.changes.content told2 ∙ same1 in
      let logs = c.in_ok-logs.ensures.logs told1 in
      let again = c.in_ok-log_at.ensures.log told2 in
      let value = spilled_value W c.args.guard c.in_ok-logs.logs.home c.in_ok-logs.logs.other c.logs_of.new.whole c.logs_of.new.upper c.log_at.new.into c.second_sector-region.result again.0 c.second_sector-region.ensures logs
      (subst (λ (w : Words). IsSector (halfwords_in w c.second_sector-region.result) InUse again.0) same1 again.1) again.3 in
      let known = spilled_known W c.args.guard c.in_ok-logs.logs.home c.in_ok-logs.logs.other c.logs_of.new.whole c.logs_of.new.upper c.log_at.new.into c.in_ok-completable.completable logs
      (λ mark entries of sector. c.in_ok-completable.ensures.known told mark entries of (subst (λ (w : Words). IsSector (halfwords_in w c.in_ok-logs.logs.other.region) mark entries) (sym same2) sector)) in
      let left : c.count_left-left.result ≡ left_to_copy c.log_at.new.into c.logs_of.new.upper (torn_chunk c.in_ok-completable.completable c.in_ok-logs.logs.other) =
      c.count_left-left.ensures.count c.log_at.new.into c.logs_of.new.upper c.of.ensures ∙ ap (λ (f : Option ℕ). left_to_copy c.log_at.new.into c.logs_of.new.upper f) c.torn_chunk-finishing.ensures in
      let size = g.B.Board.sector_bytes c.args.board.now in
      let long : 2 * length (halfwords_in W (second_of c.args.guard)) ≡ size = omega (arith, g.met.B.Board.shape c.args.board.now told0 c.requires.given.attached (second_of c.args.guard), length_second size c.args.guard, half_of size c.requires.given.attached) in
      let geometry : g.B.Board.sector_bytes c.is_completable.new.board ≡ g.B.Board.sector_bytes c.args.board.now =
      c.is_completable.ensures.reads.changes.geometry ∙ c.log_at.ensures.calls.reads.changes.geometry ∙ c.logs_of.ensures.calls.reads.changes.geometry in
      subst (λ (q : Region). FirstBad W (foreign_place q 0 23550)) (sym c.second_sector-region.ensures)
      (no_room W c.args.guard c.in_ok-logs.logs.home c.in_ok-logs.logs.other c.in_ok-completable.completable c.logs_of.new.whole c.logs_of.new.upper c.log_at.new.into logs value known
      (omega (arith, c.if-left-logs.true, left, long, c.geometry-sector_bytes.ensures, geometry)));
  fault = tt;
  counts = c.in_ok-completable.ensures.fails.cause ∙ c.in_ok-log_at.ensures.calls.counts ∙ c.in_ok-logs.ensures.calls.counts;
}

pub returns-clause-finds : goal.returns-clause-finds
returns-clause-finds g c = record {
  fits =
      let geometry : g.B.Board.sector_bytes c.is_completable.new.board ≡ g.B.Board.sector_bytes c.args.board.now =
      c.is_completable.ensures.reads.changes.geometry ∙ c.log_at.ensures.calls.reads.changes.geometry ∙ c.logs_of.ensures.calls.reads.changes.geometry in
      let kept : Kept = record { sector_bytes = c.geometry-sector_bytes.result.sector_bytes; guard = c.args.guard; home = c.in_ok-logs.logs.home; other = Some c.in_ok-logs.logs.other; completable = c.in_ok-completable.completable } in
      let images = both_bytes c.log_at.new.into c.logs_of.new.upper in
      let other = c.in_ok-logs.ensures.other in
      let left_now : c.count_left-left.result ≡ left_to_copy c.log_at.new.into c.logs_of.new.upper (torn_chunk c.in_ok-completable.completable c.in_ok-logs.logs.other) =
      c.count_left-left.ensures.count c.log_at.new.into c.logs_of.new.upper c.of.ensures ∙ ap (λ (f : Option ℕ). left_to_copy c.log_at.new.into c.logs_of.new.upper f) c.torn_chunk-finishing.ensures in (
        c.in_ok-logs.logs.other,
        record {
          home = found_rules Spilled (g.B.Board.sector_bytes c.args.board.now) (g.B.Board.sector_bytes c.is_completable.new.board) kept images c.requires.given.attached geometry c.geometry-sector_bytes.ensures c.requires.given.most c.requires.even
              c.in_ok-logs.ensures.home (c.log_at.auto.into ∙ c.logs_of.auto.whole ∙ c.requires.given.whole_size) (c.logs_of.auto.upper ∙ c.requires.given.upper_size);
          other = refl;
          region = other.1;
          mark = other.2;
          other_log = subst (λ (n : ℕ). IsLogIn (n / 2) c.in_ok-logs.logs.other) (sym geometry) other.0;
          chunk = c.in_ok-completable.ensures.chunk;
          room = omega (arith, c.if-left-logs.false, left_now, c.geometry-sector_bytes.ensures);
        },
        λ told.
            let W = g.B.Board.words c.args.board.now in
            let told2 = c.is_completable.ensures.reads.changes.told told in
            let told1 = c.log_at.ensures.calls.reads.changes.told told2 in
            let told0 = c.logs_of.ensures.calls.reads.changes.told told1 in
            let same1 : g.B.Board.words c.logs_of.new.board ≡ W = c.logs_of.ensures.calls.reads.changes.content told1 in
            let same2 : g.B.Board.words c.log_at.new.board ≡ W = c.log_at.ensures.calls.reads.changes.content told2 ∙ same1 in
            let logs = c.in_ok-logs.ensures.logs told1 in
            let again = c.in_ok-log_at.ensures.log told2 in
            let value = spilled_value W c.args.guard c.in_ok-logs.logs.home c.in_ok-logs.logs.other c.logs_of.new.whole c.logs_of.new.upper c.log_at.new.into c.second_sector-region.result again.0 c.second_sector-region.ensures logs
            (subst (λ (w : Words). IsSector (halfwords_in w c.second_sector-region.result) InUse again.0) same1 again.1) again.3 in
            let known = spilled_known W c.args.guard c.in_ok-logs.logs.home c.in_ok-logs.logs.other c.logs_of.new.whole c.logs_of.new.upper c.log_at.new.into c.in_ok-completable.completable logs
            (λ mark entries of sector. c.in_ok-completable.ensures.known told mark entries of (subst (λ (w : Words). IsSector (halfwords_in w c.in_ok-logs.logs.other.region) mark entries) (sym same2) sector)) in
            let left : c.count_left-left.result ≡ left_to_copy c.log_at.new.into c.logs_of.new.upper (torn_chunk c.in_ok-completable.completable c.in_ok-logs.logs.other) =
            c.count_left-left.ensures.count c.log_at.new.into c.logs_of.new.upper c.of.ensures ∙ ap (λ (f : Option ℕ). left_to_copy c.log_at.new.into c.logs_of.new.upper f) c.torn_chunk-finishing.ensures in
            let size = g.B.Board.sector_bytes c.args.board.now in
            let long : 2 * length (halfwords_in W (second_of c.args.guard)) ≡ size = omega (arith, g.met.B.Board.shape c.args.board.now told0 c.requires.given.attached (second_of c.args.guard), length_second size c.args.guard, half_of size c.requires.given.attached) in
            subst (λ (w : Words). TwoLogWords kept c.in_ok-logs.logs.other images w) (sym (c.is_completable.ensures.reads.changes.content told ∙ same2))
            (spilled_words W kept c.in_ok-logs.logs.other c.logs_of.new.whole c.logs_of.new.upper c.log_at.new.into logs value known
            (omega (arith, c.if-left-logs.false, left, long, c.geometry-sector_bytes.ensures, geometry))),
      );
  stands = λ told.
      let W = g.B.Board.words c.args.board.now in
      let told2 = c.is_completable.ensures.reads.changes.told told in
      let told1 = c.log_at.ensures.calls.reads.changes.told told2 in
      let told0 = c.logs_of.ensures.calls.reads.changes.told told1 in
      let same1 : g.B.Board.words c.logs_of.new.board ≡ W = c.logs_of.ensures.calls.reads.changes.content told1 in
      let same2 : g.B.Board.words c.log_at.new.board ≡ W = c.log_at.ensures.calls.reads.changes.content told2 ∙ same1 in
      let logs = c.in_ok-logs.ensures.logs told1 in
      let again = c.in_ok-log_at.ensures.log told2 in
      let value = spilled_value W c.args.guard c.in_ok-logs.logs.home c.in_ok-logs.logs.other c.logs_of.new.whole c.logs_of.new.upper c.log_at.new.into c.second_sector-region.result again.0 c.second_sector-region.ensures logs
      (subst (λ (w : Words). IsSector (halfwords_in w c.second_sector-region.result) InUse again.0) same1 again.1) again.3 in
      let known = spilled_known W c.args.guard c.in_ok-logs.logs.home c.in_ok-logs.logs.other c.logs_of.new.whole c.logs_of.new.upper c.log_at.new.into c.in_ok-completable.completable logs
      (λ mark entries of sector. c.in_ok-completable.ensures.known told mark entries of (subst (λ (w : Words). IsSector (halfwords_in w c.in_ok-logs.logs.other.region) mark entries) (sym same2) sector)) in
      let left : c.count_left-left.result ≡ left_to_copy c.log_at.new.into c.logs_of.new.upper (torn_chunk c.in_ok-completable.completable c.in_ok-logs.logs.other) =
      c.count_left-left.ensures.count c.log_at.new.into c.logs_of.new.upper c.of.ensures ∙ ap (λ (f : Option ℕ). left_to_copy c.log_at.new.into c.logs_of.new.upper f) c.torn_chunk-finishing.ensures in
      let size = g.B.Board.sector_bytes c.args.board.now in
      let long : 2 * length (halfwords_in W (second_of c.args.guard)) ≡ size = omega (arith, g.met.B.Board.shape c.args.board.now told0 c.requires.given.attached (second_of c.args.guard), length_second size c.args.guard, half_of size c.requires.given.attached) in
      let geometry : g.B.Board.sector_bytes c.is_completable.new.board ≡ g.B.Board.sector_bytes c.args.board.now =
      c.is_completable.ensures.reads.changes.geometry ∙ c.log_at.ensures.calls.reads.changes.geometry ∙ c.logs_of.ensures.calls.reads.changes.geometry in
      let kept : Kept = record { sector_bytes = c.geometry-sector_bytes.result.sector_bytes; guard = c.args.guard; home = c.in_ok-logs.logs.home; other = Some c.in_ok-logs.logs.other; completable = c.in_ok-completable.completable } in
      let images = both_bytes c.log_at.new.into c.logs_of.new.upper in
      stands_now kept c.in_ok-logs.logs.other images W (spilled_words W kept c.in_ok-logs.logs.other c.logs_of.new.whole c.logs_of.new.upper c.log_at.new.into logs value known
      (omega (arith, c.if-left-logs.false, left, long, c.geometry-sector_bytes.ensures, geometry)));
}
