use Rattle.std.proofs.Common.{refl, arith}
use Rattle.flash_traits.specs.Words.{halfwords_of}
use Rattle.sector_log.proofs.BytesLemmas.{length_halfwords}
use Rattle.legacy_image.proofs.LegacyEntries.{none_past, bad_word, bad_short}
use Rattle.legacy_image.proofs.log.header_at.Goals as goal

pub returns-then-at-sector-clause-next : goal.returns-then-at-sector-clause-next
returns-then-at-sector-clause-next c = none_past (halfwords_of c.args.sector.now) c.args.at (omega (arith, length_halfwords c.args.sector.now))

pub returns-in_default-clause-bad : goal.returns-in_default-clause-bad
returns-in_default-clause-bad c =
    let words = halfwords_of c.args.sector.now in
    record {
      here = refl;
      within = omega (arith, length_halfwords c.args.sector.now);
      is = c.word_at-word.ensures;
      other = c.if-word.false;
      none = bad_word words c.args.at c.word_at-word.result (omega (arith, length_halfwords c.args.sector.now)) c.word_at-word.ensures (λ h p e. c.in_default.ensures.none h p e);
    }

pub returns-then-sector-at-clause-bad : goal.returns-then-sector-at-clause-bad
returns-then-sector-at-clause-bad c =
    let words = halfwords_of c.args.sector.now in
    record {
      here = refl;
      within = omega (arith, length_halfwords c.args.sector.now);
      is = c.word_at-word.ensures;
      other = c.if-word.false;
      none = bad_short words c.args.at c.word_at-word.result c.in-Some.header (omega (arith, length_halfwords c.args.sector.now)) c.word_at-word.ensures c.in-Some.ensures.some.0 c.in-Some.ensures.some.1 (omega (arith, length_halfwords c.args.sector.now));
    }
