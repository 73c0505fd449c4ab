use Rattle.std.proofs.Common.{arith}
use Rattle.flash_traits.specs.Words.{halfwords_of}
use Rattle.sector_log.proofs.BytesLemmas.{length_halfwords}
use Rattle.sector_log.proofs.LogLemmas.{erased_more}
use Rattle.legacy_image.proofs.LegacyEntries.{first_other, erased_to_the_end}
use Rattle.legacy_image.proofs.log.test_erased.Goals as goal

pub returns-then-word-clause-bad : goal.returns-then-word-clause-bad
returns-then-word-clause-bad c =
    let words = halfwords_of c.args.sector.now in
    first_other words c.args.from c.loop-at.at c.word_at-word.result (omega arith) (omega (arith, length_halfwords c.args.sector.now)) c.word_at-word.ensures (omega arith) c.loop-at.invariant

pub loop-at-preserved : goal.loop-at-preserved
loop-at-preserved c =
    let words = halfwords_of c.args.sector.now in
    erased_more words c.args.from c.loop-at.at c.word_at-word.result (omega arith) (omega (arith, length_halfwords c.args.sector.now)) c.word_at-word.ensures (omega arith) c.loop-at.invariant

pub returns-clause-erased : goal.returns-clause-erased
returns-clause-erased c = erased_to_the_end (halfwords_of c.args.sector.now) c.args.from c.loop-at.at (omega (arith, length_halfwords c.args.sector.now)) c.loop-at.invariant
