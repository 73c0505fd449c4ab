use Rattle.std.proofs.Common.{rules, ◌++◌, ◌∷◌, []}
use Rattle.legacy_image.specs.Logs.{FailsAt}
use Rattle.flash_traits.specs.Words.{halfwords_of}
use Rattle.legacy_image.proofs.LegacyEntries.{walked_more, fails_here}
use Rattle.legacy_image.proofs.log.read_log.Goals as goal

pub returns-in_err-end-clause-bad : goal.returns-in_err-end-clause-bad
returns-in_err-end-clause-bad c =
    let walked = c.loop-end.invariant.walked in
    let bad = c.in_err-end.field-0.0 in
    let fails : FailsAt (halfwords_of c.args.sector.now) bad.offset bad.word =
    fails_here (halfwords_of c.args.sector.now) c.loop-end.at c.args.into.now c.loop-end.into walked.0 bad.offset bad.word walked.1 c.in_err-end.ensures.bad in
    search rules

pub loop-end-preserved : goal.loop-end-preserved
loop-end-preserved c =
    let inv = c.loop-end.invariant in
    let next = rw c.in-Some.is at c.in_ok-end.ensures.next in
    let every = rw c.in-Some.is at c.in_ok-end.ensures.every in
    record {
      within = every.1;
      size = c.next_entry.ensures.size;
      walked = (
        inv.walked.0 ++ next.0 ∷ [],
        walked_more (halfwords_of c.args.sector.now) c.loop-end.at c.in-Some.end c.args.into.now c.loop-end.into c.next_entry.new.into inv.walked.0 next.0 inv.walked.1 next.1,
      );
    }
