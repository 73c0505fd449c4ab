use Rattle.std.proofs.Common.{arith}
use Rattle.legacy_image.proofs.LegacyEntries.{adds_valid, adds_torn}
use Rattle.legacy_image.proofs.log.next_entry.Goals as goal

pub returns-then-valid-clause-next : goal.returns-then-valid-clause-next
returns-then-valid-clause-next c =
    let next = rw c.in-Some.is at c.in_ok-header.ensures.next in
    adds_valid c.args.sector.now c.args.at c.in-Some.header c.args.into.now c.copy_content.new.into c.requires.sector.even (λ k. omega (arith, c.type_inv.sector k)) next c.if-valid.true c.copy_content.ensures

pub returns-else-valid-clause-next : goal.returns-else-valid-clause-next
returns-else-valid-clause-next c =
    let next = rw c.in-Some.is at c.in_ok-header.ensures.next in
    adds_torn c.args.sector.now c.args.at c.in-Some.header c.args.into.now c.requires.sector.even next c.if-valid.false
