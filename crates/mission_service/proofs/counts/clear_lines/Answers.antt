use Rattle.std.proofs.Common.{arith}
use Rattle.storage_lines.specs.Bytes.{IsBytes}
use Rattle.mission_service.proofs.Clearing.{clears_one, after_first, clears_both}
use Rattle.mission_service.proofs.Safe.{clear_both_safe}
use Rattle.mission_service.proofs.counts.clear_lines.Goals as goal

pub returns-in-Some-clause-writes : goal.returns-in-Some-clause-writes
returns-in-Some-clause-writes c = clears_one c.args.current.now c.args.types c.in-Some.kind c.clear_type.new.batch.items c.in-Some.is c.clear_type.ensures.writes

pub returns-in-None-clause-writes : goal.returns-in-None-clause-writes
returns-in-None-clause-writes c =
    clears_both c.args.current.now c.args.types c.clear-in-None.new.batch.items c.in-None.is (after_first c.args.current.now c.args.batch.now.items c.clear.new.batch.items c.clear-in-None.new.batch.items c.requires.batch c.clear.ensures.writes c.clear-in-None.ensures.writes)

pub returns-in-None-clause-safe : goal.returns-in-None-clause-safe
returns-in-None-clause-safe c =
    let b = c.args.current.now in
    let small : IsBytes b = λ i. omega (arith, c.type_inv.current i) in
    clear_both_safe b c.clear-in-None.new.batch.items c.requires.size small (after_first b c.args.batch.now.items c.clear.new.batch.items c.clear-in-None.new.batch.items c.requires.batch c.clear.ensures.writes c.clear-in-None.ensures.writes)
