use Rattle.std.proofs.Common.{arith}
use Rattle.storage_lines.specs.Bytes.{IsBytes}
use Rattle.mission_service.proofs.Safe.{replace_safe}
use Rattle.mission_service.proofs.items.write_fence.Goals as goal

pub returns-clause-safe : goal.returns-clause-safe
returns-clause-safe c =
    let b = c.args.current.now in
    let small : IsBytes b = λ k. omega (arith, c.type_inv.current k) in
    replace_safe b c.args.items.now c.write.new.batch.items c.requires.size small c.in_ok-write.ensures.writes
