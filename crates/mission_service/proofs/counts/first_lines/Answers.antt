use Rattle.std.proofs.Common.{arith}
use Rattle.storage_lines.specs.Bytes.{IsBytes}
use Rattle.mission_records.specs.Mission.{begin_writes}
use Rattle.mission_service.proofs.Clearing.{from_empty}
use Rattle.mission_service.proofs.Safe.{begin_safe}
use Rattle.mission_service.proofs.counts.first_lines.Goals as goal

pub returns-in-Mission-clause-safe : goal.returns-in-Mission-clause-safe
returns-in-Mission-clause-safe c =
    let b = c.args.current.now in
    let small : IsBytes b = λ i. omega (arith, c.type_inv.current i) in
    begin_safe b c.begin.new.batch.items c.requires.size small (from_empty b begin_writes c.args.batch.now.items c.begin.new.batch.items c.requires.batch c.begin.ensures.writes)
