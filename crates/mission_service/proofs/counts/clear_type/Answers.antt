use Rattle.std.proofs.Common.{arith}
use Rattle.storage_lines.specs.Bytes.{IsBytes}
use Rattle.mission_records.specs.Mission.{total_writes}
use Rattle.fence_records.specs.Lists.{clear_fence_writes}
use Rattle.mission_service.proofs.Clearing.{from_empty}
use Rattle.mission_service.proofs.Safe.{clear_mission_safe, clear_fence_safe}
use Rattle.mission_service.proofs.counts.clear_type.Goals as goal

pub returns-in-Mission-clause-safe : goal.returns-in-Mission-clause-safe
returns-in-Mission-clause-safe c =
    let b = c.args.current.now in
    let small : IsBytes b = λ i. omega (arith, c.type_inv.current i) in
    clear_mission_safe b c.clear.new.batch.items c.requires.size small (from_empty b (λ x. total_writes x 0) c.args.batch.now.items c.clear.new.batch.items c.requires.batch c.clear.ensures.writes)

pub returns-in-Fence-clause-safe : goal.returns-in-Fence-clause-safe
returns-in-Fence-clause-safe c =
    let b = c.args.current.now in
    let small : IsBytes b = λ i. omega (arith, c.type_inv.current i) in
    clear_fence_safe b c.clear-in-Fence.new.batch.items c.requires.size small (from_empty b clear_fence_writes c.args.batch.now.items c.clear-in-Fence.new.batch.items c.requires.batch c.clear-in-Fence.ensures.writes)
