use Rattle.std.proofs.Common.{Ok}
use Rattle.std.specs.List.{range_with_len}
use Rattle.vehicle_core.specs.Vehicle.{Content}
use Rattle.vehicle_core.specs.Replies.{Tells}
use Rattle.vehicle_node.specs.Steps.Calls.{KeepsLines}
use Rattle.vehicle_node.specs.Steps.Sending.{SendDone, deliveries_to}
use Rattle.vehicle_node.proofs.Node.send_to_all.Given as goal

abbrev pub invariant-loop-station : goal.invariant-loop-station
invariant-loop-station g l =
    let b = g.B.Board in
    record {
      done : (content : Content) → Tells content l.message → SendDone b (deliveries_to l.fn.self.machine.vehicle (range_with_len 0 l.station) content) l.fn.self l.fn.board (Ok tt) l.self l.board;
      keeps : KeepsLines b l.fn.self l.fn.board (Ok tt) l.self l.board;
    }
