use Rattle.std.proofs.Common.{Ok, List, take}
use Rattle.vehicle_core.specs.Vehicle.{Told}
use Rattle.vehicle_core.specs.Replies.{AreRepliesOf}
use Rattle.vehicle_runs.specs.Frames.{deliveries}
use Rattle.vehicle_node.specs.Steps.Calls.{KeepsLines}
use Rattle.vehicle_node.specs.Steps.Sending.{SendDone}
use Rattle.vehicle_node.proofs.Node.send_replies.Given as goal

abbrev pub invariant-loop-reply : goal.invariant-loop-reply
invariant-loop-reply g l =
    let b = g.B.Board in
    record {
      done : (told : List Told) → AreRepliesOf told l.replies.items → SendDone b (deliveries l.fn.self.machine.vehicle (take l.reply-index told)) l.fn.self l.fn.board (Ok tt) l.self l.board;
      keeps : KeepsLines b l.fn.self l.fn.board (Ok tt) l.self l.board;
    }
