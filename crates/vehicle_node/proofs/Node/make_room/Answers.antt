use Rattle.std.proofs.Common.{◌≡◌, ◌-◌, length, arith, ap}
use Rattle.vehicle_node.specs.Standing.{Node}
use Rattle.vehicle_node.specs.Steps.Calls.{OfFlash}
use Rattle.vehicle_node.specs.declared.TheConstants.{ROOM_FROM}
use Rattle.vehicle_node.proofs.Putting.{flush_none}
use Rattle.vehicle_node.proofs.Keeping.{keeps_none}
use Rattle.vehicle_node.proofs.Node.make_room.Goals as goal

pub returns-else-pending-gt-ROOM_FROM-clause-done : goal.returns-else-pending-gt-ROOM_FROM-clause-done
returns-else-pending-gt-ROOM_FROM-clause-done g c =
    let node = c.args.self.now in
    let few : length node.lines.pending - ROOM_FROM ≡ 0 = omega (arith, c.pending-pending.ensures.count, c.if-pending-gt-ROOM_FROM.false, ap (λ (n : Node). length n.lines.pending) c.self.view_is) in
    flush_none g.B.Board g.met.B.Board.reads c.args.board.now node c.args.armed (length node.lines.pending - ROOM_FROM) c.requires.fits few

pub returns-else-pending-gt-ROOM_FROM-clause-keeps : goal.returns-else-pending-gt-ROOM_FROM-clause-keeps
returns-else-pending-gt-ROOM_FROM-clause-keeps g c = keeps_none g.B.Board OfFlash c.args.board.now
