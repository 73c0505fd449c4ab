use Rattle.std.proofs.Common.{◌≤◌, ◌-◌, take, length, Ok}
use Rattle.vehicle_node.specs.Standing.{Fits}
use Rattle.vehicle_node.specs.Steps.Calls.{Keeps, OfAnswer}
use Rattle.vehicle_node.specs.Steps.Hearing.{HearDone}
use Rattle.vehicle_node.proofs.Node.hear.Given as goal

abbrev pub decreases-loop-at : goal.decreases-loop-at
decreases-loop-at g l = length l.bytes - l.at

abbrev pub invariant-loop-at : goal.invariant-loop-at
invariant-loop-at g l =
    let v = g.B.Board in
    record {
      inside : l.at ≤ length l.bytes;
      done : HearDone v l.fn.self l.fn.board l.station (take l.at l.bytes) (Ok tt) l.self l.board;
      fits : Fits v l.board l.self;
      keeps : Keeps v OfAnswer l.fn.board (Ok tt) l.board;
    }
