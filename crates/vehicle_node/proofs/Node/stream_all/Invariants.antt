use Rattle.std.proofs.Common.{take, Ok}
use Rattle.vehicle_runs.specs.Reading.{streams}
use Rattle.vehicle_node.specs.Standing.{Fits}
use Rattle.vehicle_node.specs.Steps.Calls.{Keeps, OfAnswer}
use Rattle.vehicle_node.specs.Steps.Hearing.{ActsDone}
use Rattle.vehicle_node.proofs.Node.stream_all.Given as goal

abbrev pub invariant-loop-station : goal.invariant-loop-station
invariant-loop-station g l =
    let v = g.B.Board in
    record {
      done : ActsDone v l.fn.self l.fn.board (take l.station streams) (Ok tt) l.self l.board;
      fits : Fits v l.board l.self;
      keeps : Keeps v OfAnswer l.fn.board (Ok tt) l.board;
    }
