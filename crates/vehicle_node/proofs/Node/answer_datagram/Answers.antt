use Rattle.vehicle_node.specs.Steps.Calls.{OfAnswer}
use Rattle.vehicle_node.proofs.Events.{take_hearing, take_heard}
use Rattle.vehicle_node.proofs.Keeping.{keeps_then}
use Rattle.vehicle_node.proofs.Node.answer_datagram.Goals as goal

pub returns-in_err-hear-clause-done : goal.returns-in_err-hear-clause-done
returns-in_err-hear-clause-done g c =
    take_hearing g.B.Board c.frames_are_read.ensures c.args.station c.args.bytes.now c.args.self.now c.args.board.now c.in_err-hear.field-0.0 c.from_residual.result c.hear.new.self c.hear.new.board c.from_residual.ensures.1 c.in_err-hear.ensures.done

pub returns-clause-done : goal.returns-clause-done
returns-clause-done g c =
    take_heard g.B.Board c.frames_are_read.ensures c.args.station c.args.bytes.now c.args.self.now c.args.board.now c.hear.new.self c.hear.new.board c.stream_all.result c.stream_all.new.self c.stream_all.new.board c.in_ok-hear.ensures.done c.stream_all.ensures.done

pub returns-clause-keeps : goal.returns-clause-keeps
returns-clause-keeps g c =
    keeps_then g.B.Board OfAnswer OfAnswer c.args.board.now c.hear.new.board c.stream_all.result c.stream_all.new.board (λ k is. is) c.in_ok-hear.ensures.keeps c.stream_all.ensures.keeps
