use Rattle.std.proofs.Common.{◌++◌, refl}
use Rattle.vehicle_runs.specs.Reading.{beats, streams}
use Rattle.vehicle_node.specs.Steps.Calls.{OfAnswer}
use Rattle.vehicle_node.proofs.ActsDone.{acts_then, acts_prefix}
use Rattle.vehicle_node.proofs.Events.{take_idle}
use Rattle.vehicle_node.proofs.Keeping.{keeps_then}
use Rattle.vehicle_node.proofs.Node.answer_idle.Goals as goal

pub returns-in_err-beat_all-clause-done : goal.returns-in_err-beat_all-clause-done
returns-in_err-beat_all-clause-done g c =
    take_idle g.B.Board c.args.self.now c.args.board.now c.from_residual.result c.beat_all.new.self c.beat_all.new.board
    (acts_prefix g.B.Board c.args.self.now c.args.board.now beats streams (beats ++ streams) c.in_err-beat_all.field-0.0 c.from_residual.result c.beat_all.new.self c.beat_all.new.board refl c.from_residual.ensures.1 c.in_err-beat_all.ensures.done)

pub returns-clause-done : goal.returns-clause-done
returns-clause-done g c =
    take_idle g.B.Board c.args.self.now c.args.board.now c.stream_all.result c.stream_all.new.self c.stream_all.new.board
    (acts_then g.B.Board c.args.self.now c.args.board.now beats c.beat_all.new.self c.beat_all.new.board streams c.stream_all.result c.stream_all.new.self c.stream_all.new.board c.in_ok-beat_all.ensures.done c.stream_all.ensures.done)

pub returns-clause-keeps : goal.returns-clause-keeps
returns-clause-keeps g c =
    keeps_then g.B.Board OfAnswer OfAnswer c.args.board.now c.beat_all.new.board c.stream_all.result c.stream_all.new.board (λ k is. is) c.in_ok-beat_all.ensures.keeps c.stream_all.ensures.keeps
