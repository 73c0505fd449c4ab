use Rattle.vehicle_node.specs.Steps.Calls.{OfFlash}
use Rattle.vehicle_node.proofs.Keeping.{keeps_then}
use Rattle.vehicle_node.proofs.Putting.{settle_short, settle_armed, settle_unarmed}
use Rattle.vehicle_node.proofs.Node.put_all.Goals as goal

pub returns-in_err-flush_all-clause-done : goal.returns-in_err-flush_all-clause-done
returns-in_err-flush_all-clause-done g c =
    settle_short g.B.Board _ c.args.armed c.args.self.now c.args.board.now c.in_err-flush_all.field-0.0 c.from_residual.result c.flush_all.new.self c.flush_all.new.board c.in_err-flush_all.ensures.done c.from_residual.ensures.1

pub returns-then-armed-clause-done : goal.returns-then-armed-clause-done
returns-then-armed-clause-done g c =
    settle_armed g.B.Board _ c.args.armed c.args.self.now c.args.board.now c.flush_all.new.self c.flush_all.new.board c.if-armed.true c.in_ok-flush_all.ensures.done c.in_ok-flush_all.ensures.nothing

pub returns-else-armed-clause-done : goal.returns-else-armed-clause-done
returns-else-armed-clause-done g c =
    settle_unarmed g.B.Board g.met.B.Board.reads _ c.args.armed c.if-armed.false c.args.self.now c.args.board.now c.flush_all.new.self c.flush_all.new.board c.in_ok-flush_all.ensures.done c.in_ok-flush_all.ensures.nothing
    c.compact.result c.compact.new.self c.compact.new.board c.compact.ensures.done

pub returns-else-armed-clause-keeps : goal.returns-else-armed-clause-keeps
returns-else-armed-clause-keeps g c =
    keeps_then g.B.Board OfFlash OfFlash c.args.board.now c.flush_all.new.board c.compact.result c.compact.new.board (λ k is. is) c.in_ok-flush_all.ensures.keeps c.compact.ensures.keeps
