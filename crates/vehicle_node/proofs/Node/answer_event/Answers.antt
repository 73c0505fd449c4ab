use Rattle.std.proofs.Common.{sym, subst, Ok}
use Rattle.flash_traits.specs.declared.board.Event.{Event}
use Rattle.flash_traits.specs.Losses.{received}
use Rattle.vehicle_node.specs.Steps.Calls.{OfAnswer}
use Rattle.vehicle_node.specs.Steps.Hearing.{TakeDone}
use Rattle.vehicle_node.proofs.Events.{take_end}
use Rattle.vehicle_node.proofs.Keeping.{keeps_none}
use Rattle.vehicle_node.proofs.Node.answer_event.Goals as goal

pub returns-in-End-clause-done : goal.returns-in-End-clause-done
returns-in-End-clause-done g c =
    subst (λ (e : Event). TakeDone g.B.Board (received e c.args.buffer.now) c.args.self.now c.args.board.now (Ok tt) c.args.self.now c.args.board.now) (sym c.in-End.is)
    (take_end g.B.Board g.met.B.Board.reads c.args.self.now c.args.board.now c.requires.fits.store)

pub returns-in-End-clause-keeps : goal.returns-in-End-clause-keeps
returns-in-End-clause-keeps g c = keeps_none g.B.Board OfAnswer c.args.board.now
