use Rattle.std.proofs.Common.{sym, subst, Ok}
use Rattle.vehicle_core.specs.declared.orders.Need.{Need}
use Rattle.vehicle_node.specs.Steps.Calls.{OfFlash}
use Rattle.vehicle_node.specs.Steps.Answering.{SettleDone}
use Rattle.vehicle_node.proofs.Keeping.{keeps_none}
use Rattle.vehicle_node.proofs.Putting.{settle_none}
use Rattle.vehicle_node.proofs.Node.settle.Goals as goal

pub returns-in-Nothing-clause-done : goal.returns-in-Nothing-clause-done
returns-in-Nothing-clause-done g c =
    subst (λ (n : Need). SettleDone g.B.Board n c.args.armed c.args.self.now c.args.board.now (Ok tt) c.args.self.now c.args.board.now) (sym c.in-Nothing.is)
    (settle_none g.B.Board g.met.B.Board.reads c.args.board.now c.args.self.now c.args.armed c.requires.fits)

pub returns-in-FlushAll-clause-done : goal.returns-in-FlushAll-clause-done
returns-in-FlushAll-clause-done g c =
    subst (λ (n : Need). SettleDone g.B.Board n c.args.armed c.args.self.now c.args.board.now c.put_all.result c.put_all.new.self c.put_all.new.board) (sym c.in-FlushAll.is) c.put_all.ensures.done

pub returns-in-Nothing-clause-keeps : goal.returns-in-Nothing-clause-keeps
returns-in-Nothing-clause-keeps g c = keeps_none g.B.Board OfFlash c.args.board.now
