use Rattle.std.proofs.Common.{◌≡◌, false, [], ◌∷◌, ap, sym, ◌∙◌}
use Rattle.vehicle_core.specs.Vehicle.{is_heard}
use Rattle.vehicle_node.specs.Standing.{Node}
use Rattle.vehicle_node.specs.Steps.Sending.{deliveries_to}
use Rattle.vehicle_node.proofs.Keeping.{lines_none}
use Rattle.vehicle_node.proofs.RepliesSent.{done_none, unheard}
use Rattle.vehicle_node.proofs.Node.send_if_heard.Goals as goal

pub returns-else-heard-clause-done : goal.returns-else-heard-clause-done
returns-else-heard-clause-done g c = λ content tells.
    let node = c.args.self.now in
    let not : is_heard node.machine.vehicle c.args.station ≡ false = ap (λ (n : Node). is_heard n.machine.vehicle c.args.station) (sym c.self.view_is) ∙ sym c.if-heard.ensures in
    done_none g.B.Board (deliveries_to node.machine.vehicle (c.args.station ∷ []) content) node c.args.board.now (unheard node.machine.vehicle c.args.station content not)

pub returns-else-heard-clause-keeps : goal.returns-else-heard-clause-keeps
returns-else-heard-clause-keeps g c = lines_none g.B.Board c.args.self.now c.args.board.now
