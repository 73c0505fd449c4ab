use Rattle.std.proofs.Common.{◌∙◌, ap}
use Rattle.vehicle_core.specs.Vehicle.{Vehicle}
use Rattle.vehicle_node.specs.Standing.{Node}
use Rattle.vehicle_node.specs.Steps.Inside.{view_of}
use Rattle.vehicle_node.proofs.Node.refresh.Goals as goal

pub returns-clause-same : goal.returns-clause-same
returns-clause-same c =
    let s = c.self.inside in
    let core = c.refresh.new.self in
    ap (λ (v : Vehicle). view_of (record s { core = record core { vehicle = v } })) c.refresh.ensures.vehicle ∙ ap (λ (n : Node). record n { index = core.index }) c.self.view_is
