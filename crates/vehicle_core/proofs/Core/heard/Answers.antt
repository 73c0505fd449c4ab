use Rattle.std.proofs.Common.{ap, arith}
use Rattle.vehicle_core.specs.CoreState.{CoreState}
use Rattle.vehicle_core.proofs.Machine.{heard_is}
use Rattle.vehicle_core.proofs.Core.heard.Goals as goal

pub returns : goal.returns
returns c = heard_is c.self.inside.stations c.self.inside.parameters.next_rows c.self.inside.missions c.self.inside.armed c.args.self.now.vehicle c.args.station _ (ap (λ (x : CoreState). x.vehicle) c.self.view_is) (omega arith)
