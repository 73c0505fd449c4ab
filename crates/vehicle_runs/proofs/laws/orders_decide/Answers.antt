use Rattle.vehicle_runs.proofs.Orders.{orders_decide}
use Rattle.vehicle_runs.proofs.laws.orders_decide.Goals as goal

pub returns : goal.returns
returns c = orders_decide
