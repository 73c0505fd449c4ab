use Rattle.vehicle_laws.proofs.RunsByActs.{runs_by_acts}
use Rattle.vehicle_laws.proofs.laws.runs_by_acts.Goals as goal

pub returns : goal.returns
returns c = runs_by_acts
