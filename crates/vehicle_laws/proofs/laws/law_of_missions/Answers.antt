use Rattle.vehicle_laws.proofs.Status.{law_of_missions}
use Rattle.vehicle_laws.proofs.laws.law_of_missions.Goals as goal

pub returns : goal.returns
returns c = law_of_missions
