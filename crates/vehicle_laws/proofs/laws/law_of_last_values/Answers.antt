use Rattle.vehicle_laws.proofs.LastValues.{law_of_last_values}
use Rattle.vehicle_laws.proofs.laws.law_of_last_values.Goals as goal

pub returns : goal.returns
returns c = law_of_last_values
