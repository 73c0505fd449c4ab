use Rattle.vehicle_laws.proofs.RowSteps.{law_of_records}
use Rattle.vehicle_laws.proofs.laws.law_of_records.Goals as goal

pub returns : goal.returns
returns c = law_of_records
