use Rattle.vehicle_laws.proofs.FenceSteps.{law_of_fences}
use Rattle.vehicle_laws.proofs.laws.law_of_fences.Goals as goal

pub returns : goal.returns
returns c = law_of_fences
