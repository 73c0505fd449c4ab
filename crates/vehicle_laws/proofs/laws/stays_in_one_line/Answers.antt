use Rattle.vehicle_laws.proofs.FormatSteps.{stays_in_one_line}
use Rattle.vehicle_laws.proofs.laws.stays_in_one_line.Goals as goal

pub returns : goal.returns
returns c = stays_in_one_line
