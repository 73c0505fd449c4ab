use Rattle.vehicle_laws.proofs.LinesByActs.{lines_by_acts}
use Rattle.vehicle_laws.proofs.laws.lines_by_acts.Goals as goal

pub returns : goal.returns
returns c = lines_by_acts
