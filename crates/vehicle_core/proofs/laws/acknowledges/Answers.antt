use Rattle.vehicle_core.proofs.Arming.{did_alone, did_acknowledges}
use Rattle.vehicle_core.proofs.laws.acknowledges.Goals as goal

pub returns-clause-alone : goal.returns-clause-alone
returns-clause-alone c = did_alone

pub returns-clause-after : goal.returns-clause-after
returns-clause-after c = did_acknowledges
