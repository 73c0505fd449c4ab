use Rattle.vehicle_core.proofs.Arming.{did_counts}
use Rattle.vehicle_core.proofs.laws.counts_lines.Goals as goal

pub returns : goal.returns
returns c = did_counts
