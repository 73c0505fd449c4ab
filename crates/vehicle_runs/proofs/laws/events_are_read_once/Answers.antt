use Rattle.vehicle_runs.proofs.Readings.{events_are_read_once}
use Rattle.vehicle_runs.proofs.laws.events_are_read_once.Goals as goal

pub returns : goal.returns
returns c = events_are_read_once c.frames_are_read.ensures
