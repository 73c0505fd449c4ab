use Rattle.vehicle_runs.proofs.Readings.{events_are_read}
use Rattle.vehicle_runs.proofs.laws.events_are_read.Goals as goal

pub returns : goal.returns
returns c = events_are_read c.frames_are_read.ensures
