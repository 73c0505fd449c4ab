use Rattle.vehicle_runs.proofs.Readings.{frames_are_read}
use Rattle.vehicle_runs.proofs.laws.frames_are_read.Goals as goal

pub returns : goal.returns
returns c = frames_are_read c.a_message_or_none.ensures c.one_message.ensures c.asks_one_thing.ensures.asks c.asks_one_thing.ensures.one
