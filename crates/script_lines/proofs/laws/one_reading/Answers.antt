use Rattle.script_lines.proofs.OneReading.{one_reading}
use Rattle.script_lines.proofs.laws.one_reading.Goals as goal

pub returns : goal.returns
returns c = one_reading
