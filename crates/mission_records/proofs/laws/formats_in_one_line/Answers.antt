use Rattle.mission_records.proofs.Puts.{in_one_line}
use Rattle.mission_records.proofs.laws.formats_in_one_line.Goals as goal

pub returns : goal.returns
returns c = in_one_line
