use Rattle.replay.proofs.Keeps.{line_stays}
use Rattle.replay.proofs.laws.lines_stay.Goals as goal

pub returns : goal.returns
returns c = line_stays
