use Rattle.replay.proofs.Keeps.{keeps}
use Rattle.replay.proofs.laws.history_keeps.Goals as goal

pub returns : goal.returns
returns c = keeps
