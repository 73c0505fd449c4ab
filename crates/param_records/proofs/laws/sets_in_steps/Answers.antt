use Rattle.param_records.proofs.StepLemmas.{set_steps}
use Rattle.param_records.proofs.laws.sets_in_steps.Goals as goal

pub returns : goal.returns
returns c = set_steps
