use Rattle.param_convert.proofs.ConvertSteps.{converts_in_steps}
use Rattle.param_convert.proofs.laws.converts_in_steps.Goals as goal

pub returns : goal.returns
returns c = converts_in_steps
