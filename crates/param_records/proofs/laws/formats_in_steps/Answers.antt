use Rattle.param_records.proofs.FormatLemmas.{formats}
use Rattle.param_records.proofs.laws.formats_in_steps.Goals as goal

pub returns : goal.returns
returns c = formats
