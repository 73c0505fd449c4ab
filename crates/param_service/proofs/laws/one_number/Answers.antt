use Rattle.param_records.proofs.PatternLemmas.{one_number}
use Rattle.param_service.proofs.laws.one_number.Goals as goal

pub returns : goal.returns
returns c = λ kind bits m n a b. one_number kind bits m n a b
