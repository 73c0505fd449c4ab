use Rattle.param_service.proofs.Numbers.{number_or_none}
use Rattle.param_service.proofs.laws.a_number_or_none.Goals as goal

pub returns : goal.returns
returns c = λ kind bits. number_or_none kind bits
