use Rattle.mav_messages.proofs.One.{one_arrival}
use Rattle.mav_messages.proofs.laws.one_arrival.Goals as goal

pub returns : goal.returns
returns c = λ v2 message a b p q. one_arrival v2 message a b p q
