use Rattle.mav_messages.proofs.OneOrNone.{one_or_none}
use Rattle.mav_messages.proofs.laws.a_message_or_none.Goals as goal

pub returns : goal.returns
returns c = λ id payload. one_or_none id payload
