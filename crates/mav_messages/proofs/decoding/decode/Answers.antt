use Rattle.mav_messages.proofs.One.{read_is}
use Rattle.mav_messages.proofs.decoding.decode.Goals as goal

pub returns-clause-only : goal.returns-clause-only
returns-clause-only c = λ message f says. read_is c.args.id c.args.payload.now c.listed_message.result c.listed_message.ensures.cases c.listed_message.ensures.fits message f says
