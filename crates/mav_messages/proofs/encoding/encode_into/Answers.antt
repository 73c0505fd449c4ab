use Rattle.mav_messages.proofs.Arrives.{arrives_saying, some_bytes, short_bytes}
use Rattle.mav_messages.proofs.encoding.encode_into.Goals as goal

pub returns-clause-said : goal.returns-clause-said
returns-clause-said c =
    arrives_saying c.args.v2 c.args.message.now c.put_payload.new.payload.items c.fields_fit.ensures
    c.put_payload.ensures.suit c.put_payload.ensures.payload

pub returns-clause-some : goal.returns-clause-some
returns-clause-some c =
    some_bytes c.args.v2 c.args.message.now c.put_payload.new.payload.items c.put_payload.ensures.payload

pub returns-clause-short : goal.returns-clause-short
returns-clause-short c =
    short_bytes c.args.v2 c.args.message.now c.put_payload.new.payload.items c.put_payload.ensures.suit
    c.put_payload.ensures.payload
