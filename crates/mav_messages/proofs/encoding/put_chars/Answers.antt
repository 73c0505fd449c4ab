use Rattle.mav_messages.proofs.Wire.{appends}
use Rattle.mav_messages.proofs.encoding.put_chars.Goals as goal

pub returns-clause-puts : goal.returns-clause-puts
returns-clause-puts c = record {
  next = λ rest. appends c.args.payload.now.items c.args.chars.now c.append.new.list.items rest c.append.ensures;
  count = c.told-chars;
}
