use Rattle.std.proofs.Common.{ℕ, List, ◌++◌, ap, ◌∙◌}
use Rattle.mav_messages.proofs.Wire.{appends, number_written}
use Rattle.mav_messages.proofs.encoding.put_u16.Goals as goal

pub returns-clause-puts : goal.returns-clause-puts
returns-clause-puts c = record {
  next = λ rest. appends c.args.payload.now.items _ c.append.new.list.items rest
      (c.append.ensures ∙ ap (λ (l : List ℕ). c.args.payload.now.items ++ l) (number_written 2 c.args.number c.write_u16.new.buf c.write_u16.ensures));
  fits = c.ranges.number.fits;
}
