use Rattle.std.proofs.Common.{ℕ, List, ◌++◌, ap, ◌∙◌}
use Rattle.mav_messages.proofs.Wire.{appends, number_written}
use Rattle.mav_messages.proofs.encoding.put_u32.Goals as goal

pub returns-clause-puts : goal.returns-clause-puts
returns-clause-puts c = record {
  next = λ rest. appends c.args.payload.now.items _ c.append.new.list.items rest
      (c.append.ensures ∙ ap (λ (l : List ℕ). c.args.payload.now.items ++ l) (number_written 4 c.args.number c.write_u32.new.buf c.write_u32.ensures));
  fits = c.ranges.number.fits;
}
