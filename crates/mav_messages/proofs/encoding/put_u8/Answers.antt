use Rattle.std.proofs.Common.{ℕ, List, ◌++◌, ap, sym, ◌∙◌}
use Rattle.mav_messages.proofs.Wire.{appends, number_one}
use Rattle.mav_messages.proofs.encoding.put_u8.Goals as goal

pub returns-clause-puts : goal.returns-clause-puts
returns-clause-puts c = record {
  next = λ rest. appends c.args.payload.now.items _ c.push.new.self.items rest
      (c.push.ensures.items ∙ ap (λ (l : List ℕ). c.args.payload.now.items ++ l) (sym (number_one c.args.number c.ranges.number.fits)));
  fits = c.ranges.number.fits;
}
