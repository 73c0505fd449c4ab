use Rattle.std.proofs.Common.{◌∙◌, ap}
use Rattle.session_boards.specs.Sizes.{fresh_sector}
use Rattle.session_boards.proofs.device.Device.fresh.Goals as goal

pub returns : goal.returns
returns c = λ i. record {
  s0 = (c.in_ok-sector.ensures.items ∙ ap fresh_sector c.word.ensures) i;
  s1 = (c.in_ok-sector-2.ensures.items ∙ ap fresh_sector c.word-2.ensures) i;
  guard = c.in_ok-blank_list.ensures.items i;
}
