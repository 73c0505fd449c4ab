use Rattle.std.proofs.Common.{◌+◌, ◌<◌, ◌∙◌, sym, length, arith, rules}
use Rattle.std.proofs.lemmas.List.{length-set}
use Rattle.flash_board.proofs.Odd.{odd_step, odd_end}
use Rattle.flash_board.proofs.flash.set_odd.Goals as goal

pub loop-even-preserved : goal.loop-even-preserved
loop-even-preserved c =
    let lt : c.loop-even.even + 1 < length c.loop-even.halfwords.items = omega arith in record {
      size = length-set c.loop-even.halfwords.items (c.loop-even.even + 1) 65535 ∙ c.loop-even.invariant.size;
      capacity = search (rules, c.loop-even.invariant.capacity);
      within = omega (arith, length-set c.loop-even.halfwords.items (c.loop-even.even + 1) 65535);
      same = odd_step c.loop-even.halfwords.items c.loop-even.even lt ∙ c.loop-even.invariant.same;
    }

pub returns-after-loop-even-clause-after : goal.returns-after-loop-even-clause-after
returns-after-loop-even-clause-after c = sym (odd_end c.loop-even.halfwords.items c.loop-even.even (omega arith)) ∙ c.loop-even.invariant.same

pub returns-else-len-even-gt1-clause-after : goal.returns-else-len-even-gt1-clause-after
returns-else-len-even-gt1-clause-after c = sym (odd_end c.loop-even.halfwords.items c.loop-even.even (omega arith)) ∙ c.loop-even.invariant.same
