use Rattle.std.proofs.Common.{◌≡◌, ◌-◌, ◌++◌, length, vec_capacity, take, drop, ◌≤◌}
use Rattle.flash_board.specs.Rows.{half_set}
use Rattle.flash_board.proofs.flash.set_odd.Given as goal

abbrev pub invariant-loop-even : goal.invariant-loop-even
invariant-loop-even l = record {
  size : length l.halfwords.items ≡ length l.fn.halfwords.items;
  capacity : vec_capacity l.halfwords ≡ vec_capacity l.fn.halfwords;
  within : l.even ≤ length l.halfwords.items;
  same : take l.even l.halfwords.items ++ half_set (drop l.even l.halfwords.items) ≡ half_set l.fn.halfwords.items;
}

abbrev pub decreases-loop-even : goal.decreases-loop-even
decreases-loop-even l = length l.fn.halfwords.items - l.even
