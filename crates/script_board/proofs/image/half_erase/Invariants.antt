use Rattle.std.proofs.Common.{◌≡◌, ◌-◌, length}
use Rattle.script_board.proofs.Odd.{OddErased}
use Rattle.script_board.proofs.image.half_erase.Given as goal

abbrev pub invariant-loop-at : goal.invariant-loop-at
invariant-loop-at l = record {
  size : length l.image ≡ length l.fn.image;
  odd : OddErased l.fn.image l.image l.start l.at l.end;
}

abbrev pub decreases-loop-at : goal.decreases-loop-at
decreases-loop-at l = l.end - l.at
