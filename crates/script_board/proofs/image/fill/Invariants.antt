use Rattle.std.proofs.Common.{◌≡◌, ◌⊎◌, ◌≤◌, ◌<◌, ◌-◌, ℕ, length, slice_index}
use Rattle.script_board.proofs.image.fill.Given as goal

abbrev pub invariant-loop-at : goal.invariant-loop-at
invariant-loop-at l = record {
  from : l.start ≤ l.at;
  to : l.at ≤ l.end;
  size : length l.bytes ≡ length l.fn.bytes;
  filled : (j : ℕ) → l.start ≤ j → j < l.at → slice_index l.bytes j ≡ 255;
  others : (j : ℕ) → (j < l.start) ⊎ (l.at ≤ j) → slice_index l.bytes j ≡ slice_index l.fn.bytes j;
}

abbrev pub decreases-loop-at : goal.decreases-loop-at
decreases-loop-at l = l.end - l.at
