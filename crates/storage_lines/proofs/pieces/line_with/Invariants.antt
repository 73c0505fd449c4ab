use Rattle.std.proofs.Common.{◌≡◌, ◌<◌, ◌≤◌, ◌+◌, ◌*◌, ℕ, List, length, get_or}
use Rattle.storage_lines.specs.declared.lines.TheConstants.{STORAGE_BYTES}
use Rattle.storage_lines.specs.Areas.{put_in}
use Rattle.storage_lines.proofs.pieces.line_with.Given as goal

abbrev pub invariant-loop-j : goal.invariant-loop-j
invariant-loop-j l = record {
  size : length l.bytes ≡ length l.fn.before;
  back : (k : ℕ) → l.j ≤ k → get_or l.bytes k 0 ≡ get_or l.fn.before k 0;
  front : (b : List ℕ) → length b ≡ STORAGE_BYTES → length l.fn.before ≡ 8 → ((k : ℕ) → k < 8 → get_or b (8 * l.line + k) 0 ≡ get_or l.fn.before k 0) → (k : ℕ) → k < l.j → get_or l.bytes k 0 ≡ get_or (put_in l.spans l.at l.new b) (8 * l.line + k) 0;
}
