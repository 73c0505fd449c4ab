use Rattle.std.proofs.Common.{◌≡◌, ◌<◌, ◌+◌, ℕ, get_or}
use Rattle.storage_lines.specs.Areas.{place_in}
use Rattle.storage_lines.proofs.pieces.read.Given as goal

abbrev pub invariant-loop-i : goal.invariant-loop-i
invariant-loop-i l = (k : ℕ) → k < l.i → get_or l.into k 0 ≡ get_or l.current (place_in l.spans (l.at + k)) 0
