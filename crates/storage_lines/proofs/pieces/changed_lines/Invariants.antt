use Rattle.std.proofs.Common.{◌≡◌}
use Rattle.storage_lines.specs.Areas.{put_in}
use Rattle.storage_lines.specs.Lines.{after, changes_below}
use Rattle.storage_lines.proofs.pieces.changed_lines.Given as goal

abbrev pub invariant-loop-line : goal.invariant-loop-line
invariant-loop-line l = l.batch.items ≡ changes_below l.line (after l.current l.writes) (put_in l.spans l.at l.new (after l.current l.writes))
