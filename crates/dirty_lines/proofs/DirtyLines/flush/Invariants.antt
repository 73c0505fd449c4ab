use Rattle.dirty_lines.specs.Steps.Flushing.{HasLeft}
use Rattle.dirty_lines.proofs.DirtyLines.flush.Given as goal

abbrev pub invariant-loop-left : goal.invariant-loop-left
invariant-loop-left g l = HasLeft g.B.Board l.armed l.n l.left l.fn.self l.self l.fn.board l.board

abbrev pub decreases-loop-left : goal.decreases-loop-left
decreases-loop-left g l = l.left
