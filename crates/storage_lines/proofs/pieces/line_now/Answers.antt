use Rattle.std.proofs.Common.{[], ◌≡◌, ◌∙◌, sym, arith, length, get_or, ap, List, ℕ}
use Rattle.storage_lines.specs.declared.lines.LineWrite.{LineWrite}
use Rattle.storage_lines.proofs.SplitLemmas.{line_more_same, line_more_other}
use Rattle.storage_lines.proofs.pieces.line_now.Goals as goal
use Rattle.storage_lines.proofs.pieces.line_now.Goals.{then-write-line, else-write-line}

pub loop-write-preserved : goal.loop-write-preserved
loop-write-preserved c = elim c.if-write-line.branch [
  | then-write-line w ↦ let d : LineWrite = record { line = 0; bytes = [] } in
      let copied : w.copy_from_slice-then-write-line.new.self ≡ (get_or c.args.writes.now c.loop-write.write-index d).bytes = w.copy_from_slice-then-write-line.ensures.after in
      let eight : length (get_or c.args.writes.now c.loop-write.write-index d).bytes ≡ 8 = ap (λ (l : List ℕ). length l) (sym copied) ∙ w.copy_from_slice-then-write-line.ensures.len ∙ w.if-write-line.array_long in
      w.bytes-is ∙ copied ∙ sym (line_more_same c.args.current.now c.args.writes.now c.loop-write.write-index c.args.line d (omega arith) (omega arith) eight w.if-write-line.true)
  | else-write-line w ↦ w.bytes-is ∙ c.loop-write.invariant ∙ sym (line_more_other c.args.current.now c.args.writes.now c.loop-write.write-index c.args.line _ (omega arith) (omega arith) w.if-write-line.false)
]
