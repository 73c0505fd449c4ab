use Rattle.std.proofs.Common.{ℕ, List, [], length, get_or, take, sym, ◌∙◌, ap, arith}
use Rattle.std.proofs.lemmas.List.{take_all}
use Rattle.storage_lines.specs.declared.lines.LineWrite.{LineWrite}
use Rattle.storage_lines.specs.Lines.{after, put_line}
use Rattle.storage_lines.proofs.LineLemmas.{length-after}
use Rattle.param_index.proofs.MagicLemmas.{next_bytes}
use Rattle.param_index.proofs.tests.apply_all.Goals as goal

abbrev none : LineWrite
none = record { line = 0; bytes = [] }

pub apply-requires-clause-line : goal.apply-requires-clause-line
apply-requires-clause-line c = c.requires.inside c.loop-write.write-index none (omega (arith, c.loop-write-test.true))

pub apply-requires-clause-size : goal.apply-requires-clause-size
apply-requires-clause-size c =
    ap (λ (b : List ℕ). length b) c.loop-write.invariant ∙ length-after c.args.bytes.now (take c.loop-write.write-index c.args.writes.now) ∙ c.requires.size

pub loop-write-preserved : goal.loop-write-preserved
loop-write-preserved c =
    let ws = c.args.writes.now in
    let i = c.loop-write.write-index in
    c.apply.ensures ∙ ap (λ (b : List ℕ). put_line b (get_or ws i none)) c.loop-write.invariant ∙ sym (next_bytes c.args.bytes.now ws i none (omega (arith, c.loop-write-test.true)))

pub returns : goal.returns
returns c =
    let ws = c.args.writes.now in
    c.loop-write.invariant ∙ ap (λ (l : List LineWrite). after c.args.bytes.now l) (take_all c.loop-write.write-index ws (omega arith))
