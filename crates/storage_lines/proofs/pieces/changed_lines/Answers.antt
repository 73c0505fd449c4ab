use Rattle.std.proofs.Common.{◌≡◌, ◌+◌, ◌-◌, ◌≤◌, ◌/◌, ap, ℕ, length, ◌∙◌, sym, arith}
use Rattle.std.proofs.lemmas.Bool.{eqb-true, eqb-false, not-true, not-false}
use Rattle.storage_lines.specs.declared.lines.TheConstants.{STORAGE_BYTES}
use Rattle.storage_lines.specs.Lines.{after, changes_below}
use Rattle.storage_lines.specs.Areas.{put_in, place_in}
use Rattle.arrayvec.specs.ArrayVec.{ArrayVec}
use Rattle.storage_lines.specs.declared.lines.LineWrite.{LineWrite}
use Rattle.storage_lines.proofs.LineLemmas.{length-after}
use Rattle.storage_lines.proofs.SplitLemmas.{no_piece, between_ends, changes_before, changes_behind, changed_more, unchanged_more, too_many}
use Rattle.storage_lines.proofs.pieces.changed_lines.Goals as goal
use Rattle.storage_lines.proofs.pieces.changed_lines.Goals.{then-ne+else-is_full, else-ne}

pub loop-line-init : goal.loop-line-init
loop-line-init c =
    let B = after c.args.current.now c.args.writes.now in
    let size : length B ≡ STORAGE_BYTES = length-after c.args.current.now c.args.writes.now ∙ c.requires.size in
    c.new-batch.ensures ∙ sym (changes_before c.args.spans.now c.args.at c.args.new.now B (c.place_in-first.result / 8) c.requires.ascending size c.requires.inside (omega (arith, eqb-false _ _ (sym c.is_empty.ensures ∙ c.if-is_empty.false))) (ap (λ (k : ℕ). k / 8) c.place_in-first.ensures.place))

pub returns-then-is_full : goal.returns-then-is_full
returns-then-is_full c =
    let B = after c.args.current.now c.args.writes.now in
    let N = put_in c.args.spans.now c.args.at c.args.new.now B in
    let size : length B ≡ STORAGE_BYTES = length-after c.args.current.now c.args.writes.now ∙ c.requires.size in
    too_many c.loop-line.line B N c.line_now-before.result c.line_with-bytes.result c.loop-line.batch.items (omega arith) c.line_now-before.ensures (c.line_with-bytes.ensures B size (sym c.line_now-before.ensures)) c.loop-line.invariant
    (not-true _ (sym c.ne.ensures ∙ c.if-ne.true)) (eqb-true _ _ (sym c.is_full.ensures.value ∙ c.if-is_full.true))

pub loop-line-preserved : goal.loop-line-preserved
loop-line-preserved c =
    let B = after c.args.current.now c.args.writes.now in
    let N = put_in c.args.spans.now c.args.at c.args.new.now B in
    let size : length B ≡ STORAGE_BYTES = length-after c.args.current.now c.args.writes.now ∙ c.requires.size in
    elim c.if-ne.branch [
      | then-ne+else-is_full w ↦ changed_more c.loop-line.line B N c.line_now-before.result c.line_with-bytes.result c.loop-line.batch.items c.if-ne.batch.items c.line_now-before.ensures (c.line_with-bytes.ensures B size (sym c.line_now-before.ensures)) c.loop-line.invariant
          (not-true _ (sym c.ne.ensures ∙ w.if-ne.true)) (ap (λ (v : ArrayVec LineWrite). v.items) w.batch-is ∙ w.push.ensures.items)
      | else-ne w ↦ unchanged_more c.loop-line.line B N c.line_now-before.result c.line_with-bytes.result c.loop-line.batch.items c.if-ne.batch.items c.line_now-before.ensures (c.line_with-bytes.ensures B size (sym c.line_now-before.ensures)) c.loop-line.invariant
          (not-false _ (sym c.ne.ensures ∙ w.if-ne.false)) (ap (λ (v : ArrayVec LineWrite). v.items) w.batch-is)
    ]

pub returns : goal.returns
returns c =
    let zeroth : c.args.at + 0 ≡ c.args.at = omega arith in
    let B = after c.args.current.now c.args.writes.now in
    let size : length B ≡ STORAGE_BYTES = length-after c.args.current.now c.args.writes.now ∙ c.requires.size in
    let N = put_in c.args.spans.now c.args.at c.args.new.now B in
    let last : c.place_in-last.result / 8 ≡ place_in c.args.spans.now (c.args.at + length c.args.new.now - 1) / 8 = ap (λ (k : ℕ). k / 8) c.place_in-last.ensures.place in
    let first : c.place_in-first.result ≤ c.place_in-last.result = let e = c.place_in-last.ensures.place in let f = c.place_in-first.ensures.place in omega (arith, (between_ends c.args.spans.now c.args.at (length c.args.new.now) 0 c.requires.ascending c.requires.inside (omega (arith, eqb-false _ _ (sym c.is_empty.ensures ∙ c.if-is_empty.false)))).1, ap (λ (k : ℕ). place_in c.args.spans.now k) zeroth) in
    let end : c.loop-line.line ≡ c.place_in-last.result / 8 + 1 = omega arith in
    c.loop-line.invariant ∙ ap (λ (k : ℕ). changes_below k B N) end ∙ sym (changes_behind c.args.spans.now c.args.at c.args.new.now B (c.place_in-last.result / 8) c.requires.ascending size c.requires.inside (omega (arith, eqb-false _ _ (sym c.is_empty.ensures ∙ c.if-is_empty.false))) last)

pub returns-then-is_empty : goal.returns-then-is_empty
returns-then-is_empty c =
    let B = after c.args.current.now c.args.writes.now in
    c.new.ensures ∙ sym (no_piece c.args.spans.now c.args.at c.args.new.now B (eqb-true _ _ (sym c.is_empty.ensures ∙ c.if-is_empty.true)))
