use Rattle.std.proofs.Common.{◌≡◌, ◌≢◌, ◌<◌, ◌+◌, ◌*◌, ℕ, List, length, get_or, set, sym, ◌∙◌, ap, arith, inl, inr}
use Rattle.std.proofs.lemmas.List.{length-set, get_or-set_same, get_or-set_other}
use Rattle.std.proofs.lemmas.Bool.{cases_lt}
use Rattle.storage_lines.specs.Areas.{put_in}
use Rattle.storage_lines.proofs.AreaLemmas.{length-put_in}
use Rattle.storage_lines.proofs.LineLemmas.{length-line_of}
use Rattle.storage_lines.proofs.SplitLemmas.{line_is, line_has}
use Rattle.storage_lines.proofs.pieces.line_with.Goals as goal

pub loop-j-preserved : goal.loop-j-preserved
loop-j-preserved c = record {
  size = length-set c.loop-j.bytes c.loop-j.j c.byte_with.result ∙ c.loop-j.invariant.size;
  back = λ k h. let other : k ≢ c.loop-j.j = omega arith in get_or-set_other c.loop-j.bytes c.loop-j.j k c.byte_with.result 0 other ∙ c.loop-j.invariant.back k (omega arith);
  front = λ b whole eight each k h. elim (cases_lt k c.loop-j.j) [
    | inl below ↦ let other : k ≢ c.loop-j.j = omega arith in get_or-set_other c.loop-j.bytes c.loop-j.j k c.byte_with.result 0 other ∙ c.loop-j.invariant.front b whole eight each k below
    | inr here ↦
        let same : k ≡ c.loop-j.j = omega arith in
        let size = c.loop-j.invariant.size in
        let inside : c.loop-j.j < length c.loop-j.bytes = omega arith in
        ap (λ (i : ℕ). get_or (set c.loop-j.bytes c.loop-j.j c.byte_with.result) i 0) same ∙ get_or-set_same c.loop-j.bytes c.loop-j.j c.byte_with.result 0 inside
        ∙ sym (c.byte_with.ensures b whole (each c.loop-j.j (omega arith) ∙ sym (c.loop-j.invariant.back c.loop-j.j (omega arith))))
        ∙ ap (λ (i : ℕ). get_or (put_in c.args.spans.now c.args.at c.args.new.now b) (8 * c.args.line + i) 0) (sym same)
  ];
}

pub returns : goal.returns
returns c = λ b whole e.
    let eight : length c.args.before ≡ 8 = ap (λ (l : List ℕ). length l) (sym e) ∙ length-line_of b c.args.line (omega arith) in
    line_is (put_in c.args.spans.now c.args.at c.args.new.now b) c.loop-j.bytes c.args.line (omega (arith, length-put_in c.args.spans.now c.args.at c.args.new.now b)) (c.loop-j.invariant.size ∙ eight)
    (λ k h. c.loop-j.invariant.front b whole eight (line_has b c.args.before c.args.line e) k (omega arith))
