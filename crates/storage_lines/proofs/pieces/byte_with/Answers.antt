use Rattle.std.proofs.Common.{◌≡◌, ◌+◌, ◌-◌, ℕ, get_or, sym, ap, ◌∙◌, subst, arith}
use Rattle.storage_lines.specs.Areas.{place_in, put_in}
use Rattle.storage_lines.proofs.AreaLemmas.{put_in-at, put_in-other}
use Rattle.storage_lines.proofs.SplitLemmas.{place_same}
use Rattle.storage_lines.proofs.pieces.byte_with.Goals as goal
use Rattle.storage_lines.proofs.pieces.byte_with.Goals.{else-i-at-via-then-i-at+else-i-at-2, else-i-at-via-else-i-at}

pub returns-then-i-at-2 : goal.returns-then-i-at-2
returns-then-i-at-2 c = λ b size e.
    let i = c.in-Some.i in
    let p = c.args.spans.now in
    let k : c.args.at + (i - c.args.at) ≡ i = omega arith in
    let same : place_in p (c.args.at + (i - c.args.at)) ≡ c.args.place = ap (λ (j : ℕ). place_in p j) k ∙ c.in-Some.ensures.1 in
    subst (λ (j : ℕ). get_or (put_in p c.args.at c.args.new.now b) j 0 ≡ get_or c.args.new.now (i - c.args.at) 0) same
    (put_in-at p c.args.at c.args.new.now b (i - c.args.at) 0 c.requires.ascending size c.requires.inside (omega arith))

pub returns-else-i-at : goal.returns-else-i-at
returns-else-i-at c = λ b size e. put_in-other c.args.spans.now c.args.at c.args.new.now b c.args.place 0 (λ j h f.
    let same : c.args.at + j ≡ c.in-Some.i = place_same c.args.spans.now (c.args.at + j) c.in-Some.i c.requires.ascending (omega arith) c.in-Some.ensures.0 (f ∙ sym c.in-Some.ensures.1) in
    elim c.else-i-at.branch [ else-i-at-via-then-i-at+else-i-at-2 w ↦ omega arith | else-i-at-via-else-i-at w ↦ omega arith ]) ∙ e

pub returns-in-None : goal.returns-in-None
returns-in-None c = λ b size e. put_in-other c.args.spans.now c.args.at c.args.new.now b c.args.place 0 (λ j h f. c.in-None.ensures (c.args.at + j) (omega arith) f) ∙ e
