use Rattle.std.proofs.Common.{ℕ, sym, ◌∙◌, ap, subst, arith, rules}
use Rattle.std.specs.Prelude.{slice_index}
use Rattle.flash_traits.specs.Words.{Words}
use Rattle.flash_traits.specs.declared.board.Region.TheVariants.{Guard}
use Rattle.guard_row.specs.Row.{FirstBad, FirstFrom}
use Rattle.guard_row.specs.Errors.{OnWord}
use Rattle.guard_row.proofs.StepLemmas.{row_found, bad_found, on_word_weaker}
use Rattle.guard_row.proofs.row.count.Goals as goal

pub returns-in_err-test_erased-clause-word : goal.returns-in_err-test_erased-clause-word
returns-in_err-test_erased-clause-word g c =
    let old = g.B.Board.words c.args.board.now in
    let T : Type 0 = g.B.Board.tells c.test_erased.new.board in
    let e = c.in_err-test_erased.field-0.0 in
    let P : ℕ → ℕ → Type 0 = λ place word. T → FirstFrom (g.B.Board.words c.leading_zeros.new.board).guard c.in_ok-zeros.zeros place word in
    let Q : ℕ → ℕ → Type 0 = λ place word. T → FirstBad old.guard place word in
    let bad : OnWord e Q = on_word_weaker e P Q (λ place word found told.
    let told_then = c.test_erased.ensures.reads.changes.told told in
    bad_found old.guard c.in_ok-zeros.zeros place word (g.met.B.Board.shape c.args.board.now (c.leading_zeros.ensures.reads.changes.told told_then) c.requires.attached Guard)
    (c.in_ok-zeros.ensures.zeros told_then) (c.in_ok-zeros.ensures.other told_then)
    (subst (λ (w : Words). FirstFrom w.guard c.in_ok-zeros.zeros place word) (c.leading_zeros.ensures.reads.changes.content told_then) (found told))) c.in_err-test_erased.ensures.word in
    search rules

pub returns-clause-count : goal.returns-clause-count
returns-clause-count g c = λ told.
    let row = (g.B.Board.words c.args.board.now).guard in
    let told_then = c.test_erased.ensures.reads.changes.told told in
    let size = g.met.B.Board.shape c.args.board.now (c.leading_zeros.ensures.reads.changes.told told_then) c.requires.attached Guard in
    row_found row c.in_ok-zeros.zeros (omega (arith, size, c.in_ok-zeros.ensures.within)) (c.in_ok-zeros.ensures.zeros told_then)
    (λ k from lt. ap (λ (w : Words). slice_index w.guard k) (sym (c.leading_zeros.ensures.reads.changes.content told_then)) ∙ c.in_ok-test_erased.ensures.erased told k from (omega (arith, lt, size)))
