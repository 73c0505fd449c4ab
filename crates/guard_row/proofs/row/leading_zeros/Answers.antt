use Rattle.std.proofs.Common.{◌≡◌, inl, inr, ℕ, sym, ◌∙◌, ap, arith}
use Rattle.std.specs.Prelude.{slice_index}
use Rattle.std.proofs.lemmas.Bool.{cases_eq}
use Rattle.flash_traits.specs.Words.{Words}
use Rattle.flash_traits.proofs.Moments.{reads_then}
use Rattle.guard_row.proofs.row.leading_zeros.Goals as goal

pub loop-at-preserved : goal.loop-at-preserved
loop-at-preserved g c =
    let read_word : g.B.Board.tells c.read_halfword.new.board → c.in_ok-word.word ≡ slice_index (g.B.Board.words c.args.board.now).guard c.loop-at.at =
    λ told. c.in_ok-word.ensures.word told ∙ ap (λ (w : Words). slice_index w.guard c.loop-at.at) (c.loop-at.invariant.reads.changes.content (c.read_halfword.ensures.reads.changes.told told)) in
    record {
      reads = reads_then g.B.Board g.met.B.Board.reads c.loop-at.invariant.reads c.read_halfword.ensures.reads;
      counts = c.in_ok-word.ensures.fails.cause ∙ c.loop-at.invariant.counts;
      zeros = λ told k lt. elim (cases_eq k c.loop-at.at) [
        | inl is ↦ ap (λ (n : ℕ). slice_index (g.B.Board.words c.args.board.now).guard n) is ∙ sym (read_word told) ∙ (omega (arith, c.if-word-ne0.false))
        | inr other ↦ c.loop-at.invariant.zeros (c.read_halfword.ensures.reads.changes.told told) k (omega (arith, lt, other))
      ];
    }
