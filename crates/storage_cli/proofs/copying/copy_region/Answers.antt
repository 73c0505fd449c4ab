use Rattle.std.proofs.Common.{◌≡◌, inl, inr, ℕ, ◌+◌, ◌*◌, sym, ◌∙◌, ap, arith}
use Rattle.std.specs.Prelude.{slice_index}
use Rattle.std.proofs.lemmas.Bool.{cases_eq}
use Rattle.flash_traits.specs.Words.{Words, halfwords_in}
use Rattle.flash_traits.proofs.Moments.{reads_then}
use Rattle.script_board.specs.Image.{halfword_at}
use Rattle.storage_cli.proofs.Copies.{all_copied, earlier_stays}
use Rattle.storage_cli.proofs.copying.copy_region.Goals as goal

pub loop-at-preserved : goal.loop-at-preserved
loop-at-preserved g c =
    let at = c.loop-at.at in
    let region = c.args.region in
    let word : g.B.Board.tells c.read_halfword.new.board → c.in_ok-word.word ≡ slice_index (halfwords_in (g.B.Board.words c.args.board.now) region) at =
    λ told. c.in_ok-word.ensures.word told ∙ ap (λ (w : Words). slice_index (halfwords_in w region) at) (c.loop-at.invariant.reads.changes.content (c.read_halfword.ensures.reads.changes.told told)) in
    record {
      reads = reads_then g.B.Board g.met.B.Board.reads c.loop-at.invariant.reads c.read_halfword.ensures.reads;
      counts = c.in_ok-word.ensures.fails.cause ∙ c.loop-at.invariant.counts;
      copied = λ told k lt. elim (cases_eq k at) [
        | inl is ↦ ap (λ (n : ℕ). halfword_at c.put.new.bytes (c.args.start + 2 * n)) is ∙ c.put.ensures.word ∙ word told ∙ ap (λ (n : ℕ). slice_index (halfwords_in (g.B.Board.words c.args.board.now) region) n) (sym is)
        | inr other ↦ earlier_stays c.put.new.bytes c.loop-at.bytes at k c.args.start (omega (arith, lt, other)) c.put.ensures.before
            ∙ c.loop-at.invariant.copied (c.read_halfword.ensures.reads.changes.told told) k (omega (arith, lt, other))
      ];
      before = λ j lt. c.put.ensures.before j (omega (arith, lt)) ∙ c.loop-at.invariant.before j lt;
    }

pub returns-clause-copied : goal.returns-clause-copied
returns-clause-copied g c = λ told.
    all_copied c.loop-at.bytes c.args.start c.args.count (halfwords_in (g.B.Board.words c.args.board.now) c.args.region)
    (g.met.B.Board.shape c.args.board.now (c.loop-at.invariant.reads.changes.told told) c.requires.attached c.args.region ∙ sym c.requires.count)
    (λ k lt. c.loop-at.invariant.copied told k (omega (arith, lt)))
