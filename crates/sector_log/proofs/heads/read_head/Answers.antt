use Rattle.std.proofs.Common.{◌≡◌, ◌≤◌, length, sym, ◌∙◌, ap, arith}
use Rattle.std.specs.Prelude.{slice_index}
use Rattle.flash_traits.specs.Words.{Words, halfwords_in}
use Rattle.flash_traits.specs.Marks.{mark_word}
use Rattle.flash_traits.proofs.Sizes.{two_halfwords}
use Rattle.sector_log.specs.Heads.{may_stand}
use Rattle.sector_log.proofs.LogLemmas.{bad_second}
use Rattle.sector_log.proofs.heads.read_head.Goals as goal

pub returns-then-word-ne-SIGNATURE-clause-word : goal.returns-then-word-ne-SIGNATURE-clause-word
returns-then-word-ne-SIGNATURE-clause-word g c = λ told.
    let told_then = c.read_halfword-2.ensures.reads.changes.told told in
    let W = halfwords_in (g.B.Board.words c.args.board.now) c.args.region in
    let size = g.met.B.Board.shape c.args.board.now (c.read_halfword.ensures.reads.changes.told told_then) c.requires.attached c.args.region in
    let two : 2 ≤ length W = omega (arith, size, two_halfwords (g.B.Board.sector_bytes c.args.board.now) c.requires.attached c.args.region) in
    let second : c.in_ok-word-2.word ≡ slice_index W 1 =
    c.in_ok-word-2.ensures.word told ∙ ap (λ (w : Words). slice_index (halfwords_in w c.args.region) 1) (c.read_halfword.ensures.reads.changes.content told_then) in
    let first : mark_word c.in-Some.mark ≡ slice_index W 0 = sym c.in-Some.ensures.some.1 ∙ c.in_ok-word.ensures.word told_then in
    bad_second (may_stand c.args.marks) W c.in-Some.mark c.in_ok-word-2.word two c.in-Some.ensures.some.0 first second c.if-word-ne-SIGNATURE.true
