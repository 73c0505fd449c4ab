use Rattle.std.proofs.Common.{◌≡◌, ℕ, ◌+◌, ◌*◌, bit_and, ◌∙◌, ap, subst}
use Rattle.script_board.specs.Image.{start_of, halfword_at}
use Rattle.script_board.proofs.Halfwords.{programs}
use Rattle.script_board.proofs.image.program.Goals as goal

pub returns : goal.returns
returns c =
    let n = c.args.sector_bytes in
    let s = start_of n c.args.region + 2 * c.args.at in
    let place : c.start_of.result + 2 * c.args.at ≡ s = ap (λ (k : ℕ). k + 2 * c.args.at) c.start_of.ensures in
    record {
      words = programs n c.requires.known c.put.new.bytes c.args.image.now c.args.region c.args.at c.args.word c.requires.inside
          (subst (λ (k : ℕ). halfword_at c.put.new.bytes k ≡ bit_and (halfword_at c.args.image.now k) c.args.word) place
          (c.put.ensures.word ∙ ap (λ (h : ℕ). bit_and h c.args.word) c.halfword-old.ensures))
          (λ j x y. c.put.ensures.others j (λ e. x (e ∙ place)) (λ e. y (e ∙ ap (λ (k : ℕ). k + 1) place)));
    }
