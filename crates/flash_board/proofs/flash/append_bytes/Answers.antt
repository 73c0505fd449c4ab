use Rattle.std.proofs.Common.{ℕ, ◌%◌, ◌/◌, List, [], ◌∷◌, ◌++◌, get_or, sym, ◌∙◌, ap}
use Rattle.flash_board.proofs.Images.{bytes-push}
use Rattle.flash_board.proofs.flash.append_bytes.Goals as goal

pub loop-halfword-preserved : goal.loop-halfword-preserved
loop-halfword-preserved c =
    let x = get_or c.args.halfwords.now c.loop-halfword.halfword-index 0 in
    c.in_ok-push-2.ensures.items
    ∙ ap (λ (l : List ℕ). l ++ x / 256 ∷ []) (c.in_ok-push.ensures.items ∙ ap (λ (l : List ℕ). l ++ x % 256 ∷ []) c.loop-halfword.invariant)
    ∙ sym (bytes-push c.args.bytes.now.items c.args.halfwords.now c.loop-halfword.halfword-index c.loop-halfword-test.true)
