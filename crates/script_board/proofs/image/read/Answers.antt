use Rattle.std.proofs.Common.{ℕ, ◌+◌, ◌*◌, List, slice_index, sym, ◌∙◌, ap}
use Rattle.flash_traits.specs.Words.{region_length}
use Rattle.script_board.specs.Image.{start_of, halfword_at}
use Rattle.script_board.proofs.Halfwords.{at_index, region_is}
use Rattle.script_board.proofs.image.read.Goals as goal

pub returns : goal.returns
returns c =
    let n = c.args.sector_bytes in
    let r = c.args.region in
    c.halfword.ensures ∙ ap (λ (s : ℕ). halfword_at c.args.image.now (s + 2 * c.args.at)) c.start_of.ensures
    ∙ sym (ap (λ (l : List ℕ). slice_index l c.args.at) (region_is n c.requires.known c.args.image.now r)
    ∙ at_index c.args.image.now (start_of n r) (region_length n r) c.args.at c.requires.inside)
