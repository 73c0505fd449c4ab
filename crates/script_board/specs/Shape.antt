-- The words of the board have the lengths of its sector size.
use Rattle.std.specs.Prelude.{◌≡◌, ℕ, zero, suc, ◌+◌, List, length}
use Rattle.std.proofs.Common.{refl, arith}
use Rattle.flash_traits.specs.declared.stream.Source as source
use Rattle.flash_traits.specs.declared.stream.Sink as sink
use Rattle.flash_traits.specs.declared.board.Region.TheVariants.{S0, S1, Guard}
use Rattle.flash_traits.specs.Words.{HasShape, region_length}
use Rattle.script_board.specs.Image.{start_of, halfwords_from}
use Rattle.script_board.specs.Boards.{words_in}
use Rattle.script_board.specs.declared.board.ScriptBoard.{ScriptBoard}

-- so many halfwords are so many
pub length-halfwords_from : (bytes : List ℕ) (start count : ℕ)
    → length (halfwords_from bytes start count) ≡ count
unfolding halfwords_from
length-halfwords_from bytes start zero = refl
length-halfwords_from bytes start (suc count) =
    omega (arith, length-halfwords_from bytes (start + 2) count)

pub shape_in : {S K : Type 0} {g : source.Ghosts S} {h : sink.Ghosts K}
    → (b : ScriptBoard S K g h) → HasShape b.geometry.sector_bytes (words_in b)
shape_in b S0 = length-halfwords_from b.image.items
    (start_of b.geometry.sector_bytes S0) (region_length b.geometry.sector_bytes S0)
shape_in b S1 = length-halfwords_from b.image.items
    (start_of b.geometry.sector_bytes S1) (region_length b.geometry.sector_bytes S1)
shape_in b Guard = length-halfwords_from b.image.items
    (start_of b.geometry.sector_bytes Guard) (region_length b.geometry.sector_bytes Guard)
