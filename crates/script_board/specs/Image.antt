-- The words of an image, as the bytes of its file have them.
use Rattle.std.specs.Prelude.{ℕ, zero, suc, ◌+◌, ◌*◌, List, [], ◌∷◌, slice_index}
use Rattle.flash_traits.specs.Words.{Words, halfwords_in, with_halfwords, region_length}
use Rattle.flash_traits.specs.declared.board.Region.{Region}
use Rattle.flash_traits.specs.declared.board.Region.TheVariants.{S0, S1, Guard}
use Rattle.flash_traits.specs.declared.numbers.TheConstants.{ERASED}

-- where a region begins, in bytes
abbrev pub start_of : ℕ → Region → ℕ
start_of sector_bytes S0 = 0
start_of sector_bytes S1 = sector_bytes
start_of sector_bytes Guard = 2 * sector_bytes

-- the halfword whose low byte stands here, and whose high byte follows it
abbrev pub halfword_at : List ℕ → ℕ → ℕ
halfword_at bytes at = slice_index bytes at + 256 * slice_index bytes (at + 1)

-- so many halfwords from a byte on
unfoldable pub halfwords_from : List ℕ → ℕ → ℕ → List ℕ
halfwords_from bytes start zero = []
halfwords_from bytes start (suc count) =
    halfword_at bytes start ∷ halfwords_from bytes (start + 2) count

-- the words of an image with sectors of so many bytes
abbrev pub words_of : ℕ → List ℕ → Words
words_of sector_bytes bytes = record {
  s0 = halfwords_from bytes (start_of sector_bytes S0) (region_length sector_bytes S0);
  s1 = halfwords_from bytes (start_of sector_bytes S1) (region_length sector_bytes S1);
  guard = halfwords_from bytes (start_of sector_bytes Guard) (region_length sector_bytes Guard);
}

-- FFFF at the odd offsets, and the even ones as they were
abbrev pub odd_erased : List ℕ → List ℕ
odd_erased [] = []
odd_erased (even ∷ []) = even ∷ []
odd_erased (even ∷ odd ∷ rest) = even ∷ ERASED ∷ odd_erased rest

-- the odd offsets of a region are erased
abbrev pub half_erased : Words → Region → Words
half_erased words region =
    with_halfwords words region (odd_erased (halfwords_in words region))
