-- The words of a fresh image.
use Rattle.std.specs.Prelude.{◌≡◌, ℕ, ◌<◌, ◌==◌, length, slice_index, if◌then◌else◌}
use Rattle.flash_traits.specs.Words.{Words, halfwords_in, HasShape}
use Rattle.flash_traits.specs.declared.board.Region.{Region}
use Rattle.flash_traits.specs.declared.board.Region.TheVariants.{S0, S1, Guard}

-- a sector that holds only its header: the state and 5168, and then FFFF
abbrev pub header_only : ℕ → ℕ → ℕ
header_only state offset = if offset == 0 then state else (if offset == 1 then 0x5168 else 0xFFFF)

-- The halfword that a fresh image has at a place: the guard row is FFFF throughout, sector 0 is in
-- use (5BFE) and sector 1 is available (5BFF), both without entries.
abbrev pub fresh_word : Region → ℕ → ℕ
fresh_word S0 offset = header_only 0x5BFE offset
fresh_word S1 offset = header_only 0x5BFF offset
fresh_word Guard offset = 0xFFFF

-- the words are those of a fresh image, whatever their number
pub record IsFresh (words : Words) : Type 0 where
  pub each : (region : Region) (offset : ℕ) → offset < length (halfwords_in words region)
      → slice_index (halfwords_in words region) offset ≡ fresh_word region offset

-- the words of a fresh image with sectors of that size
pub record IsFreshImage (sector_bytes : ℕ) (words : Words) : Type 0 where
  pub shape : HasShape sector_bytes words
  pub fresh : IsFresh words
