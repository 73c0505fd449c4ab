-- An image in memory that is only read.
use Rattle.std.specs.Prelude.{ℕ, List, ◌-◌, ◌^◌}
use Rattle.flash_traits.specs.Losses.{Moment}
use Rattle.flash_traits.specs.declared.board.Region.TheVariants.{S0, S1, Guard}
use Rattle.flash_traits.specs.Words.{HasShape, region_length}
use Rattle.script_board.specs.Image.{start_of, words_of}
use Rattle.script_board.specs.Shape.{length-halfwords_from}

-- a moment whose counts stand at their end
abbrev pub last_moment : Moment
last_moment = record {
  programs = 2 ^ 64 - 1;
  erases = 2 ^ 64 - 1;
  receptions = 2 ^ 64 - 1;
  sendings = 2 ^ 64 - 1;
}

-- the words of an image have the lengths of its sector size
pub shape_of : (sector_bytes : ℕ) (image : List ℕ)
    → HasShape sector_bytes (words_of sector_bytes image)
shape_of sector_bytes image S0 =
    length-halfwords_from image (start_of sector_bytes S0) (region_length sector_bytes S0)
shape_of sector_bytes image S1 =
    length-halfwords_from image (start_of sector_bytes S1) (region_length sector_bytes S1)
shape_of sector_bytes image Guard =
    length-halfwords_from image (start_of sector_bytes Guard) (region_length sector_bytes Guard)
