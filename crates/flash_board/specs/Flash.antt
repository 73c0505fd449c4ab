-- The words of a device in memory.
use Rattle.std.specs.Prelude.{ℕ, replicate}
use Rattle.flash_board.specs.Rows.{half_set}
use Rattle.flash_traits.specs.Words.{Words, halfwords_in, with_halfwords}
use Rattle.flash_board.specs.declared.flash.Flash.{Flash}
use Rattle.flash_traits.specs.declared.board.Region.{Region}
use Rattle.flash_traits.specs.declared.numbers.TheConstants.{ERASED, GUARD_HALFWORDS}

-- the three lists of halfwords
abbrev pub words_of : Flash → Words
words_of f = record { s0 = f.s0.items; s1 = f.s1.items; guard = f.guard.items }

-- every halfword FFFF, at a sector of n halfwords
abbrev pub blank_halfwords : ℕ → Words
blank_halfwords n = record {
  s0 = replicate n ERASED;
  s1 = replicate n ERASED;
  guard = replicate GUARD_HALFWORDS ERASED;
}

-- the halfwords at odd offsets of one region are FFFF, and all others as they were: what a failed
-- erase leaves
abbrev pub half_erased : Words → Region → Words
half_erased w r = with_halfwords w r (half_set (halfwords_in w r))
