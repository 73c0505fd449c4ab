-- The words of a device in memory.
use Rattle.std.specs.Prelude.{ℕ, false, true, if◌then◌else◌, Bool, replicate}
use Rattle.flash_traits.specs.Words.{Words, HasShape, IsSectorSize}
use Rattle.flash_traits.specs.Marks.{mark_word}
use Rattle.flash_traits.specs.declared.board.Mark.TheVariants.{Available, InUse}
use Rattle.flash_traits.specs.declared.numbers.TheConstants.{ERASED, GUARD_HALFWORDS}
use Rattle.flash_traits.proofs.Sizes.{size_not_zero}
use Rattle.session_boards.specs.Sizes.{fresh_sector}
use Rattle.session_boards.specs.declared.device.Device.{Device}

-- the three lists of halfwords
abbrev pub words_of : Device → Words
words_of device = record {
  s0 = device.s0.items;
  s1 = device.s1.items;
  guard = device.guard.items;
}

-- the words of a fresh image: sector 0 in use, sector 1 available, the guard row FFFF
abbrev pub fresh_words : Words
fresh_words = record {
  s0 = fresh_sector (mark_word InUse);
  s1 = fresh_sector (mark_word Available);
  guard = replicate GUARD_HALFWORDS ERASED;
}

-- the sector size that an attached board tells; 0 before the first attach
abbrev pub told_size : Bool → ℕ → ℕ
told_size attached size = if attached then size else 0

-- an attached board has the shape of its sector size
pub shape_attached : (attached : Bool) (size : ℕ) (w : Words) → HasShape size w
    → IsSectorSize (told_size attached size) → HasShape (told_size attached size) w
shape_attached true size w shape known = shape
shape_attached false size w shape known = absurd (size_not_zero 0 known (λ i. 0))
