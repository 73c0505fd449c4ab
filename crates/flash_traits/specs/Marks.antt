-- Marks as halfwords.
use Rattle.std.specs.Prelude.{ℕ}
use Rattle.flash_traits.specs.declared.board.Mark.{Mark}
use Rattle.flash_traits.specs.declared.board.Mark.TheVariants.{Available, InUse, Full}

-- the first halfword of a sector's header
abbrev pub mark_word : Mark → ℕ
mark_word Available = 0x5BFF
mark_word InUse = 0x5BFE
mark_word Full = 0x5BFC
