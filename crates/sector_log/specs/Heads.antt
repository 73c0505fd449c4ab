-- Which marks may stand at the head of a sector.
use Rattle.std.specs.Prelude.{Bool}
use Rattle.flash_traits.specs.declared.board.Mark.{Mark}
use Rattle.flash_traits.specs.declared.board.Mark.TheVariants.{Available, InUse, Full}
use Rattle.sector_log.specs.declared.heads.Marks.{Marks}

-- the mark is one of these
abbrev pub may_stand : Marks → Mark → Bool
may_stand marks Available = marks.available
may_stand marks InUse = marks.in_use
may_stand marks Full = marks.full
