-- What the parts of the flash are called.
use Rattle.std.specs.Prelude.{ℕ, List, codes}
use Rattle.flash_traits.specs.declared.board.Region.{Region}
use Rattle.flash_traits.specs.declared.board.Region.TheVariants.{S0, S1, Guard}
use Rattle.flash_traits.specs.declared.board.Mark.{Mark}
use Rattle.flash_traits.specs.declared.board.Mark.TheVariants.{Available, InUse, Full}

-- the name of a region
abbrev pub region_name : Region → List ℕ
region_name S0 = codes "s0"
region_name S1 = codes "s1"
region_name Guard = codes "guard"

-- the name of a sector's mark
abbrev pub mark_name : Mark → List ℕ
mark_name Available = codes "available"
mark_name InUse = codes "inuse"
mark_name Full = codes "full"
