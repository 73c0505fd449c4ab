-- The pieces that the lines of a dump and of a report have in common.
use Rattle.std.specs.Prelude.{ℕ, List, ◌++◌, codes, decimal}
use Rattle.printed_text.specs.Pieces.{place_text}
use Rattle.sector_image.specs.declared.kept.Shape.{Shape}
use Rattle.sector_image.specs.declared.kept.Shape.TheVariants as shape

-- `image 16384`, the bytes of a sector
abbrev pub size_text : ℕ → List ℕ
size_text sector_bytes = codes "image " ++ decimal sector_bytes

-- the names of the four states of an image
abbrev pub shape_name : Shape → List ℕ
shape_name shape.Alone = codes "alone"
shape_name shape.Marked = codes "marked"
shape_name shape.Spilled = codes "spilled"
shape_name shape.Voided = codes "voided"

-- `foreign 2 000E`, a foreign halfword
abbrev pub foreign_text : ℕ → ℕ → List ℕ
foreign_text offset word = codes "foreign " ++ place_text offset word
