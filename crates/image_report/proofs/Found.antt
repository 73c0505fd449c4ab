-- The state that a survey finds.
use Rattle.std.proofs.Common.{◌≡◌, ℕ, [], refl}
use Rattle.flash_traits.specs.Words.{Words}
use Rattle.flash_traits.specs.declared.board.Board.{Ghosts}
use Rattle.sector_image.specs.Stands.{Reading, IsReadAs, count_in, shape_of_reading}
use Rattle.sector_image.specs.Images.{Bytes}
use Rattle.sector_image.specs.Fits.{FitsShape, reading_of}
use Rattle.sector_image.specs.declared.kept.Kept.{Kept}
use Rattle.sector_image.specs.declared.kept.Shape.{Shape}
use Rattle.sector_image.specs.declared.kept.Shape.TheVariants as shape

-- the words are an image of this state and this guard count
pub record IsState (w : Words) (name : Shape) (count : ℕ) : Type 0 where
  pub reading : Reading
  pub reads : IsReadAs w reading
  pub shape : shape_of_reading reading ≡ name
  pub counted : count_in reading ≡ count

pub state_of : {B : Type 0} (g : Ghosts B) (b : B) (name : Shape) (kept : Kept) (images : Bytes) → FitsShape name g b kept images → g.tells b → IsState (g.words b) name kept.guard
state_of g b shape.Alone kept images fits told = let words = fits.1 told in record { reading = reading_of shape.Alone kept.guard words.entries []; reads = words.reads; shape = refl; counted = refl }
state_of g b shape.Marked kept images fits told = let words = fits.1 told in record { reading = reading_of shape.Marked kept.guard words.entries []; reads = words.reads; shape = refl; counted = refl }
state_of g b shape.Voided kept images fits told = let words = fits.1 told in record { reading = reading_of shape.Voided kept.guard words.entries []; reads = words.reads; shape = refl; counted = refl }
state_of g b shape.Spilled kept images fits told = let words = fits.2 told in record { reading = reading_of shape.Spilled kept.guard words.home words.other; reads = words.reads; shape = refl; counted = refl }

-- the sector size that a state keeps is the board's
pub size_of : {B : Type 0} (g : Ghosts B) (b : B) (name : Shape) (kept : Kept) (images : Bytes) → FitsShape name g b kept images → kept.sector_bytes ≡ g.sector_bytes b
size_of g b shape.Alone kept images fits = fits.0.home.size
size_of g b shape.Marked kept images fits = fits.0.home.size
size_of g b shape.Voided kept images fits = fits.0.home.size
size_of g b shape.Spilled kept images fits = fits.1.home.size
