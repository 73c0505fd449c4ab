-- The law of images.
use Rattle.std.specs.Prelude.{◌≡◌, ◌⊎◌, ℕ, List}
use Rattle.flash_traits.specs.Words.{Words, HasShape, IsSectorSize}
use Rattle.sector_image.specs.Stands.{Reading, IsReadAs, Stands}
use Rattle.sector_image.specs.FirstBad.{Place, FirstBad}

-- Words of right lengths stand for one list of bytes or have one first foreign word, and never
-- both.
pub record OneOfBoth : Type 0 where
  pub either : (w : Words) (sector_bytes : ℕ) → IsSectorSize sector_bytes → HasShape sector_bytes w
      → ((bytes : List ℕ) × Stands w bytes) ⊎ ((p : Place) × FirstBad w p)
  pub never_both : (w : Words) (bytes : List ℕ) (p : Place) → Stands w bytes → FirstBad w p → ⊥
  pub one_reading : (w : Words) (a b : Reading) → IsReadAs w a → IsReadAs w b → a ≡ b
  pub one_value : (w : Words) (a b : List ℕ) → Stands w a → Stands w b → a ≡ b
  pub one_place : (w : Words) (p q : Place) → FirstBad w p → FirstBad w q → p ≡ q
