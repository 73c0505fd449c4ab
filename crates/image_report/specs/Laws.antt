-- The laws of the two texts.
use Rattle.std.specs.Prelude.{◌≡◌, ℕ, List}
use Rattle.flash_traits.specs.Words.{Words, HasShape, IsSectorSize}
use Rattle.sector_image.specs.Stands.{Stands}
use Rattle.image_report.specs.Dumps.{IsDump}
use Rattle.image_report.specs.Reports.{IsReport}

-- Words have at most one dump, and one exactly where they stand for bytes. Words of right lengths
-- have one report.
pub record OneText : Type 0 where
  pub one_dump : (w : Words) (a b : List ℕ) → IsDump w a → IsDump w b → a ≡ b
  pub stands : (w : Words) (text : List ℕ) → IsDump w text → (bytes : List ℕ) × Stands w bytes
  pub dump : (w : Words) (bytes : List ℕ) → Stands w bytes → (text : List ℕ) × IsDump w text
  pub one_report : (w : Words) (a b : List ℕ) → IsReport w a → IsReport w b → a ≡ b
  pub report : (w : Words) (sector_bytes : ℕ) → IsSectorSize sector_bytes
      → HasShape sector_bytes w → (text : List ℕ) × IsReport w text
