-- What boot leaves.
use Rattle.std.specs.Prelude.{◌≡◌, ℕ, List, length}
use Rattle.storage_lines.specs.declared.areas.Area.TheVariants.{Param}
use Rattle.storage_lines.specs.declared.lines.TheConstants.{STORAGE_BYTES}
use Rattle.storage_lines.specs.Areas.{logical_of}
use Rattle.storage_lines.specs.Bytes.{IsBytes}
use Rattle.storage_lines.specs.Lines.{after}
use Rattle.storage_lines.specs.Pieces.{writes_of}
use Rattle.param_records.specs.Changes.{formatting}
use Rattle.param_records.specs.Steps.{HasMagic}
use Rattle.vehicle_runs.specs.Runs.{boot}

-- After boot the parameter storage is formatted, and has bytes as before. Where boot formats it, no
-- rule finds an old record.
pub record BootFormats : Type 0 where
  pub magic : (b : List ℕ) → length b ≡ STORAGE_BYTES → IsBytes (logical_of Param b)
      → HasMagic (after b (boot b))
  pub low : (b : List ℕ) → length b ≡ STORAGE_BYTES → IsBytes (logical_of Param b)
      → IsBytes (logical_of Param (after b (boot b)))
  pub fresh : (b : List ℕ) → length b ≡ STORAGE_BYTES → ¬ HasMagic b
      → boot b ≡ writes_of b formatting
