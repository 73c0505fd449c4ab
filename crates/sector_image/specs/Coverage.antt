-- Which chunks are covered, kept as marks.
use Rattle.std.specs.Prelude.{◌≡◌, ℕ, ◌<◌, List, length, Bool, false, not, slice_index_or}
use Rattle.flash_traits.specs.Budget.{chunks}
use Rattle.sector_log.specs.Storage.{storage_bytes}
use Rattle.sector_image.specs.Room.{is_covered, count_below}

-- the chunk has a mark
abbrev pub is_marked : List Bool → ℕ → Bool
is_marked marks chunk = slice_index_or marks chunk false

-- how many chunks below n have no mark
unfoldable pub unmarked_below : ℕ → List Bool → ℕ
unmarked_below n marks = count_below n (λ chunk. not (is_marked marks chunk))

abbrev pub unmarked : List Bool → ℕ
unmarked marks = unmarked_below chunks marks

-- The marks are what a comparison of the two lists from scratch gives: a chunk has a mark where it
-- is covered, and none where it isn't.
pub record IsComparison (whole upper : List ℕ) (marks : List Bool) : Type 0 where
  pub each : (chunk : ℕ) → chunk < chunks → is_marked marks chunk ≡ is_covered whole upper chunk

-- two lists of storage bytes, and the marks of their comparison
pub record AreCompared (whole upper : List ℕ) (marks : List Bool) : Type 0 where
  pub whole_size : length whole ≡ storage_bytes
  pub upper_size : length upper ≡ storage_bytes
  pub same : IsComparison whole upper marks
