-- Guard rows, and where other lists of halfwords fail.
use Rattle.std.specs.Prelude.{◌≡◌, ◌≢◌, ◌<◌, ◌≤◌, ℕ, ◌+◌, List, ◌++◌, replicate, slice_index}
use Rattle.flash_traits.specs.Words.{FirstOther}
use Rattle.flash_traits.specs.declared.numbers.TheConstants.{ERASED, GUARD_HALFWORDS}

-- so many halfwords 0, and then only FFFF
pub record IsGuardRow (row : List ℕ) (count : ℕ) : Type 0 where
  pub erased : ℕ
  pub whole : row ≡ replicate count 0 ++ replicate erased ERASED

-- the first halfword behind the leading zeros that isn't FFFF
pub record FirstBad (row : List ℕ) (place word : ℕ) : Type 0 where
  pub zeros : ℕ
  pub erased : ℕ
  pub rest : List ℕ
  pub whole : row ≡ replicate zeros 0 ++ rest
  pub other : FirstOther rest erased word
  pub all_zeros : erased ≡ 0 → word ≢ 0
  pub at : place ≡ zeros + erased

-- from this place on, the first halfword that isn't FFFF, as a walk finds it
pub record FirstFrom (row : List ℕ) (from place word : ℕ) : Type 0 where
  pub behind : from ≤ place
  pub inside : place < GUARD_HALFWORDS
  pub is : word ≡ slice_index row place
  pub other : word ≢ ERASED
  pub erased : (k : ℕ) → from ≤ k → k < place → slice_index row k ≡ ERASED
