-- The laws of guard rows and their counts.
use Rattle.std.specs.Prelude.{◌≡◌, ◌≢◌, ◌⊎◌, ℕ, ◌+◌, List, Some, None}
use Rattle.flash_traits.specs.declared.board.Region.{Region}
use Rattle.guard_row.specs.Row.{IsGuardRow, FirstBad}
use Rattle.guard_row.specs.Home.{home_of, void_of, first_of, second_of}

-- Each list of halfwords is a guard row with one count or has one first failing place, and never
-- both.
pub record OneOfBoth : Type 0 where
  pub either : (row : List ℕ) → ((count : ℕ) × IsGuardRow row count)
      ⊎ ((place : ℕ) × (word : ℕ) × FirstBad row place word)
  pub never_both : (row : List ℕ) (count place word : ℕ) → IsGuardRow row count
      → FirstBad row place word → ⊥
  pub one_count : (row : List ℕ) (c d : ℕ) → IsGuardRow row c → IsGuardRow row d → c ≡ d
  pub one_place : (row : List ℕ) (p q v w : ℕ) → FirstBad row p v → FirstBad row q w → (p ≡ q)
      × (v ≡ w)

-- Each count says which sector is home or which is void, and never both. A step from a home makes
-- it void, and a step from a void sector makes the other one home. Of both sectors the first is the
-- home, and the second the void one.
pub record HomeOrVoid : Type 0 where
  pub either : (count : ℕ) → ((r : Region) × (home_of count ≡ Some r) × (void_of count ≡ None))
      ⊎ ((r : Region) × (void_of count ≡ Some r) × (home_of count ≡ None))
  pub voids_home : (count : ℕ) (r : Region) → home_of count ≡ Some r → void_of (count + 1) ≡ Some r
  pub opens_other : (count : ℕ) (r q : Region) → void_of count ≡ Some r
      → home_of (count + 1) ≡ Some q → q ≢ r
  pub first_home : (count : ℕ) (r : Region) → home_of count ≡ Some r → first_of count ≡ r
  pub second_void : (count : ℕ) (r : Region) → void_of count ≡ Some r → second_of count ≡ r
