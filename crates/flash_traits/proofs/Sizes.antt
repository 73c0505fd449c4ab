-- What the sizes of a sector have in common.
use Rattle.std.proofs.Common.{◌≡◌, ◌≢◌, ◌≤◌, inl, inr, ℕ, ◌+◌, ◌*◌, ◌/◌, arith}
use Rattle.flash_traits.specs.Words.{IsSectorSize, region_length}
use Rattle.flash_traits.specs.Budget.{header_bytes, copy_bytes, chunks}
use Rattle.flash_traits.specs.declared.board.Region.{Region}
use Rattle.flash_traits.specs.declared.board.Region.TheVariants.{S0, S1, Guard}

-- as one claim, so that the sizes are told apart in one place
record Common (n : ℕ) : Type 0 where
  even : 2 * (n / 2) ≡ n
  copy : header_bytes + copy_bytes * chunks ≤ n
  most : n ≤ 131072

common : (n : ℕ) → IsSectorSize n → Common n
common n (inl is) = record { even = omega (arith, is); copy = omega (arith, is); most = omega (arith, is) }
common n (inr (inl is)) = record { even = omega (arith, is); copy = omega (arith, is); most = omega (arith, is) }
common n (inr (inr (inl is))) = record { even = omega (arith, is); copy = omega (arith, is); most = omega (arith, is) }
common n (inr (inr (inr is))) = record { even = omega (arith, is); copy = omega (arith, is); most = omega (arith, is) }

-- a sector has an even number of bytes
pub size_even : (n : ℕ) → IsSectorSize n → 2 * (n / 2) ≡ n
size_even n is = (common n is).even

-- a full copy of the storage has room in a sector, beside its header
pub holds_copy : (n : ℕ) → IsSectorSize n → header_bytes + copy_bytes * chunks ≤ n
holds_copy n is = (common n is).copy

pub size_at_most : (n : ℕ) → IsSectorSize n → n ≤ 131072
size_at_most n is = (common n is).most

-- no sector has 0 bytes
pub size_not_zero : (n : ℕ) → IsSectorSize n → n ≢ 0
size_not_zero n is = λ zero. omega (arith, holds_copy n is, zero)

-- the header has room in a sector
pub half_at_least : (n : ℕ) → IsSectorSize n → 2 ≤ n / 2
half_at_least n is = omega (arith, holds_copy n is)

-- each region has two halfwords at least
pub two_halfwords : (n : ℕ) → IsSectorSize n → (r : Region) → 2 ≤ region_length n r
two_halfwords n is S0 = half_at_least n is
two_halfwords n is S1 = half_at_least n is
two_halfwords n is Guard = omega arith
