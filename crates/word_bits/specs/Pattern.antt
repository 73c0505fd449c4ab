-- Which numbers the patterns of binary32 (IEEE 754) stand for, in whole numbers alone: each finite
-- value is a multiple of 2 ^ -149.
use Rattle.std.specs.Prelude.{ℕ, zero, suc, ◌≡◌, ◌≢◌, ◌+◌, ◌*◌, ◌/◌, ◌%◌, ◌^◌, ◌<◌, ◌≤◌, Bool, true, false, nat_lt, nat_le, ◌&&◌, ℤ, pos, negsuc, ◌-ℤ◌, ◌*ℤ◌, ◌≤ℤ◌, neg_ℤ, unsigned_abs, FitsSigned}
use Rattle.std.specs.Int.{w32}

-- of a pattern without its sign: the exponent's eight bits
abbrev pub exponent : ℕ → ℕ
exponent m = m / 2 ^ 23

-- of a pattern without its sign: the fraction's 23 bits
abbrev pub fraction : ℕ → ℕ
fraction m = m % 2 ^ 23

-- the value with exponent bits e and fraction f, times 2 ^ 149: with exponent bits 0 the fraction
-- alone, else the fraction after a leading one, doubled for each exponent above 1
abbrev pub number_at : ℕ → ℕ → ℕ
number_at zero f = f
number_at (suc e) f = (2 ^ 23 + f) * 2 ^ e

-- the value of a pattern without its sign, times 2 ^ 149
unfoldable pub magnitude : ℕ → ℕ
magnitude m = number_at (exponent m) (fraction m)

-- a, or its negative
abbrev pub signed : Bool → ℕ → ℤ
signed true a = neg_ℤ (pos a)
signed false a = pos a

-- the highest of the 32 bits is the sign
abbrev pub is_negative : ℕ → Bool
is_negative p = nat_le (2 ^ 31) p

-- the value of the pattern p, times 2 ^ 149
abbrev pub scaled : ℕ → ℤ
scaled p = signed (is_negative p) (magnitude (p % 2 ^ 31))

-- the 32 bits p are the pattern of a number, not of an infinity or a NaN: the exponent's bits are
-- not all ones
abbrev pub IsFinite : ℕ → Type 0
IsFinite p = (p < 2 ^ 32) × (exponent (p % 2 ^ 31) < 0xFF)

-- the same as a test
abbrev pub is_finite : ℕ → Bool
is_finite p = nat_lt p (2 ^ 32) && nat_lt (exponent (p % 2 ^ 31)) 0xFF

-- how far the value of p is from k / d, times d * 2 ^ 149
abbrev pub distance : ℕ → ℤ → ℕ → ℕ
distance p k d = unsigned_abs ((pos d *ℤ scaled p) -ℤ (k *ℤ pos (2 ^ 149)))

-- p is a pattern nearest to k / d, ties to even: no finite pattern is nearer, and where another
-- number is as near, the lowest bit of p is 0. Only 0 has two such patterns, since minus zero is
-- the same number.
pub record IsNearest (p : ℕ) (k : ℤ) (d : ℕ) : Type 0 where
  pub finite : IsFinite p
  pub nearest : (q : ℕ) → IsFinite q → distance p k d ≤ distance q k d
  pub even_at_tie : (q : ℕ) → IsFinite q → scaled q ≢ scaled p
      → distance q k d ≡ distance p k d → p % 2 ≡ 0

-- p is a pattern of n, a whole number in the range of an i32
pub record IsWhole (p : ℕ) (n : ℤ) : Type 0 where
  pub finite : IsFinite p
  pub fits : FitsSigned w32 n
  pub equal : scaled p ≡ (n *ℤ pos (2 ^ 149))

-- the counts of centimetres that are read and made: those of 24 bits, from -8,388,608 to 8,388,607
abbrev pub IsCentimetres : ℤ → Type 0
IsCentimetres k = (negsuc 8388607 ≤ℤ k) × (k ≤ℤ pos 8388607)

-- a pattern is nearest to a hundredth of one count at most: different counts of centimetres have
-- different patterns
abbrev pub HasOneCount : ℕ → Type 0
HasOneCount p = (j k : ℤ) → IsCentimetres j → IsCentimetres k
    → IsNearest p j 100 → IsNearest p k 100 → j ≡ k
