-- Rounding of numbers with no sign, for the crate's own functions.
use Rattle.std.specs.Prelude.{ℕ, ◌≡◌, ◌≢◌, ◌+◌, ◌-◌, ◌*◌, ◌%◌, ◌^◌, ◌<◌, ◌≤◌}
use Rattle.word_bits.specs.Pattern.{magnitude}

-- how far two natural numbers are apart
abbrev pub apart : ℕ → ℕ → ℕ
apart a b = (a - b) + (b - a)

-- of the patterns without a sign none is nearer to t / d than m, and where another number is as
-- near, m is even
pub record IsNearestMagnitude (d t m : ℕ) : Type 0 where
  pub nearest : (n : ℕ) → apart (d * magnitude m) t ≤ apart (d * magnitude n) t
  pub even_at_tie : (n : ℕ) → magnitude n ≢ magnitude m
      → apart (d * magnitude n) t ≡ apart (d * magnitude m) t → m % 2 ≡ 0

-- the value of m, a pattern without its sign, is less than half a hundredth away from a hundredth
-- of a
abbrev pub IsNearCount : ℕ → ℕ → Type 0
IsNearCount m a = apart (100 * magnitude m) (a * 2 ^ 149) < 2 ^ 148
