-- Numbers as bytes, the lowest first.
use Rattle.std.specs.Prelude.{ℕ, zero, suc, ℤ, pos, negsuc, neg_ℤ, ◌<◌, ◌+◌, ◌-◌, ◌*◌, ◌/◌, ◌%◌, ◌^◌, List, [], ◌∷◌, nat_lt, if◌then◌else◌}

-- so many bytes of a number
unfoldable pub bytes_of_number : ℕ → ℕ → List ℕ
bytes_of_number zero n = []
bytes_of_number (suc w) n = (n % 256) ∷ bytes_of_number w (n / 256)

-- the number that bytes spell
unfoldable pub number_of : List ℕ → ℕ
number_of [] = 0
number_of (b ∷ bs) = b + 256 * number_of bs

-- a number's two's complement in so many bytes
abbrev pub unsigned : ℕ → ℤ → ℕ
unsigned w (pos n) = n
unsigned w (negsuc n) = 256 ^ w - (n + 1)

-- and the number that a two's complement in so many bytes stands for
abbrev pub signed_of : ℕ → ℕ → ℤ
signed_of w n = if nat_lt (2 * n) (256 ^ w) then pos n else neg_ℤ (pos (256 ^ w - n))

-- a number that so many bytes have in two's complement, or with no sign
abbrev pub FitsBytes : ℕ → ℤ → Type 0
FitsBytes w (pos n) = n < 256 ^ w
FitsBytes w (negsuc n) = 2 * n < 256 ^ w
