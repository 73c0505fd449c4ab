-- Division of polynomials over two elements. A polynomial is the list of its coefficients, 0 or 1,
-- the highest power first.
use Rattle.std.specs.Prelude.{ℕ, zero, suc, ◌≡◌, ◌+◌, ◌*◌, ◌/◌, ◌%◌, ◌^◌, ◌<◌, List, [], ◌∷◌, ◌++◌, length, replicate}

-- the sum over two elements, the lists laid with their fronts together
abbrev pub add : List ℕ → List ℕ → List ℕ
add [] ys = ys
add (x ∷ xs) [] = x ∷ xs
add (x ∷ xs) (y ∷ ys) = (x + y) % 2 ∷ add xs ys

-- c times the polynomial
abbrev pub scale : ℕ → List ℕ → List ℕ
scale c [] = []
scale c (x ∷ xs) = c * x ∷ scale c xs

-- the product: each coefficient of q times d, one place further along
abbrev pub product : List ℕ → List ℕ → List ℕ
product [] d = []
product (c ∷ q) d = add (scale c d) (0 ∷ product q d)

-- every coefficient is 0 or 1
abbrev pub AreBits : List ℕ → Type 0
AreBits [] = Unit {0}
AreBits (x ∷ xs) = (x < 2) × AreBits xs

-- r is the remainder of v divided by d: v is d times a quotient, plus r in the last places, and r
-- is shorter than d
pub record IsRemainder (d v r : List ℕ) : Type 0 where
  pub quotient : List ℕ
  pub bits : AreBits quotient
  pub width : length r + 1 ≡ length d
  pub lengths : length quotient + length r ≡ length v
  pub sum : v ≡ add (product quotient d) (replicate (length quotient) 0 ++ r)

-- x ^ 16 + x ^ 12 + x ^ 5 + 1
abbrev pub divisor : List ℕ
divisor = 1 ∷ 0 ∷ 0 ∷ 0 ∷ 1 ∷ 0 ∷ 0 ∷ 0 ∷ 0 ∷ 0 ∷ 0 ∷ 1 ∷ 0 ∷ 0 ∷ 0 ∷ 0 ∷ 1 ∷ []

-- the k lowest bits of n, the lowest first
abbrev pub low_bits : ℕ → ℕ → List ℕ
low_bits zero n = []
low_bits (suc k) n = n % 2 ∷ low_bits k (n / 2)

-- the bits of the bytes, each byte's lowest bit first
abbrev pub bits_of_bytes : List ℕ → List ℕ
bits_of_bytes [] = []
bits_of_bytes (b ∷ bs) = low_bits 8 b ++ bits_of_bytes bs

-- what is divided: the bits of the bytes and sixteen zeros, with the start value's bits added to
-- the first sixteen
abbrev pub dividend : ℕ → List ℕ → List ℕ
dividend start bytes = add (low_bits 16 start) (bits_of_bytes bytes ++ replicate 16 0)

-- The CRC of the bytes from a start value: the remainder, whose first bit is the lowest of the CRC.
pub record IsCrc (start : ℕ) (bytes : List ℕ) (crc : ℕ) : Type 0 where
  pub fits : crc < 2 ^ 16
  pub remainder : IsRemainder divisor (dividend start bytes) (low_bits 16 crc)
