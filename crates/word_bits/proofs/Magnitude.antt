-- The value of a pattern without its sign: its parts, its neighbour, and that it grows with the pattern.
use Rattle.std.proofs.Common.{ℕ, zero, suc, ◌≡◌, ◌+◌, ◌-◌, ◌*◌, ◌/◌, ◌%◌, ◌^◌, ◌<◌, ◌≤◌, inl, inr, refl, arith}
use Rattle.std.proofs.lemmas.Bool.{cases_lt}
use Rattle.std.proofs.lemmas.Nat.{pow_pos}
use Rattle.std.proofs.lemmas.Grind.{pow_more}
use Rattle.word_bits.specs.Pattern.{magnitude}

-- with exponent bits 0 the fraction alone
pub magnitude-small : (m : ℕ) → m < 2 ^ 23 → magnitude m ≡ m
unfolding magnitude
magnitude-small m h =
    let e : m / 2 ^ 23 ≡ 0 = omega arith in
    let r : m % 2 ^ 23 ≡ m = omega arith in
    rw (e, r) refl

-- 24 binary digits q, x binary places up
pub magnitude-at : (x q : ℕ) → 2 ^ 23 ≤ q → q < 2 ^ 24 → magnitude (x * 2 ^ 23 + q) ≡ q * 2 ^ x
unfolding magnitude
magnitude-at x q low high =
    let e : (x * 2 ^ 23 + q) / 2 ^ 23 ≡ suc x = omega arith in
    let r : (x * 2 ^ 23 + q) % 2 ^ 23 ≡ q - 2 ^ 23 = omega arith in
    let back : 2 ^ 23 + (q - 2 ^ 23) ≡ q = omega arith in
    rw (e, r, back) refl

pub magnitude-next : (x q : ℕ) → 2 ^ 23 ≤ q → q < 2 ^ 24 → magnitude (x * 2 ^ 23 + q + 1) ≡ (q + 1) * 2 ^ x
magnitude-next x q low high =
    elim (cases_lt (q + 1) (2 ^ 24)) [
      | inl less ↦
          let e : x * 2 ^ 23 + q + 1 ≡ x * 2 ^ 23 + (q + 1) = omega arith in
          rw e (magnitude-at x (q + 1) (omega arith) less)
      | inr more ↦
          let e : x * 2 ^ 23 + q + 1 ≡ (x + 1) * 2 ^ 23 + 2 ^ 23 = omega arith in
          let f : q + 1 ≡ 2 ^ 24 = omega arith in
          rw (e, magnitude-at (x + 1) (2 ^ 23) (omega arith) (omega arith), f, pow_more 2 x) (omega arith)
    ]

-- a pattern with no sign is small, or has its 24 digits and their place
pub parts : (m : ℕ) → 2 ^ 23 ≤ m → (x : ℕ) × (q : ℕ) × (m ≡ x * 2 ^ 23 + q) × (2 ^ 23 ≤ q) × (q < 2 ^ 24)
parts m h = (m / 2 ^ 23 - 1, m % 2 ^ 23 + 2 ^ 23, omega arith, omega arith, omega arith)

pub magnitude-grows : (m : ℕ) → magnitude m < magnitude (m + 1)
magnitude-grows m =
    elim (cases_lt m (2 ^ 23)) [
      | inl less ↦ elim (cases_lt (m + 1) (2 ^ 23)) [
        | inl more ↦ rw (magnitude-small m less, magnitude-small (m + 1) more) (omega arith)
        | inr top ↦
            let e : m + 1 ≡ 0 * 2 ^ 23 + 2 ^ 23 = omega arith in
            rw (magnitude-small m less, e, magnitude-at 0 (2 ^ 23) (omega arith) (omega arith)) (omega arith)
      ]
      | inr large ↦
          let s = parts m large in
          let x = s.0 in let q = s.1 in
          rw (s.2, magnitude-at x q s.3 s.4, magnitude-next x q s.3 s.4) (omega (arith, pow_pos x))
    ]

magnitude-up : (m n : ℕ) → magnitude m ≤ magnitude (m + n)
magnitude-up m zero = rw (let e : m + 0 ≡ m = omega arith in e) (omega arith)
magnitude-up m (suc n) =
    let e : m + suc n ≡ m + n + 1 = omega arith in
    rw e (omega (arith, magnitude-up m n, magnitude-grows (m + n)))

pub magnitude-le : (m n : ℕ) → m ≤ n → magnitude m ≤ magnitude n
magnitude-le m n h =
    let e : m + (n - m) ≡ n = omega arith in
    rw e at (magnitude-up m (n - m))

pub magnitude-lt : (m n : ℕ) → m < n → magnitude m < magnitude n
magnitude-lt m n h = omega (arith, magnitude-grows m, magnitude-le (m + 1) n (omega arith))
