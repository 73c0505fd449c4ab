-- The divisor moved up by binary places.
use Rattle.std.proofs.Common.{ℕ, suc, ◌≡◌, ◌+◌, ◌-◌, ◌*◌, ◌/◌, ◌%◌, ◌^◌, ◌<◌, ◌≤◌, ap, ◌∙◌, arith}
use Rattle.std.proofs.lemmas.Nat.{shl_whole, shl_below, pow_pos, le-div, pow-add, leading_top}
use Rattle.std.specs.Int.Count.{count_leading_zeros}
use Rattle.std.proofs.lemmas.Bool.{cases_lt}
use Rattle.std.proofs.Common.{inl, inr}
use Rattle.std.proofs.lemmas.Grind.{pow_more}
use Rattle.std.proofs.Math.Nat.{pow-le-pow_right, mul-pos}

pub shifted : (d k : ℕ) → d ≤ 128 → k < 40 → d * 2 ^ k % 2 ^ 64 ≡ d * 2 ^ k
shifted d k small near = shl_whole d 8 k 64 (omega arith) (omega arith)

pub unit_bounds : (d k : ℕ) → 0 < d → d ≤ 128 → k < 40 → (0 < d * 2 ^ k) × (d * 2 ^ k < 2 ^ 48)
unit_bounds d k pos small near =
    let below : d * 2 ^ k < 2 ^ (8 + k) = shl_below d 8 k (omega arith) in
    let most : 2 ^ (8 + k) ≤ 2 ^ 48 = pow-le-pow_right {n = 2} (omega arith) {i = 8 + k} {j = 48} (omega arith) in
    (mul-pos pos (pow_pos k), omega arith)

-- one place lower the quotient has one digit more
halved : (d k : ℕ) → 0 < k → d * 2 ^ k ≡ 2 * (d * 2 ^ (k - 1))
halved d k h =
    let e : k ≡ (k - 1) + 1 = omega arith in
    let f : 2 ^ k ≡ 2 ^ (k - 1) * 2 = ap (λ j. 2 ^ j) e ∙ pow_more 2 (k - 1) in
    rw f (omega arith)

below_product : (n u m : ℕ) → 0 < u → n / u < m → n < m * u
below_product n u m pos h = elim (cases_lt n (m * u)) [ inl x ↦ x | inr x ↦ let y = le-div m n u pos x in absurd (omega arith) ]

pub one_lower : (n d k u : ℕ) → d ≤ 128 → 2 ^ 31 ≤ n → 0 < k → k < 40 → u ≡ d * 2 ^ k → 0 < u → n / u < 2 ^ 23 → (0 < k - 1) × (n < 2 ^ 24 * (d * 2 ^ (k - 1)))
one_lower n d k u small large pos near e upos h =
    let b : n < 2 ^ 23 * u = below_product n u (2 ^ 23) upos h in
    let half = halved d k pos in
    let more : n < 2 ^ 24 * (d * 2 ^ (k - 1)) = omega (arith, b, half, e) in
    let at_one : k - 1 ≡ 0 → ⊥ = λ z.
    let f : d * 2 ^ (k - 1) ≡ d * 2 ^ 0 = ap (λ j. d * 2 ^ j) z in
    omega (arith, more, f) in
    (elim (cases_lt 0 (k - 1)) [ inl x ↦ x | inr x ↦ absurd (at_one (omega arith)) ], more)

-- no digit lies above the first one, which the leading zeros tell
pub first_place : (n z : ℕ) → 0 < n → n < 2 ^ 32 → z ≡ count_leading_zeros 32 n → (0 < 39 - z) × (39 - z < 40) × (z ≤ 39) × (n * 2 ^ 31 < 2 ^ 24 * (1 * 2 ^ (39 - z)))
first_place n z pos low e =
    let top = leading_top 32 n pos low in
    let j = top.0 in
    let sum = top.1 in
    let below = top.3 in
    let place : 39 - z ≡ 7 + suc j = omega arith in
    let power : 2 ^ (39 - z) ≡ 2 ^ 7 * 2 ^ suc j = ap (λ (k : ℕ). 2 ^ k) place ∙ pow-add 2 7 (suc j) in
    (omega arith, omega arith, omega arith, omega arith)
