-- Which patterns are those of whole numbers.
use Rattle.std.proofs.Common.{ℕ, ◌≡◌, ◌≢◌, ◌+◌, ◌-◌, ◌*◌, ◌/◌, ◌%◌, ◌^◌, ◌<◌, ◌≤◌, ◌⊎◌, inl, inr, sym, ap, ◌∙◌, arith}
use Rattle.std.proofs.lemmas.Bool.{cases_lt}
use Rattle.std.proofs.lemmas.Nat.{pow-add, pow_pos, mul-le, mod-mul-add, div-add-mod'}
use Rattle.std.proofs.Math.Nat.{pow-le-pow_right, mul-lt-mul_of_pos_right, div-le_self}
use Rattle.word_bits.specs.Pattern.{magnitude}
use Rattle.word_bits.proofs.Magnitude.{magnitude-at, magnitude-small}

cancel : (a b k : ℕ) → 0 < k → a * k ≡ b * k → a ≡ b
cancel a b k pos e =
    elim (cases_lt a b) [
      | inl x ↦ let y : a * k < b * k = mul-lt-mul_of_pos_right x pos in absurd (omega arith)
      | inr x ↦ elim (cases_lt b a) [
        | inl z ↦ let y : b * k < a * k = mul-lt-mul_of_pos_right z pos in absurd (omega arith)
        | inr z ↦ omega arith
      ]
    ]

-- q digits, x places up, are n: below place 149 the digits are n times 2 ^ s
low_digits : (x s q n : ℕ) → x + s ≡ 149 → q * 2 ^ x ≡ n * 2 ^ 149 → q ≡ n * 2 ^ s
low_digits x s q n sum e =
    let w : 2 ^ 149 ≡ 2 ^ s * 2 ^ x = ap (λ k. 2 ^ k) (let f : 149 ≡ s + x = omega arith in f) ∙ pow-add 2 s x in
    let g : q * 2 ^ x ≡ n * 2 ^ s * 2 ^ x = e ∙ ap (λ k. n * k) w ∙ (omega arith) in
    cancel q (n * 2 ^ s) (2 ^ x) (pow_pos x) g

pub low_whole : (x s q n : ℕ) → x + s ≡ 149 → q ≡ n * 2 ^ s → q * 2 ^ x ≡ n * 2 ^ 149
low_whole x s q n sum e =
    let w : 2 ^ 149 ≡ 2 ^ s * 2 ^ x = ap (λ k. 2 ^ k) (let f : 149 ≡ s + x = omega arith in f) ∙ pow-add 2 s x in
    let g : n * 2 ^ s * 2 ^ x ≡ n * (2 ^ s * 2 ^ x) = omega arith in
    ap (λ k. k * 2 ^ x) e ∙ g ∙ ap (λ k. n * k) (sym w)

-- above it they are moved up
high_whole : (x s q : ℕ) → x ≡ 149 + s → q * 2 ^ x ≡ q * 2 ^ s * 2 ^ 149
high_whole x s q e =
    let w : 2 ^ x ≡ 2 ^ 149 * 2 ^ s = ap (λ k. 2 ^ k) e ∙ pow-add 2 149 s in
    ap (λ k. q * k) w ∙ (omega arith)

too_low : (x q n : ℕ) → x < 126 → 2 ^ 23 ≤ q → q < 2 ^ 24 → q * 2 ^ x ≢ n * 2 ^ 149
too_low x q n less low high e =
    let d : q ≡ n * 2 ^ (149 - x) = low_digits x (149 - x) q n (omega arith) e in
    let big : 2 ^ 24 ≤ 2 ^ (149 - x) = pow-le-pow_right {n = 2} (omega arith) {i = 24} {j = 149 - x} (omega arith) in
    elim (cases_lt 0 n) [
      | inl pos ↦ let y : 1 * 2 ^ 24 ≤ n * 2 ^ (149 - x) = mul-le 1 (2 ^ 24) n (2 ^ (149 - x)) pos big in omega arith
      | inr none ↦ let z : n ≡ 0 = omega arith in let y : n * 2 ^ (149 - x) ≡ 0 * 2 ^ (149 - x) = ap (λ k. k * 2 ^ (149 - x)) z in omega arith
    ]

too_high : (x q n : ℕ) → 158 ≤ x → 2 ^ 23 ≤ q → n ≤ 2 ^ 31 → q * 2 ^ x ≢ n * 2 ^ 149
too_high x q n more low fits e =
    let h = high_whole x (x - 149) q (omega arith) in
    let big : 2 ^ 9 ≤ 2 ^ (x - 149) = pow-le-pow_right {n = 2} (omega arith) {i = 9} {j = x - 149} (omega arith) in
    let y : 2 ^ 23 * 2 ^ 9 ≤ q * 2 ^ (x - 149) = mul-le (2 ^ 23) (2 ^ 9) q (2 ^ (x - 149)) low big in
    omega arith

-- the pattern's exponent and digits
pub by_digits : (m : ℕ) → 2 ^ 23 ≤ m → magnitude m ≡ (m % 2 ^ 23 + 2 ^ 23) * 2 ^ (m / 2 ^ 23 - 1)
by_digits m h =
    let e : m ≡ (m / 2 ^ 23 - 1) * 2 ^ 23 + (m % 2 ^ 23 + 2 ^ 23) = omega arith in
    ap magnitude e ∙ magnitude-at (m / 2 ^ 23 - 1) (m % 2 ^ 23 + 2 ^ 23) (omega arith) (omega arith)

-- None for a number below 1 that is not 0, and for one of 2 ^ 32 or more
pub none_outside : (m n : ℕ) → 0 < m → (m / 2 ^ 23 < 127) ⊎ (158 < m / 2 ^ 23) → n ≤ 2 ^ 31 → magnitude m ≢ n * 2 ^ 149
none_outside m n pos out fits e =
    elim (cases_lt m (2 ^ 23)) [
      | inl small ↦ let s = magnitude-small m small in elim (cases_lt 0 n) [ inl x ↦ omega arith | inr x ↦ omega arith ]
      | inr large ↦
          let f = sym (by_digits m large) ∙ e in
          elim out [
            | inl x ↦ too_low (m / 2 ^ 23 - 1) (m % 2 ^ 23 + 2 ^ 23) n (omega arith) (omega arith) (omega arith) f
            | inr x ↦ too_high (m / 2 ^ 23 - 1) (m % 2 ^ 23 + 2 ^ 23) n (omega arith) (omega arith) fits f
          ]
    ]

pub some_low : (m u : ℕ) → 127 ≤ m / 2 ^ 23 → m / 2 ^ 23 < 150 → u ≡ 2 ^ (150 - m / 2 ^ 23) → 0 < u → (m % 2 ^ 23 + 2 ^ 23) % u ≡ 0 → ((m % 2 ^ 23 + 2 ^ 23) / u ≤ 2 ^ 31) × (magnitude m ≡ (m % 2 ^ 23 + 2 ^ 23) / u * 2 ^ 149)
some_low m u low high e pos zero_rest =
    let q : ℕ = m % 2 ^ 23 + 2 ^ 23 in
    let whole : q ≡ q / u * u = omega (arith, div-add-mod' q u) in (
      omega (arith, div-le_self q u),
      by_digits m (omega arith) ∙ low_whole (m / 2 ^ 23 - 1) (150 - m / 2 ^ 23) q (q / u) (omega arith) (whole ∙ ap (λ k. q / u * k) e),
    )

pub none_low : (m u n : ℕ) → 127 ≤ m / 2 ^ 23 → m / 2 ^ 23 < 150 → u ≡ 2 ^ (150 - m / 2 ^ 23) → 0 < u → (m % 2 ^ 23 + 2 ^ 23) % u ≢ 0 → magnitude m ≢ n * 2 ^ 149
none_low m u n low high e pos some_rest f =
    let q : ℕ = m % 2 ^ 23 + 2 ^ 23 in
    let d : q ≡ n * 2 ^ (150 - m / 2 ^ 23) = low_digits (m / 2 ^ 23 - 1) (150 - m / 2 ^ 23) q n (omega arith) (sym (by_digits m (omega arith)) ∙ f) in
    let g : q ≡ n * u + 0 = d ∙ ap (λ k. n * k) (sym e) ∙ (omega arith) in
    some_rest (ap (λ k. k % u) g ∙ mod-mul-add n u 0 pos)

pub some_high : (m : ℕ) → 150 ≤ m / 2 ^ 23 → magnitude m ≡ (m % 2 ^ 23 + 2 ^ 23) * 2 ^ (m / 2 ^ 23 - 150) * 2 ^ 149
some_high m low = by_digits m (omega arith) ∙ high_whole (m / 2 ^ 23 - 1) (m / 2 ^ 23 - 150) (m % 2 ^ 23 + 2 ^ 23) (omega arith)

pub none_high : (m n : ℕ) → 150 ≤ m / 2 ^ 23 → 2 ^ 31 < (m % 2 ^ 23 + 2 ^ 23) * 2 ^ (m / 2 ^ 23 - 150) → n ≤ 2 ^ 31 → magnitude m ≢ n * 2 ^ 149
none_high m n low large fits e = let h = some_high m low in omega arith
