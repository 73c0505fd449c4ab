-- Which of the two patterns around a quotient is nearest to it.
use Rattle.std.proofs.Common.{ℕ, ◌≡◌, ◌≢◌, ◌+◌, ◌*◌, ◌/◌, ◌%◌, ◌^◌, ◌<◌, ◌≤◌, ◌⊎◌, inl, inr, sym, ap, ◌∙◌, arith}
use Rattle.std.proofs.lemmas.Bool.{cases_lt, cases_order}
use Rattle.std.proofs.lemmas.Nat.{pow-add, div_below, mod_below, div-add-mod'}
use Rattle.std.proofs.Math.Nat.{mul-le-mul_left, mul-lt-mul_of_pos_left}
use Rattle.word_bits.specs.Pattern.{magnitude}
use Rattle.word_bits.specs.Rounding.{apart, IsNearestMagnitude}
use Rattle.word_bits.proofs.Magnitude.{magnitude-at, magnitude-next, magnitude-le, magnitude-lt}

-- how a pattern lies to the two at t
below : (d m n : ℕ) → m ≤ n → d * magnitude m ≤ d * magnitude n
below d m n h = mul-le-mul_left d (magnitude-le m n h)

strictly : (d m n : ℕ) → 0 < d → m < n → d * magnitude m < d * magnitude n
strictly d m n p h = mul-lt-mul_of_pos_left (magnitude-lt m n h) p

far_low : (a l h t : ℕ) → l ≤ t → t ≤ h → t + t ≤ l + h → (a ≤ l) ⊎ (h ≤ a) → apart l t ≤ apart a t
far_low a l h t p q r s = elim s [ inl x ↦ omega arith | inr x ↦ omega arith ]

far_high : (a l h t : ℕ) → l ≤ t → t ≤ h → l + h ≤ t + t → (a ≤ l) ⊎ (h ≤ a) → apart h t ≤ apart a t
far_high a l h t p q r s = elim s [ inl x ↦ omega arith | inr x ↦ omega arith ]

tie_low : (a l h t : ℕ) → l ≤ t → t ≤ h → t + t ≤ l + h → (a < l) ⊎ (h ≤ a) → apart a t ≡ apart l t → t + t ≡ l + h
tie_low a l h t p q r s e = elim s [ inl x ↦ absurd (omega arith) | inr x ↦ omega arith ]

tie_high : (a l h t : ℕ) → l ≤ t → t ≤ h → l + h ≤ t + t → (a ≤ l) ⊎ (h < a) → apart a t ≡ apart h t → t + t ≡ l + h
tie_high a l h t p q r s e = elim s [ inl x ↦ omega arith | inr x ↦ absurd (omega arith) ]

nearest_low : (d t m : ℕ) → 0 < d → d * magnitude m ≤ t → t ≤ d * magnitude (m + 1) → t + t ≤ d * magnitude m + d * magnitude (m + 1) → (t + t ≡ d * magnitude m + d * magnitude (m + 1) → m % 2 ≡ 0) → IsNearestMagnitude d t m
nearest_low d t m pos low high side even = record {
  nearest = λ n. far_low (d * magnitude n) (d * magnitude m) (d * magnitude (m + 1)) t low high side
      (elim (cases_lt m n) [ inl x ↦ inr (below d (m + 1) n (omega arith)) | inr x ↦ inl (below d n m x) ]);
  even_at_tie = λ n other e. even (tie_low (d * magnitude n) (d * magnitude m) (d * magnitude (m + 1)) t low high side
      (elim (cases_order n m) [ inl x ↦ absurd (other (ap magnitude x)) | inr y ↦ elim y [ inl x ↦ inl (strictly d n m pos x) | inr x ↦ inr (below d (m + 1) n (omega arith)) ] ]) e);
}

nearest_high : (d t m : ℕ) → 0 < d → d * magnitude m ≤ t → t ≤ d * magnitude (m + 1) → d * magnitude m + d * magnitude (m + 1) ≤ t + t → (t + t ≡ d * magnitude m + d * magnitude (m + 1) → (m + 1) % 2 ≡ 0) → IsNearestMagnitude d t (m + 1)
nearest_high d t m pos low high side even = record {
  nearest = λ n. far_high (d * magnitude n) (d * magnitude m) (d * magnitude (m + 1)) t low high side
      (elim (cases_lt m n) [ inl x ↦ inr (below d (m + 1) n (omega arith)) | inr x ↦ inl (below d n m x) ]);
  even_at_tie = λ n other e. even (tie_high (d * magnitude n) (d * magnitude m) (d * magnitude (m + 1)) t low high side
      (elim (cases_order n (m + 1)) [ inl x ↦ absurd (other (ap magnitude x)) | inr y ↦ elim y [ inl x ↦ inl (below d n m (omega arith)) | inr x ↦ inr (strictly d (m + 1) n pos x) ] ]) e);
}

-- the quotient q and the rest r of a * 2 ^ 31 by d * 2 ^ place: where the two patterns next to a / d lie.
record Lies (a d place q r : ℕ) : Type 0 where
  low : d * magnitude ((118 + place) * 2 ^ 23 + q) + r * 2 ^ 118 ≡ a * 2 ^ 149
  high : d * magnitude ((118 + place) * 2 ^ 23 + q + 1) ≡ d * magnitude ((118 + place) * 2 ^ 23 + q) + d * 2 ^ place * 2 ^ 118

lies : (a d place q r : ℕ) → 2 ^ 23 ≤ q → q < 2 ^ 24 → a * 2 ^ 31 ≡ d * 2 ^ place * q + r → Lies a d place q r
lies a d place q r p s e =
    let w = pow-add 2 118 place in
    record {
      low = rw (magnitude-at (118 + place) q p s, w) (omega arith);
      high = rw (magnitude-at (118 + place) q p s, magnitude-next (118 + place) q p s, w) (omega arith);
    }

even_low : (x q : ℕ) → q % 2 ≡ 0 → (x * 2 ^ 23 + q) % 2 ≡ 0
even_low x q h = omega arith

odd_low : (x q : ℕ) → q % 2 ≢ 0 → (x * 2 ^ 23 + q + 1) % 2 ≡ 0
odd_low x q h = omega arith

round_down : (a d place q r : ℕ) → 0 < d → 2 ^ 23 ≤ q → q < 2 ^ 24 → a * 2 ^ 31 ≡ d * 2 ^ place * q + r → r < d * 2 ^ place → 2 * r ≤ d * 2 ^ place → (2 * r ≡ d * 2 ^ place → q % 2 ≡ 0) → IsNearestMagnitude d (a * 2 ^ 149) ((118 + place) * 2 ^ 23 + q)
round_down a d place q r pos p s e less side even =
    let l = lies a d place q r p s e in
    nearest_low d (a * 2 ^ 149) ((118 + place) * 2 ^ 23 + q) pos (omega (arith, l.low)) (omega (arith, l.low, l.high)) (omega (arith, l.low, l.high))
    (λ tie. even_low (118 + place) q (even (omega (arith, l.low, l.high, tie))))

round_up : (a d place q r : ℕ) → 0 < d → 2 ^ 23 ≤ q → q < 2 ^ 24 → a * 2 ^ 31 ≡ d * 2 ^ place * q + r → r < d * 2 ^ place → d * 2 ^ place ≤ 2 * r → (2 * r ≡ d * 2 ^ place → q % 2 ≢ 0) → IsNearestMagnitude d (a * 2 ^ 149) ((118 + place) * 2 ^ 23 + q + 1)
round_up a d place q r pos p s e less side odd =
    let l = lies a d place q r p s e in
    nearest_high d (a * 2 ^ 149) ((118 + place) * 2 ^ 23 + q) pos (omega (arith, l.low)) (omega (arith, l.low, l.high)) (omega (arith, l.low, l.high))
    (λ tie. odd_low (118 + place) q (odd (omega (arith, l.low, l.high, tie))))

-- what the quotient and the rest of the code are
record Digits (n u d place : ℕ) : Type 0 where
  low : 2 ^ 23 ≤ n / u
  high : n / u < 2 ^ 24
  sum : n ≡ d * 2 ^ place * (n / u) + n % u
  rest : n % u < d * 2 ^ place

digits_of : (n d place u v : ℕ) → u ≡ d * 2 ^ place → v ≡ d * 2 ^ place → 0 < u → 2 ^ 23 ≤ n / v → n < 2 ^ 24 * (d * 2 ^ place) → Digits n u d place
digits_of n d place u v e f pos low high = record {
  low = let same : v ≡ u = f ∙ sym e in rw same at low;
  high = div_below n u (2 ^ 24) pos (rw e high);
  sum = let whole : n ≡ u * (n / u) + n % u = omega (arith, div-add-mod' n u) in whole ∙ ap (λ w. w * (n / u) + n % u) e;
  rest = omega (arith, mod_below n u pos, e);
}

pub nearest_down : (a d place u v : ℕ) → 0 < d → u ≡ d * 2 ^ place → v ≡ d * 2 ^ place → 0 < u → 2 ^ 23 ≤ a * 2 ^ 31 / v → a * 2 ^ 31 < 2 ^ 24 * (d * 2 ^ place) → 2 * (a * 2 ^ 31 % u) + a * 2 ^ 31 / u % 2 ≤ u → IsNearestMagnitude d (a * 2 ^ 149) ((118 + place) * 2 ^ 23 + a * 2 ^ 31 / u)
nearest_down a d place u v dpos e f pos low high side =
    let g = digits_of (a * 2 ^ 31) d place u v e f pos low high in
    round_down a d place (a * 2 ^ 31 / u) (a * 2 ^ 31 % u) dpos g.low g.high g.sum g.rest (omega (arith, e)) (λ tie. omega (arith, e, tie))

pub nearest_up : (a d place u v : ℕ) → 0 < d → u ≡ d * 2 ^ place → v ≡ d * 2 ^ place → 0 < u → 2 ^ 23 ≤ a * 2 ^ 31 / v → a * 2 ^ 31 < 2 ^ 24 * (d * 2 ^ place) → u < 2 * (a * 2 ^ 31 % u) + a * 2 ^ 31 / u % 2 → IsNearestMagnitude d (a * 2 ^ 149) ((118 + place) * 2 ^ 23 + a * 2 ^ 31 / u + 1)
nearest_up a d place u v dpos e f pos low high side =
    let g = digits_of (a * 2 ^ 31) d place u v e f pos low high in
    round_up a d place (a * 2 ^ 31 / u) (a * 2 ^ 31 % u) dpos g.low g.high g.sum g.rest (omega (arith, e)) (λ tie even. absurd (omega (arith, e, tie, even)))
