-- A number has one nearest pattern, and a pattern is nearest to at most one count of centimetres.
use Rattle.std.proofs.Common.{ℕ, zero, suc, ◌≡◌, ◌≢◌, ◌+◌, ◌*◌, ◌%◌, ◌^◌, ◌<◌, ◌≤◌, inl, inr, refl, sym, ap, ◌∙◌, arith, Bool, true, false, not, unsigned_abs, le-leb, leb-true, leb-false}
use Rattle.std.proofs.lemmas.Bool.{cases_lt, cases_order, lt-leb}
use Rattle.std.proofs.Math.Nat.{mul-pos, mul-lt-mul_of_pos_left}
use Rattle.word_bits.specs.Pattern.{magnitude, signed, scaled, distance, is_negative, IsFinite, IsNearest}
use Rattle.word_bits.specs.Rounding.{apart}
use Rattle.word_bits.proofs.Magnitude.{magnitude-lt, magnitude-grows}
use Rattle.word_bits.proofs.Signs.{distance_same, distance_other, sides, from_zero}

-- the pattern of a sign and a magnitude
abbrev pub with_sign : Bool → ℕ → ℕ
with_sign true n = n + 2 ^ 31
with_sign false n = n

with_sign-rest : (s : Bool) (n : ℕ) → n < 2 ^ 31 → with_sign s n % 2 ^ 31 ≡ n
with_sign-rest true n h = omega arith
with_sign-rest false n h = omega arith

with_sign-sign : (s : Bool) (n : ℕ) → n < 2 ^ 31 → is_negative (with_sign s n) ≡ s
with_sign-sign true n h = le-leb (2 ^ 31) (n + 2 ^ 31) (omega arith)
with_sign-sign false n h = lt-leb (2 ^ 31) n h

with_sign-finite : (s : Bool) (n : ℕ) → n < 255 * 2 ^ 23 → IsFinite (with_sign s n)
with_sign-finite true n h = (omega arith, omega arith)
with_sign-finite false n h = (omega arith, omega arith)

-- a nearest pattern is as near as each magnitude with the number's sign
pub nearest_at : (p a d : ℕ) (s : Bool) → IsNearest p (signed s a) d → (n : ℕ) → n < 255 * 2 ^ 23 → distance p (signed s a) d ≤ apart (d * magnitude n) (a * 2 ^ 149)
nearest_at p a d s near n fits =
    let r = with_sign-rest s n (omega arith) in
    let e : distance (with_sign s n) (signed s a) d ≡ apart (d * magnitude n) (a * 2 ^ 149) =
    distance_same (with_sign s n) a d s (with_sign-sign s n (omega arith)) ∙ ap (λ u. apart (d * magnitude u) (a * 2 ^ 149)) r in
    omega (arith, e, near.nearest (with_sign s n) (with_sign-finite s n fits))

-- of the other sign only zero is nearest
other_zero : (p a d : ℕ) (s : Bool) → 0 < d → IsNearest p (signed s a) d → is_negative p ≡ not s → magnitude (p % 2 ^ 31) ≡ 0
other_zero p a d s dpos near e =
    let far = distance_other p a d s e in
    let close = nearest_at p a d s near 0 (omega arith) in
    elim (cases_lt 0 (magnitude (p % 2 ^ 31))) [
      | inl x ↦ absurd (omega (arith, far, close, from_zero d (a * 2 ^ 149), mul-pos dpos x))
      | inr x ↦ omega arith
    ]

pub nearest_distance : (p a d : ℕ) (s : Bool) → 0 < d → IsNearest p (signed s a) d → distance p (signed s a) d ≡ apart (d * magnitude (p % 2 ^ 31)) (a * 2 ^ 149)
nearest_distance p a d s dpos near =
    elim (sides (is_negative p) s) [
      | inl e ↦ distance_same p a d s e
      | inr e ↦
          let z = other_zero p a d s dpos near e in
          let f : d * magnitude (p % 2 ^ 31) ≡ d * 0 = ap (λ v. d * v) z in
          omega (arith, distance_other p a d s e, f)
    ]

positive : (m : ℕ) → 0 < m → 0 < magnitude m
positive m h = omega (arith, magnitude-lt 0 m h)

pub nearest_sign : (p a d : ℕ) (s : Bool) → 0 < d → IsNearest p (signed s a) d → 0 < p % 2 ^ 31 → is_negative p ≡ s
nearest_sign p a d s dpos near some =
    elim (sides (is_negative p) s) [
      | inl e ↦ e
      | inr e ↦ absurd (omega (arith, other_zero p a d s dpos near e, positive (p % 2 ^ 31) some))
    ]

abs-scaled : (s : Bool) (a : ℕ) → unsigned_abs (signed s a) ≡ a
abs-scaled false a = refl
abs-scaled true zero = refl
abs-scaled true (suc n) = refl

magnitude-inj : (m n : ℕ) → magnitude m ≡ magnitude n → m ≡ n
magnitude-inj m n e = elim (cases_order m n) [
  | inl x ↦ x
  | inr y ↦ elim y [ inl x ↦ absurd (omega (arith, e, magnitude-lt m n x)) | inr x ↦ absurd (omega (arith, e, magnitude-lt n m x)) ]
]

between : (l m h t : ℕ) → l < m → m < h → apart l t ≡ apart h t → apart m t < apart l t
between l m h t p q e = omega arith

-- of two magnitudes as near as any, with even patterns where they differ, none is smaller
no_gap : (m n d t : ℕ) → 0 < d → m < n → m % 2 ≡ 0 → n % 2 ≡ 0 → apart (d * magnitude m) t ≡ apart (d * magnitude n) t → apart (d * magnitude m) t ≤ apart (d * magnitude (m + 1)) t → ⊥
no_gap m n d t dpos less even_m even_n same near =
    let up : d * magnitude m < d * magnitude (m + 1) = mul-lt-mul_of_pos_left (magnitude-grows m) dpos in
    let on : d * magnitude (m + 1) < d * magnitude n = mul-lt-mul_of_pos_left (magnitude-lt (m + 1) n (omega arith)) dpos in
    let b = between (d * magnitude m) (d * magnitude (m + 1)) (d * magnitude n) t up on same in
    omega arith

same_magnitude : (p b a d : ℕ) (s : Bool) → 0 < d → IsNearest p (signed s a) d → IsNearest b (signed s a) d → p % 2 ^ 31 ≡ b % 2 ^ 31
same_magnitude p b a d s dpos near_p near_b =
    let dp = nearest_distance p a d s dpos near_p in
    let db = nearest_distance b a d s dpos near_b in
    let le : distance p (signed s a) d ≤ distance b (signed s a) d = near_p.nearest b near_b.finite in
    let ge : distance b (signed s a) d ≤ distance p (signed s a) d = near_b.nearest p near_p.finite in
    let same : distance b (signed s a) d ≡ distance p (signed s a) d = omega arith in
    let apart_same : apart (d * magnitude (p % 2 ^ 31)) (a * 2 ^ 149) ≡ apart (d * magnitude (b % 2 ^ 31)) (a * 2 ^ 149) = sym dp ∙ sym same ∙ db in
    let numbers : scaled b ≡ scaled p → p % 2 ^ 31 ≡ b % 2 ^ 31 = λ e.
    magnitude-inj (p % 2 ^ 31) (b % 2 ^ 31)
    (sym (abs-scaled (is_negative p) (magnitude (p % 2 ^ 31))) ∙ ap unsigned_abs (sym e) ∙ abs-scaled (is_negative b) (magnitude (b % 2 ^ 31))) in
    let mp : p % 2 ^ 31 < 255 * 2 ^ 23 = omega (arith, near_p.finite.1) in
    let mb : b % 2 ^ 31 < 255 * 2 ^ 23 = omega (arith, near_b.finite.1) in
    elim (cases_order (p % 2 ^ 31) (b % 2 ^ 31)) [
      | inl x ↦ x
      | inr y ↦
          let other : scaled b ≢ scaled p = λ e. let z = numbers e in elim y [ inl x ↦ omega arith | inr x ↦ omega arith ] in
          let even_p : p % 2 ≡ 0 = near_p.even_at_tie b near_b.finite other same in
          let even_b : b % 2 ≡ 0 = near_b.even_at_tie p near_p.finite (λ e. other (sym e)) (sym same) in
          elim y [
            | inl x ↦ absurd (no_gap (p % 2 ^ 31) (b % 2 ^ 31) d (a * 2 ^ 149) dpos x (omega (arith, even_p)) (omega (arith, even_b)) apart_same
                (let g = nearest_at p a d s near_p (p % 2 ^ 31 + 1) (omega (arith, x, mb)) in omega (arith, g, dp)))
            | inr x ↦ absurd (no_gap (b % 2 ^ 31) (p % 2 ^ 31) d (a * 2 ^ 149) dpos x (omega (arith, even_b)) (omega (arith, even_p)) (sym apart_same)
                (let g = nearest_at b a d s near_b (b % 2 ^ 31 + 1) (omega (arith, x, mp)) in omega (arith, g, db)))
          ]
    ]

same_number : (p b : ℕ) (s : Bool) → p < 2 ^ 32 → b < 2 ^ 32 → is_negative p ≡ s → is_negative b ≡ s → p % 2 ^ 31 ≡ b % 2 ^ 31 → p ≡ b
same_number p b true hp hb e f g = let x = leb-true (2 ^ 31) p e in let y = leb-true (2 ^ 31) b f in omega arith
same_number p b false hp hb e f g = let x = leb-false (2 ^ 31) p e in let y = leb-false (2 ^ 31) b f in omega arith

pub one_nearest : (p b a d : ℕ) (s : Bool) → 0 < d → 0 < p % 2 ^ 31 → IsNearest p (signed s a) d → IsNearest b (signed s a) d → p ≡ b
one_nearest p b a d s dpos some near_p near_b =
    let m = same_magnitude p b a d s dpos near_p near_b in
    same_number p b s near_p.finite.0 near_b.finite.0 (nearest_sign p a d s dpos near_p some) (nearest_sign b a d s dpos near_b (omega arith)) m
