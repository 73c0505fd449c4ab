-- Up to 2 ^ 24 each whole number has a pattern, and a nearest pattern is then one of it.
use Rattle.std.proofs.Common.{ℕ, zero, suc, ◌≡◌, ◌+◌, ◌-◌, ◌*◌, ◌%◌, ◌^◌, ◌<◌, ◌≤◌, inl, inr, refl, sym, ap, ◌∙◌, arith, Bool, true, false, ℤ, pos, negsuc, ◌*ℤ◌, unsigned_abs, FitsSigned, w32}
use Rattle.std.proofs.lemmas.Bool.{cases_lt}
use Rattle.std.proofs.lemmas.Grind.{pow_more}
use Rattle.word_bits.specs.Pattern.{magnitude, signed, scaled, is_negative, IsNearest, IsWhole}
use Rattle.word_bits.proofs.Magnitude.{magnitude-at}
use Rattle.word_bits.proofs.Signs.{product_turned, magnitude-zero, signed-zero}
use Rattle.word_bits.proofs.Unique.{nearest_at, nearest_distance, nearest_sign}
use Rattle.word_bits.proofs.Whole.{low_whole}

-- moved up by s binary places, a has 24 binary digits
record Normal (a : ℕ) : Type 0 where
  places : ℕ
  few : places ≤ 23
  low : 2 ^ 23 ≤ a * 2 ^ places
  high : a * 2 ^ places < 2 ^ 24

normal_from : (n s a : ℕ) → n + s ≡ 23 → 0 < a → a * 2 ^ s < 2 ^ 24 → Normal a
normal_from zero s a e some less =
    let last : a * 2 ^ s ≡ a * 2 ^ 23 = ap (λ k. a * 2 ^ k) (let f : s ≡ 23 = omega arith in f) in
    record { places = s; few = omega arith; low = omega (arith, last); high = less }
normal_from (suc n) s a e some less =
    elim (cases_lt (a * 2 ^ s) (2 ^ 23)) [
      | inl short ↦
          let more : a * 2 ^ (s + 1) ≡ 2 * (a * 2 ^ s) = rw (pow_more 2 s) (omega arith) in
          normal_from n (s + 1) a (omega arith) some (omega (arith, more))
      | inr whole ↦ record { places = s; few = omega arith; low = whole; high = less }
    ]

record PatternOf (a : ℕ) : Type 0 where
  pattern : ℕ
  finite : pattern < 255 * 2 ^ 23
  is : magnitude pattern ≡ a * 2 ^ 149

pattern_of : (a : ℕ) → a ≤ 2 ^ 24 → PatternOf a
pattern_of a fits =
    elim (cases_lt 0 a) [
      | inr none ↦ record { pattern = 0; finite = omega arith; is = magnitude-zero ∙ (omega arith) }
      | inl some ↦ elim (cases_lt a (2 ^ 24)) [
        | inr top ↦
            let e : magnitude (150 * 2 ^ 23 + 2 ^ 23) ≡ 2 ^ 23 * 2 ^ 150 = magnitude-at 150 (2 ^ 23) (omega arith) (omega arith) in
            let f : a ≡ 2 ^ 24 = omega arith in
            record { pattern = 150 * 2 ^ 23 + 2 ^ 23; finite = omega arith; is = e ∙ rw f (omega arith) }
        | inl less ↦
            let n = normal_from 23 0 a refl some (omega arith) in
            let e = magnitude-at (149 - n.places) (a * 2 ^ n.places) n.low n.high in
            let few : n.places ≤ 23 = n.few in
            record {
              pattern = (149 - n.places) * 2 ^ 23 + a * 2 ^ n.places;
              finite = omega (arith, n.high, few);
              is = e ∙ low_whole (149 - n.places) n.places (a * 2 ^ n.places) a (omega (arith, few)) refl;
            }
      ]
    ]

nearest_magnitude_is : (p a : ℕ) (s : Bool) → a ≤ 2 ^ 24 → IsNearest p (signed s a) 1 → magnitude (p % 2 ^ 31) ≡ a * 2 ^ 149
nearest_magnitude_is p a s fits near =
    let own = pattern_of a fits in
    let close = nearest_at p a 1 s near own.pattern own.finite in
    omega (arith, nearest_distance p a 1 s (omega arith) near, close, own.is)

scaled_is : (p a : ℕ) (s : Bool) → a ≤ 2 ^ 24 → IsNearest p (signed s a) 1 → scaled p ≡ (signed s a *ℤ pos (2 ^ 149))
scaled_is p a s fits near =
    let m = nearest_magnitude_is p a s fits near in
    let here : scaled p ≡ signed (is_negative p) (a * 2 ^ 149) = ap (signed (is_negative p)) m in
    elim (cases_lt 0 (p % 2 ^ 31)) [
      | inl some ↦ here ∙ ap (λ b. signed b (a * 2 ^ 149)) (nearest_sign p a 1 s (omega arith) near some) ∙ sym (product_turned s a (2 ^ 149))
      | inr none ↦
          let e : p % 2 ^ 31 ≡ 0 = omega arith in
          let z : a * 2 ^ 149 ≡ 0 = sym m ∙ ap magnitude e ∙ magnitude-zero in
          here ∙ ap (signed (is_negative p)) z ∙ signed-zero (is_negative p) ∙ sym (signed-zero s) ∙ ap (signed s) (sym z) ∙ sym (product_turned s a (2 ^ 149))
    ]

pub nearest_is_whole : (p : ℕ) (n : ℤ) → FitsSigned w32 n → unsigned_abs n ≤ 2 ^ 24 → IsNearest p n 1 → IsWhole p n
nearest_is_whole p (pos n) fits small near = record { finite = near.finite; fits = fits; equal = scaled_is p n false small near }
nearest_is_whole p (negsuc n) fits small near = record { finite = near.finite; fits = fits; equal = scaled_is p (suc n) true small near }
