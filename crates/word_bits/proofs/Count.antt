-- From a pattern to its count of centimetres.
use Rattle.std.proofs.Common.{ℕ, zero, suc, ◌≡◌, ◌+◌, ◌-◌, ◌*◌, ◌/◌, ◌%◌, ◌^◌, ◌<◌, ◌≤◌, ◌⊎◌, inl, inr, refl, sym, ap, ◌∙◌, arith, subst, add-one, Bool, true, false, ℤ, pos, negsuc}
use Rattle.std.proofs.lemmas.Bool.{cases_lt}
use Rattle.std.proofs.lemmas.Int.{ints}
use Rattle.std.proofs.lemmas.Nat.{pow-add, pow_pos, mod_below, div-add-mod'}
use Rattle.std.proofs.Math.Nat.{pow-le-pow_right, mul-lt-mul_of_pos_right}
use Rattle.word_bits.specs.Pattern.{magnitude, signed, is_negative, IsNearest, IsCentimetres}
use Rattle.word_bits.specs.Rounding.{apart, IsNearCount}
use Rattle.word_bits.proofs.Magnitude.{magnitude-small, magnitude-at, magnitude-next, magnitude-le, parts}
use Rattle.word_bits.proofs.Signs.{magnitude-zero, signed-zero, IsNearest-signed, at_zero}
use Rattle.word_bits.proofs.Unique.{nearest_at, nearest_distance, nearest_sign, one_nearest}
use Rattle.word_bits.proofs.Whole.{by_digits}

record Around (d t n : ℕ) : Type 0 where
  low : d * magnitude n ≤ t
  high : t < d * magnitude (n + 1)

-- the pattern at or below t / d
around : (d t k : ℕ) → t < d * magnitude k → (n : ℕ) × (n < k) × Around d t n
around d t zero h = let e : d * magnitude 0 ≡ d * 0 = ap (λ v. d * v) magnitude-zero in absurd (omega arith)
around d t (suc k) h =
    elim (cases_lt t (d * magnitude k)) [
      | inl x ↦ let r = around d t k x in (r.0, omega (arith, r.1), r.2)
      | inr x ↦ (k, omega arith, record { low = x; high = (let e : k + 1 ≡ suc k = add-one k in rw e h) })
    ]

gap : (n : ℕ) → n < 144 * 2 ^ 23 → magnitude (n + 1) ≤ magnitude n + 2 ^ 142
gap n h =
    elim (cases_lt n (2 ^ 23)) [
      | inl small ↦ elim (cases_lt (n + 1) (2 ^ 23)) [
        | inl more ↦ omega (arith, magnitude-small n small, magnitude-small (n + 1) more)
        | inr top ↦
            let e : n + 1 ≡ 0 * 2 ^ 23 + 2 ^ 23 = omega arith in
            let f = ap magnitude e ∙ magnitude-at 0 (2 ^ 23) (omega arith) (omega arith) in
            omega (arith, magnitude-small n small, f)
      ]
      | inr large ↦
          let s = parts n large in
          let x = s.0 in let q = s.1 in
          let w : 2 ^ x ≤ 2 ^ 142 = pow-le-pow_right {n = 2} (omega arith) {i = x} {j = 142} (omega (arith, s.2, s.3)) in
          let one = ap magnitude s.2 ∙ magnitude-at x q s.3 s.4 in
          let two = ap (λ m. magnitude (m + 1)) s.2 ∙ magnitude-next x q s.3 s.4 in
          omega (arith, one, two, w)
    ]

far_top : 2 ^ 172 < 100 * magnitude (144 * 2 ^ 23)
far_top = let e : magnitude (143 * 2 ^ 23 + 2 ^ 23) ≡ 2 ^ 23 * 2 ^ 143 = magnitude-at 143 (2 ^ 23) (omega arith) (omega arith) in omega (arith, e)

nearer : (l h t : ℕ) → l ≤ t → t < h → h ≤ l + 100 * 2 ^ 142 → (apart l t < 2 ^ 148) ⊎ (apart h t < 2 ^ 148)
nearer l h t p q r = elim (cases_lt (t - l) (2 ^ 148)) [ inl x ↦ inl (omega arith) | inr x ↦ inr (omega arith) ]

witness : (a : ℕ) → a ≤ 2 ^ 23 → (n : ℕ) × (n < 255 * 2 ^ 23) × IsNearCount n a
witness a fits =
    let r = around 100 (a * 2 ^ 149) (144 * 2 ^ 23) (omega (arith, far_top)) in
    let n = r.0 in
    let near = nearer (100 * magnitude n) (100 * magnitude (n + 1)) (a * 2 ^ 149) r.2.low r.2.high (omega (arith, gap n r.1)) in
    elim near [ inl x ↦ (n, omega (arith, r.1), x) | inr x ↦ (n + 1, omega (arith, r.1), x) ]

-- a nearest pattern is that near
near_count : (p a : ℕ) (s : Bool) → a ≤ 2 ^ 23 → IsNearest p (signed s a) 100 → IsNearCount (p % 2 ^ 31) a
near_count p a s fits near =
    let w = witness a fits in
    omega (arith, nearest_distance p a 100 s (omega arith) near, nearest_at p a 100 s near w.0 w.1, w.2)

pub record CountOf (p : ℕ) (k : ℤ) : Type 0 where
  pub count : ℕ
  pub fits : count ≤ 2 ^ 23
  pub near : IsNearCount (p % 2 ^ 31) count
  pub is : k ≡ signed (is_negative p) count

count_at : (p a : ℕ) (s : Bool) → a ≤ 2 ^ 23 → 0 < p % 2 ^ 31 → IsNearest p (signed s a) 100 → CountOf p (signed s a)
count_at p a s fits some near = record {
  count = a;
  fits = fits;
  near = near_count p a s fits near;
  is = ap (λ b. signed b a) (sym (nearest_sign p a 100 s (omega arith) near some));
}

pub count_of : (p : ℕ) (k : ℤ) → 0 < p % 2 ^ 31 → IsCentimetres k → IsNearest p k 100 → CountOf p k
count_of p (pos n) some fits near = count_at p n false (omega (arith, ints, fits.0, fits.1)) some near
count_of p (negsuc n) some fits near = count_at p (suc n) true (omega (arith, ints, fits.0, fits.1)) some near

-- ---- what the code computes

pub none_count : (m a : ℕ) → 144 ≤ m / 2 ^ 23 → a ≤ 2 ^ 23 → ¬ IsNearCount m a
none_count m a large fits near = omega (
  arith,
  near,
  far_top,
  magnitude-le (144 * 2 ^ 23) m (omega arith),
  (let e : magnitude (143 * 2 ^ 23 + 2 ^ 23) ≡ 2 ^ 23 * 2 ^ 143 = magnitude-at 143 (2 ^ 23) (omega arith) (omega arith) in e),
)

pub zero_count : (m a : ℕ) → m / 2 ^ 23 < 119 → IsNearCount m a → a ≡ 0
zero_count m a small near =
    let e : magnitude (118 * 2 ^ 23 + 2 ^ 23) ≡ 2 ^ 23 * 2 ^ 118 = magnitude-at 118 (2 ^ 23) (omega arith) (omega arith) in
    let l = magnitude-le m (119 * 2 ^ 23) (omega arith) in
    omega (arith, near, e, l)

scaled_count : (q h w c r : ℕ) → h * w ≡ 2 ^ 148 → 2 * h * c + r ≡ 100 * q + h → r < 2 * h → 0 < w → apart (100 * (q * w)) (c * 2 ^ 149) ≤ 2 ^ 148
scaled_count q h w c r e sum less wpos =
    let up : (2 * h * c + r) * w ≡ (100 * q + h) * w = ap (λ v. v * w) sum in
    let rest : r * w < 2 * h * w = mul-lt-mul_of_pos_right less wpos in
    let ec : c * (h * w) ≡ c * 2 ^ 148 = ap (λ v. c * v) e in
    omega (arith, up, rest, ec, e)

one_count : (x a c : ℕ) → apart x (c * 2 ^ 149) ≤ 2 ^ 148 → apart x (a * 2 ^ 149) < 2 ^ 148 → a ≡ c
one_count x a c near other = omega arith

pub mid_count : (m h a : ℕ) → 119 ≤ m / 2 ^ 23 → m / 2 ^ 23 < 144 → h ≡ 2 ^ (149 - m / 2 ^ 23) → 0 < h → IsNearCount m a → a ≡ (100 * (m % 2 ^ 23 + 2 ^ 23) + h) / (2 * h)
mid_count m h a low high e hpos near =
    let q : ℕ = m % 2 ^ 23 + 2 ^ 23 in
    let x : ℕ = m / 2 ^ 23 - 1 in
    let c : ℕ = (100 * q + h) / (2 * h) in
    let w : h * 2 ^ x ≡ 2 ^ 148 = ap (λ v. v * 2 ^ x) e ∙ sym (pow-add 2 (149 - m / 2 ^ 23) x) ∙ ap (λ v. 2 ^ v) (let f : 149 - m / 2 ^ 23 + x ≡ 148 = omega arith in f) in
    let sum : 2 * h * c + (100 * q + h) % (2 * h) ≡ 100 * q + h = omega (arith, div-add-mod' (100 * q + h) (2 * h)) in
    let close : apart (100 * (q * 2 ^ x)) (c * 2 ^ 149) ≤ 2 ^ 148 = scaled_count q h (2 ^ x) c ((100 * q + h) % (2 * h)) w sum (mod_below (100 * q + h) (2 * h) (omega arith)) (pow_pos x) in
    let mag : magnitude m ≡ q * 2 ^ x = by_digits m (omega arith) in
    let close_m : apart (100 * magnitude m) (c * 2 ^ 149) ≤ 2 ^ 148 = omega (arith, mag, close) in
    one_count (100 * magnitude m) a c close_m near

-- ---- the branches of `centimetres_of`

pub zero_is_nearest : (p : ℕ) → p < 2 ^ 32 → p % 2 ^ 31 ≡ 0 → IsNearest p (pos 0) 100
zero_is_nearest p fits z =
    let P : ℤ → Type 0 = λ k. IsNearest p k 100 in
    subst P (signed-zero (is_negative p)) (IsNearest-signed p 0 0 100 (is_negative p) (omega arith) fits z refl (omega arith) (at_zero 100 (omega arith)))

-- k is what the code's count gives
pub is_candidate : (p c : ℕ) (k : ℤ) → ((a : ℕ) → IsNearCount (p % 2 ^ 31) a → a ≡ c) → CountOf p k → k ≡ signed (is_negative p) c
is_candidate p c k only h = h.is ∙ ap (signed (is_negative p)) (only h.count h.near)

pub is_only : (p b c : ℕ) (k : ℤ) → 0 < p % 2 ^ 31 → k ≡ signed (is_negative p) c → IsNearest p k 100 → IsNearest b (signed (is_negative p) c) 100 → b ≡ p
is_only p b c k some e near_p near_b =
    let P : ℤ → Type 0 = λ z. IsNearest p z 100 in
    sym (one_nearest p b c 100 (is_negative p) (omega arith) some (subst P e near_p) near_b)

apart_counts : (x a b : ℕ) → apart x (a * 2 ^ 149) < 2 ^ 148 → apart x (b * 2 ^ 149) < 2 ^ 148 → a ≡ b
apart_counts x a b p q = omega arith

zero_of : (a : ℕ) (s : Bool) → a ≡ 0 → signed s a ≡ pos 0
zero_of a s e = ap (signed s) e ∙ signed-zero s

at_zero_count : (p a : ℕ) (s : Bool) → a ≤ 2 ^ 23 → p % 2 ^ 31 ≡ 0 → IsNearest p (signed s a) 100 → a ≡ 0
at_zero_count p a s fits z near =
    let n = near_count p a s fits near in
    let e : 100 * magnitude (p % 2 ^ 31) ≡ 0 = ap (λ m. 100 * magnitude m) z ∙ ap (λ v. 100 * v) magnitude-zero in
    omega (arith, n, e)

zero_at : (p : ℕ) (k : ℤ) → IsCentimetres k → p % 2 ^ 31 ≡ 0 → IsNearest p k 100 → k ≡ pos 0
zero_at p (pos n) fits z near = ap pos (at_zero_count p n false (omega (arith, ints, fits.0, fits.1)) z near)
zero_at p (negsuc n) fits z near = zero_of (suc n) true (at_zero_count p (suc n) true (omega (arith, ints, fits.0, fits.1)) z near)

-- different counts have different patterns
pub one_centimetres : (p : ℕ) (j k : ℤ) → IsCentimetres j → IsCentimetres k → IsNearest p j 100 → IsNearest p k 100 → j ≡ k
one_centimetres p j k fj fk nj nk =
    elim (cases_lt 0 (p % 2 ^ 31)) [
      | inl some ↦
          let a = count_of p j some fj nj in
          let b = count_of p k some fk nk in
          a.is ∙ ap (signed (is_negative p)) (apart_counts (100 * magnitude (p % 2 ^ 31)) a.count b.count a.near b.near) ∙ sym b.is
      | inr none ↦ zero_at p j fj (omega arith) nj ∙ sym (zero_at p k fk (omega arith) nk)
    ]
