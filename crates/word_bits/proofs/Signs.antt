-- From magnitudes to numbers with a sign.
use Rattle.std.proofs.Common.{ℕ, zero, suc, ◌≡◌, ◌+◌, ◌-◌, ◌*◌, ◌%◌, ◌^◌, ◌<◌, ◌≤◌, ◌⊎◌, inl, inr, refl, sym, ap, ◌∙◌, arith, subst, Bool, true, false, not, ltb, ℤ, pos, negsuc, ◌-ℤ◌, ◌*ℤ◌, unsigned_abs, ltb-true, ltb-false, le-leb, ◌<ℤ◌, ◌≤ℤ◌}
use Rattle.std.proofs.lemmas.Bool.{cond_both, cases_lt, lt-leb}
use Rattle.std.proofs.lemmas.Int.{ints}
use lib.IntN.{sub_ℕ}
use Rattle.std.proofs.Math.Nat.{mul-pos}
use Rattle.word_bits.specs.Pattern.{magnitude, signed, scaled, distance, is_negative, IsNearest}
use Rattle.word_bits.specs.Rounding.{apart, IsNearestMagnitude}
use Rattle.word_bits.proofs.Magnitude.{magnitude-small}

product : (d : ℕ) (s : Bool) (x : ℕ) → pos d *ℤ signed s x ≡ signed s (d * x)
product d false x = refl
product d true zero = let e : d * 0 ≡ 0 = omega arith in rw e refl
product d true (suc n) = refl

pub product_turned : (s : Bool) (a b : ℕ) → signed s a *ℤ pos b ≡ signed s (a * b)
product_turned false a b = refl
product_turned true zero b = let e : 0 * b ≡ 0 = omega arith in rw e refl
product_turned true (suc n) b = refl

abs-sub : (a b : ℕ) → unsigned_abs (sub_ℕ a b) ≡ apart a b
abs-sub a b = cond_both (ltb a b) (negsuc (b - suc a)) (pos (a - b)) (λ z. unsigned_abs z ≡ apart a b) (λ e. let h = ltb-true a b e in omega arith) (λ e. let h = ltb-false a b e in omega arith)

same_side : (s : Bool) (x y : ℕ) → unsigned_abs (signed s x -ℤ signed s y) ≡ apart x y
same_side false x zero = omega arith
same_side false x (suc n) = abs-sub x (suc n)
same_side true zero zero = refl
same_side true zero (suc n) = omega arith
same_side true (suc m) zero = abs-sub 0 (suc m) ∙ (omega arith)
same_side true (suc m) (suc n) = abs-sub (suc n) (suc m) ∙ (omega arith)

other_side : (s : Bool) (x y : ℕ) → unsigned_abs (signed s x -ℤ signed (not s) y) ≡ x + y
other_side false x zero = omega arith
other_side false x (suc n) = omega arith
other_side true zero zero = refl
other_side true zero (suc n) = abs-sub 0 (suc n) ∙ (omega arith)
other_side true (suc m) zero = abs-sub 0 (suc m) ∙ (omega arith)
other_side true (suc m) (suc n) = omega arith

-- the distance of a pattern of the sign t from k, of the sign s
distance_at : (q a d : ℕ) (s t : Bool) → is_negative q ≡ t → distance q (signed s a) d ≡ unsigned_abs (signed t (d * magnitude (q % 2 ^ 31)) -ℤ signed s (a * 2 ^ 149))
distance_at q a d s t e = rw (e, product d t (magnitude (q % 2 ^ 31)), product_turned s a (2 ^ 149)) refl

pub distance_same : (q a d : ℕ) (s : Bool) → is_negative q ≡ s → distance q (signed s a) d ≡ apart (d * magnitude (q % 2 ^ 31)) (a * 2 ^ 149)
distance_same q a d s e = distance_at q a d s s e ∙ same_side s (d * magnitude (q % 2 ^ 31)) (a * 2 ^ 149)

not_not : (s : Bool) → not (not s) ≡ s
not_not true = refl
not_not false = refl

pub distance_other : (q a d : ℕ) (s : Bool) → is_negative q ≡ not s → distance q (signed s a) d ≡ d * magnitude (q % 2 ^ 31) + a * 2 ^ 149
distance_other q a d s e =
    distance_at q a d s (not s) e
    ∙ ap (λ u. unsigned_abs (signed (not s) (d * magnitude (q % 2 ^ 31)) -ℤ signed u (a * 2 ^ 149))) (sym (not_not s))
    ∙ other_side (not s) (d * magnitude (q % 2 ^ 31)) (a * 2 ^ 149)

pub sides : (b s : Bool) → (b ≡ s) ⊎ (b ≡ not s)
sides true true = inl refl
sides true false = inr refl
sides false true = inr refl
sides false false = inl refl

pub magnitude-zero : magnitude 0 ≡ 0
magnitude-zero = magnitude-small 0 (omega arith)

pub signed-zero : (s : Bool) → signed s 0 ≡ pos 0
signed-zero true = refl
signed-zero false = refl

pub from_zero : (d t : ℕ) → apart (d * magnitude 0) t ≡ t
from_zero d t = rw magnitude-zero (let e : d * 0 ≡ 0 = omega arith in rw e (omega arith))

pub IsNearest-signed : (p m a d : ℕ) (s : Bool) → 0 < d → p < 2 ^ 32 → p % 2 ^ 31 ≡ m → is_negative p ≡ s → m < 255 * 2 ^ 23 → IsNearestMagnitude d (a * 2 ^ 149) m → IsNearest p (signed s a) d
IsNearest-signed p m a d s dpos fits at sign below near =
    let mine : distance p (signed s a) d ≡ apart (d * magnitude m) (a * 2 ^ 149) = distance_same p a d s sign ∙ ap (λ u. apart (d * magnitude u) (a * 2 ^ 149)) at in
    let none : apart (d * magnitude m) (a * 2 ^ 149) ≤ a * 2 ^ 149 = omega (arith, near.nearest 0, from_zero d (a * 2 ^ 149)) in
    let parity : m % 2 ≡ 0 → p % 2 ≡ 0 = λ h. omega arith in
    let mine_is : scaled p ≡ signed s (magnitude m) = rw (sign, at) refl in
    record {
      finite = (fits, omega (arith, at));
      nearest = λ q finite. elim (sides (is_negative q) s) [
        | inl e ↦ rw (mine, distance_same q a d s e) (near.nearest (q % 2 ^ 31))
        | inr e ↦ rw (mine, distance_other q a d s e) (omega (arith, none))
      ];
      even_at_tie = λ q finite other e. elim (sides (is_negative q) s) [
        | inl f ↦ parity (near.even_at_tie (q % 2 ^ 31)
            (λ same. other (let theirs : scaled q ≡ signed s (magnitude (q % 2 ^ 31)) = rw f refl in theirs ∙ ap (signed s) same ∙ sym mine_is))
            (sym (distance_same q a d s f) ∙ e ∙ mine))
        | inr f ↦
            let sum : d * magnitude (q % 2 ^ 31) + a * 2 ^ 149 ≡ apart (d * magnitude m) (a * 2 ^ 149) = sym (distance_other q a d s f) ∙ e ∙ mine in
            let gone : magnitude (q % 2 ^ 31) ≡ 0 = elim (cases_lt 0 (magnitude (q % 2 ^ 31))) [ inl x ↦ absurd (omega (arith, sum, none, mul-pos dpos x)) | inr x ↦ omega arith ] in
            let theirs : scaled q ≡ pos 0 = let u : scaled q ≡ signed (not s) (magnitude (q % 2 ^ 31)) = rw f refl in u ∙ ap (signed (not s)) gone ∙ signed-zero (not s) in
            parity (near.even_at_tie 0
            (λ same. other (theirs ∙ sym (mine_is ∙ ap (signed s) (sym same ∙ magnitude-zero) ∙ signed-zero s)))
            (omega (arith, from_zero d (a * 2 ^ 149), sum, none)))
      ];
    }

pub at_zero : (d : ℕ) → 0 < d → IsNearestMagnitude d (0 * 2 ^ 149) 0
at_zero d dpos = record {
  nearest = λ n. omega (arith, from_zero d (0 * 2 ^ 149));
  even_at_tie = λ n other e. omega arith;
}

pub IsNearest-zero : (d : ℕ) → 0 < d → IsNearest 0 (pos 0) d
IsNearest-zero d dpos = IsNearest-signed 0 0 0 d false dpos (omega arith) refl refl (omega arith) (at_zero d dpos)

signed_below : (z : ℤ) → z <ℤ pos 0 → z ≡ signed true (unsigned_abs z)
signed_below (pos n) h = absurd (omega (arith, ints))
signed_below (negsuc n) h = refl

signed_above : (z : ℤ) → pos 0 ≤ℤ z → z ≡ signed false (unsigned_abs z)
signed_above (pos n) h = refl
signed_above (negsuc n) h = absurd (omega (arith, ints))

pub IsNearest-below : (m d : ℕ) (z : ℤ) → 0 < d → m < 255 * 2 ^ 23 → z <ℤ pos 0 → IsNearestMagnitude d (unsigned_abs z * 2 ^ 149) m → IsNearest (m + 2 ^ 31) z d
IsNearest-below m d z dpos below h near =
    let P : ℤ → Type 0 = λ k. IsNearest (m + 2 ^ 31) k d in
    subst P (sym (signed_below z h)) (IsNearest-signed (m + 2 ^ 31) m (unsigned_abs z) d true dpos (omega arith) (omega arith) (le-leb (2 ^ 31) (m + 2 ^ 31) (omega arith)) below near)

pub IsNearest-above : (m d : ℕ) (z : ℤ) → 0 < d → m < 255 * 2 ^ 23 → pos 0 ≤ℤ z → IsNearestMagnitude d (unsigned_abs z * 2 ^ 149) m → IsNearest m z d
IsNearest-above m d z dpos below h near =
    let P : ℤ → Type 0 = λ k. IsNearest m k d in
    subst P (sym (signed_above z h)) (IsNearest-signed m m (unsigned_abs z) d false dpos (omega arith) (omega arith) (lt-leb (2 ^ 31) m (omega arith)) below near)
