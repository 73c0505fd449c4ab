-- From magnitudes that are whole to whole numbers with a sign.
use Rattle.std.proofs.Common.{ℕ, zero, suc, ◌≡◌, ◌≢◌, ◌*◌, ◌/◌, ◌%◌, ◌^◌, ◌<◌, ◌≤◌, inl, inr, refl, sym, ap, ◌∙◌, arith, Bool, true, false, ℤ, pos, negsuc, neg_ℤ, unsigned_abs, FitsSigned, w32, le-leb}
use Rattle.std.proofs.lemmas.Bool.{cases_lt, lt-leb}
use Rattle.std.proofs.lemmas.Int.{ints, unsigned_abs-mul}
use Rattle.word_bits.specs.Pattern.{magnitude, signed, scaled, is_negative, IsWhole}
use Rattle.word_bits.proofs.Signs.{product_turned}
use Rattle.word_bits.proofs.Whole.{none_outside}

finite_from : (m a : ℕ) → a ≤ 2 ^ 31 → magnitude m ≡ a * 2 ^ 149 → m / 2 ^ 23 < 255
finite_from m a fits e = elim (cases_lt 158 (m / 2 ^ 23)) [ inl x ↦ absurd (none_outside m a (omega arith) (inr x) fits e) | inr x ↦ omega arith ]

whole_at : (p a : ℕ) (s : Bool) → p < 2 ^ 32 → is_negative p ≡ s → a ≤ 2 ^ 31 → FitsSigned w32 (signed s a) → magnitude (p % 2 ^ 31) ≡ a * 2 ^ 149 → IsWhole p (signed s a)
whole_at p a s small sign fits range e = record {
  finite = (small, finite_from (p % 2 ^ 31) a fits e);
  fits = range;
  equal = (let f : scaled p ≡ signed s (magnitude (p % 2 ^ 31)) = rw sign refl in f ∙ ap (signed s) e ∙ sym (product_turned s a (2 ^ 149)));
}

pub whole_above : (p a : ℕ) → p < 2 ^ 31 → a < 2 ^ 31 → magnitude (p % 2 ^ 31) ≡ a * 2 ^ 149 → IsWhole p (pos a)
whole_above p a small fits e = whole_at p a false (omega arith) (lt-leb (2 ^ 31) p small) (omega arith) (record { sfits = omega (arith, ints) }) e

pub whole_below : (p a : ℕ) → 2 ^ 31 ≤ p → p < 2 ^ 32 → a ≤ 2 ^ 31 → magnitude (p % 2 ^ 31) ≡ a * 2 ^ 149 → IsWhole p (neg_ℤ (pos a))
whole_below p a large small fits e = whole_at p a true small (le-leb (2 ^ 31) p large) fits (record { sfits = omega (arith, ints) }) e

abs-signed : (s : Bool) (a : ℕ) → unsigned_abs (signed s a) ≡ a
abs-signed false a = refl
abs-signed true zero = refl
abs-signed true (suc n) = refl

abs_fits : (n : ℤ) → FitsSigned w32 n → unsigned_abs n ≤ 2 ^ 31
abs_fits (pos n) f = omega (arith, ints, f.sfits)
abs_fits (negsuc n) f = omega (arith, ints, f.sfits)

pub none_whole : (p : ℕ) → ((a : ℕ) → a ≤ 2 ^ 31 → magnitude (p % 2 ^ 31) ≢ a * 2 ^ 149) → (n : ℤ) → ¬ IsWhole p n
none_whole p none n h =
    none (unsigned_abs n) (abs_fits n h.fits)
    (sym (abs-signed (is_negative p) (magnitude (p % 2 ^ 31))) ∙ ap unsigned_abs h.equal ∙ unsigned_abs-mul n (pos (2 ^ 149)))
