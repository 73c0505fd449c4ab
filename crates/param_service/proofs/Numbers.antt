-- Whether a pattern is a number of a kind: the pattern itself, or the quotient of its value, which is counted in 2 ^ -149, by 2 ^ 149.
use Rattle.std.proofs.Common.{◌≡◌, ◌⊎◌, inl, inr, ℕ, ◌*◌, ◌/◌, ◌%◌, ◌<◌, ◌^◌, Bool, true, false, refl, sym, ◌∙◌, ap, subst, arith, Option, Some, None}
use Rattle.std.specs.Prelude.{ℤ, pos, negsuc, ◌*ℤ◌, ◌≤ℤ◌, FitsSigned}
use Rattle.std.specs.Int.{w32}
use Rattle.std.proofs.lemmas.Int.{ints, by_lt_z}
use Rattle.std.proofs.lemmas.Bool.{cases_lt}
use Rattle.word_bits.specs.Pattern.{exponent, magnitude, signed, is_negative, IsFinite}
use Rattle.word_bits.proofs.Signs.{product_turned}
use Rattle.param_tree.specs.declared.Kind.{Kind}
use Rattle.param_tree.specs.declared.Kind.TheVariants.{I8, I16, I32, F32, Vec3}
use Rattle.param_tree.specs.declared.Var.{Var}
use Rattle.param_records.specs.Patterns.{IsInRangeOf, IsWholeOf, IsNumberOf, number_of_whole}
use Rattle.param_service.specs.Requests.{IsNumberFor}

no_multiple : (s : Bool) (m : ℕ) (z : ℤ) → 0 < m % 2 ^ 149 → signed s m ≡ z *ℤ pos (2 ^ 149) → ⊥
no_multiple true m z h e = omega (arith, ints)
no_multiple false m z h e = omega (arith, ints)

one_multiple : (z w : ℤ) → z *ℤ pos (2 ^ 149) ≡ w *ℤ pos (2 ^ 149) → z ≡ w
one_multiple z w e = omega (arith, ints)

-- a number with its sign is a multiple of 2 ^ 149, or isn't
multiple_or_not : (s : Bool) (m : ℕ) → ((z : ℤ) × (signed s m ≡ z *ℤ pos (2 ^ 149))) ⊎ ((z : ℤ) → signed s m ≡ z *ℤ pos (2 ^ 149) → ⊥)
multiple_or_not s m =
    elim (cases_lt 0 (m % 2 ^ 149)) [
      | inl rest ↦ inr (λ z e. no_multiple s m z rest e)
      | inr none ↦ let e : m / 2 ^ 149 * 2 ^ 149 ≡ m = omega arith in inl (signed s (m / 2 ^ 149), sym (product_turned s (m / 2 ^ 149) (2 ^ 149) ∙ ap (signed s) e))
    ]

finite_or_not : (bits : ℕ) → IsFinite bits ⊎ (IsFinite bits → ⊥)
finite_or_not bits =
    elim (cases_lt bits (2 ^ 32)) [
      | inr long ↦ inr (λ h. let small = h.0 in omega arith)
      | inl small ↦ elim (cases_lt (exponent (bits % 2 ^ 31)) 255) [
        | inl low ↦ inl (small, low)
        | inr high ↦ inr (λ h. let low = h.1 in omega arith)
      ]
    ]

between_or_not : (low high z : ℤ) → ((low ≤ℤ z) × (z ≤ℤ high)) ⊎ ((low ≤ℤ z) × (z ≤ℤ high) → ⊥)
between_or_not low high z =
    by_lt_z z low (λ below. inr (λ h. let a = h.0 in omega (arith, ints)))
    (λ a. by_lt_z high z (λ above. inr (λ h. let b = h.1 in omega (arith, ints))) (λ b. inl (a, b)))

range_or_not : (kind : Kind) (z : ℤ) → IsInRangeOf kind z ⊎ (IsInRangeOf kind z → ⊥)
range_or_not I8 z = between_or_not (negsuc 127) (pos 127) z
range_or_not I16 z = between_or_not (negsuc 32767) (pos 32767) z
range_or_not I32 z = between_or_not (negsuc 2147483647) (pos 2147483647) z
range_or_not F32 z = inr (λ h. h)
range_or_not Vec3 z = inr (λ h. h)

fits_in_range : (kind : Kind) (z : ℤ) → IsInRangeOf kind z → FitsSigned w32 z
fits_in_range I8 z h = let a = h.0 in let b = h.1 in omega (arith, ints)
fits_in_range I16 z h = let a = h.0 in let b = h.1 in omega (arith, ints)
fits_in_range I32 z h = let a = h.0 in let b = h.1 in omega (arith, ints)
fits_in_range F32 z h = absurd h
fits_in_range Vec3 z h = absurd h

-- the number of a kind that a pattern is, or that it is none
abbrev HasNumber : (ℕ → Type 0) → Type 0
HasNumber P = ((n : ℕ) × P n) ⊎ ((n : ℕ) → P n → ⊥)

whole_or_none : (kind : Kind) (bits : ℕ) → HasNumber (IsWholeOf kind bits)
whole_or_none kind bits =
    elim (multiple_or_not (is_negative bits) (magnitude (bits % 2 ^ 31))) [
      | inr none ↦ inr (λ n h. none h.0 h.2.equal)
      | inl some ↦ elim (range_or_not kind some.0) [
        | inr out ↦ inr (λ n h. out (subst (IsInRangeOf kind) (one_multiple h.0 some.0 (sym h.2.equal ∙ some.1)) h.1))
        | inl inside ↦ elim (finite_or_not bits) [
          | inr infinite ↦ inr (λ n h. infinite h.2.finite)
          | inl finite ↦ inl (number_of_whole some.0, (some.0, inside, record { finite = finite; fits = fits_in_range kind some.0 inside; equal = some.1 }, refl))
        ]
      ]
    ]

float_or_none : (bits : ℕ) → HasNumber (λ n. IsFinite bits × (n ≡ bits))
float_or_none bits = elim (finite_or_not bits) [ inl finite ↦ inl (bits, (finite, refl)) | inr infinite ↦ inr (λ n h. infinite h.0) ]

pub number_or_none : (kind : Kind) (bits : ℕ) → HasNumber (IsNumberOf kind bits)
number_or_none I8 bits = whole_or_none I8 bits
number_or_none I16 bits = whole_or_none I16 bits
number_or_none I32 bits = whole_or_none I32 bits
number_or_none F32 bits = float_or_none bits
number_or_none Vec3 bits = float_or_none bits

pub number_for : (row : Var) (bits : ℕ) → (number : Option ℕ) × IsNumberFor row bits number
number_for row bits = elim (number_or_none row.kind bits) [ inl some ↦ (Some some.0, some.1) | inr none ↦ (None, none) ]
