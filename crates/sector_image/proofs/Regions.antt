-- The two sectors: the words with other halfwords in one of them.
use Rattle.std.proofs.Common.{◌≡◌, ◌≤◌, inl, inr, ℕ, ◌*◌, ◌/◌, List, length, refl, sym, ◌∙◌, ap, arith}
use Rattle.flash_traits.specs.Words.{Words, halfwords_in, with_halfwords, IsSectorRegion, IsSectorSize, region_length}
use Rattle.flash_traits.specs.declared.board.Region.{Region}
use Rattle.flash_traits.specs.declared.board.Region.TheVariants.{S0, S1, Guard}
use Rattle.guard_row.specs.Home.{first_of, second_of}
use Rattle.guard_row.proofs.HomeLemmas.{sides}

pub guard_kept : (w : Words) (r : Region) (xs : List ℕ) → IsSectorRegion r → (with_halfwords w r xs).guard ≡ w.guard
guard_kept w S0 xs is = refl
guard_kept w S1 xs is = refl
guard_kept w Guard xs is = absurd is

pub first_kept : (w : Words) (count : ℕ) (xs : List ℕ) → halfwords_in (with_halfwords w (second_of count) xs) (first_of count) ≡ halfwords_in w (first_of count)
first_kept w count xs = elim (sides count) [
  | inl is ↦ ap (λ (r : Region). halfwords_in (with_halfwords w r xs) (first_of count)) is.1 ∙ ap (λ (r : Region). halfwords_in (with_halfwords w S1 xs) r) is.0 ∙ sym (ap (λ (r : Region). halfwords_in w r) is.0)
  | inr is ↦ ap (λ (r : Region). halfwords_in (with_halfwords w r xs) (first_of count)) is.1 ∙ ap (λ (r : Region). halfwords_in (with_halfwords w S0 xs) r) is.0 ∙ sym (ap (λ (r : Region). halfwords_in w r) is.0)
]

pub second_kept : (w : Words) (count : ℕ) (xs : List ℕ) → halfwords_in (with_halfwords w (first_of count) xs) (second_of count) ≡ halfwords_in w (second_of count)
second_kept w count xs = elim (sides count) [
  | inl is ↦ ap (λ (r : Region). halfwords_in (with_halfwords w r xs) (second_of count)) is.0 ∙ ap (λ (r : Region). halfwords_in (with_halfwords w S0 xs) r) is.1 ∙ sym (ap (λ (r : Region). halfwords_in w r) is.1)
  | inr is ↦ ap (λ (r : Region). halfwords_in (with_halfwords w r xs) (second_of count)) is.0 ∙ ap (λ (r : Region). halfwords_in (with_halfwords w S1 xs) r) is.1 ∙ sym (ap (λ (r : Region). halfwords_in w r) is.1)
]

-- the sizes and lengths
pub big : (n : ℕ) → IsSectorSize n → 16384 ≤ n
big n is = elim is [
  | inl p ↦ omega (arith, p)
  | inr q ↦ elim q [
    | inl p ↦ omega (arith, p)
    | inr s ↦ elim s [
      | inl p ↦ omega (arith, p)
      | inr p ↦ omega (arith, p)
    ]
  ]
]

pub half_of : (size : ℕ) → IsSectorSize size → 2 * (size / 2) ≡ size
half_of size is = elim is [
  | inl a ↦ omega (arith, a)
  | inr b ↦ elim b [
    | inl a ↦ omega (arith, a)
    | inr c ↦ elim c [
      | inl a ↦ omega (arith, a)
      | inr d ↦ omega (arith, d)
    ]
  ]
]

pub length_first : (size count : ℕ) → region_length size (first_of count) ≡ size / 2
length_first size count = elim (sides count) [
  | inl is ↦ ap (region_length size) is.0
  | inr is ↦ ap (region_length size) is.0
]

pub length_second : (size count : ℕ) → region_length size (second_of count) ≡ size / 2
length_second size count = elim (sides count) [
  | inl is ↦ ap (region_length size) is.1
  | inr is ↦ ap (region_length size) is.1
]

-- each row keeps its length
pub same_lengths : (w : Words) (r : Region) (xs : List ℕ) → length xs ≡ length (halfwords_in w r) → (q : Region) → length (halfwords_in (with_halfwords w r xs) q) ≡ length (halfwords_in w q)
same_lengths w S0 xs same S0 = same
same_lengths w S0 xs same S1 = refl
same_lengths w S0 xs same Guard = refl
same_lengths w S1 xs same S0 = refl
same_lengths w S1 xs same S1 = same
same_lengths w S1 xs same Guard = refl
same_lengths w Guard xs same S0 = refl
same_lengths w Guard xs same S1 = refl
same_lengths w Guard xs same Guard = same

pub not_guard : (r : Region) → IsSectorRegion r → (Guard ≡ r → ⊥)
not_guard S0 is same = cc
not_guard S1 is same = cc
not_guard Guard is same = is

pub not_same : (count : ℕ) → first_of count ≡ second_of count → ⊥
not_same count same = elim (sides count) [
  | inl is ↦ let wrong : S0 ≡ S1 = sym is.0 ∙ same ∙ is.1 in cc
  | inr is ↦ let wrong : S1 ≡ S0 = sym is.0 ∙ same ∙ is.1 in cc
]

pub row_of_guard : (w : Words) (r : Region) (xs : List ℕ) → IsSectorRegion r → halfwords_in (with_halfwords w Guard xs) r ≡ halfwords_in w r
row_of_guard w S0 xs is = refl
row_of_guard w S1 xs is = refl
row_of_guard w Guard xs is = absurd is
