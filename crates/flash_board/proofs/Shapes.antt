-- The lengths of the lists of words, which no call changes.
use Rattle.std.proofs.Common.{◌≡◌, ℕ, zero, suc, ◌^◌, ◌<◌, lit<, List, [], ◌∷◌, length, get_or, bit_and, replicate, refl, sym, ◌∙◌, subst, arith}
use Rattle.std.proofs.Math.ListN.{set}
use Rattle.std.proofs.lemmas.List.{length-set}
use Rattle.std.specs.Prelude.{slice_index}
use Rattle.flash_traits.specs.Words.{Words, halfwords_in, with_halfwords, programmed, erased, HasShape, EraseMayLeave}
use Rattle.flash_board.specs.Flash.{half_erased}
use Rattle.flash_board.specs.Rows.{half_set}
use Rattle.flash_traits.specs.declared.board.Region.{Region}
use Rattle.flash_traits.specs.declared.board.Region.TheVariants.{S0, S1, Guard}
use Rattle.flash_traits.proofs.Moments.{row-with_row}

pub length-with_row : (w : Words) (r : Region) (xs : List ℕ) → length xs ≡ length (halfwords_in w r) → (q : Region) → length (halfwords_in (with_halfwords w r xs) q) ≡ length (halfwords_in w q)
length-with_row w S0 xs same S0 = same
length-with_row w S0 xs same S1 = refl
length-with_row w S0 xs same Guard = refl
length-with_row w S1 xs same S0 = refl
length-with_row w S1 xs same S1 = same
length-with_row w S1 xs same Guard = refl
length-with_row w Guard xs same S0 = refl
length-with_row w Guard xs same S1 = refl
length-with_row w Guard xs same Guard = same

pub row-with_row-other : (w : Words) (r : Region) (xs : List ℕ) (q : Region) → (q ≡ r → ⊥) → halfwords_in (with_halfwords w r xs) q ≡ halfwords_in w q
row-with_row-other w S0 xs S0 other = absurd (other refl)
row-with_row-other w S0 xs S1 other = refl
row-with_row-other w S0 xs Guard other = refl
row-with_row-other w S1 xs S0 other = refl
row-with_row-other w S1 xs S1 other = absurd (other refl)
row-with_row-other w S1 xs Guard other = refl
row-with_row-other w Guard xs S0 other = refl
row-with_row-other w Guard xs S1 other = refl
row-with_row-other w Guard xs Guard other = absurd (other refl)

length-half_set : (xs : List ℕ) → length (half_set xs) ≡ length xs
length-half_set [] = refl
length-half_set (x ∷ []) = refl
length-half_set (x ∷ y ∷ rest) = omega (arith, length-half_set rest)

abbrev ffff : ℕ
ffff = 65535

length-blank : (n : ℕ) → length (replicate n ffff) ≡ n
length-blank zero = refl
length-blank (suc n) = omega (arith, length-blank n)

blank_fits : (n k : ℕ) → get_or (replicate n ffff) k 0 < 2 ^ 16
blank_fits zero k = lit< tt
blank_fits (suc n) zero = lit< tt
blank_fits (suc n) (suc k) = blank_fits n k

pub shape-programmed : (n : ℕ) (w : Words) (r : Region) (at x : ℕ) → HasShape n w → HasShape n (programmed w r at x)
shape-programmed n w r at x shape q = length-with_row w r (set (halfwords_in w r) at (bit_and (get_or (halfwords_in w r) at 0) x)) (length-set (halfwords_in w r) at (bit_and (get_or (halfwords_in w r) at 0) x)) q ∙ shape q

pub shape-erased : (n : ℕ) (w : Words) (r : Region) → HasShape n w → HasShape n (erased w r)
shape-erased n w r shape q = length-with_row w r (replicate (length (halfwords_in w r)) ffff) (length-blank (length (halfwords_in w r))) q ∙ shape q

pub shape-half_erased : (n : ℕ) (w : Words) (r : Region) → HasShape n w → HasShape n (half_erased w r)
shape-half_erased n w r shape q = length-with_row w r (half_set (halfwords_in w r)) (length-half_set (halfwords_in w r)) q ∙ shape q

-- an erase that is done, and one that is done by halves, are among what a loss may leave
pub erased_may : (w : Words) (r : Region) → EraseMayLeave r w (erased w r)
erased_may w r = record {
  same_length = length-with_row w r (replicate (length (halfwords_in w r)) ffff) (length-blank (length (halfwords_in w r))) r;
  halfwords = λ k. subst (λ (l : List ℕ). get_or l k 0 < 2 ^ 16) (sym (row-with_row w r (replicate (length (halfwords_in w r)) ffff))) (blank_fits (length (halfwords_in w r)) k);
  others = λ q other. row-with_row-other w r (replicate (length (halfwords_in w r)) ffff) q other;
}

pub half_erased_may : (w : Words) (r : Region) → ((k : ℕ) → slice_index (halfwords_in (half_erased w r) r) k < 2 ^ 16) → EraseMayLeave r w (half_erased w r)
half_erased_may w r fits = record {
  same_length = length-with_row w r (half_set (halfwords_in w r)) (length-half_set (halfwords_in w r)) r;
  halfwords = fits;
  others = λ q other. row-with_row-other w r (half_set (halfwords_in w r)) q other;
}
