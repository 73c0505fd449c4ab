-- What a loss inside an erase may leave.
use Rattle.std.proofs.Common.{◌≡◌, ℕ, zero, suc, ◌^◌, ◌<◌, List, [], ◌∷◌, length, replicate, slice_index, refl, sym, subst, arith}
use Rattle.std.proofs.lemmas.List.{length-replicate}
use Rattle.flash_traits.specs.Words.{Words, halfwords_in, with_halfwords, IsSectorRegion, erased, EraseMayLeave}
use Rattle.flash_traits.specs.declared.board.Region.{Region}
use Rattle.flash_traits.specs.declared.board.Region.TheVariants.{S0, S1, Guard}
use Rattle.script_board.specs.Image.{odd_erased, half_erased}
use Rattle.script_board.specs.Boards.{erased_by}

ones : (n k : ℕ) → slice_index (replicate n 65535) k < 2 ^ 16
ones zero k = omega arith
ones (suc n) zero = omega arith
ones (suc n) (suc k) = ones n k

odd_length : (xs : List ℕ) → length (odd_erased xs) ≡ length xs
odd_length [] = refl
odd_length (x ∷ []) = refl
odd_length (x ∷ y ∷ xs) = omega (arith, odd_length xs)

odd_fits : (xs : List ℕ) → ((k : ℕ) → slice_index xs k < 2 ^ 16) → (k : ℕ) → slice_index (odd_erased xs) k < 2 ^ 16
odd_fits [] fits k = fits k
odd_fits (x ∷ []) fits k = fits k
odd_fits (x ∷ y ∷ xs) fits zero = fits 0
odd_fits (x ∷ y ∷ xs) fits (suc zero) = omega arith
odd_fits (x ∷ y ∷ xs) fits (suc (suc k)) = odd_fits xs (λ j. fits (suc (suc j))) k

-- other halfwords in one sector
replaced : (r : Region) (w : Words) (xs : List ℕ) → IsSectorRegion r → length xs ≡ length (halfwords_in w r) → ((k : ℕ) → slice_index xs k < 2 ^ 16)
    → EraseMayLeave r w (with_halfwords w r xs)
replaced S0 w xs sector long fits = record { same_length = long; halfwords = fits; others = λ q other. rest q other }
  where
    rest : (q : Region) → (q ≡ S0 → ⊥) → halfwords_in (with_halfwords w S0 xs) q ≡ halfwords_in w q
    rest S0 other = absurd (other refl)
    rest S1 other = refl
    rest Guard other = refl
replaced S1 w xs sector long fits = record { same_length = long; halfwords = fits; others = λ q other. rest q other }
  where
    rest : (q : Region) → (q ≡ S1 → ⊥) → halfwords_in (with_halfwords w S1 xs) q ≡ halfwords_in w q
    rest S0 other = refl
    rest S1 other = absurd (other refl)
    rest Guard other = refl
replaced Guard w xs sector long fits = absurd sector

pub erased_may : (r : Region) (w : Words) → IsSectorRegion r → EraseMayLeave r w (erased w r)
erased_may r w sector = replaced r w _ sector (length-replicate (length (halfwords_in w r)) 65535) (ones (length (halfwords_in w r)))

pub half_may : (r : Region) (w : Words) → IsSectorRegion r → ((q : Region) (k : ℕ) → slice_index (halfwords_in w q) k < 2 ^ 16) → EraseMayLeave r w (half_erased w r)
half_may r w sector fits = replaced r w _ sector (odd_length (halfwords_in w r)) (odd_fits (halfwords_in w r) (fits r))

pub same_may : (r : Region) (w : Words) → IsSectorRegion r → ((q : Region) (k : ℕ) → slice_index (halfwords_in w q) k < 2 ^ 16) → EraseMayLeave r w w
same_may r w sector fits = record { same_length = refl; halfwords = fits r; others = λ q other. refl }

-- by way of the loss
pub leaves_may : (how : ℕ) (r : Region) (w v : Words) → IsSectorRegion r → ((q : Region) (k : ℕ) → slice_index (halfwords_in w q) k < 2 ^ 16) → v ≡ erased_by how w r → EraseMayLeave r w v
leaves_may zero r w v sector fits is = subst (EraseMayLeave r w) (sym is) (same_may r w sector fits)
leaves_may (suc zero) r w v sector fits is = subst (EraseMayLeave r w) (sym is) (erased_may r w sector)
leaves_may (suc (suc zero)) r w v sector fits is = subst (EraseMayLeave r w) (sym is) (half_may r w sector fits)
leaves_may (suc (suc (suc how))) r w v sector fits is = subst (EraseMayLeave r w) (sym is) (same_may r w sector fits)
