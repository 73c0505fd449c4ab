-- Halfwords that were copied one by one, as the words of an image.
use Rattle.std.proofs.Common.{◌≡◌, ◌∙◌, ℕ, ◌+◌, ◌*◌, ◌/◌, ◌<◌, List, length, slice_index, sym, arith, Result, Ok, Err}
use Rattle.std.specs.Prelude.{OnOk}
use Rattle.std.proofs.lemmas.List.{ext_get_or}
use Rattle.flash_traits.specs.Words.{Words, IsSectorSize}
use Rattle.script_board.specs.Image.{halfword_at, halfwords_from, words_of}
use Rattle.script_board.proofs.Halfwords.{long, at_index, same}

-- each halfword of a list stands there
pub all_copied : (bytes : List ℕ) (start count : ℕ) (xs : List ℕ) → length xs ≡ count → ((k : ℕ) → k < count → halfword_at bytes (start + 2 * k) ≡ slice_index xs k) → halfwords_from bytes start count ≡ xs
all_copied bytes start count xs size each =
    ext_get_or 0 (halfwords_from bytes start count) xs (long bytes start count ∙ sym size)
    (λ k lt. let less : k < count = omega (arith, lt, long bytes start count) in at_index bytes start count k less ∙ each k less)

-- the halfwords before a place stay where only bytes from there on change
pub earlier_stays : (a b : List ℕ) (at k start : ℕ) → k < at → ((j : ℕ) → j < start + 2 * at → slice_index a j ≡ slice_index b j) → halfword_at a (start + 2 * k) ≡ halfword_at b (start + 2 * k)
earlier_stays a b at k start lt stays = omega (arith, stays (start + 2 * k) (omega arith), stays (start + 2 * k + 1) (omega arith))

-- The three regions were copied one after the other, and each copy left the bytes before it.
pub regions_copied : (n : ℕ) (w : Words) (a b c : List ℕ) → IsSectorSize n
    → halfwords_from a 0 (n / 2) ≡ w.s0 → halfwords_from b n (n / 2) ≡ w.s1 → halfwords_from c (2 * n) 8192 ≡ w.guard
    → ((j : ℕ) → j < n → slice_index b j ≡ slice_index a j) → ((j : ℕ) → j < 2 * n → slice_index c j ≡ slice_index b j) → words_of n c ≡ w
regions_copied n w a b c known first second row keeps_first keeps_both =
    let s0 : halfwords_from c 0 (n / 2) ≡ w.s0 = same c a 0 (n / 2) (λ j from to. keeps_both j (omega (arith, known)) ∙ keeps_first j (omega (arith, known))) ∙ first in
    let s1 : halfwords_from c n (n / 2) ≡ w.s1 = same c b n (n / 2) (λ j from to. keeps_both j (omega (arith, known))) ∙ second in
    λ i. record { s0 = s0 i; s1 = s1 i; guard = row i }

-- what holds where all was copied
pub on_ok_map : {T E : Type 0} (r : Result T E) (P Q : Type 0) → (P → Q) → OnOk r P → OnOk r Q
on_ok_map (Ok x) P Q f p = f p
on_ok_map (Err e) P Q f p = tt
