-- A row as a walk finds it, and its next halfword programmed to 0.
use Rattle.std.proofs.Common.{◌≡◌, ◌≢◌, inl, inr, ℕ, suc, ◌+◌, ◌-◌, ◌<◌, ◌≤◌, List, [], ◌∷◌, ◌++◌, length, get_or, set, take, drop, replicate, refl, sym, ◌∙◌, ap, subst, arith, append_assoc}
use Rattle.std.specs.Prelude.{bit_and, slice_set, slice_index}
use Rattle.std.proofs.lemmas.Nat.{and_comm}
use Rattle.std.proofs.lemmas.List.{length-append, length-replicate, length-drop, length-take-le, replicate_more, set_at, ext_get_or, get_or-replicate, get_or-take, get_or-drop, take-append-drop, drop-drop, drop_more}
use Rattle.flash_traits.specs.Words.{Words, Programs, ProgramMayLeave}
use Rattle.flash_traits.specs.declared.board.Region.TheVariants.{Guard}
use Rattle.guard_row.specs.declared.row.GuardError.{GuardError}
use Rattle.guard_row.specs.declared.row.GuardError.TheVariants as errors
use Rattle.guard_row.specs.Row.{IsGuardRow, FirstBad, FirstFrom}
use Rattle.guard_row.specs.Errors.{OnWord}
use Rattle.guard_row.specs.Steps.{Counts, CountMayLeave}

and_zero : (n : ℕ) → bit_and n 0 ≡ 0
and_zero n = and_comm n 0 ∙ zero_and n
  where
    zero_and : (n : ℕ) → bit_and 0 n ≡ 0
    zero_and n = refl

-- the next halfword of a row is programmed to 0
pub next_count : (row : List ℕ) (count : ℕ) → IsGuardRow row count → count < length row → IsGuardRow (slice_set row count (bit_and (slice_index row count) 0)) (count + 1)
next_count row count is lt =
    let n = is.erased - 1 in
    let zeros : List ℕ = replicate count 0 in
    let rest : List ℕ = replicate n 65535 in
    let some : is.erased ≡ suc n = omega (arith, ap length is.whole, length-append {A = ℕ} (replicate count 0) (replicate is.erased 65535), length-replicate {A = ℕ} count 0, length-replicate {A = ℕ} is.erased 65535) in
    let whole : row ≡ zeros ++ 65535 ∷ rest = is.whole ∙ ap (λ (k : ℕ). zeros ++ replicate k 65535) some in
    record {
      erased = n;
      whole = ap (λ (v : ℕ). set row count v) (and_zero (slice_index row count)) ∙ ap (λ (l : List ℕ). set l count 0) whole
          ∙ set_at zeros 65535 rest 0 count (length-replicate {A = ℕ} count 0) ∙ sym (append_assoc zeros (0 ∷ []) rest) ∙ ap (λ (l : List ℕ). l ++ rest) (replicate_more count 0);
    }

-- so many halfwords of one value from a place on
run_from : (row : List ℕ) (from n v : ℕ) → from + n ≤ length row → ((k : ℕ) → from ≤ k → k < from + n → get_or row k 0 ≡ v) → drop from row ≡ replicate n v ++ drop (from + n) row
run_from row from n v fits each =
    let rest = drop from row in
    let size : length (take n rest) ≡ n = length-take-le n rest (omega (arith, length-drop from row)) in
    let same : take n rest ≡ replicate n v = ext_get_or 0 (take n rest) (replicate n v) (size ∙ sym (length-replicate {A = ℕ} n v))
    (λ k lt. let below : k < n = omega (arith, lt, size) in
    get_or-take n rest k 0 below ∙ get_or-drop from row k 0 ∙ each (from + k) (omega arith) (omega (arith, below)) ∙ sym (get_or-replicate n k v 0 below)) in
    sym (take-append-drop n rest) ∙ ap (λ (l : List ℕ). l ++ drop n rest) same ∙ ap (λ (l : List ℕ). replicate n v ++ l) (drop-drop n from row)

zeros_first : (row : List ℕ) (count : ℕ) → count ≤ length row → ((k : ℕ) → k < count → get_or row k 0 ≡ 0) → row ≡ replicate count 0 ++ drop count row
zeros_first row count fits each =
    let none : 0 + count ≡ count = omega arith in
    run_from row 0 count 0 (omega arith) (λ k from lt. each k (omega (arith, lt))) ∙ ap (λ (n : ℕ). replicate count 0 ++ drop n row) none

-- zeros, and then only FFFF
pub row_found : (row : List ℕ) (count : ℕ) → count ≤ length row → ((k : ℕ) → k < count → get_or row k 0 ≡ 0) → ((k : ℕ) → count ≤ k → k < length row → get_or row k 0 ≡ 65535) → IsGuardRow row count
row_found row count fits zeros erased =
    let n = length row - count in
    let last : drop (count + n) row ≡ [] = none_left (drop (count + n) row) (omega (arith, length-drop (count + n) row)) in
    let rest : drop count row ≡ replicate n 65535 ++ drop (count + n) row = run_from row count n 65535 (omega arith) (λ k from lt. erased k from (omega (arith, lt))) in
    record {
      erased = n;
      whole = zeros_first row count fits zeros ∙ ap (λ (l : List ℕ). replicate count 0 ++ l) (rest ∙ ap (λ (l : List ℕ). replicate n 65535 ++ l) last ∙ nothing (replicate n 65535));
    }
  where
    none_left : (xs : List ℕ) → length xs ≡ 0 → xs ≡ []
    none_left [] size = refl
    none_left (x ∷ xs) size = absurd (omega arith)

    nothing : (xs : List ℕ) → xs ++ [] ≡ xs
    nothing [] = refl
    nothing (x ∷ xs) = ap (λ (l : List ℕ). x ∷ l) (nothing xs)

-- zeros, then FFFF up to a halfword that is neither
pub bad_found : (row : List ℕ) (count place word : ℕ) → length row ≡ 8192 → ((k : ℕ) → k < count → get_or row k 0 ≡ 0) → (count < 8192 → get_or row count 0 ≢ 0) → FirstFrom row count place word → FirstBad row place word
bad_found row count place word size zeros other found =
    let n = place - count in
    let inside : place < length row = omega (arith, found.inside, size) in
    let run : drop count row ≡ replicate n 65535 ++ drop (count + n) row = run_from row count n 65535 (omega (arith, found.behind)) (λ k from lt. found.erased k from (omega (arith, lt, found.behind))) in
    let here : drop (count + n) row ≡ word ∷ drop (place + 1) row =
    ap (λ (k : ℕ). drop k row) (omega (arith, found.behind)) ∙ drop_more row place 0 inside ∙ ap (λ (v : ℕ). v ∷ drop (place + 1) row) (sym found.is) in
    record {
      zeros = count;
      erased = n;
      rest = drop count row;
      whole = zeros_first row count (omega (arith, found.behind)) zeros;
      other = record { more = drop (place + 1) row; at = run ∙ ap (λ (l : List ℕ). replicate n 65535 ++ l) here; other = found.other };
      all_zeros = λ none is. other (omega (arith, found.inside, found.behind)) (ap (λ (k : ℕ). get_or row k 0) (omega (arith, none, found.behind)) ∙ sym found.is ∙ is);
      at = omega (arith, found.behind);
    }

-- what the program of a step does and may leave
pub step_counts : (count : ℕ) (old new : Words) → count < length old.guard → Programs Guard count 0 old new → Counts count old new
step_counts count old new lt did is = subst (λ (w : Words). IsGuardRow w.guard (count + 1)) (sym did) (next_count old.guard count is lt)

pub step_may : (count : ℕ) (old new : Words) → count < length old.guard → ProgramMayLeave Guard count 0 old new → CountMayLeave count old new
step_may count old new lt (inl same) is = inl (subst (λ (w : Words). IsGuardRow w.guard count) (sym same) is)
step_may count old new lt (inr did) is = inr (step_counts count old new lt did is)

-- a weaker fact of the place and the word
pub on_word_weaker : (e : GuardError) (P Q : ℕ → ℕ → Type 0) → ((place word : ℕ) → P place word → Q place word) → OnWord e P → OnWord e Q
on_word_weaker (errors.Fault kind) P Q h p = tt
on_word_weaker (errors.Word place word) P Q h p = h place word p
