use Rattle.std.proofs.Common.{ℕ, ◌≡◌, ◌-◌, min, List, ◌++◌, length, take, drop, replicate, sym, ap, ◌∙◌, arith, inl, inr}
use Rattle.std.proofs.lemmas.List.{take_all, drop-replicate}
use Rattle.std.proofs.lemmas.Bool.{cases_lt}

take_min : (k : ℕ) (s : List ℕ) → take (min (length s) k) s ≡ take k s
take_min k s =
    elim (cases_lt k (length s)) [
      | inl more ↦ ap (λ j. take j s) (let e : min (length s) k ≡ k = omega arith in e)
      | inr less ↦ ap (λ j. take j s) (let e : min (length s) k ≡ length s = omega arith in e) ∙ take_all (length s) s (omega arith) ∙ sym (take_all k s less)
    ]

pub fill_is : (k n : ℕ) (s front : List ℕ) → n ≡ min (length s) k → front ≡ take n s → front ++ drop n (replicate k 0) ≡ take k s ++ replicate (k - length s) 0
fill_is k n s front e f =
    ap (λ v. v ++ drop n (replicate k 0)) (f ∙ ap (λ j. take j s) e ∙ take_min k s)
    ∙ ap (λ v. take k s ++ v) (drop-replicate n k 0 ∙ ap (λ j. replicate j 0) (let g : k - n ≡ k - length s = omega (arith, e) in g))
