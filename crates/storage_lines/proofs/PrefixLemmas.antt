-- What holds after each prefix of some writes.
use Rattle.std.proofs.Common.{◌≡◌, inl, inr, ℕ, zero, suc, ◌+◌, ◌-◌, List, [], ◌∷◌, ◌++◌, length, take, sym, ◌∙◌, ap, subst, arith}
use Rattle.std.proofs.lemmas.List.{take_all, take-append-le, length-append}
use Rattle.std.proofs.lemmas.Bool.{cases_lt}
use Rattle.storage_lines.specs.declared.lines.LineWrite.{LineWrite}
use Rattle.storage_lines.specs.Lines.{after, EachPrefix}
use Rattle.storage_lines.proofs.LineLemmas.{length-after, after-append}

pub take_over : {X : Type 0} (xs ys : List X) (j k : ℕ) → j ≡ length xs + k → take j (xs ++ ys) ≡ xs ++ take k ys
take_over [] ys j k e = let same : j ≡ k = omega arith in ap (λ (n : ℕ). take n ys) same
take_over (x ∷ xs) ys zero k e = absurd (omega arith)
take_over {X} (x ∷ xs) ys (suc j) k e = ap (λ (l : List X). x ∷ l) (take_over xs ys j k (omega arith))

pub prefix_append : (P : List ℕ → Type 0) (bytes : List ℕ) (xs ys : List LineWrite) → EachPrefix P bytes xs → EachPrefix P (after bytes xs) ys → EachPrefix P bytes (xs ++ ys)
prefix_append P bytes xs ys first then j h = elim (cases_lt (length xs) j) [
  | inl more ↦
      let k = j - length xs in
      let whole : after bytes (take j (xs ++ ys)) ≡ after (after bytes xs) (take k ys) = ap (λ (l : List LineWrite). after bytes l) (take_over xs ys j k (omega arith)) ∙ after-append bytes xs (take k ys) in
      subst P (sym whole) (then k (omega (arith, length-append xs ys)))
  | inr within ↦ subst (λ (l : List LineWrite). P (after bytes l)) (sym (take-append-le j xs ys within)) (first j within)
]

pub prefix_weaker : (P Q : List ℕ → Type 0) (bytes : List ℕ) (xs : List LineWrite) → ((b : List ℕ) → length b ≡ length bytes → P b → Q b) → EachPrefix P bytes xs → EachPrefix Q bytes xs
prefix_weaker P Q bytes xs weaker each j h = weaker (after bytes (take j xs)) (length-after bytes (take j xs)) (each j h)

pub prefix_nil : (P : List ℕ → Type 0) (bytes : List ℕ) → P bytes → EachPrefix P bytes []
prefix_nil P bytes h j l = subst (λ (ws : List LineWrite). P (after bytes ws)) (sym (take_all j [] (omega arith))) h
