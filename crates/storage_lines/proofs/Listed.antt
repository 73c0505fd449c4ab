-- Lists of the values of a function.
use Rattle.std.proofs.Common.{◌≡◌, ℕ, zero, suc, ◌<◌, [], ◌∷◌, length, get_or, refl, sym, ◌∙◌, ap, arith, inl, inr}
use Rattle.std.proofs.lemmas.List.{length_push, get_or_append_left, get_or_at}
use Rattle.std.proofs.lemmas.Bool.{cases_lt}
use Rattle.storage_lines.specs.Areas.{listed}

pub length-listed : (n : ℕ) (f : ℕ → ℕ) → length (listed n f) ≡ n
unfolding listed
length-listed zero f = refl
length-listed (suc n) f = omega (arith, length_push (listed n f) (f n), length-listed n f)

pub get_or-listed : (n : ℕ) (f : ℕ → ℕ) (k d : ℕ) → k < n → get_or (listed n f) k d ≡ f k
unfolding listed
get_or-listed zero f k d h = absurd (omega arith)
get_or-listed (suc n) f k d h = elim (cases_lt k n) [
  | inl below ↦ get_or_append_left (listed n f) (f n ∷ []) d k (omega (arith, length-listed n f)) ∙ get_or-listed n f k d below
  | inr above ↦ let same : k ≡ n = omega arith in
      get_or_at (listed n f) (f n) [] d k (length-listed n f ∙ sym same) ∙ ap f (sym same)
]
