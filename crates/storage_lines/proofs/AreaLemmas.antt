-- The places of the areas' bytes.
use Rattle.std.proofs.Common.{◌≡◌, ◌≢◌, ℕ, zero, suc, ◌+◌, ◌-◌, ◌<◌, ◌≤◌, List, [], ◌∷◌, length, get_or, refl, sym, ◌∙◌, ap, arith, ◌⊎◌, inl, inr}
use Rattle.std.proofs.lemmas.List.{length-set, get_or-set_same, get_or-set_other}
use Rattle.std.proofs.lemmas.Bool.Decides.{nat_tests}
use Rattle.std.proofs.lemmas.Bool.{cases_lt}
use Rattle.storage_lines.specs.declared.lines.TheConstants.{STORAGE_BYTES}
use Rattle.storage_lines.specs.declared.areas.Spans.{Spans}
use Rattle.storage_lines.specs.Areas.{total_size, place_in, put_in, IsAscending}

-- the three cases of a place
pub place_cases : (p : Spans) (i : ℕ) →
    ((i < p.first.size) × (place_in p i ≡ p.first.start + i))
    ⊎ (((p.first.size ≤ i) × (i < p.first.size + p.second.size) × (place_in p i ≡ p.second.start + (i - p.first.size)))
    ⊎ ((p.first.size + p.second.size ≤ i) × (place_in p i ≡ p.third.start + (i - p.first.size - p.second.size))))
place_cases p i = elim (cases_lt i p.first.size) [
  | inl a ↦ inl (a, grind (arith, nat_tests))
  | inr a ↦ elim (cases_lt i (p.first.size + p.second.size)) [
    | inl b ↦ inr (inl (a, b, grind (arith, nat_tests)))
    | inr b ↦ inr (inr (b, grind (arith, nat_tests)))
  ]
]

pub place_inside : (p : Spans) (i : ℕ) → IsAscending p → i < total_size p → place_in p i < STORAGE_BYTES
place_inside p i up h = let first = up.first in let second = up.second in let third = up.third in
    elim (place_cases p i) [
      | inl a ↦ omega arith
      | inr b ↦ elim b [ inl a ↦ omega arith | inr a ↦ omega arith ]
    ]

-- places rise
pub place_rises : (p : Spans) (i j : ℕ) → IsAscending p → i < j → j < total_size p → place_in p i < place_in p j
place_rises p i j up h g = let first = up.first in let second = up.second in let third = up.third in
    elim (place_cases p i) [
      | inl a ↦ elim (place_cases p j) [
        | inl b ↦ omega arith
        | inr c ↦ elim c [ inl b ↦ omega arith | inr b ↦ omega arith ]
      ]
      | inr x ↦ elim x [
        | inl a ↦ elim (place_cases p j) [
          | inl b ↦ omega arith
          | inr c ↦ elim c [ inl b ↦ omega arith | inr b ↦ omega arith ]
        ]
        | inr a ↦ elim (place_cases p j) [
          | inl b ↦ omega arith
          | inr c ↦ elim c [ inl b ↦ omega arith | inr b ↦ omega arith ]
        ]
      ]
    ]

pub length-put_in : (p : Spans) (at : ℕ) (xs bytes : List ℕ) → length (put_in p at xs bytes) ≡ length bytes
length-put_in p at [] bytes = refl
length-put_in p at (x ∷ xs) bytes = length-set (put_in p (at + 1) xs bytes) (place_in p at) x ∙ length-put_in p (at + 1) xs bytes

-- a byte that was put
pub put_in-at : (p : Spans) (at : ℕ) (xs bytes : List ℕ) (i d : ℕ) → IsAscending p → length bytes ≡ STORAGE_BYTES → at + length xs ≤ total_size p → i < length xs →
    get_or (put_in p at xs bytes) (place_in p (at + i)) d ≡ get_or xs i d
put_in-at p at [] bytes i d up size fits h = absurd (omega arith)
put_in-at p at (x ∷ xs) bytes zero d up size fits h =
    let at0 : at + 0 ≡ at = omega arith in
    ap (λ (k : ℕ). get_or (put_in p at (x ∷ xs) bytes) (place_in p k) d) at0
    ∙ get_or-set_same (put_in p (at + 1) xs bytes) (place_in p at) x d (omega (arith, length-put_in p (at + 1) xs bytes, place_inside p at up (omega arith)))
put_in-at p at (x ∷ xs) bytes (suc i) d up size fits h =
    let next : at + suc i ≡ at + 1 + i = omega arith in
    let rise = place_rises p at (at + suc i) up (omega arith) (omega arith) in
    get_or-set_other (put_in p (at + 1) xs bytes) (place_in p at) (place_in p (at + suc i)) x d (omega (arith, rise))
    ∙ ap (λ (k : ℕ). get_or (put_in p (at + 1) xs bytes) (place_in p k) d) next
    ∙ put_in-at p (at + 1) xs bytes i d up size (omega arith) (omega arith)

-- a byte at a place that no byte was put at
pub put_in-other : (p : Spans) (at : ℕ) (xs bytes : List ℕ) (k d : ℕ) → ((i : ℕ) → i < length xs → place_in p (at + i) ≢ k) → get_or (put_in p at xs bytes) k d ≡ get_or bytes k d
put_in-other p at [] bytes k d free = refl
put_in-other p at (x ∷ xs) bytes k d free =
    let here : k ≢ place_in p at = λ e. free 0 (omega arith) (ap (λ (j : ℕ). place_in p j) (omega arith) ∙ sym e) in
    get_or-set_other (put_in p (at + 1) xs bytes) (place_in p at) k x d here
    ∙ put_in-other p (at + 1) xs bytes k d (λ i h e. free (suc i) (omega arith) (ap (λ (j : ℕ). place_in p j) (omega arith) ∙ e))
