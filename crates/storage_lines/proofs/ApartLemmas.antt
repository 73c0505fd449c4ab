-- No two areas share a byte.
use Rattle.std.proofs.Common.{◌≡◌, inl, inr, ℕ, ◌<◌, ◌≤◌, cond, List, length, take, refl, sym, ◌∙◌, ap, arith}
use Rattle.std.specs.Prelude.{nat_lt}
use Rattle.std.proofs.lemmas.List.{ext_get_or}
use Rattle.std.proofs.lemmas.Bool.Decides.{nat_tests}
use Rattle.storage_lines.specs.declared.lines.TheConstants.{STORAGE_BYTES, LINES}
use Rattle.storage_lines.specs.declared.areas.Area.{Area}
use Rattle.storage_lines.specs.declared.areas.Area.TheVariants.{Param, Mission, Rally, Fence, Keys, Bind}
use Rattle.storage_lines.specs.Areas.{spans_of, size_of_area, place_of, IsAscending}
use Rattle.storage_lines.specs.Lines.{after, changes}
use Rattle.storage_lines.specs.Laws.{UpToLine}
use Rattle.storage_lines.proofs.AreaLemmas.{place_cases}
use Rattle.storage_lines.proofs.LineLemmas.{mixed_all, mixed_prefix, length-after}
use Rattle.storage_lines.proofs.SplitLemmas.{place_same}

-- whose byte a place is, by a number for each area
owner : ℕ → ℕ
owner k = cond (nat_lt k 1280) 0 (cond (nat_lt k 3786) 1 (cond (nat_lt k 3936) 2 (cond (nat_lt k 4096) 3 (cond (nat_lt k 5376) 0
    (cond (nat_lt k 5676) 2 (cond (nat_lt k 5932) 3 (cond (nat_lt k 8064) 1 (cond (nat_lt k 8128) 4 (cond (nat_lt k 8184) 5 0)))))))))

number : Area → ℕ
number Param = 0
number Mission = 1
number Rally = 2
number Fence = 3
number Keys = 4
number Bind = 5

owner_of : (a : Area) (i : ℕ) → i < size_of_area a → owner (place_of a i) ≡ number a
unfolding owner number
owner_of Param i h = elim (place_cases (spans_of Param) i) [
  | inl a ↦ grind (arith, nat_tests)
  | inr x ↦ elim x [ inl a ↦ grind (arith, nat_tests) | inr a ↦ grind (arith, nat_tests) ]
]
owner_of Mission i h = elim (place_cases (spans_of Mission) i) [
  | inl a ↦ grind (arith, nat_tests)
  | inr x ↦ elim x [ inl a ↦ grind (arith, nat_tests) | inr a ↦ grind (arith, nat_tests) ]
]
owner_of Rally i h = elim (place_cases (spans_of Rally) i) [
  | inl a ↦ grind (arith, nat_tests)
  | inr x ↦ elim x [ inl a ↦ grind (arith, nat_tests) | inr a ↦ grind (arith, nat_tests) ]
]
owner_of Fence i h = elim (place_cases (spans_of Fence) i) [
  | inl a ↦ grind (arith, nat_tests)
  | inr x ↦ elim x [ inl a ↦ grind (arith, nat_tests) | inr a ↦ grind (arith, nat_tests) ]
]
owner_of Keys i h = elim (place_cases (spans_of Keys) i) [
  | inl a ↦ grind (arith, nat_tests)
  | inr x ↦ elim x [ inl a ↦ grind (arith, nat_tests) | inr a ↦ grind (arith, nat_tests) ]
]
owner_of Bind i h = elim (place_cases (spans_of Bind) i) [
  | inl a ↦ grind (arith, nat_tests)
  | inr x ↦ elim x [ inl a ↦ grind (arith, nat_tests) | inr a ↦ grind (arith, nat_tests) ]
]

area_at : ℕ → Area
area_at n = cond (nat_lt n 1) Param (cond (nat_lt n 2) Mission (cond (nat_lt n 3) Rally (cond (nat_lt n 4) Fence (cond (nat_lt n 5) Keys Bind))))

area_back : (a : Area) → area_at (number a) ≡ a
unfolding area_at number
area_back Param = refl
area_back Mission = refl
area_back Rally = refl
area_back Fence = refl
area_back Keys = refl
area_back Bind = refl

pub ascending : (a : Area) → IsAscending (spans_of a)
ascending Param = record { first = omega arith; second = omega arith; third = omega arith }
ascending Mission = record { first = omega arith; second = omega arith; third = omega arith }
ascending Rally = record { first = omega arith; second = omega arith; third = omega arith }
ascending Fence = record { first = omega arith; second = omega arith; third = omega arith }
ascending Keys = record { first = omega arith; second = omega arith; third = omega arith }
ascending Bind = record { first = omega arith; second = omega arith; third = omega arith }

pub areas_apart : (a b : Area) (i j : ℕ) → i < size_of_area a → j < size_of_area b → place_of a i ≡ place_of b j → (a ≡ b) × (i ≡ j)
areas_apart a b i j h g e =
    let numbers : number a ≡ number b = sym (owner_of a i h) ∙ ap owner e ∙ owner_of b j g in
    let same : a ≡ b = sym (area_back a) ∙ ap area_at numbers ∙ area_back b in
    let place : place_of a i ≡ place_of a j = e ∙ ap (λ (x : Area). place_of x j) (sym same) in
    let few : j < size_of_area a = let sizes : size_of_area a ≡ size_of_area b = ap (λ (x : Area). size_of_area x) same in omega arith in
    (same, place_same (spans_of a) i j (ascending a) h few place)

pub whole_changes : (old new : List ℕ) → length old ≡ STORAGE_BYTES → length new ≡ STORAGE_BYTES → after old (changes old new) ≡ new
whole_changes old new size size' =
    let m = mixed_all LINES old new (omega arith) in
    let long : length (after old (changes old new)) ≡ STORAGE_BYTES = length-after old (changes old new) ∙ size in
    ext_get_or 0 (after old (changes old new)) new (long ∙ sym size') (λ i h. m.front i (omega arith) (omega arith))

pub each_change : (old new : List ℕ) (j : ℕ) → length old ≡ STORAGE_BYTES → j ≤ length (changes old new) → (border : ℕ) × UpToLine border old new (after old (take j (changes old new)))
each_change old new j size h =
    let found = mixed_prefix LINES old new j (omega arith) h in
    let m = found.2 in
    (found.0, record { size = m.size; front = m.front; back = m.back })
