-- Names in sixteen bytes, and without the zeros after them.
use Rattle.std.proofs.Common.{None, position, IsTrue, IsNone, ◌↔◌, ◌≡◌, ◌≢◌, ℕ, zero, suc, ◌+◌, ◌-◌, ◌<◌, ◌≤◌, Bool, true, false, List, [], ◌∷◌, ◌++◌, length, get_or, take, refl, sym, ◌∙◌, ap, subst, arith, ◌==◌, eq-eqb, inl, inr}
use Rattle.std.specs.Prelude.{All, replicate}
use Rattle.std.specs.List.{before_first, position_or_len}
use Rattle.std.proofs.lemmas.Bool.{ne_eqb, cases_Bool}
use Rattle.std.proofs.lemmas.List.{length-append, get_or_append_left, get_or-append_right, take-append-le, take_all, length-take, get_or-take}
use Rattle.std.proofs.lemmas.List.Sums.{position_or_len_is, fails_before_first}
use Rattle.std.proofs.lemmas.Slice.Eq.{bytes_eq-Decides}
use Rattle.std.specs.Str.{bytes_eq}
use Rattle.param_tree.specs.declared.Var.{Var}
use Rattle.param_tree.specs.Rules.{IsTable, IsName, name16, name_of, has_name}
use Rattle.param_tree.proofs.Places.{position_none, none_there}

abbrev none : ℕ
none = 0

zeros : (n k : ℕ) → get_or (replicate n none) k none ≡ none
zeros zero k = refl
zeros (suc n) zero = refl
zeros (suc n) (suc k) = zeros n k

-- a name that is filled with zeros is that name before them
pub name-filled : (s : List ℕ) → IsName s → before_first (λ b. b == 0) (name16 s) ≡ s
name-filled s is =
    let rest = replicate (16 - length s) none in
    let at : position_or_len (λ b. b == 0) (name16 s) ≡ length s = position_or_len_is (λ b. b == 0) (name16 s) (length s) 0 (omega (arith, length-append s rest))
    (λ k less. ne_eqb (get_or (name16 s) k 0) 0 (λ e. is.1 k 0 less (sym (get_or_append_left s rest 0 k less) ∙ e)))
    (λ less. eq-eqb (get_or (name16 s) (length s) 0) 0 (get_or-append_right s rest (length s) (length s) 0 refl (omega arith) ∙ zeros (16 - length s) (length s - length s))) in
    ap (λ (n : ℕ). take n (name16 s)) at ∙ take-append-le (length s) s rest (omega arith) ∙ take_all (length s) s (omega arith)

-- the row whose bytes are those of the name has it
pub named_by_bytes : (v : Var) (n bytes : List ℕ) → IsName n → bytes ≡ name16 n → bytes_eq v.name bytes ≡ true → has_name n v ≡ true
named_by_bytes v n bytes is filled same =
    let whole : v.name ≡ name16 n = (bytes_eq-Decides v.name bytes).0 same ∙ filled in
    (bytes_eq-Decides (name_of v) n).1 (ap (before_first (λ b. b == 0)) whole ∙ name-filled n is)

-- and no other
pub not_by_bytes : (v : Var) (n bytes : List ℕ) → v.name ≡ name16 (name_of v) → bytes ≡ name16 n → bytes_eq v.name bytes ≡ false → has_name n v ≡ false
not_by_bytes v n bytes named filled differ = elim (cases_Bool (has_name n v)) [
  | inl has ↦
      let whole : v.name ≡ bytes = named ∙ ap name16 ((bytes_eq-Decides (name_of v) n).0 has) ∙ sym filled in
      let same : bytes_eq v.name bytes ≡ true = (bytes_eq-Decides v.name bytes).1 whole in
      let clash : true ≡ false = sym same ∙ differ in cc
  | inr other ↦ other
]

-- what names a row is a name
pub names_are : (v : Var) (n : List ℕ) → length v.name ≡ 16 → has_name n v ≡ true → IsName n
names_are v n size has =
    let z : ℕ → Bool = λ b. b == 0 in
    let at = position_or_len z v.name in
    let is : take at v.name ≡ n = (bytes_eq-Decides (name_of v) n).0 has in
    let short : length (take at v.name) ≤ 16 = omega (arith, length-take at v.name) in
    let full : All (λ b. b ≢ 0) (take at v.name) = λ k d less e.
    let below : k < at = omega (arith, length-take at v.name) in
    let here : get_or (take at v.name) k d ≡ get_or v.name k d = get_or-take at v.name k d below in
    let zero' : get_or v.name k d ≡ 0 = sym here ∙ e in
    let passes : z (get_or v.name k d) ≡ true = eq-eqb (get_or v.name k d) 0 zero' in
    let clash : true ≡ false = sym passes ∙ fails_before_first z v.name k d below in cc in
    subst IsName is (short, full)

-- so bytes that are no name are no row's
pub none_named : (rows : List Var) (n : List ℕ) → IsTable rows → (IsName n → ⊥) → (k : ℕ) (d : Var) → k < length rows → has_name n (get_or rows k d) ≡ false
none_named rows n t other k d less = elim (cases_Bool (has_name n (get_or rows k d))) [
  | inl has ↦ absurd (other (names_are (get_or rows k d) n (t.sixteen k d less) has))
  | inr none' ↦ none'
]

pub no_row : (rows : List Var) (n : List ℕ) → IsTable rows → (IsName n → ⊥) → None ≡ position (has_name n) rows
no_row rows n t other = position_none (has_name n) rows (length rows) refl (λ k d less. none_named rows n t other k d less)

pub no_row_at_all : (rows : List Var) (n : List ℕ) → IsTable rows → (IsName n → ⊥) → IsNone {T = ℕ} None ↔ All (λ v. ¬ IsTrue (has_name n v)) rows
no_row_at_all rows n t other = none_there (has_name n) rows (length rows) refl (λ k d less. none_named rows n t other k d less)
