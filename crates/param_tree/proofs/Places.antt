-- The first row that passes a test, and the one row of a name.
use Rattle.std.proofs.Common.{◌≡◌, ℕ, ◌<◌, Bool, true, false, List, [], length, get_or, Some, None, position, slice_get, IsTrue, IsNone, ◌↔◌, lt-ltb, le-ltb, arith, refl, ap, sym, ◌∙◌, inl, inr}
use Rattle.std.specs.Prelude.{All}
use Rattle.std.specs.List.{position_or_len}
use Rattle.std.proofs.lemmas.Bool.{cases_order}
use Rattle.std.proofs.lemmas.List.Sums.{position_or_len_is}
use Rattle.std.proofs.lemmas.Option.{slice_get_within, get_or_from_slice_get}
use Rattle.std.proofs.lemmas.Slice.Eq.{bytes_eq-Decides}
use Rattle.param_tree.specs.declared.Var.{Var}
use Rattle.param_tree.specs.declared.Kind.TheVariants.{I8}
use Rattle.param_tree.specs.Rules.{IsTable, name16, name_of, has_name}

abbrev pub blank : Var
blank = record { name = []; key = 0; element = 0; kind = I8; part = 0; default = 0 }

pub position_found : (p : Var → Bool) (xs : List Var) (i : ℕ) → i < length xs → ((k : ℕ) (d : Var) → k < i → p (get_or xs k d) ≡ false) → p (get_or xs i blank) ≡ true → Some i ≡ position p xs
position_found p xs i less before here =
    let e : position_or_len p xs ≡ i = position_or_len_is p xs i blank (omega arith) (λ k. before k blank) (λ _. here) in
    rw (e, lt-ltb i (length xs) less) refl

pub position_none : (p : Var → Bool) (xs : List Var) (i : ℕ) → i ≡ length xs → ((k : ℕ) (d : Var) → k < i → p (get_or xs k d) ≡ false) → None ≡ position p xs
position_none p xs i end before =
    let e : position_or_len p xs ≡ i = position_or_len_is p xs i blank (omega arith) (λ k. before k blank) (λ h. absurd (omega arith)) in
    rw (e, le-ltb i (length xs) (omega arith)) refl

-- a row of this name has its 16 bytes
name_bytes : (rows : List Var) → IsTable rows → (n : List ℕ) (k : ℕ) → k < length rows → has_name n (get_or rows k blank) ≡ true → (get_or rows k blank).name ≡ name16 n
name_bytes rows t n k less h =
    let row : Var = get_or rows k blank in
    t.named k blank less ∙ ap name16 ((bytes_eq-Decides (name_of row) n).0 h)

-- no other row has the name
pub one_row : (rows : List Var) → IsTable rows → (n : List ℕ) (i : ℕ) → i < length rows → has_name n (get_or rows i blank) ≡ true → (j : ℕ) (v : Var) → slice_get rows j ≡ Some v → IsTrue (has_name n v) → j ≡ i
one_row rows t n i less here j v at there =
    let within = slice_get_within rows j v at in
    let same : has_name n (get_or rows j blank) ≡ true = ap (has_name n) (get_or_from_slice_get rows j v blank at) ∙ there in
    let names = name_bytes rows t n j within same ∙ sym (name_bytes rows t n i less here) in
    elim (cases_order j i) [
      | inl e ↦ e
      | inr y ↦ elim y [ inl x ↦ absurd (t.names_differ j i blank x less names) | inr x ↦ absurd (t.names_differ i j blank x within (sym names)) ]
    ]

pub none_there : (p : Var → Bool) (xs : List Var) (i : ℕ) → i ≡ length xs → ((k : ℕ) (d : Var) → k < i → p (get_or xs k d) ≡ false) → IsNone {T = ℕ} None ↔ All (λ v. ¬ IsTrue (p v)) xs
none_there p xs i end before = (λ _ k d less holds. let fails = before k d (omega arith) in cc, λ _. refl)

pub some_there : (p : Var → Bool) (xs : List Var) (i : ℕ) → i < length xs → p (get_or xs i blank) ≡ true → IsNone (Some i) ↔ All (λ v. ¬ IsTrue (p v)) xs
some_there p xs i less here = (λ none. absurd (let e : true ≡ false = none in cc), λ all. absurd (all i blank less here))
