-- A test that computes over the rows of a table, and that it gives the rules.
use Rattle.std.proofs.Common.{ℕ, ◌≡◌, ◌≢◌, ◌+◌, ◌*◌, ◌<◌, Bool, true, not, ◌&&◌, ◌||◌, nat_lt, ◌==◌, List, [], ◌∷◌, length, map, get_or, IsTrue, ap, sym, ◌∙◌, refl, arith, ltb-true, zero, suc, inl, inr}
use Rattle.std.specs.Prelude.{All, AllPairs, Any}
use Rattle.std.specs.List.{list_all, list_any}
use Rattle.std.proofs.lemmas.Bool.{and_parts, or_cases}
use Rattle.std.proofs.lemmas.Bool.Decides.{Decides-by_and, Decides-not, Decides-eqb, Decides-below_and}
use Rattle.std.proofs.lemmas.List.Folds.{Any-from_list_any, list_any-from_Any}
use Rattle.std.proofs.lemmas.List.{get_or-map, length-map}
use Rattle.std.proofs.lemmas.List.Sums.{AllPass-from_list_all}
use Rattle.std.proofs.lemmas.List.Kept.{AllPairs-cons}
use Rattle.param_tree.specs.declared.Var.{Var}
use Rattle.std.specs.Str.{bytes_eq}
use Rattle.std.proofs.lemmas.Slice.Eq.{bytes_eq-Decides}
use Rattle.param_tree.specs.Rules.{IsTable, SamePlace, name16, name_of, row_fits, is_part, is_three_floats}

-- the name is sixteen bytes, first some that are not zero, then only zeros
abbrev pub is_named : Var → Bool
is_named v = (length v.name == 16) && bytes_eq v.name (name16 (name_of v))

-- no number of the list is x
abbrev pub absent : ℕ → List ℕ → Bool
absent x [] = true
absent x (y ∷ ys) = not (x == y) && absent x ys

abbrev pub all_differ : List ℕ → Bool
all_differ [] = true
all_differ (x ∷ xs) = absent x xs && all_differ xs

-- the bytes as the digits of one number
abbrev pub number_from : ℕ → List ℕ → ℕ
number_from a [] = a
number_from a (x ∷ xs) = number_from (a * 256 + x) xs

abbrev pub name_number : Var → ℕ
name_number v = number_from 0 v.name

abbrev pub place_number : Var → ℕ
place_number v = v.key * 0x10_0000 + v.element * 4 + v.part

-- the parts below n of v's record are there
abbrev pub parts_below : List Var → Var → ℕ → Bool
parts_below rows v zero = true
parts_below rows v (suc n) = list_any (is_part v n) rows && parts_below rows v n

abbrev pub parts_pass : List Var → Var → Bool
parts_pass rows v = not (is_three_floats v.kind) || parts_below rows v 3

unfoldable pub is_table : List Var → Bool
is_table rows = (nat_lt (length rows) 65536 && (all_differ (map name_number rows) && all_differ (map place_number rows))) && (list_all is_named rows && (list_all row_fits rows && list_all (parts_pass rows) rows))

absent-All : (x : ℕ) (ys : List ℕ) → absent x ys ≡ true → All (λ y. x ≢ y) ys
absent-All x ys h = (Decides-by_and (λ y. not (x == y)) (λ y. x ≢ y) (absent x) (λ y. Decides-not (x == y) (Decides-eqb x y)) refl (λ _ _. refl) ys).0 h

all_differ-AllPairs : (xs : List ℕ) → all_differ xs ≡ true → AllPairs (λ x y. x ≢ y) xs
all_differ-AllPairs [] h = λ i j d p q. absurd (omega arith)
all_differ-AllPairs (x ∷ xs) h =
    let both = and_parts (absent x xs) (all_differ xs) h in
    AllPairs-cons (λ a b. a ≢ b) x xs (absent-All x xs both.0) (all_differ-AllPairs xs both.1)

-- rows whose numbers differ differ
AllPairs-by_number : (f : Var → ℕ) (R : Var → Var → Type 0) → ((v w : Var) → f v ≢ f w → R v w) → (rows : List Var) → all_differ (map f rows) ≡ true → AllPairs R rows
AllPairs-by_number f R tells rows h = λ i j d p q.
    let len = length-map rows f in
    let q' : j < length (map f rows) = omega arith in
    let p' : i < length rows = omega arith in
    let apart = all_differ-AllPairs (map f rows) h i j 0 p q' in
    tells (get_or rows i d) (get_or rows j d) (λ e. apart (get_or-map f rows i d 0 p' ∙ e ∙ sym (get_or-map f rows j d 0 q)))

named_right : (v : Var) → is_named v ≡ true → v.name ≡ name16 (name_of v)
named_right v h = (bytes_eq-Decides v.name (name16 (name_of v))).0 (and_parts (length v.name == 16) (bytes_eq v.name (name16 (name_of v))) h).1

sixteen_right : (v : Var) → is_named v ≡ true → length v.name ≡ 16
sixteen_right v h = (Decides-eqb (length v.name) 16).0 (and_parts (length v.name == 16) (bytes_eq v.name (name16 (name_of v))) h).0

parts_below-Any : (rows : List Var) (v : Var) → parts_pass rows v ≡ true → IsTrue (is_three_floats v.kind) → (p : ℕ) → p < 3 → Any (λ w. IsTrue (is_part v p w)) rows
parts_below-Any rows v h k =
    let below : parts_below rows v 3 ≡ true =
    elim (or_cases (not (is_three_floats v.kind)) (parts_below rows v 3) h) [ inl e ↦ cc (e, k) | inr e ↦ e ] in
    (Decides-below_and (λ n. list_any (is_part v n) rows) (λ n. Any (λ w. IsTrue (is_part v n w)) rows) (parts_below rows v)
    (λ n. (Any-from_list_any (is_part v n) rows, list_any-from_Any (is_part v n) rows)) refl (λ _. refl) 3).0 below

pub IsTable-from_test : (rows : List Var) → is_table rows ≡ true → IsTable rows
unfolding is_table
IsTable-from_test rows h =
    let halves = and_parts (nat_lt (length rows) 65536 && (all_differ (map name_number rows) && all_differ (map place_number rows))) (list_all is_named rows && (list_all row_fits rows && list_all (parts_pass rows) rows)) h in
    let first = and_parts (nat_lt (length rows) 65536) (all_differ (map name_number rows) && all_differ (map place_number rows)) halves.0 in
    let differ = and_parts (all_differ (map name_number rows)) (all_differ (map place_number rows)) first.1 in
    let rest = and_parts (list_all is_named rows) (list_all row_fits rows && list_all (parts_pass rows) rows) halves.1 in
    let last = and_parts (list_all row_fits rows) (list_all (parts_pass rows) rows) rest.1 in
    record {
      few = ltb-true (length rows) 65536 first.0;
      named = λ k d less. named_right (get_or rows k d) (AllPass-from_list_all is_named rows rest.0 k d less);
      sixteen = λ k d less. sixteen_right (get_or rows k d) (AllPass-from_list_all is_named rows rest.0 k d less);
      names_differ = AllPairs-by_number name_number (λ v w. v.name ≢ w.name) (λ v w apart e. apart (ap (number_from 0) e)) rows differ.0;
      places_differ = AllPairs-by_number place_number (λ v w. ¬ SamePlace v w) (λ v w apart e. apart (omega (arith, e.0, e.1, e.2))) rows differ.1;
      fitting = AllPass-from_list_all row_fits rows last.0;
      parts_there = λ k d less. parts_below-Any rows (get_or rows k d) (AllPass-from_list_all (parts_pass rows) rows last.1 k d less);
    }
