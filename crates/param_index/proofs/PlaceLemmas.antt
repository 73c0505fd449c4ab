-- The places of rows in records that grow at their end.
use Rattle.std.proofs.Common.{◌≡◌, ◌≢◌, inl, inr, ℕ, zero, suc, ◌+◌, ◌<◌, ◌≤◌, Bool, true, false, not, cond, List, [], ◌∷◌, ◌++◌, length, get_or, set, refl, sym, ◌∙◌, ap, arith, Option, Some, None}
use Rattle.std.specs.Prelude.{slice_get, ◌==◌, ◌&&◌}
use Rattle.std.specs.Option.{is_none, is_some}
use Rattle.std.proofs.lemmas.List.{length-append, flat_map_more}
use Rattle.std.proofs.lemmas.Bool.{cases_Bool, cases_eq}
use Rattle.std.proofs.lemmas.Option.{slice_get_within, get_or_from_slice_get}
use Rattle.param_tree.specs.declared.Kind.{Kind}
use Rattle.param_tree.specs.declared.Var.{Var}
use Rattle.param_records.specs.declared.records.Header.{Header}
use Rattle.param_records.specs.Records.{Record, size_of, encoding, spelling, kind_eq, four_bytes, header, matches, place_from}
use Rattle.param_records.proofs.WalkLemmas.{place_here, place_push}
use Rattle.param_records.specs.Steps.{place_of_row}
use Rattle.param_index.specs.Places.{Places, IsIndexOf}
use Rattle.param_index.specs.Inside.{IsIndexOfRecords, place_with, HasHeader}

-- a place that is found is found in more records too
pub place_stays : (start k e : ℕ) (kind : Kind) (rs more : List Record) (at : ℕ) → place_from start k e kind rs ≡ Some at → place_from start k e kind (rs ++ more) ≡ Some at
place_stays start k e kind [] more at h = let clash : None ≡ Some at = h in cc
place_stays start k e kind (r ∷ rs) more at h = elim (cases_Bool (matches k e kind r)) [
  | inl here ↦
      ap (λ (b : Bool). cond b (Some (start + 4)) (place_from (start + length (encoding r)) k e kind (rs ++ more))) here
      ∙ sym (ap (λ (b : Bool). cond b (Some (start + 4)) (place_from (start + length (encoding r)) k e kind rs)) here) ∙ h
  | inr over ↦
      let rest : place_from (start + length (encoding r)) k e kind rs ≡ Some at = sym (ap (λ (b : Bool). cond b (Some (start + 4)) (place_from (start + length (encoding r)) k e kind rs)) over) ∙ h in
      ap (λ (b : Bool). cond b (Some (start + 4)) (place_from (start + length (encoding r)) k e kind (rs ++ more))) over ∙ place_stays (start + length (encoding r)) k e kind rs more at rest
]

-- the test of a header is that of its record
abbrev pub test : Header → Var → Bool
test h row = (h.key == row.key) && ((h.element == row.element) && kind_eq h.kind row.kind)

test_is : (h : Header) (r : Record) (row : Var) → HasHeader h r → matches row.key row.element row.kind r ≡ test h row
test_is h r row is =
    ap (λ (k : ℕ). (k == row.key) && ((r.element == row.element) && kind_eq r.kind row.kind)) is.key
    ∙ ap (λ (e : ℕ). (h.key == row.key) && ((e == row.element) && kind_eq r.kind row.kind)) is.element
    ∙ ap (λ (k : Kind). (h.key == row.key) && ((h.element == row.element) && kind_eq k row.kind)) is.kind

-- a row's place in records and one more
with_one : (h : Header) (r : Record) (row : Var) (rs : List Record) (at : ℕ) (was : Option ℕ) → HasHeader h r → at ≡ 4 + length (spelling rs) + 4 → place_from 4 row.key row.element row.kind rs ≡ was → place_with h at row was ≡ place_from 4 row.key row.element row.kind (rs ++ r ∷ [])
with_one h r row rs at (Some p) is place found = sym (place_stays 4 row.key row.element row.kind rs (r ∷ []) p found)
with_one h r row rs at None is place none = elim (cases_Bool (test h row)) [
  | inl here ↦
      ap (λ (b : Bool). cond b (Some at) None) here ∙ ap (λ (n : ℕ). Some n) place
      ∙ sym (place_here 4 row.key row.element row.kind rs [] r none (test_is h r row is ∙ here))
  | inr over ↦ ap (λ (b : Bool). cond b (Some at) None) over ∙ sym (place_push 4 row.key row.element row.kind rs r none (test_is h r row is ∙ over))
]

-- what is done to the places for one record
abbrev pub Kept : List Var → Header → ℕ → List (Option ℕ) → List (Option ℕ) → Type 0
Kept rows h at old new = (i : ℕ) (row : Var) (was : Option ℕ) → slice_get rows i ≡ Some row → slice_get old i ≡ Some was → slice_get new i ≡ Some (place_with h at row was)

pub added : (rows : List Var) (h : Header) (old new : Places) (at : ℕ) → at ≡ old.end + 4 → Kept rows h at old.of_rows new.of_rows → new.end ≡ at + size_of h.kind →
    (records : List Record) (r : Record) → IsIndexOfRecords rows records old → HasHeader h r → IsIndexOfRecords rows (records ++ r ∷ []) new
added rows h old new at next kept end records r index is =
    let grown : spelling (records ++ r ∷ []) ≡ spelling records ++ encoding r = sym (flat_map_more encoding [] records r) in
    record {
      places = λ i row here.
          kept i row (place_from 4 row.key row.element row.kind records) here (index.places i row here)
          ∙ ap (λ (o : Option ℕ). Some o) (with_one h r row records at (place_from 4 row.key row.element row.kind records) is (next ∙ ap (λ (n : ℕ). n + 4) index.end) refl);
      end = omega (arith, end, next, index.end, is.value, ap (λ (l : List ℕ). length l) grown, length-append (spelling records) (encoding r), length-append (four_bytes (header r)) r.value);
    }

-- one place is written, or none
set_other : (xs : List (Option ℕ)) (i j : ℕ) (y : Option ℕ) → j ≢ i → slice_get (set xs i y) j ≡ slice_get xs j
set_other [] i j y differ = refl
set_other (x ∷ xs) zero zero y differ = absurd (differ refl)
set_other (x ∷ xs) zero (suc j) y differ = refl
set_other (x ∷ xs) (suc i) zero y differ = refl
set_other (x ∷ xs) (suc i) (suc j) y differ = set_other xs i j y (λ e. differ (ap (λ (n : ℕ). suc n) e))

set_here : (xs : List (Option ℕ)) (i : ℕ) (y : Option ℕ) → i < length xs → slice_get (set xs i y) i ≡ Some y
set_here [] i y h = absurd (omega arith)
set_here (x ∷ xs) zero y h = refl
set_here (x ∷ xs) (suc i) y h = set_here xs i y (omega arith)

-- the places below i are kept with the record, and those from i on are as they were
pub record KeptBelow (rows : List Var) (h : Header) (at : ℕ) (old new : List (Option ℕ)) (i : ℕ) : Type 0 where
  pub below : (j : ℕ) (row : Var) (was : Option ℕ) → j < i → slice_get rows j ≡ Some row → slice_get old j ≡ Some was → slice_get new j ≡ Some (place_with h at row was)
  pub from : (j : ℕ) → i ≤ j → slice_get new j ≡ slice_get old j

below_more : (rows : List Var) (h : Header) (at : ℕ) (old now new : List (Option ℕ)) (i : ℕ) (row : Var) → slice_get rows i ≡ Some row → KeptBelow rows h at old now i →
    ((was : Option ℕ) → slice_get now i ≡ Some was → slice_get new i ≡ Some (place_with h at row was)) → ((j : ℕ) → j ≢ i → slice_get new j ≡ slice_get now j) → KeptBelow rows h at old new (i + 1)
below_more rows h at old now new i row is k here others = record {
  below = λ j v was less at' had. elim (cases_eq j i) [
    | inl e ↦
        let both : Some v ≡ Some row = sym at' ∙ ap (λ (n : ℕ). slice_get rows n) e ∙ is in
        let same : v ≡ row = cc in
        let was' : slice_get now i ≡ Some was = k.from i (omega arith) ∙ ap (λ (n : ℕ). slice_get old n) (sym e) ∙ had in
        ap (λ (n : ℕ). slice_get new n) e ∙ here was was' ∙ ap (λ (x : Var). Some (place_with h at x was)) (sym same)
    | inr differ ↦ others j differ ∙ k.below j v was (omega arith) at' had
  ];
  from = λ j more. others j (λ e. absurd (omega arith)) ∙ k.from j (omega arith);
}

pub below_set : (rows : List Var) (h : Header) (at : ℕ) (old now : List (Option ℕ)) (i : ℕ) (row : Var) → slice_get rows i ≡ Some row → KeptBelow rows h at old now i → is_none (get_or now i None) ≡ true → test h row ≡ true →
    KeptBelow rows h at old (set now i (Some at)) (i + 1)
below_set rows h at old now i row is k none match = below_more rows h at old now (set now i (Some at)) i row is k
    (λ was had.
    let same : get_or now i None ≡ was = get_or_from_slice_get now i was None had in
    let is-none : is_none was ≡ true = ap (λ (o : Option ℕ). is_none o) (sym same) ∙ none in
    set_here now i (Some at) (slice_get_within now i was had) ∙ ap (λ (b : Bool). Some (cond b (Some at) was)) (sym (ap (λ (b : Bool). b && test h row) is-none ∙ match)))
    (λ j differ. set_other now i j (Some at) differ)

pub below_same : (rows : List Var) (h : Header) (at : ℕ) (old now : List (Option ℕ)) (i : ℕ) (row : Var) → slice_get rows i ≡ Some row → KeptBelow rows h at old now i → (is_none (get_or now i None) && test h row) ≡ false → KeptBelow rows h at old now (i + 1)
below_same rows h at old now i row is k over = below_more rows h at old now now i row is k
    (λ was had.
    let same : get_or now i None ≡ was = get_or_from_slice_get now i was None had in
    had ∙ ap (λ (b : Bool). Some (cond b (Some at) was)) (sym (ap (λ (o : Option ℕ). is_none o && test h row) (sym same) ∙ over)))
    (λ j differ. refl)

pub none_from : (o : Option ℕ) (r : Bool) → is_some o ≡ not r → is_none o ≡ r
none_from None true h = refl
none_from None false h = cc
none_from (Some n) true h = cc
none_from (Some n) false h = refl

pub and_false : (a b : Bool) → b ≡ false → (a && b) ≡ false
and_false true b h = h
and_false false b h = refl

-- a kept place is the row's
pub kept_place : (rows : List Var) (var : ℕ) (row : Var) (bytes : List ℕ) (index : Places) (o : Option ℕ) → IsIndexOf rows bytes index → slice_get rows var ≡ Some row → slice_get index.of_rows var ≡ Some o → place_of_row bytes row ≡ o
kept_place rows var row bytes index o is here kept = let both : Some (place_of_row bytes row) ≡ Some o = sym (is.places var row here) ∙ kept in cc
