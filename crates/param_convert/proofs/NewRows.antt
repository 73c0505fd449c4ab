-- The rows of the record that a rule makes, and its value with each part at its default.
use Rattle.std.proofs.Common.{◌≡◌, ◌+◌, ◌<◌, ℕ, inl, inr, Bool, true, false, cond, List, [], ◌∷◌, ◌++◌, length, drop, refl, sym, ◌∙◌, ap, arith, Option, Some, None}
use Rattle.std.specs.Prelude.{◌==◌, ◌&&◌, ◌||◌, slice_get}
use Rattle.std.specs.List.{find, list_any}
use Rattle.std.specs.Option.{option_map_or}
use Rattle.std.proofs.lemmas.List.{drop_all}
use Rattle.std.proofs.lemmas.List.Folds.{list_any-from_Any}
use Rattle.std.proofs.lemmas.Bool.{cases_Bool, and_parts, and_from, eqb-true, eq-eqb, ne_eqb}
use Rattle.param_tree.specs.declared.Kind.{Kind}
use Rattle.param_tree.specs.declared.Kind.TheVariants.{I8, I16, I32, F32, Vec3}
use Rattle.param_tree.specs.declared.Var.{Var}
use Rattle.param_tree.specs.Rules.{is_part, is_three_floats, parts_of}
use Rattle.param_records.specs.Records.{four_bytes, type_number, kind_eq}
use Rattle.param_records.specs.Changes.{default_at, part_number, fresh_bytes, part_bytes}
use Rattle.param_records.proofs.StoreLemmas.{get_drop}
use Rattle.param_records.proofs.WalkLemmas.{same_kind}
use Rattle.param_convert.specs.declared.rules.Rule.{Rule}
use Rattle.param_convert.specs.Rules.{is_new_row, is_new_part, HasRows}
use Rattle.param_convert.specs.Conversion.{default_of, bytes_of_parts, default_value}

-- one row passed over, and the row that is found
pub find_over : (test : Var → Bool) (rows : List Var) (i : ℕ) (v : Var) → slice_get rows i ≡ Some v → test v ≡ false → find test (drop i rows) ≡ find test (drop (i + 1) rows)
find_over test rows i v h other = ap (λ (l : List Var). find test l) (get_drop rows i (i + 1) v refl h) ∙ ap (λ (b : Bool). cond b (Some v) (find test (drop (i + 1) rows))) other

pub find_here : (test : Var → Bool) (rows : List Var) (i : ℕ) (v : Var) → slice_get rows i ≡ Some v → test v ≡ true → find test (drop i rows) ≡ Some v
find_here test rows i v h is = ap (λ (l : List Var). find test l) (get_drop rows i (i + 1) v refl h) ∙ ap (λ (b : Bool). cond b (Some v) (find test (drop (i + 1) rows))) is

-- a value has one part at least
pub one_or_more : (kind : Kind) → 0 < parts_of kind
one_or_more I8 = omega arith
one_or_more I16 = omega arith
one_or_more I32 = omega arith
one_or_more F32 = omega arith
one_or_more Vec3 = omega arith

-- a rule's record has a row for its first part, so one is found before the end
pub found_before_end : (rows : List Var) (rule : Rule) (i : ℕ) → HasRows rows rule → i ≡ length rows → find (is_new_part rule 0) (drop i rows) ≡ find (is_new_part rule 0) rows → ⊥
found_before_end rows rule i has end same =
    some_found rows (list_any-from_Any (is_new_part rule 0) rows (has 0 (one_or_more rule.kind))) (sym same ∙ ap (λ (l : List Var). find (is_new_part rule 0) l) (drop_all i rows (omega arith)))
  where
    some_found : (l : List Var) → list_any (is_new_part rule 0) l ≡ true → find (is_new_part rule 0) l ≡ None → ⊥
    some_found [] h none = cc
    some_found (v ∷ vs) h none = elim (cases_Bool (is_new_part rule 0 v)) [
      | inl here ↦ let clash : Some v ≡ None = sym (ap (λ (b : Bool). cond b (Some v) (find (is_new_part rule 0) vs)) here) ∙ none in cc
      | inr over ↦ some_found vs (sym (ap (λ (b : Bool). b || list_any (is_new_part rule 0) vs) over) ∙ h) (sym (ap (λ (b : Bool). cond b (Some v) (find (is_new_part rule 0) vs)) over) ∙ none)
    ]

-- a row of the record has its key, its element and its kind
pub record IsRowOf (rule : Rule) (row : Var) : Type 0 where
  pub key : row.key ≡ rule.new_key
  pub element : row.element ≡ rule.new_element
  pub kind : row.kind ≡ rule.kind

pub row_of : (rule : Rule) (row : Var) → is_new_row rule row ≡ true → IsRowOf rule row
row_of rule row h =
    let a = and_parts (row.key == rule.new_key) ((row.element == rule.new_element) && kind_eq row.kind rule.kind) h in
    let b = and_parts (row.element == rule.new_element) (kind_eq row.kind rule.kind) a.1 in
    record {
      key = eqb-true row.key rule.new_key a.0;
      element = eqb-true row.element rule.new_element b.0;
      kind = same_kind row.kind rule.kind (eqb-true (type_number row.kind) (type_number rule.kind) b.1);
    }

pub is_row : (rule : Rule) (row : Var) → IsRowOf rule row → is_new_row rule row ≡ true
is_row rule row h =
    and_from (row.key == rule.new_key) ((row.element == rule.new_element) && kind_eq row.kind rule.kind) (eq-eqb row.key rule.new_key h.key)
    (and_from (row.element == rule.new_element) (kind_eq row.kind rule.kind) (eq-eqb row.element rule.new_element h.element) (eq-eqb (type_number row.kind) (type_number rule.kind) (ap type_number h.kind)))

-- what is found passes the test, and tests that agree find the same
pub find_passes : (test : Var → Bool) (rows : List Var) (row : Var) → find test rows ≡ Some row → test row ≡ true
find_passes test [] row h = cc
find_passes test (v ∷ vs) row h = elim (cases_Bool (test v)) [
  | inl here ↦
      let both : Some v ≡ Some row = sym (ap (λ (b : Bool). cond b (Some v) (find test vs)) here) ∙ h in
      let same : v ≡ row = cc in
      ap test (sym same) ∙ here
  | inr over ↦ find_passes test vs row (sym (ap (λ (b : Bool). cond b (Some v) (find test vs)) over) ∙ h)
]

find_same : (p q : Var → Bool) → ((v : Var) → p v ≡ q v) → (rows : List Var) → find p rows ≡ find q rows
find_same p q same [] = refl
find_same p q same (v ∷ vs) = ap (λ (b : Bool). cond b (Some v) (find p vs)) (same v) ∙ ap (λ (o : Option Var). cond (q v) (Some v) o) (find_same p q same vs)

alike : (a b : Bool) → (a ≡ true → b ≡ true) → (b ≡ true → a ≡ true) → a ≡ b
alike true b f g = sym (f refl)
alike false true f g = g refl
alike false false f g = refl

three_floats : (kind : Kind) → is_three_floats kind ≡ true → kind ≡ Vec3
three_floats I8 h = cc
three_floats I16 h = cc
three_floats I32 h = cc
three_floats F32 h = cc
three_floats Vec3 h = refl

-- a part of three floats, searched by a row of the record or by the rule
part_alike : (rule : Rule) (row v : Var) (part : ℕ) → IsRowOf rule row → rule.kind ≡ Vec3 → is_part row part v ≡ is_new_part rule part v
part_alike rule row v part of three = alike (is_part row part v) (is_new_part rule part v)
    (λ h.
    let a = and_parts ((v.key == row.key) && (v.element == row.element)) (is_three_floats v.kind && (v.part == part)) h in
    let b = and_parts (v.key == row.key) (v.element == row.element) a.0 in
    let c = and_parts (is_three_floats v.kind) (v.part == part) a.1 in
    and_from (is_new_row rule v) (v.part == part)
    (is_row rule v (record {
      key = eqb-true v.key row.key b.0 ∙ of.key;
      element = eqb-true v.element row.element b.1 ∙ of.element;
      kind = three_floats v.kind c.0 ∙ sym three;
    })) c.1)
    (λ h.
    let a = and_parts (is_new_row rule v) (v.part == part) h in
    let is = row_of rule v a.0 in
    and_from ((v.key == row.key) && (v.element == row.element)) (is_three_floats v.kind && (v.part == part))
    (and_from (v.key == row.key) (v.element == row.element) (eq-eqb v.key row.key (is.key ∙ sym of.key)) (eq-eqb v.element row.element (is.element ∙ sym of.element)))
    (and_from (is_three_floats v.kind) (v.part == part) (ap is_three_floats (is.kind ∙ three)) a.1))

pub first_kind : (rows : List Var) (rule : Rule) (row : Var) → find (is_new_part rule 0) rows ≡ Some row → row.kind ≡ rule.kind
first_kind rows rule row found =
    let first = and_parts (is_new_row rule row) (row.part == 0) (find_passes (is_new_part rule 0) rows row found) in
    (row_of rule row first.0).kind

-- the first part's row gives the value with each part at its default
pub default_made : (rows : List Var) (rule : Rule) (row : Var) → find (is_new_part rule 0) rows ≡ Some row → fresh_bytes row.kind rows row row.default ≡ default_value rows rule
default_made rows rule row found =
    let first = and_parts (is_new_row rule row) (row.part == 0) (find_passes (is_new_part rule 0) rows row found) in
    let of = row_of rule row first.0 in
    let number : row.default ≡ default_of rows rule 0 = sym (ap (λ (o : Option Var). option_map_or (λ v. v.default) o 0) found) in
    let other : (part : ℕ) → 0 < part → rule.kind ≡ Vec3 → part_number rows row row.default part ≡ default_of rows rule part = λ part some three.
    let zero' = eqb-true row.part 0 first.1 in
    ap (λ (b : Bool). cond b row.default (default_at rows row part)) (ne_eqb row.part part (λ e. absurd (omega arith)))
    ∙ ap (λ (o : Option Var). option_map_or (λ v. v.default) o 0) (find_same (is_part row part) (is_new_part rule part) (λ v. part_alike rule row v part of three) rows) in
    let own : part_number rows row row.default 0 ≡ default_of rows rule 0 = ap (λ (b : Bool). cond b row.default (default_at rows row 0)) first.1 ∙ number in
    by_kind row.kind rule.kind of.kind number own (other 1 (omega arith)) (other 2 (omega arith))
  where
    by_kind : (kind made : Kind) → kind ≡ made → row.default ≡ default_of rows rule 0 → part_number rows row row.default 0 ≡ default_of rows rule 0 →
        (made ≡ Vec3 → part_number rows row row.default 1 ≡ default_of rows rule 1) → (made ≡ Vec3 → part_number rows row row.default 2 ≡ default_of rows rule 2) → fresh_bytes kind rows row row.default ≡ bytes_of_parts made (default_of rows rule)
    by_kind kind I8 same number own second third = ap (λ (k : Kind). fresh_bytes k rows row row.default) same ∙ ap (part_bytes I8) number
    by_kind kind I16 same number own second third = ap (λ (k : Kind). fresh_bytes k rows row row.default) same ∙ ap (part_bytes I16) number
    by_kind kind I32 same number own second third = ap (λ (k : Kind). fresh_bytes k rows row row.default) same ∙ ap (part_bytes I32) number
    by_kind kind F32 same number own second third = ap (λ (k : Kind). fresh_bytes k rows row row.default) same ∙ ap (part_bytes F32) number
    by_kind kind Vec3 same number own second third =
        ap (λ (k : Kind). fresh_bytes k rows row row.default) same
        ∙ ap (λ (n : ℕ). four_bytes n ++ (four_bytes (part_number rows row row.default 1) ++ four_bytes (part_number rows row row.default 2))) own
        ∙ ap (λ (n : ℕ). four_bytes (default_of rows rule 0) ++ (four_bytes n ++ four_bytes (part_number rows row row.default 2))) (second refl)
        ∙ ap (λ (n : ℕ). four_bytes (default_of rows rule 0) ++ (four_bytes (default_of rows rule 1) ++ four_bytes n)) (third refl)
