-- Where a rule makes a record, and where it doesn't.
use Rattle.std.proofs.Common.{◌≡◌, ◌⊎◌, ◌+◌, ◌≤◌, ℕ, Bool, true, false, cond, List, [], length, take, refl, sym, ◌∙◌, ap, subst, inl, inr, Option, Some, None}
use Rattle.std.specs.Prelude.{◌&&◌, not, nat_le, option_and_then}
use Rattle.std.specs.Option.{option_map_or, is_none}
use Rattle.std.specs.Str.{bytes_eq}
use Rattle.std.proofs.lemmas.Bool.{cases_Bool, and_parts, and_from, not-true, not_from_false, le-leb, leb-true, false_from_ne_true}
use Rattle.std.proofs.lemmas.Slice.Eq.{bytes_eq-Decides}
use Rattle.param_tree.specs.declared.Var.{Var}
use Rattle.storage_lines.specs.Pieces.{Piece}
use Rattle.param_records.specs.declared.records.TheConstants.{PARAM_BYTES}
use Rattle.param_records.specs.Records.{Record, size_of, spelling, value_in}
use Rattle.param_records.specs.Changes.{appending}
use Rattle.param_convert.specs.declared.rules.Rule.{Rule}
use Rattle.param_convert.specs.Conversion.{default_value, new_record, Converts, is_conversion_due, convert_pieces}

none_is : (o : Option (List ℕ)) → is_none o ≡ true → o ≡ None
none_is None h = refl
none_is (Some v) h = cc

-- what the code has found where it appends the record
pub found_due : (rows : List Var) (rs : List Record) (rule : Rule) (value default : List ℕ) (size : ℕ) → size ≡ size_of rule.kind → value_in rule.key rule.element rule.kind rs ≡ Some (take (size_of rule.kind) value) →
    value_in rule.new_key rule.new_element rule.kind rs ≡ None → take (size_of rule.kind) default ≡ default_value rows rule → bytes_eq (take size value) (take size default) ≡ false → 4 + length (spelling rs) + 8 + size_of rule.kind ≤ PARAM_BYTES →
    Converts rows rs rule (take size value)
found_due rows rs rule value default size is old absent made differ fits = record {
  old = old ∙ ap (λ (n : ℕ). Some (take n value)) (sym is);
  absent = absent;
  other = λ e. let same = (bytes_eq-Decides (take size value) (take size default)).1 (e ∙ sym made ∙ ap (λ (n : ℕ). take n default) (sym is)) in cc;
  fits = fits;
}

-- the test says what `Converts` says
pub converts_where_due : (rows : List Var) (rs : List Record) (rule : Rule) (value : List ℕ) → value_in rule.key rule.element rule.kind rs ≡ Some value → is_conversion_due rows rs rule value ≡ true → Converts rows rs rule value
converts_where_due rows rs rule value old h =
    let a = and_parts (is_none (value_in rule.new_key rule.new_element rule.kind rs)) (not (bytes_eq value (default_value rows rule)) && nat_le (4 + length (spelling rs) + 8 + size_of rule.kind) PARAM_BYTES) h in
    let b = and_parts (not (bytes_eq value (default_value rows rule))) (nat_le (4 + length (spelling rs) + 8 + size_of rule.kind) PARAM_BYTES) a.1 in
    record {
      old = old;
      absent = none_is (value_in rule.new_key rule.new_element rule.kind rs) a.0;
      other = λ e. let same = (bytes_eq-Decides value (default_value rows rule)).1 e in let differ = not-true _ b.0 in cc;
      fits = leb-true (4 + length (spelling rs) + 8 + size_of rule.kind) PARAM_BYTES b.1;
    }

due_where_converts : (rows : List Var) (rs : List Record) (rule : Rule) (value : List ℕ) → Converts rows rs rule value → is_conversion_due rows rs rule value ≡ true
due_where_converts rows rs rule value c =
    and_from (is_none (value_in rule.new_key rule.new_element rule.kind rs)) (not (bytes_eq value (default_value rows rule)) && nat_le (4 + length (spelling rs) + 8 + size_of rule.kind) PARAM_BYTES)
    (ap (λ (o : Option (List ℕ)). is_none o) c.absent)
    (and_from (not (bytes_eq value (default_value rows rule))) (nat_le (4 + length (spelling rs) + 8 + size_of rule.kind) PARAM_BYTES)
    (not_from_false _ (false_from_ne_true _ (λ e. c.other ((bytes_eq-Decides value (default_value rows rule)).0 e))))
    (le-leb (4 + length (spelling rs) + 8 + size_of rule.kind) PARAM_BYTES c.fits))

abbrev added : List Record → Rule → Option (List ℕ) → List Piece
added rs rule o = option_map_or (λ value. appending (4 + length (spelling rs)) (new_record rule value)) o []

-- the pieces of a rule that makes a record, and of one that doesn't
pub pieces_some : (rows : List Var) (rs : List Record) (rule : Rule) (value : List ℕ) → Converts rows rs rule value → convert_pieces rows rs rule ≡ appending (4 + length (spelling rs)) (new_record rule value)
pieces_some rows rs rule value c =
    ap (λ (o : Option (List ℕ)). added rs rule (option_and_then (λ v. cond (is_conversion_due rows rs rule v) (Some v) None) o)) c.old
    ∙ ap (λ (b : Bool). added rs rule (cond b (Some value) None)) (due_where_converts rows rs rule value c)

pub pieces_none : (rows : List Var) (rs : List Record) (rule : Rule) → ((value : List ℕ) → Converts rows rs rule value → ⊥) → convert_pieces rows rs rule ≡ []
pieces_none rows rs rule never = by_value (value_in rule.key rule.element rule.kind rs) refl
  where
    by_value : (o : Option (List ℕ)) → value_in rule.key rule.element rule.kind rs ≡ o → convert_pieces rows rs rule ≡ []
    by_value None e = ap (λ (o : Option (List ℕ)). added rs rule (option_and_then (λ v. cond (is_conversion_due rows rs rule v) (Some v) None) o)) e
    by_value (Some value) e =
        ap (λ (o : Option (List ℕ)). added rs rule (option_and_then (λ v. cond (is_conversion_due rows rs rule v) (Some v) None) o)) e
        ∙ ap (λ (b : Bool). added rs rule (cond b (Some value) None)) (false_from_ne_true _ (λ h. never value (converts_where_due rows rs rule value e h)))

-- a rule makes a record, or none
pub convert_cases : (rows : List Var) (rs : List Record) (rule : Rule) → ((value : List ℕ) × Converts rows rs rule value) ⊎ ((value : List ℕ) → Converts rows rs rule value → ⊥)
convert_cases rows rs rule = by_value (value_in rule.key rule.element rule.kind rs) refl
  where
    by_value : (o : Option (List ℕ)) → value_in rule.key rule.element rule.kind rs ≡ o → ((value : List ℕ) × Converts rows rs rule value) ⊎ ((value : List ℕ) → Converts rows rs rule value → ⊥)
    by_value None e = inr (λ value c. let both : None ≡ Some value = sym e ∙ c.old in cc)
    by_value (Some v) e = elim (cases_Bool (is_conversion_due rows rs rule v)) [
      | inl due ↦ inl (v, converts_where_due rows rs rule v e due)
      | inr idle ↦ inr (λ value c.
          let both : Some v ≡ Some value = sym e ∙ c.old in
          let same : v ≡ value = cc in
          let due = due_where_converts rows rs rule value c in
          let idle' : is_conversion_due rows rs rule value ≡ false = subst (λ (x : List ℕ). is_conversion_due rows rs rule x ≡ false) same idle in
          cc)
    ]
