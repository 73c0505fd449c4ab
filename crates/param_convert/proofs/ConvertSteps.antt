-- The writes of a rule, after each prefix of them and after all.
use Rattle.std.proofs.Common.{◌≡◌, ◌≢◌, inl, inr, ◌+◌, ◌<◌, ◌≤◌, ℕ, Bool, true, false, List, [], ◌∷◌, ◌++◌, length, get_or, take, refl, sym, ◌∙◌, ap, subst, arith, Option, Some, None}
use Rattle.std.specs.Prelude.{◌==◌, ◌&&◌, ◌↔◌, IsTrue, IfSome, slice_get}
use Rattle.std.specs.Option.{option_map_or}
use Rattle.std.proofs.lemmas.Bool.{cases_Bool, cases_lt, and_parts, and_from, eq-eqb}
use Rattle.std.proofs.lemmas.List.{take_all, length-append, get_or_past}
use Rattle.std.proofs.lemmas.Option.{slice_get-get_or}
use Rattle.param_tree.specs.declared.Kind.{Kind}
use Rattle.param_tree.specs.declared.Var.{Var}
use Rattle.param_tree.specs.Rules.{IsTable, row_fits}
use Rattle.storage_lines.specs.declared.lines.LineWrite.{LineWrite}
use Rattle.storage_lines.specs.declared.lines.TheConstants.{STORAGE_BYTES}
use Rattle.storage_lines.specs.declared.areas.Area.TheVariants.{Param}
use Rattle.storage_lines.specs.Areas.{logical_of}
use Rattle.storage_lines.specs.Bytes.{IsBytes}
use Rattle.storage_lines.specs.Lines.{after}
use Rattle.storage_lines.specs.Pieces.{Piece, writes_of}
use Rattle.storage_lines.proofs.PrefixLemmas.{prefix_nil}
use Rattle.param_records.specs.declared.records.TheConstants.{PARAM_BYTES}
use Rattle.param_records.specs.Records.{Record, IsRecord, HasRecords, size_of, encoding, type_number, kind_eq, spelling, records_of, value_in, place_from, matches}
use Rattle.param_records.specs.Values.{value_from, value_of_number, value_in_records}
use Rattle.param_records.specs.Changes.{appending}
use Rattle.param_records.specs.Steps.{HasMagic, records_in_storage, KeepsOtherAreas}
use Rattle.param_records.proofs.RecordLemmas.{records_are}
use Rattle.param_records.proofs.WalkLemmas.{logical_bytes}
use Rattle.param_records.proofs.StoreLemmas.{row_is}
use Rattle.param_records.proofs.ValueLemmas.{found_at, found_byte, value_none, value_first}
use Rattle.param_records.proofs.OtherLemmas.{value_push, match_same}
use Rattle.param_records.proofs.OtherAreas.{append_fits, other_areas}
use Rattle.param_records.proofs.AppendLemmas.{append_done}
use Rattle.param_records.proofs.StepLemmas.{front_is}
use Rattle.param_convert.specs.declared.rules.Rule.{Rule}
use Rattle.param_convert.specs.Rules.{is_new_row, HasRows}
use Rattle.param_convert.specs.Conversion.{new_record, Converts, convert_writes}
use Rattle.param_convert.specs.Steps.{HasAdded, AddsOne, HasConverted, IsConversion, ConvertsInSteps}
use Rattle.param_convert.proofs.NewRows.{IsRowOf, row_of, is_row, one_or_more}
use Rattle.param_convert.proofs.OldValues.{value_there}
use Rattle.param_convert.proofs.LowBytes.{IsLow, low_pieces, append_low}
use Rattle.param_convert.proofs.Due.{pieces_some, pieces_none, convert_cases}

-- a record of another key, element or kind
other_record : (rule : Rule) (row : Var) (value : List ℕ) → (is_new_row rule row ≡ true → ⊥) → matches row.key row.element row.kind (new_record rule value) ≡ false
other_record rule row value other = elim (cases_Bool (matches row.key row.element row.kind (new_record rule value))) [
  | inl here ↦
      let s = match_same row.key row.element row.kind (new_record rule value) here in
      absurd (other (is_row rule row (record { key = sym s.key; element = sym s.element; kind = sym s.kind })))
  | inr over ↦ over
]

own_record : (rule : Rule) (row : Var) (value : List ℕ) → IsRowOf rule row → matches row.key row.element row.kind (new_record rule value) ≡ true
own_record rule row value of =
    and_from (rule.new_key == row.key) ((rule.new_element == row.element) && kind_eq rule.kind row.kind) (eq-eqb rule.new_key row.key (sym of.key))
    (and_from (rule.new_element == row.element) (kind_eq rule.kind row.kind) (eq-eqb rule.new_element row.element (sym of.element)) (eq-eqb (type_number rule.kind) (type_number row.kind) (ap type_number (sym of.kind))))

-- a value that isn't in the records has no place there
no_place : (key element : ℕ) (kind : Kind) (rs : List Record) → value_in key element kind rs ≡ None → place_from 4 key element kind rs ≡ None
no_place key element kind rs none = by_place (place_from 4 key element kind rs) refl
  where
    by_place : (o : Option ℕ) → place_from 4 key element kind rs ≡ o → place_from 4 key element kind rs ≡ None
    by_place None e = e
    by_place (Some at) e = absurd (value_there key element at kind rs e none)

-- what a value in the records is: they are read, and it has the kind's size
record Stored (L : List ℕ) (kind : Kind) (value : List ℕ) : Type 0 where
  pub end : ℕ
  pub has : HasRecords L (records_of L) end
  pub size : length value ≡ size_of kind
  pub low : IsBytes value

stored : (L : List ℕ) (key element : ℕ) (kind : Kind) (value : List ℕ) → IsBytes L → value_in key element kind (records_of L) ≡ Some value → Stored L kind value
stored L key element kind value low is = by_place (place_from 4 key element kind (records_of L)) refl
  where
    by_place : (o : Option ℕ) → place_from 4 key element kind (records_of L) ≡ o → Stored L kind value
    by_place None e = let clash : None ≡ Some value = sym (value_none 4 key element kind (records_of L) e) ∙ is in cc
    by_place (Some at) e =
        let f = found_at L key element kind at low e in
        let both : Some f.first.one.value ≡ Some value = sym f.value ∙ is in
        let same : f.first.one.value ≡ value = cc in
        record {
          end = f.end;
          has = subst (λ (rs : List Record). HasRecords L rs f.end) (sym f.first.whole) f.has;
          size = ap (λ (v : List ℕ). length v) (sym same) ∙ f.size;
          low = subst IsBytes same (λ i. elim (cases_lt i (size_of kind)) [
            | inl few ↦ omega (arith, found_byte L key element kind at f i few, low (at + i))
            | inr past ↦ omega (arith, get_or_past f.first.one.value i 0 (omega (arith, f.size)))
          ]);
        }

-- the key and the element of the record that a rule makes are in their ranges
pub record NewFits (rule : Rule) : Type 0 where
  pub key : rule.new_key < 512
  pub element : rule.new_element < 262144

pub new_fits : (rows : List Var) (rule : Rule) → IsTable rows → HasRows rows rule → NewFits rule
new_fits rows rule table has =
    let found = has 0 (one_or_more rule.kind) in
    let row = found.1 in
    let right : IsTrue (row_fits row) = subst (λ (v : Var). IsTrue (row_fits v)) found.3 (table.fitting found.0 row found.2) in
    let fits = row_is row right in
    let of = row_of rule row (and_parts (is_new_row rule row) (row.part == 0) found.4).0 in
    let key = fits.key in
    let element = fits.element in
    record { key = omega (arith, of.key); element = omega (arith, of.element) }

-- the rows of the new record read the old value
rows_read : (rule : Rule) (value old now : List ℕ) → value_in rule.new_key rule.new_element rule.kind (records_in_storage old) ≡ None → HasAdded rule value old now → HasConverted rule value old now
rows_read rule value old now absent added = record {
  added = added;
  rows = λ row is.
      let of = row_of rule row is in
      let none : value_in row.key row.element row.kind (records_in_storage old) ≡ None =
      ap (λ (k : ℕ). value_in k row.element row.kind (records_in_storage old)) of.key
      ∙ ap (λ (e : ℕ). value_in rule.new_key e row.kind (records_in_storage old)) of.element
      ∙ ap (λ (k : Kind). value_in rule.new_key rule.new_element k (records_in_storage old)) of.kind ∙ absent in
      ap (λ (rs : List Record). value_in_records rs row) added
      ∙ ap (λ (o : Option (List ℕ)). option_map_or (value_from row.kind row.part) o (value_of_number row.kind row.default))
      (value_first 4 row.key row.element row.kind (records_in_storage old) [] (new_record rule value) (no_place row.key row.element row.kind (records_in_storage old) none) (own_record rule row value of));
}

-- the same records, or one more
adds_none : (rows : List Var) (rule : Rule) (old now : List ℕ) → take 4 (logical_of Param now) ≡ take 4 (logical_of Param old) → IsLow now → records_in_storage now ≡ records_in_storage old → KeepsOtherAreas old now → AddsOne rows rule old now
adds_none rows rule old now front low same areas = record {
  front = front;
  low = low;
  added = inl same;
  own = λ row is. inl (ap (λ (rs : List Record). value_in_records rs row) same);
  others = λ row other. ap (λ (rs : List Record). value_in_records rs row) same;
  areas = areas;
}

adds_one : (rows : List Var) (rule : Rule) (value old now : List ℕ) → Converts rows (records_in_storage old) rule value → take 4 (logical_of Param now) ≡ take 4 (logical_of Param old) → IsLow now → HasAdded rule value old now → KeepsOtherAreas old now → AddsOne rows rule old now
adds_one rows rule value old now c front low added areas = record {
  front = front;
  low = low;
  added = inr (value, c, added);
  own = λ row is. inr (value, c, (rows_read rule value old now c.absent added).rows row is);
  others = λ row other.
      ap (λ (rs : List Record). value_in_records rs row) added
      ∙ ap (λ (o : Option (List ℕ)). option_map_or (value_from row.kind row.part) o (value_of_number row.kind row.default)) (value_push row.key row.element row.kind (records_in_storage old) (new_record rule value) (other_record rule row value other));
  areas = areas;
}

-- a rule that makes a record
makes_one : (bytes : List ℕ) (rows : List Var) (rule : Rule) (value : List ℕ) → length bytes ≡ STORAGE_BYTES → IsBytes (logical_of Param bytes) → IsTable rows → HasRows rows rule → Converts rows (records_in_storage bytes) rule value →
    IsConversion rows rule bytes (writes_of bytes (appending (4 + length (spelling (records_in_storage bytes))) (new_record rule value)))
makes_one bytes rows rule value size low table has c =
    let L = logical_of Param bytes in
    let rs = records_in_storage bytes in
    let r = new_record rule value in
    let end = 4 + length (spelling rs) in
    let old = stored L rule.key rule.element rule.kind value low c.old in
    let fits = new_fits rows rule table has in
    let place = old.has.place in
    let long = old.size in
    let room = c.fits in
    let there : HasRecords L rs end = subst (λ (n : ℕ). HasRecords L rs n) place old.has in
    let one : IsRecord r = record { key = fits.key; element = fits.element; value = long } in
    let within : end + 8 + length value ≤ PARAM_BYTES = omega arith in
    let done = append_done rs end r bytes size there one within in
    let ws = writes_of bytes (appending end r) in
    let areas = other_areas bytes (appending end r) size (append_fits end r within) in
    let kept = low_pieces bytes (appending end r) size (append_fits end r within) (append_low end r old.low) low in
    let front = front_is L rs end there in
    let last = end + length (encoding r) in
    record {
      each = λ j h. elim (done.each j h) [
        | inl same ↦ adds_none rows rule bytes (after bytes (take j ws)) (front_is (logical_of Param (after bytes (take j ws))) rs end same ∙ sym front) (kept j h) (records_are (logical_of Param (after bytes (take j ws))) rs end same) (areas j h)
        | inr more ↦ adds_one rows rule value bytes (after bytes (take j ws)) c (front_is (logical_of Param (after bytes (take j ws))) (rs ++ r ∷ []) last more ∙ sym front) (kept j h) (records_are (logical_of Param (after bytes (take j ws))) (rs ++ r ∷ []) last more) (areas j h)
      ];
      whole = λ other d.
          let both : Some other ≡ Some value = sym d.old ∙ c.old in
          let same : value ≡ other = cc in
          subst (λ (v : List ℕ). HasConverted rule v bytes (after bytes ws)) same
          (rows_read rule value bytes (after bytes ws) c.absent (records_are (logical_of Param (after bytes ws)) (rs ++ r ∷ []) last done.whole));
    }

-- and one that makes none
makes_none : (bytes : List ℕ) (rows : List Var) (rule : Rule) → IsLow bytes → ((value : List ℕ) → Converts rows (records_in_storage bytes) rule value → ⊥) → IsConversion rows rule bytes []
makes_none bytes rows rule low never = record {
  each = prefix_nil (AddsOne rows rule bytes) bytes (adds_none rows rule bytes bytes refl low refl (λ area apart. refl));
  whole = λ value c. absurd (never value c);
}

pub converts_in_steps : ConvertsInSteps
converts_in_steps bytes rows rule size low table has =
    let rs = records_in_storage bytes in
    elim (convert_cases rows rs rule) [
      | inl makes ↦ subst (λ (qs : List Piece). IsConversion rows rule bytes (writes_of bytes qs)) (sym (pieces_some rows rs rule makes.0 makes.1)) (makes_one bytes rows rule makes.0 size low table has makes.1)
      | inr never ↦ subst (λ (qs : List Piece). IsConversion rows rule bytes (writes_of bytes qs)) (sym (pieces_none rows rs rule never)) (makes_none bytes rows rule low never)
    ]

-- the first bytes are as they were, so the magic is kept
pub magic_kept : (rows : List Var) (rule : Rule) (bytes : List ℕ) (writes : List LineWrite) → IsConversion rows rule bytes writes → HasMagic bytes → (j : ℕ) → HasMagic (after bytes (take j writes))
magic_kept rows rule bytes writes done magic j = elim (cases_lt (length writes) j) [
  | inl past ↦
      let all : take j writes ≡ take (length writes) writes = take_all j writes (omega arith) ∙ sym (take_all (length writes) writes (omega arith)) in
      ap (λ (l : List LineWrite). take 4 (logical_of Param (after bytes l))) all ∙ (done.each (length writes) (omega arith)).front ∙ magic
  | inr within ↦ (done.each j within).front ∙ magic
]

-- where the rule makes a record there are writes
pub writes_some : (rows : List Var) (rule : Rule) (bytes value : List ℕ) (writes : List LineWrite) → IsConversion rows rule bytes writes → Converts rows (records_in_storage bytes) rule value → writes ≡ [] → ⊥
writes_some rows rule bytes value writes done c none =
    let rs = records_in_storage bytes in
    let added : rs ≡ rs ++ new_record rule value ∷ [] = sym (ap (λ (l : List LineWrite). records_in_storage (after bytes l)) none) ∙ (done.whole value c).added in
    omega (arith, ap (λ (l : List Record). length l) added, length-append rs (new_record rule value ∷ []))

-- what holds of the rule at a step
pub at_step : (P : Rule → Type 0) (rules : List Rule) (step : ℕ) (d : Rule) → step < length rules → P (get_or rules step d) → IfSome (slice_get rules step) P
at_step P rules step d within h = subst (λ (o : Option Rule). IfSome o P) (sym (slice_get-get_or rules step d within)) h

pub from_step : (P : Rule → Type 0) (rules : List Rule) (step : ℕ) (d : Rule) → step < length rules → IfSome (slice_get rules step) P → P (get_or rules step d)
from_step P rules step d within h = subst (λ (o : Option Rule). IfSome o P) (slice_get-get_or rules step d within) h

-- the writes of a rule that is tried, as the law has them
pub conversion_of : (rows : List Var) (rule : Rule) (bytes : List ℕ) (writes : List LineWrite) → length bytes ≡ STORAGE_BYTES → IsBytes bytes → IsTable rows → HasRows rows rule → writes ≡ convert_writes rows rule bytes → IsConversion rows rule bytes writes
conversion_of rows rule bytes writes size low table has are = subst (λ (l : List LineWrite). IsConversion rows rule bytes l) (sym are) (converts_in_steps bytes rows rule size (logical_bytes bytes low) table has)

-- there are writes exactly where the rule makes a record
pub writes_any : (rows : List Var) (rule : Rule) (bytes : List ℕ) (writes : List LineWrite) (made : Bool) → IsConversion rows rule bytes writes → writes ≡ convert_writes rows rule bytes →
    (IsTrue made ↔ ((value : List ℕ) × Converts rows (records_in_storage bytes) rule value)) → IsTrue made ↔ (writes ≢ [])
writes_any rows rule bytes writes made done are is = (
  λ m. let makes = is.0 m in writes_some rows rule bytes makes.0 writes done makes.1,
  λ some. elim (convert_cases rows (records_in_storage bytes) rule) [
    | inl makes ↦ is.1 makes
    | inr never ↦ absurd (some (are ∙ ap (λ (qs : List Piece). writes_of bytes qs) (pieces_none rows (records_in_storage bytes) rule never)))
  ],
)
