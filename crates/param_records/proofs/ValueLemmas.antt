-- The first record that matches, and its value.
use Rattle.std.proofs.Common.{◌≡◌, ◌⊎◌, inl, inr, ℕ, ◌+◌, ◌*◌, ◌<◌, ◌≤◌, Bool, true, cond, List, [], ◌∷◌, ◌++◌, length, get_or, take, drop, refl, sym, ◌∙◌, ap, subst, arith, Some, None}
use Rattle.std.specs.Prelude.{◌==◌, ◌&&◌, nat_lt, IsTrue}
use Rattle.param_tree.specs.declared.Var.{Var}
use Rattle.param_tree.specs.Rules.{row_fits, parts_of, is_value_of}
use Rattle.std.specs.Option.{option_map_or}
use Rattle.std.specs.List.{find}
use Rattle.std.specs.Str.{bytes_eq}
use Rattle.std.specs.Int.{cast_signed, w8, w16, w32}
use Rattle.std.proofs.lemmas.List.{length-append}
use Rattle.std.proofs.lemmas.List.Elements.{All-head}
use Rattle.std.proofs.lemmas.Bool.{cases_Bool, and_parts, eqb-true, ltb-true}
use Rattle.std.proofs.lemmas.Slice.Eq.{bytes_eq-Decides}
use Rattle.param_tree.specs.declared.Kind.{Kind}
use Rattle.param_tree.specs.declared.Kind.TheVariants.{I8, I16, I32, F32, Vec3}
use Rattle.param_records.specs.declared.values.Value.TheVariants.{Whole, Bits}
use Rattle.param_records.specs.Records.{Record, size_of, encoding, spelling, IsRecord, magic, HasRecords, records_in, records_of, matches, value_in, place_from, type_number}
use Rattle.param_records.specs.Values.{number_of_four_bytes, value_from}
use Rattle.param_records.proofs.RecordLemmas.{records_are, all_right}
use Rattle.param_records.proofs.RewriteLemmas.{value_at, value_fits}
use Rattle.storage_lines.specs.Bytes.{IsBytes}
use Rattle.param_records.proofs.WalkLemmas.{has_records, same_kind}

-- The first record that matches, with the place of its value.
pub record First (start k e : ℕ) (kind : Kind) (records : List Record) (at : ℕ) : Type 0 where
  pub front : List Record
  pub one : Record
  pub back : List Record
  pub whole : records ≡ front ++ one ∷ back
  pub is : matches k e kind one ≡ true
  pub none : place_from start k e kind front ≡ None
  pub place : at ≡ start + length (spelling front) + 4

pub first_at : (start k e : ℕ) (kind : Kind) (rs : List Record) (at : ℕ) → place_from start k e kind rs ≡ Some at → First start k e kind rs at
first_at start k e kind [] at h = let clash : None ≡ Some at = h in cc
first_at start k e kind (r ∷ rs) at h = elim (cases_Bool (matches k e kind r)) [
  | inl here ↦
      let same : Some (start + 4) ≡ Some at = sym (ap (λ (b : Bool). cond b (Some (start + 4)) (place_from (start + length (encoding r)) k e kind rs)) here) ∙ h in
      let at' : start + 4 ≡ at = cc in
      record { front = []; one = r; back = rs; whole = refl; is = here; none = refl; place = omega arith }
  | inr over ↦
      let rest : place_from (start + length (encoding r)) k e kind rs ≡ Some at = sym (ap (λ (b : Bool). cond b (Some (start + 4)) (place_from (start + length (encoding r)) k e kind rs)) over) ∙ h in
      let f = first_at (start + length (encoding r)) k e kind rs at rest in
      record {
        front = r ∷ f.front;
        one = f.one;
        back = f.back;
        whole = ap (λ (l : List Record). r ∷ l) f.whole;
        is = f.is;
        none = ap (λ (b : Bool). cond b (Some (start + 4)) (place_from (start + length (encoding r)) k e kind f.front)) over ∙ f.none;
        place = omega (arith, f.place, length-append (encoding r) (spelling f.front));
      }
]

pub value_none : (start k e : ℕ) (kind : Kind) (rs : List Record) → place_from start k e kind rs ≡ None → value_in k e kind rs ≡ None
value_none start k e kind [] h = refl
value_none start k e kind (r ∷ rs) h = elim (cases_Bool (matches k e kind r)) [
  | inl here ↦ let clash : Some (start + 4) ≡ None = sym (ap (λ (b : Bool). cond b (Some (start + 4)) (place_from (start + length (encoding r)) k e kind rs)) here) ∙ h in cc
  | inr over ↦
      let rest : place_from (start + length (encoding r)) k e kind rs ≡ None = sym (ap (λ (b : Bool). cond b (Some (start + 4)) (place_from (start + length (encoding r)) k e kind rs)) over) ∙ h in
      ap (λ (b : Bool). option_map_or (λ x. Some x.value) (cond b (Some r) (find (matches k e kind) rs)) None) over ∙ value_none (start + length (encoding r)) k e kind rs rest
]

-- behind records that don't match
pub value_skip : (start k e : ℕ) (kind : Kind) (rs more : List Record) → place_from start k e kind rs ≡ None → value_in k e kind (rs ++ more) ≡ value_in k e kind more
value_skip start k e kind [] more h = refl
value_skip start k e kind (r ∷ rs) more h = elim (cases_Bool (matches k e kind r)) [
  | inl here ↦ let clash : Some (start + 4) ≡ None = sym (ap (λ (b : Bool). cond b (Some (start + 4)) (place_from (start + length (encoding r)) k e kind rs)) here) ∙ h in cc
  | inr over ↦
      let rest : place_from (start + length (encoding r)) k e kind rs ≡ None = sym (ap (λ (b : Bool). cond b (Some (start + 4)) (place_from (start + length (encoding r)) k e kind rs)) over) ∙ h in
      ap (λ (b : Bool). option_map_or (λ x. Some x.value) (cond b (Some r) (find (matches k e kind) (rs ++ more))) None) over ∙ value_skip (start + length (encoding r)) k e kind rs more rest
]

pub value_first : (start k e : ℕ) (kind : Kind) (front back : List Record) (r : Record) → place_from start k e kind front ≡ None → matches k e kind r ≡ true → value_in k e kind (front ++ r ∷ back) ≡ Some r.value
value_first start k e kind front back r none is = value_skip start k e kind front (r ∷ back) none ∙ ap (λ (b : Bool). option_map_or (λ x. Some x.value) (cond b (Some r) (find (matches k e kind) back)) None) is

-- what matches has the kind
pub match_kind : (k e : ℕ) (kind : Kind) (r : Record) → matches k e kind r ≡ true → r.kind ≡ kind
match_kind k e kind r is =
    let rest = and_parts (r.key == k) ((r.element == e) && (type_number r.kind == type_number kind)) is in
    let last = and_parts (r.element == e) (type_number r.kind == type_number kind) rest.1 in
    same_kind r.kind kind (eqb-true (type_number r.kind) (type_number kind) last.1)

-- bytes that have no records, or their records up to the end
pub read_records : (L : List ℕ) → IsBytes L → (records_of L ≡ []) ⊎ ((at : ℕ) × HasRecords L (records_of L) at)
read_records L bytes = elim (cases_Bool (bytes_eq (take 4 L) magic)) [
  | inl front ↦
      let found = has_records L bytes ((bytes_eq-Decides (take 4 L) magic).0 front) in
      inr (found.1, subst (λ (x : List Record). HasRecords L x found.1) (sym (records_are L found.0 found.1 found.2)) found.2)
  | inr other ↦ inl (ap (λ (b : Bool). cond b (records_in (length L) (drop 4 L)) []) other)
]

-- the value that is found at a place
pub record FoundAt (L : List ℕ) (k e : ℕ) (kind : Kind) (at : ℕ) : Type 0 where
  pub first : First 4 k e kind (records_of L) at
  pub end : ℕ
  pub has : HasRecords L (first.front ++ first.one ∷ first.back) end
  pub value : value_in k e kind (records_of L) ≡ Some first.one.value
  pub size : length first.one.value ≡ size_of kind
  pub fits : at + size_of kind ≤ length L

pub found_at : (L : List ℕ) (k e : ℕ) (kind : Kind) (at : ℕ) → IsBytes L → place_from 4 k e kind (records_of L) ≡ Some at → FoundAt L k e kind at
found_at L k e kind at bytes h = elim (read_records L bytes) [
  | inl none ↦ let clash : None ≡ Some at = sym (ap (λ (x : List Record). place_from 4 k e kind x) none) ∙ h in cc
  | inr some ↦
      let f = first_at 4 k e kind (records_of L) at h in
      let has : HasRecords L (f.front ++ f.one ∷ f.back) some.0 = subst (λ (x : List Record). HasRecords L x some.0) f.whole some.1 in
      let one : IsRecord f.one = All-head IsRecord f.one f.back (all_right f.front (f.one ∷ f.back) has.each) in
      let size : length f.one.value ≡ size_of kind = one.value ∙ ap size_of (match_kind k e kind f.one f.is) in
      record {
        first = f;
        end = some.0;
        has = has;
        value = ap (λ (x : List Record). value_in k e kind x) f.whole ∙ value_first 4 k e kind f.front f.back f.one f.none f.is;
        size = size;
        fits = omega (arith, f.place, value_fits L f.front f.back f.one some.0 has);
      }
]

-- the bytes there are the value's
pub found_byte : (L : List ℕ) (k e : ℕ) (kind : Kind) (at : ℕ) (f : FoundAt L k e kind at) (i : ℕ) → i < size_of kind → get_or L (at + i) 0 ≡ get_or f.first.one.value i 0
found_byte L k e kind at f i h =
    let place : at + i ≡ 8 + length (spelling f.first.front) + i = omega (arith, f.first.place) in
    ap (λ (n : ℕ). get_or L n 0) place ∙ value_at L f.first.front f.first.back f.first.one f.end f.has i (omega (arith, f.size))

pub same_number : (v w : List ℕ) (at : ℕ) → ((i : ℕ) → i < 4 → get_or v (at + i) 0 ≡ get_or w (at + i) 0) → number_of_four_bytes at v ≡ number_of_four_bytes at w
same_number v w at h =
    let a0 : at + 0 ≡ at = omega arith in
    let e0 : get_or v at 0 ≡ get_or w at 0 = ap (λ (n : ℕ). get_or v n 0) (sym a0) ∙ h 0 (omega arith) ∙ ap (λ (n : ℕ). get_or w n 0) a0 in
    omega (arith, e0, h 1 (omega arith), h 2 (omega arith), h 3 (omega arith))

-- a value depends on its kind's bytes alone
pub same_value : (kind : Kind) (part : ℕ) (v w : List ℕ) → part < 3 → ((i : ℕ) → i < size_of kind → get_or v i 0 ≡ get_or w i 0) → value_from kind part v ≡ value_from kind part w
same_value I8 part v w few h = ap (λ (n : ℕ). Whole (cast_signed w8 n)) (h 0 (omega arith))
same_value I16 part v w few h = let e : get_or v 0 0 + 256 * get_or v 1 0 ≡ get_or w 0 0 + 256 * get_or w 1 0 = omega (arith, h 0 (omega arith), h 1 (omega arith)) in ap (λ (n : ℕ). Whole (cast_signed w16 n)) e
same_value I32 part v w few h = ap (λ (n : ℕ). Whole (cast_signed w32 n)) (same_number v w 0 (λ i l. h (0 + i) (omega arith)))
same_value F32 part v w few h = ap (λ (n : ℕ). Bits n) (same_number v w 0 (λ i l. h (0 + i) (omega arith)))
same_value Vec3 part v w few h = ap (λ (n : ℕ). Bits n) (same_number v w (4 * part) (λ i l. h (4 * part + i) (omega arith)))

few_parts : (kind : Kind) → parts_of kind ≤ 3
few_parts I8 = omega arith
few_parts I16 = omega arith
few_parts I32 = omega arith
few_parts F32 = omega arith
few_parts Vec3 = omega arith

pub part_few : (v : Var) → IsTrue (row_fits v) → v.part < 3
part_few v h =
    let halves = and_parts (nat_lt v.key 512 && nat_lt v.element 0x4_0000) (nat_lt v.part (parts_of v.kind) && is_value_of v.kind v.default) h in
    let part = and_parts (nat_lt v.part (parts_of v.kind)) (is_value_of v.kind v.default) halves.1 in
    omega (arith, ltb-true v.part (parts_of v.kind) part.0, few_parts v.kind)
