-- What other rows read after a change of records.
use Rattle.std.proofs.Common.{◌≡◌, ◌≢◌, ◌⊎◌, inl, inr, ℕ, zero, suc, ◌+◌, ◌-◌, ◌*◌, ◌/◌, ◌%◌, ◌^◌, ◌<◌, ◌≤◌, Bool, true, false, cond, List, [], ◌∷◌, ◌++◌, length, get_or, take, drop, refl, sym, ◌∙◌, ap, subst, arith, Option, Some, None}
use Rattle.std.specs.Prelude.{All, AllPairs, ◌==◌, ◌&&◌, slice_get}
use Rattle.std.specs.Option.{option_map_or}
use Rattle.std.specs.List.{find}
use Rattle.std.proofs.lemmas.List.{length-take, get_or-take, get_or-drop, get_or_append_left, get_or-append_right}
use Rattle.std.proofs.lemmas.Bool.{cases_lt, cases_Bool, and_parts, eqb-true, eq-eqb, ne_eqb, and_from, cases_order}
use Rattle.std.proofs.lemmas.Option.{get_or_from_slice_get}
use Rattle.param_tree.specs.declared.Kind.{Kind}
use Rattle.param_tree.specs.declared.Kind.TheVariants.{I8, I16, I32, F32, Vec3}
use Rattle.param_tree.specs.declared.Var.{Var}
use Rattle.param_tree.specs.Rules.{is_part, is_three_floats, parts_of, SamePlace}
use Rattle.param_records.specs.declared.values.Value.{Value}
use Rattle.param_records.specs.declared.values.Value.TheVariants.{Bits}
use Rattle.param_records.specs.Records.{Record, size_of, matches, value_in, place_from, type_number}
use Rattle.param_records.specs.Values.{value_from, value_of_number, value_in_records}
use Rattle.param_records.specs.Changes.{part_bytes, overwritten, default_at, part_number, fresh_bytes, fresh}
use Rattle.param_records.proofs.RecordLemmas.{with_value}
use Rattle.param_records.proofs.StoreLemmas.{get_all}
use Rattle.param_records.proofs.ValueLemmas.{value_none, value_first, match_kind, same_number}

-- a record that doesn't match, among others
pub value_middle : (k e : ℕ) (kind : Kind) (front back : List Record) (r s : Record) → matches k e kind r ≡ false → matches k e kind s ≡ false → value_in k e kind (front ++ r ∷ back) ≡ value_in k e kind (front ++ s ∷ back)
value_middle k e kind [] back r s a b =
    ap (λ (t : Bool). option_map_or (λ x. Some x.value) (cond t (Some r) (find (matches k e kind) back)) None) a
    ∙ sym (ap (λ (t : Bool). option_map_or (λ x. Some x.value) (cond t (Some s) (find (matches k e kind) back)) None) b)
value_middle k e kind (q ∷ front) back r s a b = elim (cases_Bool (matches k e kind q)) [
  | inl here ↦
      ap (λ (t : Bool). option_map_or (λ x. Some x.value) (cond t (Some q) (find (matches k e kind) (front ++ r ∷ back))) None) here
      ∙ sym (ap (λ (t : Bool). option_map_or (λ x. Some x.value) (cond t (Some q) (find (matches k e kind) (front ++ s ∷ back))) None) here)
  | inr over ↦
      ap (λ (t : Bool). option_map_or (λ x. Some x.value) (cond t (Some q) (find (matches k e kind) (front ++ r ∷ back))) None) over
      ∙ value_middle k e kind front back r s a b
      ∙ sym (ap (λ (t : Bool). option_map_or (λ x. Some x.value) (cond t (Some q) (find (matches k e kind) (front ++ s ∷ back))) None) over)
]

-- a record behind the others that doesn't match
pub value_push : (k e : ℕ) (kind : Kind) (rs : List Record) (r : Record) → matches k e kind r ≡ false → value_in k e kind (rs ++ r ∷ []) ≡ value_in k e kind rs
value_push k e kind [] r a = ap (λ (t : Bool). option_map_or (λ x. Some x.value) (cond t (Some r) None) None) a
value_push k e kind (q ∷ rs) r a = elim (cases_Bool (matches k e kind q)) [
  | inl here ↦
      ap (λ (t : Bool). option_map_or (λ x. Some x.value) (cond t (Some q) (find (matches k e kind) (rs ++ r ∷ []))) None) here
      ∙ sym (ap (λ (t : Bool). option_map_or (λ x. Some x.value) (cond t (Some q) (find (matches k e kind) rs)) None) here)
  | inr over ↦
      ap (λ (t : Bool). option_map_or (λ x. Some x.value) (cond t (Some q) (find (matches k e kind) (rs ++ r ∷ []))) None) over
      ∙ value_push k e kind rs r a
      ∙ sym (ap (λ (t : Bool). option_map_or (λ x. Some x.value) (cond t (Some q) (find (matches k e kind) rs)) None) over)
]

-- what matches has the key, the element and the kind
pub record Same (k e : ℕ) (of : Kind) (r : Record) : Type 0 where
  pub key : r.key ≡ k
  pub element : r.element ≡ e
  pub kind : r.kind ≡ of

pub match_same : (k e : ℕ) (kind : Kind) (r : Record) → matches k e kind r ≡ true → Same k e kind r
match_same k e kind r is =
    let rest = and_parts (r.key == k) ((r.element == e) && (type_number r.kind == type_number kind)) is in
    let last = and_parts (r.element == e) (type_number r.kind == type_number kind) rest.1 in
    record { key = eqb-true r.key k rest.0; element = eqb-true r.element e last.0; kind = match_kind k e kind r is }

pub match_triple : (k e k' e' : ℕ) (kind kind' : Kind) (rs : List Record) (start : ℕ) → k ≡ k' → e ≡ e' → kind ≡ kind' → place_from start k e kind rs ≡ place_from start k' e' kind' rs
match_triple k e k' e' kind kind' rs start a b c = ap (λ (x : ℕ). place_from start x e kind rs) a ∙ ap (λ (x : ℕ). place_from start k' x kind rs) b ∙ ap (λ (x : Kind). place_from start k' e' x rs) c

-- the bytes of a value outside what is overwritten
pub over_other : (k : ℕ) (xs v : List ℕ) (i : ℕ) → k + length xs ≤ length v → (i < k) ⊎ (k + length xs ≤ i) → get_or (overwritten k xs v) i 0 ≡ get_or v i 0
over_other k xs v i fits (inl below) = get_or_append_left (take k v) (xs ++ drop (k + length xs) v) 0 i (omega (arith, length-take k v)) ∙ get_or-take k v i 0 below
over_other k xs v i fits (inr above) =
    let front : length (take k v) ≡ k = omega (arith, length-take k v) in
    let place : k + length xs + (i - k - length xs) ≡ i = omega arith in
    get_or-append_right (take k v) (xs ++ drop (k + length xs) v) k i 0 front (omega arith)
    ∙ get_or-append_right xs (drop (k + length xs) v) (length xs) (i - k) 0 refl (omega arith)
    ∙ get_or-drop (k + length xs) v (i - k - length xs) 0 ∙ ap (λ (j : ℕ). get_or v j 0) place

pub over_here : (k : ℕ) (xs v : List ℕ) (i : ℕ) → k ≤ length v → i < length xs → get_or (overwritten k xs v) (k + i) 0 ≡ get_or xs i 0
over_here k xs v i fits h =
    let front : length (take k v) ≡ k = omega (arith, length-take k v) in
    let place : k + i - k ≡ i = omega arith in
    get_or-append_right (take k v) (xs ++ drop (k + length xs) v) k (k + i) 0 front (omega arith)
    ∙ ap (λ (j : ℕ). get_or (xs ++ drop (k + length xs) v) j 0) place ∙ get_or_append_left xs (drop (k + length xs) v) 0 i h

-- another part of a value that is overwritten at one part
other_part : (kind : Kind) (part other : ℕ) (xs v : List ℕ) → part < parts_of kind → other < parts_of kind → other ≢ part → length xs ≤ 4 → length v ≡ size_of kind →
    value_from kind other (overwritten (4 * part) xs v) ≡ value_from kind other v
other_part I8 part other xs v a b differ few size = absurd (omega arith)
other_part I16 part other xs v a b differ few size = absurd (omega arith)
other_part I32 part other xs v a b differ few size = absurd (omega arith)
other_part F32 part other xs v a b differ few size = absurd (omega arith)
other_part Vec3 part other xs v a b differ few size =
    ap (λ (n : ℕ). Bits n) (same_number (overwritten (4 * part) xs v) v (4 * other) (λ i h. over_other (4 * part) xs v (4 * other + i) (omega arith) (elim (cases_lt other part) [ inl below ↦ inl (omega arith) | inr above ↦ inr (omega arith) ])))

-- a row beside the one whose value is rewritten
pub other_rewritten : (row other : Var) (front back : List Record) (r : Record) (start : ℕ) (xs : List ℕ) → place_from start row.key row.element row.kind front ≡ None → matches row.key row.element row.kind r ≡ true →
    length r.value ≡ size_of row.kind → row.part < parts_of row.kind → other.part < parts_of other.kind → ¬ SamePlace row other → length xs ≤ 4 →
    value_in_records (front ++ with_value r (overwritten (4 * row.part) xs r.value) ∷ back) other ≡ value_in_records (front ++ r ∷ back) other
other_rewritten row other front back r start xs none is size part part' apart few =
    let s = with_value r (overwritten (4 * row.part) xs r.value) in
    let read : Option (List ℕ) → Value = λ o. option_map_or (value_from other.kind other.part) o (value_of_number other.kind other.default) in
    elim (cases_Bool (matches other.key other.element other.kind r)) [
      | inr over ↦ ap read (value_middle other.key other.element other.kind front back s r over over)
      | inl here ↦
          let a = match_same row.key row.element row.kind r is in
          let b = match_same other.key other.element other.kind r here in
          let key : other.key ≡ row.key = sym b.key ∙ a.key in
          let element : other.element ≡ row.element = sym b.element ∙ a.element in
          let kind : other.kind ≡ row.kind = sym b.kind ∙ a.kind in
          let none' : place_from start other.key other.element other.kind front ≡ None = match_triple other.key other.element row.key row.element other.kind row.kind front start key element kind ∙ none in
          let differ : other.part ≢ row.part = λ e. apart (sym key, sym element, sym e) in
          let p1 : row.part < parts_of other.kind = subst (λ (k : Kind). row.part < parts_of k) (sym kind) part in
          let size' : length r.value ≡ size_of other.kind = size ∙ ap size_of (sym kind) in
          ap read (value_first start other.key other.element other.kind front back s none' here)
          ∙ other_part other.kind row.part other.part xs r.value p1 part' differ few size'
          ∙ sym (ap read (value_first start other.key other.element other.kind front back r none' here))
    ]

pairs_head : (v : Var) (vs : List Var) → AllPairs (λ v w. ¬ SamePlace v w) (v ∷ vs) → All (λ w. ¬ SamePlace v w) vs
pairs_head v vs h = λ k d l. h zero (suc k) d (omega arith) (omega arith)

pairs_tail : (v : Var) (vs : List Var) → AllPairs (λ v w. ¬ SamePlace v w) (v ∷ vs) → AllPairs (λ v w. ¬ SamePlace v w) vs
pairs_tail v vs h = λ i j d a b. h (suc i) (suc j) d (omega arith) (omega arith)

same_part : (row v w : Var) (p : ℕ) → is_part row p v ≡ true → is_part row p w ≡ true → SamePlace v w
same_part row v w p a b =
    let a1 = and_parts ((v.key == row.key) && (v.element == row.element)) (is_three_floats v.kind && (v.part == p)) a in
    let b1 = and_parts ((w.key == row.key) && (w.element == row.element)) (is_three_floats w.kind && (w.part == p)) b in
    let a2 = and_parts (v.key == row.key) (v.element == row.element) a1.0 in
    let b2 = and_parts (w.key == row.key) (w.element == row.element) b1.0 in
    let a3 = and_parts (is_three_floats v.kind) (v.part == p) a1.1 in
    let b3 = and_parts (is_three_floats w.kind) (w.part == p) b1.1 in
    (eqb-true v.key row.key a2.0 ∙ sym (eqb-true w.key row.key b2.0), eqb-true v.element row.element a2.1 ∙ sym (eqb-true w.element row.element b2.1), eqb-true v.part p a3.1 ∙ sym (eqb-true w.part p b3.1))

-- the one row of a part
find_one : (rows : List Var) (row other : Var) (p i : ℕ) → AllPairs (λ v w. ¬ SamePlace v w) rows → slice_get rows i ≡ Some other → is_part row p other ≡ true → find (is_part row p) rows ≡ Some other
find_one [] row other p i apart h is = cc
find_one (v ∷ vs) row other p zero apart h is =
    let same : v ≡ other = cc in
    ap (λ (b : Bool). cond b (Some v) (find (is_part row p) vs)) (ap (λ (x : Var). is_part row p x) same ∙ is) ∙ ap (λ (x : Var). Some x) same
find_one (v ∷ vs) row other p (suc i) apart h is = elim (cases_Bool (is_part row p v)) [
  | inl clash ↦ absurd (get_all (λ (w : Var). ¬ SamePlace v w) vs i other (pairs_head v vs apart) h (same_part row v other p clash is))
  | inr over ↦ ap (λ (b : Bool). cond b (Some v) (find (is_part row p) vs)) over ∙ find_one vs row other p i (pairs_tail v vs apart) h is
]

pub four_number : (n : ℕ) → n < 2 ^ 32 → n % 256 + 256 * (n / 256 % 256) + 65536 * (n / 65536 % 256) + 16777216 * (n / 16777216 % 256) ≡ n
four_number n h = omega arith

fresh_part : (rows : List Var) (row : Var) (number p : ℕ) → p < 3 → part_number rows row number p < 2 ^ 32 → value_from Vec3 p (fresh_bytes Vec3 rows row number) ≡ Bits (part_number rows row number p)
fresh_part rows row number zero h few = ap (λ (n : ℕ). Bits n) (four_number (part_number rows row number 0) few)
fresh_part rows row number (suc zero) h few = ap (λ (n : ℕ). Bits n) (four_number (part_number rows row number 1) few)
fresh_part rows row number (suc (suc zero)) h few = ap (λ (n : ℕ). Bits n) (four_number (part_number rows row number 2) few)
fresh_part rows row number (suc (suc (suc p))) h few = absurd (omega arith)

-- another part of a new record is its default
other_fresh : (kind : Kind) (rows : List Var) (row other : Var) (number i : ℕ) → other.kind ≡ kind → row.part < parts_of kind → other.part < parts_of kind → other.part ≢ row.part → other.key ≡ row.key → other.element ≡ row.element →
    other.default < 2 ^ 32 → AllPairs (λ v w. ¬ SamePlace v w) rows → slice_get rows i ≡ Some other → value_from kind other.part (fresh_bytes kind rows row number) ≡ value_of_number kind other.default
other_fresh I8 rows row other number i is a b differ key element few apart h = absurd (omega arith)
other_fresh I16 rows row other number i is a b differ key element few apart h = absurd (omega arith)
other_fresh I32 rows row other number i is a b differ key element few apart h = absurd (omega arith)
other_fresh F32 rows row other number i is a b differ key element few apart h = absurd (omega arith)
other_fresh Vec3 rows row other number i is a b differ key element few apart h =
    let test : is_part row other.part other ≡ true = and_from ((other.key == row.key) && (other.element == row.element)) (is_three_floats other.kind && (other.part == other.part))
    (and_from (other.key == row.key) (other.element == row.element) (eq-eqb other.key row.key key) (eq-eqb other.element row.element element))
    (and_from (is_three_floats other.kind) (other.part == other.part) (ap is_three_floats is) (eq-eqb other.part other.part refl)) in
    let found : default_at rows row other.part ≡ other.default = ap (λ (o : Option Var). option_map_or (λ v. v.default) o 0) (find_one rows row other other.part i apart h test) in
    let number' : part_number rows row number other.part ≡ other.default = ap (λ (t : Bool). cond t number (default_at rows row other.part)) (ne_eqb row.part other.part (λ e. differ (sym e))) ∙ found in
    fresh_part rows row number other.part b (omega arith) ∙ ap (λ (n : ℕ). Bits n) number'

-- a row beside the one whose record is appended
pub other_appended : (rows : List Var) (row other : Var) (number i : ℕ) (records : List Record) → place_from 4 row.key row.element row.kind records ≡ None → row.part < parts_of row.kind → other.part < parts_of other.kind → ¬ SamePlace row other →
    other.default < 2 ^ 32 → AllPairs (λ v w. ¬ SamePlace v w) rows → slice_get rows i ≡ Some other → value_in_records (records ++ fresh rows row number ∷ []) other ≡ value_in_records records other
other_appended rows row other number i records none part part' apart few pairs h =
    let r = fresh rows row number in
    let read : Option (List ℕ) → Value = λ o. option_map_or (value_from other.kind other.part) o (value_of_number other.kind other.default) in
    elim (cases_Bool (matches other.key other.element other.kind r)) [
      | inr over ↦ ap read (value_push other.key other.element other.kind records r over)
      | inl here ↦
          let b = match_same other.key other.element other.kind r here in
          let none' : place_from 4 other.key other.element other.kind records ≡ None = match_triple other.key other.element row.key row.element other.kind row.kind records 4 (sym b.key) (sym b.element) (sym b.kind) ∙ none in
          let differ : other.part ≢ row.part = λ e. apart (b.key, b.element, sym e) in
          let p1 : row.part < parts_of other.kind = subst (λ (k : Kind). row.part < parts_of k) b.kind part in
          ap read (value_first 4 other.key other.element other.kind records [] r none' here)
          ∙ ap (λ (k : Kind). value_from other.kind other.part (fresh_bytes k rows row number)) b.kind
          ∙ other_fresh other.kind rows row other number i refl p1 part' differ (sym b.key) (sym b.element) few pairs h
          ∙ sym (ap read (value_none 4 other.key other.element other.kind records none'))
    ]

-- a new record has the row's value
own_fresh : (kind : Kind) (rows : List Var) (row : Var) (number : ℕ) → row.part < parts_of kind → number < 2 ^ 32 → value_from kind row.part (fresh_bytes kind rows row number) ≡ value_from kind 0 (part_bytes kind number)
own_fresh I8 rows row number a few = refl
own_fresh I16 rows row number a few = refl
own_fresh I32 rows row number a few = refl
own_fresh F32 rows row number a few = refl
own_fresh Vec3 rows row number a few =
    let mine : part_number rows row number row.part ≡ number = ap (λ (t : Bool). cond t number (default_at rows row row.part)) (eq-eqb row.part row.part refl) in
    fresh_part rows row number row.part a (omega arith) ∙ ap (λ (n : ℕ). Bits n) mine ∙ sym (ap (λ (n : ℕ). Bits n) (four_number number few))

pub own_appended : (rows : List Var) (row : Var) (number : ℕ) (records : List Record) → place_from 4 row.key row.element row.kind records ≡ None → row.part < parts_of row.kind → number < 2 ^ 32 →
    value_in_records (records ++ fresh rows row number ∷ []) row ≡ value_from row.kind 0 (part_bytes row.kind number)
own_appended rows row number records none part few =
    let r = fresh rows row number in
    let here : matches row.key row.element row.kind r ≡ true = and_from (row.key == row.key) ((row.element == row.element) && (type_number row.kind == type_number row.kind)) (eq-eqb row.key row.key refl)
    (and_from (row.element == row.element) (type_number row.kind == type_number row.kind) (eq-eqb row.element row.element refl) (eq-eqb (type_number row.kind) (type_number row.kind) refl)) in
    ap (λ (o : Option (List ℕ)). option_map_or (value_from row.kind row.part) o (value_of_number row.kind row.default)) (value_first 4 row.key row.element row.kind records [] r none here)
    ∙ own_fresh row.kind rows row number part few

pub inside : (rows : List Var) (i : ℕ) (v : Var) → slice_get rows i ≡ Some v → i < length rows
inside [] i v h = cc
inside (r ∷ rows) zero v h = omega arith
inside (r ∷ rows) (suc i) v h = let l = inside rows i v h in omega arith

-- rows of a table lie apart
pub rows_apart : (rows : List Var) (i j : ℕ) (v w : Var) → AllPairs (λ v w. ¬ SamePlace v w) rows → i ≢ j → slice_get rows i ≡ Some v → slice_get rows j ≡ Some w → ¬ SamePlace v w
rows_apart rows i j v w pairs differ a b = λ same.
    let gv : get_or rows i v ≡ v = get_or_from_slice_get rows i v v a in
    let gw : get_or rows j v ≡ w = get_or_from_slice_get rows j w v b in
    elim (cases_order i j) [
      | inl e ↦ differ e
      | inr x ↦ elim x [
        | inl below ↦ pairs i j v below (inside rows j w b) (subst (λ (y : Var). SamePlace y (get_or rows j v)) (sym gv) (subst (λ (y : Var). SamePlace v y) (sym gw) same))
        | inr above ↦ pairs j i v above (inside rows i v a) (subst (λ (y : Var). SamePlace y (get_or rows i v)) (sym gw) (subst (λ (y : Var). SamePlace w y) (sym gv) (sym same.0, sym same.1, sym same.2)))
      ]
    ]
