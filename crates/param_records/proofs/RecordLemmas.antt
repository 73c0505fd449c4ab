-- Records in bytes: one reading, and what keeps it.
use Rattle.std.proofs.Common.{◌≡◌, ◌⊎◌, inl, inr, ℕ, zero, suc, ◌+◌, ◌*◌, ◌/◌, ◌%◌, ◌<◌, ◌≤◌, Bool, true, cond, List, [], ◌∷◌, ◌++◌, length, get_or, take, drop, refl, sym, ◌∙◌, ap, arith, append_assoc, Option, Some, None}
use Rattle.std.specs.Prelude.{All, option_and_then}
use Rattle.std.specs.Option.{option_map_or}
use Rattle.std.specs.Str.{bytes_eq}
use Rattle.std.proofs.lemmas.List.{take_at, drop_at, length-append, length-take-le, flat_map_more, length-drop, take-append-drop, get_or-drop, drop-drop}
use Rattle.std.proofs.lemmas.List.Concat.{flat_map-append}
use Rattle.std.proofs.lemmas.List.Elements.{All-head, All-tail, All-nil, All-cons, All-push, All-append}
use Rattle.std.proofs.lemmas.Bool.{cases_eq, le-leb, lt-leb}
use Rattle.std.proofs.lemmas.Bool.Decides.{nat_tests}
use Rattle.std.proofs.lemmas.Slice.Eq.{bytes_eq-Decides}
use Rattle.param_tree.specs.declared.Kind.{Kind}
use Rattle.param_tree.specs.declared.Kind.TheVariants.{I8, I16, I32, F32, Vec3}
use Rattle.param_records.specs.Records.{Record, size_of, kind_with_number, four_bytes, header, encoding, spelling, IsRecord, IsEnd, magic, sentinel, HasRecords, read_as, read_whole, record_at, records_in, records_of, end_of, type_number}

pub kind_of-number : (kind : Kind) → kind_with_number (type_number kind) ≡ Some kind
kind_of-number I8 = refl
kind_of-number I16 = refl
kind_of-number I32 = refl
kind_of-number F32 = refl
kind_of-number Vec3 = refl

pub number-low : (kind : Kind) → type_number kind < 32
number-low I8 = omega arith
number-low I16 = omega arith
number-low I32 = omega arith
number-low F32 = omega arith
number-low Vec3 = omega arith

-- the fields of a header's bytes
pub header_key : (r : Record) → IsRecord r → get_or (four_bytes (header r)) 0 0 + 256 * (get_or (four_bytes (header r)) 1 0 / 32 % 2) ≡ r.key
header_key r h = let k = h.key in let e = h.element in let n = number-low r.kind in omega arith

pub header_kind : (r : Record) → IsRecord r → get_or (four_bytes (header r)) 1 0 % 32 ≡ type_number r.kind
header_kind r h = let k = h.key in let e = h.element in let n = number-low r.kind in omega arith

pub header_element : (r : Record) → IsRecord r → get_or (four_bytes (header r)) 1 0 / 64 + 4 * get_or (four_bytes (header r)) 2 0 + 1024 * get_or (four_bytes (header r)) 3 0 ≡ r.element
header_element r h = let k = h.key in let e = h.element in let n = number-low r.kind in omega arith

pub length-encoding : (r : Record) → IsRecord r → length (encoding r) ≡ 4 + size_of r.kind
length-encoding r h = let v = h.value in omega arith

-- a record is read back
pub decode : (r : Record) (more : List ℕ) → IsRecord r → record_at (encoding r ++ more) ≡ Some r
decode r more h =
    let bytes = encoding r ++ more in
    let fits : 4 + size_of r.kind ≤ length bytes = let v = h.value in omega (arith, length-append r.value more) in
    let value : take (size_of r.kind) (r.value ++ more) ≡ r.value = take_at r.value more (size_of r.kind) h.value in
    let key = header_key r h in
    let element = header_element r h in
    let made : read_as r.kind bytes ≡ r =
    ap (λ (k : ℕ). record (read_as r.kind bytes) { key = k }) key
    ∙ ap (λ (e : ℕ). record (read_as r.kind bytes) { key = r.key; element = e }) element
    ∙ ap (λ (v : List ℕ). record (read_as r.kind bytes) { key = r.key; element = r.element; value = v }) value in
    ap (λ (n : ℕ). option_and_then (read_whole bytes) (kind_with_number n)) (header_kind r h)
    ∙ ap (λ (o : Option Kind). option_and_then (read_whole bytes) o) (kind_of-number r.kind)
    ∙ ap (λ (b : Bool). cond b (Some (read_as r.kind bytes)) None) (le-leb (4 + size_of r.kind) (length bytes) fits)
    ∙ ap (λ (x : Record). Some x) made

-- a number is a kind's, or none's
pub kind_cases : (n : ℕ) → (kind_with_number n ≡ None) ⊎ ((kind : Kind) × (kind_with_number n ≡ Some kind) × (n ≡ type_number kind))
kind_cases n = elim (cases_eq n 1) [
  | inl e ↦ inr (I8, ap kind_with_number e, e)
  | inr a ↦ elim (cases_eq n 2) [
    | inl e ↦ inr (I16, ap kind_with_number e, e)
    | inr b ↦ elim (cases_eq n 3) [
      | inl e ↦ inr (I32, ap kind_with_number e, e)
      | inr d ↦ elim (cases_eq n 4) [
        | inl e ↦ inr (F32, ap kind_with_number e, e)
        | inr f ↦ elim (cases_eq n 5) [
          | inl e ↦ inr (Vec3, ap kind_with_number e, e)
          | inr g ↦ inl (grind (arith, nat_tests))
        ]
      ]
    ]
  ]
]

-- where no record begins
pub end_none : (bytes : List ℕ) → IsEnd bytes → record_at bytes ≡ None
end_none bytes ends = elim (kind_cases (get_or bytes 1 0 % 32)) [
  | inl none ↦ ap (λ (o : Option Kind). option_and_then (read_whole bytes) o) none
  | inr found ↦
      ap (λ (o : Option Kind). option_and_then (read_whole bytes) o) found.1
      ∙ ap (λ (b : Bool). cond b (Some (read_as found.0 bytes)) None) (lt-leb (4 + size_of found.0) (length bytes) (ends found.0 found.2))
]

pub short_records : (rs : List Record) → All IsRecord rs → length rs ≤ length (spelling rs)
short_records [] h = omega arith
short_records (r ∷ rs) h = omega (arith, short_records rs (All-tail IsRecord r rs h), length-append (encoding r) (spelling rs), length-append (four_bytes (header r)) r.value)

-- all records up to the end are read
pub read_all : (n : ℕ) (rs : List Record) (rest : List ℕ) → All IsRecord rs → IsEnd rest → length rs ≤ n → records_in n (spelling rs ++ rest) ≡ rs
unfolding records_in
read_all zero [] rest h ends few = refl
read_all zero (r ∷ rs) rest h ends few = absurd (omega arith)
read_all (suc n) [] rest h ends few = ap (λ (o : Option Record). option_map_or (λ r. r ∷ records_in n (drop (length (encoding r)) rest)) o []) (end_none rest ends)
read_all (suc n) (r ∷ rs) rest h ends few =
    let more = spelling rs ++ rest in
    let bytes = encoding r ++ spelling rs ++ rest in
    let whole : bytes ≡ encoding r ++ more = append_assoc (encoding r) (spelling rs) rest in
    let next : drop (length (encoding r)) bytes ≡ more = ap (λ (l : List ℕ). drop (length (encoding r)) l) whole ∙ drop_at (encoding r) more (length (encoding r)) refl in
    let here : record_at bytes ≡ Some r = ap record_at whole ∙ decode r more (All-head IsRecord r rs h) in
    ap (λ (o : Option Record). option_map_or (λ x. x ∷ records_in n (drop (length (encoding x)) bytes)) o []) here
    ∙ ap (λ (l : List ℕ). r ∷ records_in n l) next
    ∙ ap (λ (l : List Record). r ∷ l) (read_all n rs rest (All-tail IsRecord r rs h) ends (omega arith))

-- the records of the bytes are determined, and so is the end
pub records_are : (bytes : List ℕ) (rs : List Record) (at : ℕ) → HasRecords bytes rs at → records_of bytes ≡ rs
records_are bytes rs at h =
    let body = spelling rs ++ h.rest in
    let front : bytes_eq (take 4 bytes) magic ≡ true = (bytes_eq-Decides (take 4 bytes) magic).1 (ap (λ (l : List ℕ). take 4 l) h.whole) in
    let behind : drop 4 bytes ≡ body = ap (λ (l : List ℕ). drop 4 l) h.whole in
    let few : length rs ≤ length bytes = omega (arith, ap (λ (l : List ℕ). length l) h.whole, length-append (spelling rs) h.rest, short_records rs h.each) in
    ap (λ (b : Bool). cond b (records_in (length bytes) (drop 4 bytes)) []) front
    ∙ ap (λ (l : List ℕ). records_in (length bytes) l) behind
    ∙ read_all (length bytes) rs h.rest h.each h.last few

pub end_is : (bytes : List ℕ) (rs : List Record) (at : ℕ) → HasRecords bytes rs at → end_of bytes ≡ at
end_is bytes rs at h = ap (λ (l : List Record). 4 + length (spelling l)) (records_are bytes rs at h) ∙ sym h.place

-- the place behind the magic and the records
pub length-front : (rs : List Record) → length (magic ++ spelling rs) ≡ 4 + length (spelling rs)
length-front rs = omega arith

-- Other bytes that agree below the end, and whose header at the end has the same type, have the same records.
pub record Keeps (at : ℕ) (old new : List ℕ) : Type 0 where
  pub size : length new ≡ length old
  pub front : take at new ≡ take at old
  pub type : get_or new (at + 1) 0 ≡ get_or old (at + 1) 0

pub kept_records : (old new : List ℕ) (rs : List Record) (at : ℕ) → HasRecords old rs at → Keeps at old new → HasRecords new rs at
kept_records old new rs at h k =
    let before = magic ++ spelling rs in
    let place : length before ≡ at = length-front rs ∙ sym h.place in
    let split : old ≡ before ++ h.rest = h.whole ∙ sym (append_assoc magic (spelling rs) h.rest) in
    let cut : take at new ≡ before = k.front ∙ ap (λ (l : List ℕ). take at l) split ∙ take_at before h.rest at place in
    let rest : drop at old ≡ h.rest = ap (λ (l : List ℕ). drop at l) split ∙ drop_at before h.rest at place in
    let whole : new ≡ before ++ drop at new = sym (take-append-drop at new) ∙ ap (λ (l : List ℕ). l ++ drop at new) cut in
    let sizes : length (drop at new) ≡ length h.rest = omega (arith, length-drop at new, length-drop at old, ap (λ (l : List ℕ). length l) rest, k.size) in
    let type : get_or (drop at new) 1 0 ≡ get_or h.rest 1 0 = get_or-drop at new 1 0 ∙ k.type ∙ sym (get_or-drop at old 1 0) ∙ ap (λ (l : List ℕ). get_or l 1 0) rest in
    record {
      rest = drop at new;
      whole = whole ∙ append_assoc magic (spelling rs) (drop at new);
      each = h.each;
      last = λ kind e. let short = h.last kind (ap (λ (n : ℕ). n % 32) (sym type) ∙ e) in omega arith;
      place = h.place;
    }

sentinel_type : (kind : Kind) → 31 ≡ type_number kind → ⊥
sentinel_type I8 e = omega arith
sentinel_type I16 e = omega arith
sentinel_type I32 e = omega arith
sentinel_type F32 e = omega arith
sentinel_type Vec3 e = omega arith

pub sentinel_ends : (more : List ℕ) → IsEnd (sentinel ++ more)
sentinel_ends more kind e = absurd (sentinel_type kind e)

-- bytes that agree below the end and spell one more record and the sentinel there
pub appended_records : (old new : List ℕ) (rs : List Record) (at : ℕ) (r : Record) (more : List ℕ) → HasRecords old rs at → IsRecord r → take at new ≡ take at old → drop at new ≡ encoding r ++ (sentinel ++ more) →
    HasRecords new (rs ++ r ∷ []) (at + length (encoding r))
appended_records old new rs at r more h one front behind =
    let before = magic ++ spelling rs in
    let rest = sentinel ++ more in
    let place : length before ≡ at = length-front rs ∙ sym h.place in
    let split : old ≡ before ++ h.rest = h.whole ∙ sym (append_assoc magic (spelling rs) h.rest) in
    let cut : take at new ≡ before = front ∙ ap (λ (l : List ℕ). take at l) split ∙ take_at before h.rest at place in
    let grown : spelling (rs ++ r ∷ []) ≡ spelling rs ++ encoding r = sym (flat_map_more encoding [] rs r) in
    let whole : new ≡ before ++ (encoding r ++ rest) = sym (take-append-drop at new) ∙ ap (λ (l : List ℕ). l ++ drop at new) cut ∙ ap (λ (l : List ℕ). before ++ l) behind in
    record {
      rest = rest;
      whole = whole ∙ append_assoc magic (spelling rs) (encoding r ++ rest) ∙ ap (λ (l : List ℕ). magic ++ l) (sym (append_assoc (spelling rs) (encoding r) rest) ∙ ap (λ (l : List ℕ). l ++ rest) (sym grown));
      each = All-push IsRecord rs r h.each one;
      last = sentinel_ends more;
      place = omega (arith, h.place, ap (λ (l : List ℕ). length l) grown, length-append (spelling rs) (encoding r));
    }

-- the value of one record replaced
abbrev pub with_value : Record → List ℕ → Record
with_value r v = record r { value = v }

-- All that stands before and behind a record's value is kept.
pub record Rewrites (front : List Record) (r : Record) (old new : List ℕ) : Type 0 where
  pub size : length new ≡ length old
  pub before : take (8 + length (spelling front)) new ≡ take (8 + length (spelling front)) old
  pub behind : drop (8 + length (spelling front) + length r.value) new ≡ drop (8 + length (spelling front) + length r.value) old

-- a record among others, spelled out
pub spelled_out : (front back : List Record) (r : Record) (rest : List ℕ) →
    magic ++ (spelling (front ++ r ∷ back) ++ rest) ≡ (magic ++ (spelling front ++ four_bytes (header r))) ++ (r.value ++ (spelling back ++ rest))
spelled_out front back r rest =
    ap (λ (l : List ℕ). magic ++ (l ++ rest)) (flat_map-append encoding front (r ∷ back))
    ∙ ap (λ (l : List ℕ). magic ++ l) (append_assoc (spelling front) (encoding r ++ spelling back) rest
    ∙ ap (λ (l : List ℕ). spelling front ++ l) (append_assoc (encoding r) (spelling back) rest ∙ append_assoc (four_bytes (header r)) r.value (spelling back ++ rest))
    ∙ sym (append_assoc (spelling front) (four_bytes (header r)) (r.value ++ (spelling back ++ rest))))

pub all_left : (xs ys : List Record) → All IsRecord (xs ++ ys) → All IsRecord xs
all_left [] ys h = All-nil IsRecord
all_left (x ∷ xs) ys h = All-cons IsRecord x xs (All-head IsRecord x (xs ++ ys) h) (all_left xs ys (All-tail IsRecord x (xs ++ ys) h))

pub all_right : (xs ys : List Record) → All IsRecord (xs ++ ys) → All IsRecord ys
all_right [] ys h = h
all_right (x ∷ xs) ys h = all_right xs ys (All-tail IsRecord x (xs ++ ys) h)

-- bytes that differ in one record's value alone have the same records, but for this value
pub rewritten_records : (old new : List ℕ) (front back : List Record) (r : Record) (at : ℕ) → HasRecords old (front ++ r ∷ back) at → Rewrites front r old new →
    HasRecords new (front ++ with_value r (take (length r.value) (drop (8 + length (spelling front)) new)) ∷ back) at
rewritten_records old new front back r at h w =
    let pre = magic ++ (spelling front ++ four_bytes (header r)) in
    let n = length r.value in
    let p = 8 + length (spelling front) in
    let v = take n (drop p new) in
    let tail = spelling back ++ h.rest in
    let pre_size : length pre ≡ p = omega (arith, length-append (spelling front) (four_bytes (header r))) in
    let was : old ≡ pre ++ (r.value ++ tail) = h.whole ∙ spelled_out front back r h.rest in
    let sizes : length old ≡ p + (n + length tail) = omega (arith, ap (λ (l : List ℕ). length l) was, length-append pre (r.value ++ tail), length-append r.value tail) in
    let first : take p new ≡ pre = w.before ∙ ap (λ (l : List ℕ). take p l) was ∙ take_at pre (r.value ++ tail) p pre_size in
    let last : drop (p + n) new ≡ tail = w.behind ∙ ap (λ (l : List ℕ). drop (p + n) l) was ∙ sym (drop-drop n p (pre ++ (r.value ++ tail)))
    ∙ ap (λ (l : List ℕ). drop n l) (drop_at pre (r.value ++ tail) p pre_size) ∙ drop_at r.value tail n refl in
    let rest : drop n (drop p new) ≡ tail = drop-drop n p new ∙ last in
    let now : new ≡ pre ++ (v ++ tail) = sym (take-append-drop p new) ∙ ap (λ (l : List ℕ). l ++ drop p new) first
    ∙ ap (λ (l : List ℕ). pre ++ l) (sym (take-append-drop n (drop p new)) ∙ ap (λ (l : List ℕ). v ++ l) rest) in
    let long : length v ≡ n = length-take-le n (drop p new) (omega (arith, length-drop p new, w.size)) in
    let r' = with_value r v in
    let one : IsRecord r = All-head IsRecord r back (all_right front (r ∷ back) h.each) in
    let one' : IsRecord r' = record { key = one.key; element = one.element; value = long ∙ one.value } in
    let before : spelling (front ++ r ∷ back) ≡ spelling front ++ (encoding r ++ spelling back) = flat_map-append encoding front (r ∷ back) in
    let after : spelling (front ++ r' ∷ back) ≡ spelling front ++ (encoding r' ++ spelling back) = flat_map-append encoding front (r' ∷ back) in
    record {
      rest = h.rest;
      whole = now ∙ sym (spelled_out front back r' h.rest);
      each = All-append IsRecord front (r' ∷ back) (all_left front (r ∷ back) h.each) (All-cons IsRecord r' back one' (All-tail IsRecord r back (all_right front (r ∷ back) h.each)));
      last = h.last;
      place = omega (
        arith,
        h.place,
        ap (λ (l : List ℕ). length l) before,
        ap (λ (l : List ℕ). length l) after,
        length-append (spelling front) (encoding r ++ spelling back),
        length-append (encoding r) (spelling back),
        length-append (four_bytes (header r)) r.value,
        length-append (spelling front) (encoding r' ++ spelling back),
        length-append (encoding r') (spelling back),
        length-append (four_bytes (header r')) v,
      );
    }
