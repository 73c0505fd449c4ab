-- Reading records one after the other.
use Rattle.std.proofs.Common.{◌≡◌, ◌⊎◌, inl, inr, ℕ, zero, suc, ◌+◌, ◌*◌, ◌/◌, ◌%◌, ◌<◌, ◌≤◌, Bool, true, false, cond, List, [], ◌∷◌, ◌++◌, length, get_or, take, drop, refl, sym, ◌∙◌, ap, subst, arith, append_assoc, Some, None}
use Rattle.std.specs.Prelude.{All, ◌==◌, ◌&&◌}
use Rattle.std.proofs.lemmas.List.{length-append, length-take-le, length-drop, take-append-drop, get_or-take, get_or-drop, drop-drop, flat_map_more, append-nil, get_or_past}
use Rattle.std.proofs.lemmas.List.Elements.{All-nil, All-push}
use Rattle.std.proofs.lemmas.Bool.{cases_lt, cases_Bool}
use Rattle.param_tree.specs.declared.Kind.{Kind}
use Rattle.storage_lines.specs.declared.areas.Area.TheVariants.{Param}
use Rattle.storage_lines.specs.Areas.{logical_of, place_of}
use Rattle.param_records.specs.declared.records.TheConstants.{PARAM_BYTES}
use Rattle.param_records.specs.Records.{Record, size_of, kind_with_number, kind_eq, four_bytes, header, encoding, spelling, IsRecord, IsEnd, magic, HasRecords, read_as, Begins, records_of, matches, place_from, type_number}
use Rattle.storage_lines.specs.Bytes.{IsBytes}
use Rattle.param_records.proofs.RecordLemmas.{kind_cases, kind_of-number, number-low, records_are, length-encoding}
use Rattle.param_records.proofs.PieceLemmas.{get_or-logical, length-logical}

pub logical_bytes : (b : List ℕ) → IsBytes b → IsBytes (logical_of Param b)
logical_bytes b h i = elim (cases_lt i PARAM_BYTES) [
  | inl inside ↦ omega (arith, get_or-logical b i inside, h (place_of Param i))
  | inr past ↦ omega (arith, get_or_past (logical_of Param b) i 0 (omega (arith, length-logical b)))
]

-- a header's four bytes are its bytes
four_back : (kind : Kind) (a b c d : ℕ) (tail : List ℕ) → a < 256 → b < 256 → c < 256 → d < 256 → b % 32 ≡ type_number kind → four_bytes (header (read_as kind (a ∷ b ∷ c ∷ d ∷ tail))) ≡ a ∷ b ∷ c ∷ d ∷ []
four_back kind a b c d tail ha hb hc hd type =
    let n = header (read_as kind (a ∷ b ∷ c ∷ d ∷ tail)) in
    let low = number-low kind in
    let e0 : n % 256 ≡ a = omega arith in
    let e1 : n / 256 % 256 ≡ b = omega arith in
    let e2 : n / 65536 % 256 ≡ c = omega arith in
    let e3 : n / 16777216 % 256 ≡ d = omega arith in
    cc

pub begins_back : (kind : Kind) (bytes : List ℕ) → IsBytes bytes → get_or bytes 1 0 % 32 ≡ type_number kind → 4 + size_of kind ≤ length bytes →
    IsRecord (read_as kind bytes) × (bytes ≡ encoding (read_as kind bytes) ++ drop (4 + size_of kind) bytes)
begins_back kind [] h type fits = absurd (omega arith)
begins_back kind (a ∷ []) h type fits = absurd (omega arith)
begins_back kind (a ∷ b ∷ []) h type fits = absurd (omega arith)
begins_back kind (a ∷ b ∷ c ∷ []) h type fits = absurd (omega arith)
begins_back kind (a ∷ b ∷ c ∷ d ∷ tail) h type fits =
    let bytes = a ∷ b ∷ c ∷ d ∷ tail in
    let n = size_of kind in
    let four = four_back kind a b c d tail (h 0) (h 1) (h 2) (h 3) type in
    let rest : drop n tail ≡ drop (4 + n) bytes = drop-drop n 4 bytes in
    let h0 : a < 256 = h 0 in let h1 : b < 256 = h 1 in let h2 : c < 256 = h 2 in let h3 : d < 256 = h 3 in (
      record { key = omega arith; element = omega arith; value = length-take-le n tail (omega arith) },
      ap (λ (l : List ℕ). l ++ tail) (sym four) ∙ ap (λ (l : List ℕ). four_bytes (header (read_as kind bytes)) ++ l) (sym (take-append-drop n tail) ∙ ap (λ (l : List ℕ). take n tail ++ l) rest),
    )

-- These records were read behind the magic, up to this place.
pub record Walk (bytes : List ℕ) (records : List Record) (at : ℕ) : Type 0 where
  pub whole : bytes ≡ magic ++ (spelling records ++ drop at bytes)
  pub each : All IsRecord records
  pub place : at ≡ 4 + length (spelling records)

pub walk_start : (L : List ℕ) → take 4 L ≡ magic → Walk L [] 4
walk_start L h = record { whole = sym (take-append-drop 4 L) ∙ ap (λ (l : List ℕ). l ++ drop 4 L) h; each = All-nil IsRecord; place = refl }

pub walk_more : (L : List ℕ) (rs : List Record) (at k e : ℕ) (kind : Kind) → IsBytes L → Walk L rs at → Begins k e kind (drop at L) → Walk L (rs ++ read_as kind (drop at L) ∷ []) (at + (4 + size_of kind))
walk_more L rs at k e kind bytes w b =
    let r = read_as kind (drop at L) in
    let back = begins_back kind (drop at L) (λ i. omega (arith, get_or-drop at L i 0, bytes (at + i))) b.type b.fits in
    let grown : spelling (rs ++ r ∷ []) ≡ spelling rs ++ encoding r = sym (flat_map_more encoding [] rs r) in
    let rest : drop (4 + size_of kind) (drop at L) ≡ drop (at + (4 + size_of kind)) L = drop-drop (4 + size_of kind) at L in
    let behind = drop (at + (4 + size_of kind)) L in
    record {
      whole = w.whole ∙ ap (λ (l : List ℕ). magic ++ (spelling rs ++ l)) (back.1 ∙ ap (λ (l : List ℕ). encoding r ++ l) rest)
          ∙ ap (λ (l : List ℕ). magic ++ l) (sym (append_assoc (spelling rs) (encoding r) behind) ∙ ap (λ (l : List ℕ). l ++ behind) (sym grown));
      each = All-push IsRecord rs r w.each back.0;
      place = omega (arith, w.place, ap (λ (l : List ℕ). length l) grown, length-append (spelling rs) (encoding r), length-encoding r back.0);
    }

pub walk_end : (L : List ℕ) (rs : List Record) (at : ℕ) → Walk L rs at → IsEnd (drop at L) → HasRecords L rs at
walk_end L rs at w ends = record { rest = drop at L; whole = w.whole; each = w.each; last = ends; place = w.place }

none_clash : (kind : Kind) → None ≡ Some kind → ⊥
none_clash kind e = cc

pub same_kind : (a b : Kind) → type_number a ≡ type_number b → a ≡ b
same_kind a b e = let f : Some a ≡ Some b = sym (kind_of-number a) ∙ ap kind_with_number e ∙ kind_of-number b in cc

-- a record begins the bytes, or they are an end
pub begins_or_ends : (bytes : List ℕ) → ((kind : Kind) × Begins (read_as kind bytes).key (read_as kind bytes).element kind bytes) ⊎ IsEnd bytes
begins_or_ends bytes = elim (kind_cases (get_or bytes 1 0 % 32)) [
  | inl none ↦ inr (λ kind e. absurd (none_clash kind (sym none ∙ ap kind_with_number e ∙ kind_of-number kind)))
  | inr found ↦ elim (cases_lt (length bytes) (4 + size_of found.0)) [
    | inl short ↦ inr (λ kind e. let same : type_number kind ≡ type_number found.0 = sym e ∙ found.2 in let is : kind ≡ found.0 = same_kind kind found.0 same in subst (λ (k : Kind). length bytes < 4 + size_of k) (sym is) short)
    | inr fits ↦ inl (found.0, record { type = found.2; fits = fits; key = refl; element = refl })
  ]
]

-- the rest of the records
pub walk_rest : (n : ℕ) (L : List ℕ) (rs : List Record) (at : ℕ) → IsBytes L → Walk L rs at → length L ≤ at + n → (more : List Record) × (last : ℕ) × HasRecords L (rs ++ more) last
walk_rest zero L rs at bytes w few =
    let ends : IsEnd (drop at L) = λ kind e. omega (arith, length-drop at L) in
    ([], at, subst (λ (x : List Record). HasRecords L x at) (sym (append-nil rs)) (walk_end L rs at w ends))
walk_rest (suc n) L rs at bytes w few = elim (begins_or_ends (drop at L)) [
  | inl b ↦
      let r = read_as b.0 (drop at L) in
      let rest = walk_rest n L (rs ++ r ∷ []) (at + (4 + size_of b.0)) bytes (walk_more L rs at r.key r.element b.0 bytes w b.1) (omega arith) in
      (r ∷ rest.0, rest.1, subst (λ (x : List Record). HasRecords L x rest.1) (append_assoc rs (r ∷ []) rest.0) rest.2)
  | inr ends ↦ ([], at, subst (λ (x : List Record). HasRecords L x at) (sym (append-nil rs)) (walk_end L rs at w ends))
]

-- bytes that begin with the magic have records
pub has_records : (L : List ℕ) → IsBytes L → take 4 L ≡ magic → (rs : List Record) × (at : ℕ) × HasRecords L rs at
has_records L bytes front = walk_rest (length L) L [] 4 bytes (walk_start L front) (omega arith)

pub place_skip : (start k e : ℕ) (kind : Kind) (rs more : List Record) → place_from start k e kind rs ≡ None → place_from start k e kind (rs ++ more) ≡ place_from (start + length (spelling rs)) k e kind more
place_skip start k e kind [] more none = let same : start ≡ start + 0 = omega arith in ap (λ (s : ℕ). place_from s k e kind more) same
place_skip start k e kind (r ∷ rs) more none = elim (cases_Bool (matches k e kind r)) [
  | inl yes' ↦ let clash : Some (start + 4) ≡ None = sym (ap (λ (b : Bool). cond b (Some (start + 4)) (place_from (start + length (encoding r)) k e kind rs)) yes') ∙ none in cc
  | inr no' ↦
      let rest : place_from (start + length (encoding r)) k e kind rs ≡ None = sym (ap (λ (b : Bool). cond b (Some (start + 4)) (place_from (start + length (encoding r)) k e kind rs)) no') ∙ none in
      let sum : start + length (encoding r) + length (spelling rs) ≡ start + length (encoding r ++ spelling rs) = omega (arith, length-append (encoding r) (spelling rs)) in
      ap (λ (b : Bool). cond b (Some (start + 4)) (place_from (start + length (encoding r)) k e kind (rs ++ more))) no'
      ∙ place_skip (start + length (encoding r)) k e kind rs more rest ∙ ap (λ (s : ℕ). place_from s k e kind more) sum
]

pub place_here : (start k e : ℕ) (kind : Kind) (rs more : List Record) (r : Record) → place_from start k e kind rs ≡ None → matches k e kind r ≡ true → place_from start k e kind (rs ++ r ∷ more) ≡ Some (start + length (spelling rs) + 4)
place_here start k e kind rs more r none is = place_skip start k e kind rs (r ∷ more) none ∙ ap (λ (b : Bool). cond b (Some (start + length (spelling rs) + 4)) (place_from (start + length (spelling rs) + length (encoding r)) k e kind more)) is

pub place_push : (start k e : ℕ) (kind : Kind) (rs : List Record) (r : Record) → place_from start k e kind rs ≡ None → matches k e kind r ≡ false → place_from start k e kind (rs ++ r ∷ []) ≡ None
place_push start k e kind rs r none is = place_skip start k e kind rs (r ∷ []) none ∙ ap (λ (b : Bool). cond b (Some (start + length (spelling rs) + 4)) None) is

-- the test of a header is the test of its record
pub match_is : (hk he k e : ℕ) (hkind kind : Kind) (bytes : List ℕ) → Begins hk he hkind bytes → matches k e kind (read_as hkind bytes) ≡ ((hk == k) && ((he == e) && kind_eq hkind kind))
match_is hk he k e hkind kind bytes b = ap (λ (x : ℕ). (x == k) && (((read_as hkind bytes).element == e) && kind_eq hkind kind)) (sym b.key) ∙ ap (λ (x : ℕ). (hk == k) && ((x == e) && kind_eq hkind kind)) (sym b.element)

number_is : (n : ℕ) (k : Kind) → Some k ≡ kind_with_number n → n ≡ type_number k
number_is n k e = elim (kind_cases n) [
  | inl none ↦ absurd (none_clash k (sym none ∙ sym e))
  | inr found ↦ let same : Some found.0 ≡ Some k = sym found.1 ∙ sym e in let is : found.0 ≡ k = cc in found.2 ∙ ap type_number is
]

four_has : (xs bytes : List ℕ) (i : ℕ) → xs ≡ take 4 bytes → i < 4 → get_or xs i 0 ≡ get_or bytes i 0
four_has xs bytes i e h = ap (λ (l : List ℕ). get_or l i 0) e ∙ get_or-take 4 bytes i 0 h

pub header_short : (bytes xs : List ℕ) (k : Kind) → xs ≡ take 4 bytes → Some k ≡ kind_with_number (get_or xs 1 0 % 32) → length bytes < 4 + size_of k → IsEnd bytes
header_short bytes xs k e f short kind g =
    let same : type_number kind ≡ type_number k = sym g ∙ ap (λ (n : ℕ). n % 32) (sym (four_has xs bytes 1 e (omega arith))) ∙ number_is (get_or xs 1 0 % 32) k f in
    subst (λ (x : Kind). length bytes < 4 + size_of x) (sym (same_kind kind k same)) short

pub header_begins : (bytes xs : List ℕ) (k : Kind) → xs ≡ take 4 bytes → Some k ≡ kind_with_number (get_or xs 1 0 % 32) → 4 + size_of k ≤ length bytes →
    Begins (get_or xs 0 0 + 256 * (get_or xs 1 0 / 32 % 2)) (get_or xs 1 0 / 64 + 4 * get_or xs 2 0 + 1024 * get_or xs 3 0) k bytes
header_begins bytes xs k e f fits =
    let e0 = four_has xs bytes 0 e (omega arith) in
    let e1 = four_has xs bytes 1 e (omega arith) in
    let e2 = four_has xs bytes 2 e (omega arith) in
    let e3 = four_has xs bytes 3 e (omega arith) in
    record {
      type = ap (λ (n : ℕ). n % 32) (sym e1) ∙ number_is (get_or xs 1 0 % 32) k f;
      fits = fits;
      key = omega arith;
      element = omega arith;
    }

pub place_found : (L : List ℕ) (rs : List Record) (at hk he k e : ℕ) (hkind kind : Kind) → IsBytes L → Walk L rs at → Begins hk he hkind (drop at L) → place_from 4 k e kind rs ≡ None →
    ((hk == k) && ((he == e) && kind_eq hkind kind)) ≡ true → Some (at + 4) ≡ place_from 4 k e kind (records_of L)
place_found L rs at hk he k e hkind kind bytes w b none is =
    let r = read_as hkind (drop at L) in
    let rest = walk_rest (length L) L (rs ++ r ∷ []) (at + (4 + size_of hkind)) bytes (walk_more L rs at hk he hkind bytes w b) (omega arith) in
    let all : records_of L ≡ rs ++ r ∷ rest.0 = records_are L ((rs ++ r ∷ []) ++ rest.0) rest.1 rest.2 ∙ append_assoc rs (r ∷ []) rest.0 in
    let here = place_here 4 k e kind rs rest.0 r none (match_is hk he k e hkind kind (drop at L) b ∙ is) in
    ap (λ (n : ℕ). Some (n + 4)) w.place ∙ sym here ∙ ap (λ (x : List Record). place_from 4 k e kind x) (sym all)

pub place_over : (L : List ℕ) (rs : List Record) (at hk he k e : ℕ) (hkind kind : Kind) → Begins hk he hkind (drop at L) → place_from 4 k e kind rs ≡ None →
    ((hk == k) && ((he == e) && kind_eq hkind kind)) ≡ false → place_from 4 k e kind (rs ++ read_as hkind (drop at L) ∷ []) ≡ None
place_over L rs at hk he k e hkind kind b none is = place_push 4 k e kind rs (read_as hkind (drop at L)) none (match_is hk he k e hkind kind (drop at L) b ∙ is)
