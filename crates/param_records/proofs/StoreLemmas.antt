-- Rows of a table, and the pieces that set one.
use Rattle.std.proofs.Common.{◌≡◌, ◌≢◌, ℕ, zero, suc, ◌+◌, ◌*◌, ◌<◌, ◌≤◌, Bool, true, false, cond, List, [], ◌∷◌, length, drop, refl, sym, ◌∙◌, ap, subst, arith, Option, Some, None}
use Rattle.std.specs.Prelude.{slice_get, IfSome, All, ◌&&◌, nat_lt, IsTrue, ◌==◌}
use Rattle.std.specs.List.{find}
use Rattle.std.specs.Option.{option_map_or, is_none}
use Rattle.param_records.specs.declared.records.TheConstants.{PARAM_BYTES}
use Rattle.std.proofs.lemmas.Bool.{and_parts, and_from, not_from_false, not-true, lt-ltb, ltb-true, eq-eqb, ne_eqb, eqb-false}
use Rattle.std.proofs.lemmas.List.Elements.{All-head, All-tail}
use Rattle.param_tree.specs.declared.Kind.{Kind}
use Rattle.param_tree.specs.declared.Kind.TheVariants.{I8, I16, I32, F32, Vec3}
use Rattle.param_tree.specs.declared.Var.{Var}
use Rattle.param_tree.specs.Rules.{is_part, row_fits, parts_of, is_value_of}
use Rattle.storage_lines.specs.declared.areas.Area.TheVariants.{Param}
use Rattle.storage_lines.specs.Areas.{logical_of}
use Rattle.param_records.specs.declared.records.Lookup.{Lookup}
use Rattle.param_records.specs.declared.records.Lookup.TheVariants.{At, End}
use Rattle.param_records.specs.Lookups.{IsLookupOf}
use Rattle.param_records.specs.Records.{Record, size_of, spelling, records_of, end_of, place_from}
use Rattle.storage_lines.specs.Pieces.{Piece}
use Rattle.param_records.specs.Changes.{part_size, part_bytes, piece, appending, fresh, set_pieces, IsFull, SamePlaces}

pub get_drop : {X : Type 0} (xs : List X) (i j : ℕ) (x : X) → j ≡ i + 1 → slice_get xs i ≡ Some x → drop i xs ≡ x ∷ drop j xs
get_drop [] i j x e h = cc
get_drop (y ∷ ys) zero j x e h = let same : y ≡ x = cc in let one : j ≡ 1 = omega arith in ap (λ (l : _). l ∷ ys) same ∙ ap (λ (n : ℕ). x ∷ drop n (y ∷ ys)) (sym one)
get_drop (y ∷ ys) (suc i) zero x e h = absurd (omega arith)
get_drop (y ∷ ys) (suc i) (suc j) x e h = get_drop ys i j x (omega arith) h

pub get_all : {X : Type 0} (P : X → Type 0) (xs : List X) (i : ℕ) (x : X) → All P xs → slice_get xs i ≡ Some x → P x
get_all P [] i x all h = cc
get_all P (y ∷ ys) zero x all h = let same : y ≡ x = cc in subst P same (All-head P y ys all)
get_all P (y ∷ ys) (suc i) x all h = get_all P ys i x (All-tail P y ys all) h

-- a row that isn't the part, and one that is
pub find_over : (row v : Var) (p : ℕ) (rows : List Var) (i j : ℕ) → j ≡ i + 1 → slice_get rows i ≡ Some v → is_part row p v ≡ false → find (is_part row p) (drop i rows) ≡ find (is_part row p) (drop j rows)
find_over row v p rows i j e h other = ap (λ (l : List Var). find (is_part row p) l) (get_drop rows i j v e h) ∙ ap (λ (b : Bool). cond b (Some v) (find (is_part row p) (drop j rows))) other

pub find_here : (row v : Var) (p : ℕ) (rows : List Var) (i : ℕ) → slice_get rows i ≡ Some v → is_part row p v ≡ true → find (is_part row p) (drop i rows) ≡ Some v
find_here row v p rows i h is = ap (λ (l : List Var). find (is_part row p) l) (get_drop rows i (i + 1) v refl h) ∙ ap (λ (b : Bool). cond b (Some v) (find (is_part row p) (drop (i + 1) rows))) is

part_inside_of : (kind : Kind) (p : ℕ) → p < parts_of kind → 4 * p + part_size kind ≤ size_of kind
part_inside_of I8 p h = omega arith
part_inside_of I16 p h = omega arith
part_inside_of I32 p h = omega arith
part_inside_of F32 p h = omega arith
part_inside_of Vec3 p h = omega arith

-- what a row of a table fits
pub record Fits (v : Var) : Type 0 where
  pub key : v.key < 512
  pub element : v.element < 262144
  pub part : 4 * v.part + part_size v.kind ≤ size_of v.kind

pub row_is : (v : Var) → IsTrue (row_fits v) → Fits v
row_is v h =
    let halves = and_parts (nat_lt v.key 512 && nat_lt v.element 0x4_0000) (nat_lt v.part (parts_of v.kind) && is_value_of v.kind v.default) h in
    let left = and_parts (nat_lt v.key 512) (nat_lt v.element 0x4_0000) halves.0 in
    let right = and_parts (nat_lt v.part (parts_of v.kind)) (is_value_of v.kind v.default) halves.1 in
    record { key = ltb-true v.key 512 left.0; element = ltb-true v.element 0x4_0000 left.1; part = part_inside_of v.kind v.part (ltb-true v.part (parts_of v.kind) right.0) }

abbrev pub otherwise : List Var → List Record → Var → ℕ → List Piece
otherwise rows records row number = cond (number == row.default) [] (appending (4 + length (spelling records)) (fresh rows row number))

abbrev pub in_place : Var → ℕ → ℕ → List Piece
in_place row number at = piece (at + 4 * row.part) (part_bytes row.kind number) ∷ []

pub set_at : (rows : List Var) (records : List Record) (row : Var) (number at : ℕ) → place_from 4 row.key row.element row.kind records ≡ Some at → set_pieces rows records row number ≡ in_place row number at
set_at rows records row number at h = ap (λ (o : Option ℕ). option_map_or (in_place row number) o (otherwise rows records row number)) h

pub set_none : (rows : List Var) (records : List Record) (row : Var) (number : ℕ) → place_from 4 row.key row.element row.kind records ≡ None → set_pieces rows records row number ≡ otherwise rows records row number
set_none rows records row number h = ap (λ (o : Option ℕ). option_map_or (in_place row number) o (otherwise rows records row number)) h

pub set_default : (rows : List Var) (records : List Record) (row : Var) (number : ℕ) → place_from 4 row.key row.element row.kind records ≡ None → number ≡ row.default → set_pieces rows records row number ≡ []
set_default rows records row number h same = set_none rows records row number h ∙ ap (λ (b : Bool). cond b [] (appending (4 + length (spelling records)) (fresh rows row number))) (eq-eqb number row.default same)

pub set_fresh : (rows : List Var) (records : List Record) (row : Var) (number : ℕ) → place_from 4 row.key row.element row.kind records ≡ None → number ≢ row.default →
    set_pieces rows records row number ≡ appending (4 + length (spelling records)) (fresh rows row number)
set_fresh rows records row number h other = set_none rows records row number h ∙ ap (λ (b : Bool). cond b [] (appending (4 + length (spelling records)) (fresh rows row number))) (ne_eqb number row.default other)

none_is : (o : Option ℕ) → is_none o ≡ true → o ≡ None
none_is None h = refl
none_is (Some n) h = cc

-- what a full storage has, and what makes it one
pub record FullParts (records : List Record) (row : Var) (number : ℕ) : Type 0 where
  pub none : place_from 4 row.key row.element row.kind records ≡ None
  pub other : number ≢ row.default
  pub beyond : PARAM_BYTES < 4 + length (spelling records) + 8 + size_of row.kind

pub full_from : (records : List Record) (row : Var) (number : ℕ) → place_from 4 row.key row.element row.kind records ≡ None → number ≢ row.default → PARAM_BYTES < 4 + length (spelling records) + 8 + size_of row.kind → IsFull records row number
full_from records row number none other beyond =
    and_from _ _ (ap (λ (o : Option ℕ). is_none o) none) (and_from _ _ (not_from_false _ (ne_eqb number row.default other)) (lt-ltb _ _ beyond))

pub full_parts : (records : List Record) (row : Var) (number : ℕ) → IsFull records row number → FullParts records row number
full_parts records row number h =
    let a = and_parts _ _ h in
    let b = and_parts _ _ a.1 in
    record { none = none_is _ a.0; other = eqb-false number row.default (not-true _ b.0); beyond = ltb-true _ _ b.1 }

-- the place of a row, where no record has moved
pub stands : (rows : List Var) (old new : List ℕ) (var : ℕ) (row : Var) → SamePlaces rows old new → slice_get rows var ≡ Some row →
    place_from 4 row.key row.element row.kind (records_of (logical_of Param new)) ≡ place_from 4 row.key row.element row.kind (records_of (logical_of Param old))
stands rows old new var row s h = get_all (λ (r : Var). place_from 4 r.key r.element r.kind (records_of (logical_of Param new)) ≡ place_from 4 r.key r.element r.kind (records_of (logical_of Param old))) rows var row s.places h

row_at : (o : Option Var) (P : Var → Type 0) (row : Var) → o ≡ Some row → IfSome o P → P row
row_at None P row e h = cc
row_at (Some x) P row e h = let same : x ≡ row = cc in subst P same h

-- what was looked up for a row: its place, or the end
pub place_found : (bytes : List ℕ) (rows : List Var) (var : ℕ) (row : Var) (lookup : Lookup) (at : ℕ) → slice_get rows var ≡ Some row → IfSome (slice_get rows var) (λ r. IsLookupOf bytes r lookup) → lookup ≡ At at →
    place_from 4 row.key row.element row.kind (records_of (logical_of Param bytes)) ≡ Some at
place_found bytes rows var row lookup at is looked e = subst (λ (l : Lookup). IsLookupOf bytes row l) e (row_at (slice_get rows var) (λ r. IsLookupOf bytes r lookup) row is looked)

pub none_found : (bytes : List ℕ) (rows : List Var) (var : ℕ) (row : Var) (lookup : Lookup) (end : ℕ) → slice_get rows var ≡ Some row → IfSome (slice_get rows var) (λ r. IsLookupOf bytes r lookup) → lookup ≡ End end →
    (place_from 4 row.key row.element row.kind (records_of (logical_of Param bytes)) ≡ None) × (end ≡ end_of (logical_of Param bytes))
none_found bytes rows var row lookup end is looked e = subst (λ (l : Lookup). IsLookupOf bytes row l) e (row_at (slice_get rows var) (λ r. IsLookupOf bytes r lookup) row is looked)
