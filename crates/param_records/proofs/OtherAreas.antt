-- What the pieces of the parameter storage leave of the other areas: all.
use Rattle.std.proofs.Common.{◌≡◌, ◌≢◌, inl, inr, ℕ, ◌+◌, ◌-◌, ◌*◌, ◌%◌, ◌≤◌, Bool, cond, List, [], ◌∷◌, length, take, drop, refl, sym, ◌∙◌, ap, subst, arith, Option, Some, None}
use Rattle.std.specs.Prelude.{All, ◌==◌}
use Rattle.std.proofs.lemmas.List.{take_all, length-take, length-drop}
use Rattle.std.proofs.lemmas.List.Elements.{All-head, All-tail, All-nil, All-cons}
use Rattle.std.proofs.lemmas.Bool.{cases_lt, cases_eq, lt-ltb, le-ltb, eq-eqb, ne_eqb}
use Rattle.param_tree.specs.declared.Kind.{Kind}
use Rattle.param_tree.specs.declared.Kind.TheVariants.{I8, I16, I32, F32, Vec3}
use Rattle.param_tree.specs.declared.Var.{Var}
use Rattle.storage_lines.specs.declared.lines.LineWrite.{LineWrite}
use Rattle.storage_lines.specs.declared.lines.TheConstants.{STORAGE_BYTES}
use Rattle.storage_lines.specs.declared.areas.Area.{Area}
use Rattle.storage_lines.specs.declared.areas.Area.TheVariants.{Param}
use Rattle.storage_lines.specs.Areas.{logical_of}
use Rattle.storage_lines.specs.Bytes.{IsBytes}
use Rattle.storage_lines.specs.Lines.{after, EachPrefix}
use Rattle.storage_lines.specs.Pieces.{Piece, writes_of, writes_of_piece}
use Rattle.storage_lines.proofs.LineLemmas.{length-after}
use Rattle.storage_lines.proofs.PieceLemmas.{pieces_in_steps}
use Rattle.storage_lines.proofs.PrefixLemmas.{prefix_nil, prefix_append}
use Rattle.param_records.specs.declared.records.TheConstants.{PARAM_BYTES}
use Rattle.param_records.specs.Records.{Record, size_of, four_bytes, header, sentinel, spelling, place_from}
use Rattle.param_records.specs.Changes.{piece, header_pieces, appending, part_size, part_bytes, fresh, fresh_bytes, set_pieces, IsFull}
use Rattle.param_records.specs.Steps.{records_in_storage, KeepsOtherAreas}
use Rattle.param_records.proofs.PieceLemmas.{length-logical}
use Rattle.param_records.proofs.ValueLemmas.{found_at}
use Rattle.param_records.proofs.StoreLemmas.{Fits, set_at, set_default, set_fresh, full_from}

-- bytes for places of the parameter storage
pub record IsParamPiece (q : Piece) : Type 0 where
  pub area : q.area ≡ Param
  pub fits : q.at + length q.bytes ≤ PARAM_BYTES

abbrev Same : Area → List ℕ → List ℕ → Type 0
Same area old now = logical_of area now ≡ logical_of area old

one_piece : (area : Area) (bytes : List ℕ) (q : Piece) → length bytes ≡ STORAGE_BYTES → IsParamPiece q → area ≢ Param → EachPrefix (Same area bytes) bytes (writes_of_piece q.area q.at q.bytes bytes)
one_piece area bytes q size is apart =
    let steps = pieces_in_steps in
    subst (λ (a : Area). EachPrefix (Same area bytes) bytes (writes_of_piece a q.at q.bytes bytes)) (sym is.area)
    (λ j h. steps.others Param area q.at q.bytes bytes j (λ e. apart (sym e)) size is.fits h)

all_pieces : (area : Area) (first bytes : List ℕ) (qs : List Piece) → length bytes ≡ STORAGE_BYTES → All IsParamPiece qs → area ≢ Param → Same area first bytes → EachPrefix (Same area first) bytes (writes_of bytes qs)
all_pieces area first bytes [] size fit apart start = prefix_nil (Same area first) bytes start
all_pieces area first bytes (q ∷ qs) size fit apart start =
    let ws = writes_of_piece q.area q.at q.bytes bytes in
    let here : EachPrefix (Same area first) bytes ws = λ j h. one_piece area bytes q size (All-head IsParamPiece q qs fit) apart j h ∙ start in
    let then : Same area first (after bytes ws) = subst (λ (l : List LineWrite). Same area first (after bytes l)) (take_all (length ws) ws (omega arith)) (here (length ws) (omega arith)) in
    prefix_append (Same area first) bytes ws (writes_of (after bytes ws) qs) here
    (all_pieces area first (after bytes ws) qs (length-after bytes ws ∙ size) (All-tail IsParamPiece q qs fit) apart then)

pub other_areas : (bytes : List ℕ) (qs : List Piece) → length bytes ≡ STORAGE_BYTES → All IsParamPiece qs → EachPrefix (KeepsOtherAreas bytes) bytes (writes_of bytes qs)
other_areas bytes qs size fit j h area apart = all_pieces area bytes bytes qs size fit apart refl j h

one_fits : (at : ℕ) (new : List ℕ) → at + length new ≤ PARAM_BYTES → All IsParamPiece (piece at new ∷ [])
one_fits at new fits = All-cons IsParamPiece (piece at new) [] (record { area = refl; fits = fits }) (All-nil IsParamPiece)

pub two_fit : (a b : ℕ) (xs ys : List ℕ) → a + length xs ≤ PARAM_BYTES → b + length ys ≤ PARAM_BYTES → All IsParamPiece (piece a xs ∷ piece b ys ∷ [])
two_fit a b xs ys f g = All-cons IsParamPiece (piece a xs) (piece b ys ∷ []) (record { area = refl; fits = f }) (one_fits b ys g)

header_fits : (p : ℕ) (head : List ℕ) → length head ≡ 4 → p + 4 ≤ PARAM_BYTES → All IsParamPiece (header_pieces p head)
header_fits p head long fits =
    let s = 8 - p % 8 in
    let a = piece p head ∷ [] in
    let c = piece p (take 1 head) ∷ piece (p + 1) (drop 1 head) ∷ [] in
    let d = piece (p + s) (drop s head) ∷ piece p (take s head) ∷ [] in
    let D : List Piece → Type 0 = λ qs. All IsParamPiece qs in
    elim (cases_lt (p % 8) 5) [
      | inl low ↦ subst D (sym (ap (λ (t : Bool). cond t a (cond ((p % 8) == 7) c d)) (lt-ltb (p % 8) 5 low))) (one_fits p head (omega arith))
      | inr high ↦ elim (cases_eq (p % 8) 7) [
        | inl seven ↦ subst D (sym (ap (λ (t : Bool). cond t a (cond ((p % 8) == 7) c d)) (le-ltb (p % 8) 5 high) ∙ ap (λ (t : Bool). cond t c d) (eq-eqb (p % 8) 7 seven)))
            (two_fit p (p + 1) (take 1 head) (drop 1 head) (omega (arith, length-take 1 head)) (omega (arith, length-drop 1 head)))
        | inr other ↦ subst D (sym (ap (λ (t : Bool). cond t a (cond ((p % 8) == 7) c d)) (le-ltb (p % 8) 5 high) ∙ ap (λ (t : Bool). cond t c d) (ne_eqb (p % 8) 7 other)))
            (two_fit (p + s) p (drop s head) (take s head) (omega (arith, length-drop s head)) (omega (arith, length-take s head)))
      ]
    ]

pub append_fits : (p : ℕ) (r : Record) → p + 8 + length r.value ≤ PARAM_BYTES → All IsParamPiece (appending p r)
append_fits p r fits =
    let head = header_pieces p (four_bytes (header r)) in
    All-cons IsParamPiece (piece (p + 4 + length r.value) sentinel) (piece (p + 4) r.value ∷ head) (record { area = refl; fits = omega arith })
    (All-cons IsParamPiece (piece (p + 4) r.value) head (record { area = refl; fits = omega arith }) (header_fits p (four_bytes (header r)) refl (omega arith)))

length-fresh : (kind : Kind) (rows : List Var) (row : Var) (number : ℕ) → length (fresh_bytes kind rows row number) ≡ size_of kind
length-fresh I8 rows row number = refl
length-fresh I16 rows row number = refl
length-fresh I32 rows row number = refl
length-fresh F32 rows row number = refl
length-fresh Vec3 rows row number = refl

length-part : (kind : Kind) (number : ℕ) → length (part_bytes kind number) ≡ part_size kind
length-part I8 number = refl
length-part I16 number = refl
length-part I32 number = refl
length-part F32 number = refl
length-part Vec3 number = refl

-- the pieces that set a row lie in the parameter storage
pub set_pieces_fit : (rows : List Var) (b : List ℕ) (row : Var) (number : ℕ) → IsBytes (logical_of Param b) → Fits row → (IsFull (records_in_storage b) row number → ⊥) → All IsParamPiece (set_pieces rows (records_in_storage b) row number)
set_pieces_fit rows b row number bytes right room = by_place (place_from 4 row.key row.element row.kind (records_in_storage b)) refl
  where
    by_place : (o : Option ℕ) → place_from 4 row.key row.element row.kind (records_in_storage b) ≡ o → All IsParamPiece (set_pieces rows (records_in_storage b) row number)
    by_place (Some at) is =
        let found = found_at (logical_of Param b) row.key row.element row.kind at bytes is in
        let fits = found.fits in
        let long = length-logical b in
        let part = right.part in
        let l = length-part row.kind number in
        subst (λ (q : List Piece). All IsParamPiece q) (sym (set_at rows (records_in_storage b) row number at is)) (one_fits (at + 4 * row.part) (part_bytes row.kind number) (omega arith))
    by_place None is = elim (cases_eq number row.default) [
      | inl same ↦ subst (λ (q : List Piece). All IsParamPiece q) (sym (set_default rows (records_in_storage b) row number is same)) (All-nil IsParamPiece)
      | inr other ↦
          let fits : 4 + length (spelling (records_in_storage b)) + 8 + size_of row.kind ≤ PARAM_BYTES = elim (cases_lt PARAM_BYTES (4 + length (spelling (records_in_storage b)) + 8 + size_of row.kind)) [
            | inl beyond ↦ absurd (room (full_from (records_in_storage b) row number is other beyond))
            | inr fine ↦ fine
          ] in
          let l = length-fresh row.kind rows row number in
          subst (λ (q : List Piece). All IsParamPiece q) (sym (set_fresh rows (records_in_storage b) row number is other)) (append_fits (4 + length (spelling (records_in_storage b))) (fresh rows row number) (omega arith))
    ]
