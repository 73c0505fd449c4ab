-- The pieces that set a row are bytes, so the parameters' area stays one of bytes.
use Rattle.std.proofs.Common.{◌≡◌, refl, ◌∙◌, ◌*◌, inl, inr, ℕ, zero, suc, ◌+◌, ◌-◌, ◌/◌, ◌%◌, ◌<◌, Bool, true, false, cond, List, [], ◌∷◌, ◌++◌, length, get_or, take, drop, sym, ap, subst, arith, Option, Some, None}
use Rattle.std.specs.Prelude.{All, nat_lt, ◌==◌}
use Rattle.std.proofs.lemmas.List.{take_all}
use Rattle.std.proofs.lemmas.List.Elements.{All-head, All-tail, All-nil, All-cons}
use Rattle.std.proofs.lemmas.Bool.{cases_lt, cases_eq}
use Rattle.param_tree.specs.declared.Kind.{Kind}
use Rattle.param_tree.specs.declared.Kind.TheVariants.{I8, I16, I32, F32, Vec3}
use Rattle.param_tree.specs.declared.Var.{Var}
use Rattle.storage_lines.specs.declared.lines.LineWrite.{LineWrite}
use Rattle.storage_lines.specs.declared.lines.TheConstants.{STORAGE_BYTES}
use Rattle.storage_lines.specs.declared.areas.Area.{Area}
use Rattle.storage_lines.specs.declared.areas.Area.TheVariants.{Param}
use Rattle.storage_lines.specs.Areas.{logical_of}
use Rattle.storage_lines.specs.Bytes.{IsBytes}
use Rattle.storage_lines.specs.Laws.{HasPut}
use Rattle.storage_lines.specs.Lines.{after, EachPrefix}
use Rattle.storage_lines.specs.Pieces.{Piece, writes_of, writes_of_piece}
use Rattle.storage_lines.proofs.LineLemmas.{length-after}
use Rattle.storage_lines.proofs.PieceLemmas.{pieces_in_steps}
use Rattle.storage_lines.proofs.PrefixLemmas.{prefix_append, prefix_nil}
use Rattle.param_records.specs.Records.{Record, four_bytes, header, sentinel, spelling, place_from}
use Rattle.param_records.specs.Changes.{piece, part_size, part_bytes, part_number, fresh, fresh_bytes, header_pieces, set_pieces}
use Rattle.param_records.proofs.OtherAreas.{IsParamPiece}
use Rattle.param_records.proofs.StoreLemmas.{set_at, set_default, set_fresh}

-- bytes put into bytes
pub put_bytes : (at : ℕ) (new : List ℕ) (c : ℕ) (old now : List ℕ) → HasPut at new c old now → IsBytes new → IsBytes old → IsBytes now
put_bytes at new c old now h n o i = elim (cases_lt i at) [
  | inl before ↦ omega (arith, h.below i before, o i)
  | inr from ↦ elim (cases_lt i (at + c)) [
    | inl inside ↦ let place : at + (i - at) ≡ i = omega arith in omega (arith, h.put (i - at) (omega arith), n (i - at), ap (λ (k : ℕ). get_or now k 0) place)
    | inr behind ↦ omega (arith, h.behind i behind, o i)
  ]
]

abbrev Low : List ℕ → Type 0
Low bytes = IsBytes (logical_of Param bytes)

abbrev OfBytes : Piece → Type 0
OfBytes q = IsBytes q.bytes

one_low : (b : List ℕ) (q : Piece) → length b ≡ STORAGE_BYTES → IsParamPiece q → OfBytes q → Low b → EachPrefix Low b (writes_of_piece q.area q.at q.bytes b)
one_low b q size is few low =
    let steps = pieces_in_steps in
    subst (λ (a : Area). EachPrefix Low b (writes_of_piece a q.at q.bytes b)) (sym is.area)
    (λ j h. let put = steps.each Param q.at q.bytes b j size is.fits h in
    put_bytes q.at q.bytes put.0 (logical_of Param b) (logical_of Param (after b (take j (writes_of_piece Param q.at q.bytes b)))) put.3 few low)

pub all_low : (b : List ℕ) (qs : List Piece) → length b ≡ STORAGE_BYTES → All IsParamPiece qs → All OfBytes qs → Low b → EachPrefix Low b (writes_of b qs)
all_low b [] size fit few low = prefix_nil Low b low
all_low b (q ∷ qs) size fit few low =
    let ws = writes_of_piece q.area q.at q.bytes b in
    let here = one_low b q size (All-head IsParamPiece q qs fit) (All-head OfBytes q qs few) low in
    let then : Low (after b ws) = subst (λ (l : List LineWrite). Low (after b l)) (take_all (length ws) ws (omega arith)) (here (length ws) (omega arith)) in
    prefix_append Low b ws (writes_of (after b ws) qs) here
    (all_low (after b ws) qs (length-after b ws ∙ size) (All-tail IsParamPiece q qs fit) (All-tail OfBytes q qs few) then)

nil_bytes : IsBytes []
nil_bytes i = omega arith

cons_bytes : (x : ℕ) (xs : List ℕ) → x < 256 → IsBytes xs → IsBytes (x ∷ xs)
cons_bytes x xs h t zero = h
cons_bytes x xs h t (suc i) = t i

append_bytes : (xs ys : List ℕ) → IsBytes xs → IsBytes ys → IsBytes (xs ++ ys)
append_bytes [] ys a b = b
append_bytes (x ∷ xs) ys a b = cons_bytes x (xs ++ ys) (a 0) (append_bytes xs ys (λ i. a (suc i)) b)

take_bytes : (n : ℕ) (xs : List ℕ) → IsBytes xs → IsBytes (take n xs)
take_bytes zero xs h = nil_bytes
take_bytes (suc n) [] h = nil_bytes
take_bytes (suc n) (x ∷ xs) h = cons_bytes x (take n xs) (h 0) (take_bytes n xs (λ i. h (suc i)))

drop_bytes : (n : ℕ) (xs : List ℕ) → IsBytes xs → IsBytes (drop n xs)
drop_bytes zero xs h = h
drop_bytes (suc n) [] h = nil_bytes
drop_bytes (suc n) (x ∷ xs) h = drop_bytes n xs (λ i. h (suc i))

four_low : (n : ℕ) → IsBytes (four_bytes n)
four_low n =
    cons_bytes (n % 256) (n / 256 % 256 ∷ n / 65536 % 256 ∷ n / 16777216 % 256 ∷ []) (omega arith)
    (cons_bytes (n / 256 % 256) (n / 65536 % 256 ∷ n / 16777216 % 256 ∷ []) (omega arith)
    (cons_bytes (n / 65536 % 256) (n / 16777216 % 256 ∷ []) (omega arith)
    (cons_bytes (n / 16777216 % 256) [] (omega arith) nil_bytes)))

sentinel_low : IsBytes sentinel
sentinel_low = cons_bytes 255 (255 ∷ 63 ∷ 0 ∷ []) (omega arith) (cons_bytes 255 (63 ∷ 0 ∷ []) (omega arith) (cons_bytes 63 (0 ∷ []) (omega arith) (cons_bytes 0 [] (omega arith) nil_bytes)))

part_low : (kind : Kind) (n : ℕ) → IsBytes (part_bytes kind n)
part_low kind n = take_bytes (part_size kind) (four_bytes n) (four_low n)

fresh_low : (kind : Kind) (rows : List Var) (row : Var) (n : ℕ) → IsBytes (fresh_bytes kind rows row n)
fresh_low I8 rows row n = part_low I8 n
fresh_low I16 rows row n = part_low I16 n
fresh_low I32 rows row n = part_low I32 n
fresh_low F32 rows row n = part_low F32 n
fresh_low Vec3 rows row n =
    append_bytes (four_bytes (part_number rows row n 0)) (four_bytes (part_number rows row n 1) ++ four_bytes (part_number rows row n 2)) (four_low (part_number rows row n 0))
    (append_bytes (four_bytes (part_number rows row n 1)) (four_bytes (part_number rows row n 2)) (four_low (part_number rows row n 1)) (four_low (part_number rows row n 2)))

either : (t : Bool) (xs ys : List Piece) → All OfBytes xs → All OfBytes ys → All OfBytes (cond t xs ys)
either true xs ys a b = a
either false xs ys a b = b

one_of_bytes : (at : ℕ) (bytes : List ℕ) (qs : List Piece) → IsBytes bytes → All OfBytes qs → All OfBytes (piece at bytes ∷ qs)
one_of_bytes at bytes qs low rest = All-cons OfBytes (piece at bytes) qs low rest

header_of_bytes : (at n : ℕ) → All OfBytes (header_pieces at (four_bytes n))
header_of_bytes at n =
    let head = four_bytes n in
    let low = four_low n in
    let s = 8 - at % 8 in
    either (nat_lt (at % 8) 5) (piece at head ∷ []) (cond (at % 8 == 7) (piece at (take 1 head) ∷ piece (at + 1) (drop 1 head) ∷ []) (piece (at + s) (drop s head) ∷ piece at (take s head) ∷ []))
    (one_of_bytes at head [] low (All-nil OfBytes))
    (either (at % 8 == 7) (piece at (take 1 head) ∷ piece (at + 1) (drop 1 head) ∷ []) (piece (at + s) (drop s head) ∷ piece at (take s head) ∷ [])
    (one_of_bytes at (take 1 head) (piece (at + 1) (drop 1 head) ∷ []) (take_bytes 1 head low) (one_of_bytes (at + 1) (drop 1 head) [] (drop_bytes 1 head low) (All-nil OfBytes)))
    (one_of_bytes (at + s) (drop s head) (piece at (take s head) ∷ []) (drop_bytes s head low) (one_of_bytes at (take s head) [] (take_bytes s head low) (All-nil OfBytes))))

-- the pieces that set a row are bytes
pub set_of_bytes : (rows : List Var) (records : List Record) (row : Var) (number : ℕ) → All OfBytes (set_pieces rows records row number)
set_of_bytes rows records row number = by_place (place_from 4 row.key row.element row.kind records) refl
  where
    by_place : (o : Option ℕ) → place_from 4 row.key row.element row.kind records ≡ o → All OfBytes (set_pieces rows records row number)
    by_place (Some at) is = subst (All OfBytes) (sym (set_at rows records row number at is)) (one_of_bytes (at + 4 * row.part) (part_bytes row.kind number) [] (part_low row.kind number) (All-nil OfBytes))
    by_place None is = elim (cases_eq number row.default) [
      | inl same ↦ subst (All OfBytes) (sym (set_default rows records row number is same)) (All-nil OfBytes)
      | inr other ↦
          let end = 4 + length (spelling records) in
          let r = fresh rows row number in
          subst (All OfBytes) (sym (set_fresh rows records row number is other))
          (one_of_bytes (end + 4 + length r.value) sentinel (piece (end + 4) r.value ∷ header_pieces end (four_bytes (header r))) sentinel_low
          (one_of_bytes (end + 4) r.value (header_pieces end (four_bytes (header r))) (fresh_low row.kind rows row number) (header_of_bytes end (header r))))
    ]
