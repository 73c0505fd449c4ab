-- An appended record leaves bytes in the parameter storage.
use Rattle.std.proofs.Common.{◌≡◌, ◌+◌, ◌-◌, ◌/◌, ◌%◌, ◌<◌, ℕ, zero, suc, inl, inr, Bool, true, cond, List, [], ◌∷◌, length, get_or, take, drop, sym, ◌∙◌, ap, subst, arith}
use Rattle.std.specs.Prelude.{◌==◌, All, nat_lt}
use Rattle.std.specs.List.{list_all}
use Rattle.std.proofs.lemmas.Bool.{cases_lt, cases_eq, and_parts, ltb-true, lt-ltb, le-ltb, eq-eqb, ne_eqb}
use Rattle.std.proofs.lemmas.List.{get_or-take, get_or-drop, get_or_past, length-take, take_all}
use Rattle.std.proofs.lemmas.List.Elements.{All-head, All-tail, All-nil, All-cons}
use Rattle.storage_lines.specs.declared.lines.LineWrite.{LineWrite}
use Rattle.storage_lines.specs.declared.lines.TheConstants.{STORAGE_BYTES}
use Rattle.storage_lines.specs.declared.areas.Area.{Area}
use Rattle.storage_lines.specs.declared.areas.Area.TheVariants.{Param}
use Rattle.storage_lines.specs.Areas.{logical_of}
use Rattle.storage_lines.specs.Bytes.{IsBytes}
use Rattle.storage_lines.specs.Laws.{HasPut}
use Rattle.storage_lines.specs.Lines.{after, EachPrefix}
use Rattle.storage_lines.specs.Pieces.{Piece, writes_of, writes_of_piece}
use Rattle.storage_lines.proofs.LineLemmas.{length-after}
use Rattle.storage_lines.proofs.PieceLemmas.{pieces_in_steps}
use Rattle.storage_lines.proofs.PrefixLemmas.{prefix_nil, prefix_append}
use Rattle.param_records.specs.Records.{Record, four_bytes, header, sentinel}
use Rattle.param_records.specs.Changes.{piece, header_pieces, appending}
use Rattle.param_records.proofs.OtherAreas.{IsParamPiece}

-- the parameter storage has bytes
abbrev pub IsLow : List ℕ → Type 0
IsLow bytes = IsBytes (logical_of Param bytes)

-- the piece has bytes
abbrev pub HasBytes : Piece → Type 0
HasBytes q = IsBytes q.bytes

put_low : (at : ℕ) (new : List ℕ) (c : ℕ) (old now : List ℕ) → IsBytes old → IsBytes new → HasPut at new c old now → IsBytes now
put_low at new c old now was low put i = elim (cases_lt i at) [
  | inl below ↦ omega (arith, put.below i below, was i)
  | inr from ↦ elim (cases_lt i (at + c)) [
    | inl inside ↦
        let place : at + (i - at) ≡ i = omega arith in
        omega (arith, sym (ap (λ (k : ℕ). get_or now k 0) place) ∙ put.put (i - at) (omega arith), low (i - at))
    | inr past ↦ omega (arith, put.behind i past, was i)
  ]
]

low_piece : (bytes : List ℕ) (q : Piece) → length bytes ≡ STORAGE_BYTES → IsParamPiece q → HasBytes q → IsLow bytes → EachPrefix IsLow bytes (writes_of_piece q.area q.at q.bytes bytes)
low_piece bytes q size is low was =
    let steps = pieces_in_steps in
    subst (λ (a : Area). EachPrefix IsLow bytes (writes_of_piece a q.at q.bytes bytes)) (sym is.area)
    (λ j h.
    let put = steps.each Param q.at q.bytes bytes j size is.fits h in
    put_low q.at q.bytes put.0 (logical_of Param bytes) (logical_of Param (after bytes (take j (writes_of_piece Param q.at q.bytes bytes)))) was low put.3)

pub low_pieces : (bytes : List ℕ) (qs : List Piece) → length bytes ≡ STORAGE_BYTES → All IsParamPiece qs → All HasBytes qs → IsLow bytes → EachPrefix IsLow bytes (writes_of bytes qs)
low_pieces bytes [] size fit low was = prefix_nil IsLow bytes was
low_pieces bytes (q ∷ qs) size fit low was =
    let ws = writes_of_piece q.area q.at q.bytes bytes in
    let here = low_piece bytes q size (All-head IsParamPiece q qs fit) (All-head HasBytes q qs low) was in
    let then : IsLow (after bytes ws) = subst (λ (l : List LineWrite). IsLow (after bytes l)) (take_all (length ws) ws (omega arith)) (here (length ws) (omega arith)) in
    prefix_append IsLow bytes ws (writes_of (after bytes ws) qs) here
    (low_pieces (after bytes ws) qs (length-after bytes ws ∙ size) (All-tail IsParamPiece q qs fit) (All-tail HasBytes q qs low) then)

low_cons : (x : ℕ) (xs : List ℕ) → x < 256 → IsBytes xs → IsBytes (x ∷ xs)
low_cons x xs first low zero = first
low_cons x xs first low (suc i) = low i

low_nil : IsBytes []
low_nil i = omega (arith, get_or_past {X = ℕ} [] i 0)

four_low : (a b c d : ℕ) → a < 256 → b < 256 → c < 256 → d < 256 → IsBytes (a ∷ b ∷ c ∷ d ∷ [])
four_low a b c d la lb lc ld = low_cons a (b ∷ c ∷ d ∷ []) la (low_cons b (c ∷ d ∷ []) lb (low_cons c (d ∷ []) lc (low_cons d [] ld low_nil)))

-- bytes that are written out
pub written_low : (xs : List ℕ) → list_all (λ x. nat_lt x 256) xs ≡ true → IsBytes xs
written_low [] h = low_nil
written_low (x ∷ xs) h =
    let both = and_parts (nat_lt x 256) (list_all (λ y. nat_lt y 256) xs) h in
    low_cons x xs (ltb-true x 256 both.0) (written_low xs both.1)

take_low : (n : ℕ) (xs : List ℕ) → IsBytes xs → IsBytes (take n xs)
take_low n xs low i = elim (cases_lt i n) [
  | inl few ↦ omega (arith, get_or-take n xs i 0 few, low i)
  | inr past ↦ omega (arith, get_or_past (take n xs) i 0 (omega (arith, length-take n xs)))
]

drop_low : (n : ℕ) (xs : List ℕ) → IsBytes xs → IsBytes (drop n xs)
drop_low n xs low i = omega (arith, get_or-drop n xs i 0, low (n + i))

one_low : (at : ℕ) (xs : List ℕ) → IsBytes xs → All HasBytes (piece at xs ∷ [])
one_low at xs low = All-cons HasBytes (piece at xs) [] low (All-nil HasBytes)

header_low : (p : ℕ) (head : List ℕ) → IsBytes head → All HasBytes (header_pieces p head)
header_low p head low =
    let s = 8 - p % 8 in
    let a = piece p head ∷ [] in
    let c = piece p (take 1 head) ∷ piece (p + 1) (drop 1 head) ∷ [] in
    let d = piece (p + s) (drop s head) ∷ piece p (take s head) ∷ [] in
    let D : List Piece → Type 0 = λ qs. All HasBytes qs in
    elim (cases_lt (p % 8) 5) [
      | inl few ↦ subst D (sym (ap (λ (t : Bool). cond t a (cond ((p % 8) == 7) c d)) (lt-ltb (p % 8) 5 few))) (one_low p head low)
      | inr more ↦ elim (cases_eq (p % 8) 7) [
        | inl seven ↦ subst D (sym (ap (λ (t : Bool). cond t a (cond ((p % 8) == 7) c d)) (le-ltb (p % 8) 5 more) ∙ ap (λ (t : Bool). cond t c d) (eq-eqb (p % 8) 7 seven)))
            (All-cons HasBytes (piece p (take 1 head)) (piece (p + 1) (drop 1 head) ∷ []) (take_low 1 head low) (one_low (p + 1) (drop 1 head) (drop_low 1 head low)))
        | inr other ↦ subst D (sym (ap (λ (t : Bool). cond t a (cond ((p % 8) == 7) c d)) (le-ltb (p % 8) 5 more) ∙ ap (λ (t : Bool). cond t c d) (ne_eqb (p % 8) 7 other)))
            (All-cons HasBytes (piece (p + s) (drop s head)) (piece p (take s head) ∷ []) (drop_low s head low) (one_low p (take s head) (take_low s head low)))
      ]
    ]

-- the pieces of a record whose value has bytes
pub append_low : (p : ℕ) (r : Record) → IsBytes r.value → All HasBytes (appending p r)
append_low p r value =
    let n = header r in
    let head = four_bytes n in
    let low : IsBytes head = four_low (n % 0x100) (n / 0x100 % 0x100) (n / 0x1_0000 % 0x100) (n / 0x100_0000 % 0x100) (omega arith) (omega arith) (omega arith) (omega arith) in
    let last : IsBytes sentinel = four_low 0xFF 0xFF 0x3F 0 (omega arith) (omega arith) (omega arith) (omega arith) in
    All-cons HasBytes (piece (p + 4 + length r.value) sentinel) (piece (p + 4) r.value ∷ header_pieces p head) last
    (All-cons HasBytes (piece (p + 4) r.value) (header_pieces p head) value (header_low p head low))
