-- Bytes stay bytes, and a piece has few lines, all inside the storage.
use Rattle.std.proofs.Common.{◌≡◌, ◌≢◌, ◌⊎◌, inl, inr, ℕ, zero, suc, ◌+◌, ◌*◌, ◌/◌, ◌%◌, ◌<◌, ◌≤◌, cond, List, [], ◌∷◌, length, get_or, set, drop, refl, ◌∙◌, ap, arith}
use Rattle.std.specs.Prelude.{All}
use Rattle.std.specs.Str.{bytes_eq}
use Rattle.std.proofs.lemmas.List.{length-append, length-set, get_or_past, get_or-set_same, get_or-set_other, length-take}
use Rattle.std.proofs.lemmas.List.Elements.{All-nil, All-cons, All-head, All-tail, All-append, All-same}
use Rattle.std.proofs.lemmas.Bool.{cases_lt, cases_eq}
use Rattle.storage_lines.specs.declared.areas.Area.{Area}
use Rattle.storage_lines.specs.declared.areas.Spans.{Spans}
use Rattle.storage_lines.specs.declared.lines.LineWrite.{LineWrite}
use Rattle.storage_lines.specs.declared.lines.TheConstants.{STORAGE_BYTES, LINES}
use Rattle.storage_lines.specs.Areas.{put_in, place_in, place_of, spans_of, size_of_area, logical_of}
use Rattle.storage_lines.specs.Bytes.{IsBytes, HaveBytes, AreInside}
use Rattle.storage_lines.specs.Lines.{after, put_line, line_of, line_change, changes_below, changes}
use Rattle.storage_lines.specs.Pieces.{Piece, writes_of_piece, writes_of}
use Rattle.storage_lines.specs.Laws.{PiecesAreLines}
use Rattle.storage_lines.proofs.LineLemmas.{same_line, line_cases, changes_more, get_or-line_of, length-put_line, put_line-same, put_line-other}
use Rattle.storage_lines.proofs.AreaLemmas.{length-put_in}
use Rattle.storage_lines.proofs.SplitLemmas.{no_lines, no_piece}
use Rattle.storage_lines.proofs.PieceLemmas.{get_or-area, length-area}

-- a property of writes that each changed line has
changes_all : (P : LineWrite → Type 0) (n : ℕ) (old new : List ℕ) → ((k : ℕ) → k < n → P (record { line = k; bytes = line_of new k })) → All P (changes_below n old new)
unfolding changes_below
changes_all P zero old new each = All-nil P
changes_all P (suc n) old new each =
    let last : All P (line_change n old new) = elim (line_cases n old new) [
      | inl same ↦ All-same P (line_change n old new) [] same.1 (All-nil P)
      | inr other ↦ All-same P (line_change n old new) (record { line = n; bytes = line_of new n } ∷ []) other.1 (All-cons P (record { line = n; bytes = line_of new n }) [] (each n (omega arith)) (All-nil P))
    ] in
    All-append P (changes_below n old new) (line_change n old new) (changes_all P n old new (λ k h. each k (omega arith))) last

pub changes_inside : (old new : List ℕ) → AreInside (changes old new)
changes_inside old new = changes_all (λ (write : LineWrite). write.line < LINES) LINES old new (λ k h. h)

pub line_bytes : (bytes : List ℕ) (n : ℕ) → IsBytes bytes → IsBytes (line_of bytes n)
line_bytes bytes n h i = elim (cases_lt i 8) [
  | inl few ↦ omega (arith, get_or-line_of bytes n i 0 few, h (8 * n + i))
  | inr past ↦ omega (arith, get_or_past (line_of bytes n) i 0 (omega (arith, length-take 8 (drop (8 * n) bytes))))
]

pub changes_bytes : (old new : List ℕ) → IsBytes new → HaveBytes (changes old new)
changes_bytes old new h = changes_all (λ (write : LineWrite). IsBytes write.bytes) LINES old new (λ k l. line_bytes new k h)

pub set_bytes : (bytes : List ℕ) (k x : ℕ) → x < 256 → IsBytes bytes → IsBytes (set bytes k x)
set_bytes bytes k x small h i = elim (cases_eq i k) [
  | inl same ↦ elim (cases_lt k (length bytes)) [
    | inl inside ↦ omega (arith, ap (λ (j : ℕ). get_or (set bytes k x) j 0) same, get_or-set_same bytes k x 0 inside)
    | inr past ↦ omega (arith, get_or_past (set bytes k x) i 0 (omega (arith, length-set bytes k x)))
  ]
  | inr other ↦ omega (arith, get_or-set_other bytes k i x 0 other, h i)
]

pub put_bytes : (p : Spans) (at : ℕ) (new bytes : List ℕ) → IsBytes new → IsBytes bytes → IsBytes (put_in p at new bytes)
put_bytes p at [] bytes few h = h
put_bytes p at (x ∷ new) bytes few h = set_bytes (put_in p (at + 1) new bytes) (place_in p at) x (few 0) (put_bytes p (at + 1) new bytes (λ i. few (suc i)) h)

-- a line is put
put_line_bytes : (bytes : List ℕ) (w : LineWrite) → IsBytes w.bytes → IsBytes bytes → IsBytes (put_line bytes w)
put_line_bytes bytes w few h k = elim (cases_lt k (length bytes)) [
  | inl inside ↦ elim (cases_eq (k / 8) w.line) [
    | inl same ↦ omega (arith, put_line-same bytes w k 0 inside same, few (k % 8))
    | inr other ↦ omega (arith, put_line-other bytes w k 0 inside other, h k)
  ]
  | inr past ↦ omega (arith, get_or_past (put_line bytes w) k 0 (omega (arith, length-put_line bytes w)))
]

pub bytes_after : (bytes : List ℕ) (writes : List LineWrite) → IsBytes bytes → HaveBytes writes → IsBytes (after bytes writes)
bytes_after bytes [] h few = h
bytes_after bytes (w ∷ writes) h few =
    let P : LineWrite → Type 0 = λ write. IsBytes write.bytes in
    bytes_after (put_line bytes w) writes (put_line_bytes bytes w (All-head P w writes few) h) (All-tail P w writes few)

pub bytes_in_area : (area : Area) (bytes : List ℕ) → IsBytes bytes → IsBytes (logical_of area bytes)
bytes_in_area area bytes h i = elim (cases_lt i (size_of_area area)) [
  | inl inside ↦ omega (arith, get_or-area area bytes i inside, h (place_of area i))
  | inr past ↦ omega (arith, get_or_past (logical_of area bytes) i 0 (omega (arith, length-area area bytes)))
]

-- the write of a line to these bytes, where they differ
abbrev change_to : ℕ → List ℕ → List ℕ → List LineWrite
change_to n b l = cond (bytes_eq (line_of b n) l) [] (record { line = n; bytes = l } ∷ [])

-- one byte changes one line at most
one_byte : (n : ℕ) (b c : List ℕ) (k x : ℕ) → 8 * n ≤ length c →
    ((k / 8 < n) × (length (changes_below n b (set c k x)) ≤ length (changes_below n b c) + 1))
    ⊎ ((n ≤ k / 8) × (length (changes_below n b (set c k x)) ≤ length (changes_below n b c)))
one_byte zero b c k x h = inr (omega arith, omega (arith, ap (λ (l : List LineWrite). length l) (no_lines b (set c k x))))
one_byte (suc n) b c k x h =
    let next : suc n ≡ n + 1 = omega arith in
    let now = set c k x in
    let size = length-set c k x in
    let sum : (d : List ℕ) → length (changes_below (suc n) b d) ≡ length (changes_below n b d) + length (line_change n b d) = λ d.
    ap (λ (m : ℕ). length (changes_below m b d)) next ∙ ap (λ (l : List LineWrite). length l) (changes_more n b d) ∙ length-append (changes_below n b d) (line_change n b d) in
    let s1 = sum c in
    let s2 = sum now in
    elim (one_byte n b c k x (omega arith)) [
      | inl below ↦
          let apart : (j : ℕ) → j < 8 → 8 * n + j ≢ k = λ j l e. let lower = below.0 in omega arith in
          let same : line_of now n ≡ line_of c n = same_line now c n (omega arith) (omega arith) (λ j l. get_or-set_other c k (8 * n + j) x 0 (apart j l)) in
          let e : length (line_change n b now) ≡ length (line_change n b c) = ap (λ (l : List ℕ). length (change_to n b l)) same in
          let few = below.1 in
          let lower = below.0 in
          inl (omega arith, omega (arith, s1, s2))
      | inr above ↦
          let few = above.1 in
          let most : length (line_change n b now) ≤ 1 = elim (line_cases n b now) [
            | inl same ↦ omega (arith, ap (λ (l : List LineWrite). length l) same.1)
            | inr other ↦ omega (arith, ap (λ (l : List LineWrite). length l) other.1)
          ] in
          elim (cases_eq (k / 8) n) [
            | inl here ↦ inl (omega arith, omega (arith, s1, s2))
            | inr past ↦
                let lower = above.0 in
                let apart : (j : ℕ) → j < 8 → 8 * n + j ≢ k = λ j l e. past (omega arith) in
                let same : line_of now n ≡ line_of c n = same_line now c n (omega arith) (omega arith) (λ j l. get_or-set_other c k (8 * n + j) x 0 (apart j l)) in
                let e : length (line_change n b now) ≡ length (line_change n b c) = ap (λ (l : List ℕ). length (change_to n b l)) same in
                inr (omega arith, omega (arith, s1, s2))
          ]
    ]

pub few_lines : (p : Spans) (at : ℕ) (new b : List ℕ) → length b ≡ STORAGE_BYTES → length (changes b (put_in p at new b)) ≤ length new
few_lines p at [] b size = omega (arith, ap (λ (l : List LineWrite). length l) (no_piece p at [] b refl))
few_lines p at (x ∷ new) b size =
    let rest = few_lines p (at + 1) new b size in
    elim (one_byte LINES b (put_in p (at + 1) new b) (place_in p at) x (omega (arith, length-put_in p (at + 1) new b))) [
      | inl below ↦ let few = below.1 in omega arith
      | inr above ↦ let few = above.1 in omega arith
    ]

pub pieces_are_lines : PiecesAreLines
pieces_are_lines = record {
  few = λ area at new old size. few_lines (spans_of area) at new old size;
  inside = λ area at new old. changes_inside old (put_in (spans_of area) at new old);
  bytes = λ area at new old h few. changes_bytes old (put_in (spans_of area) at new old) (put_bytes (spans_of area) at new old few h);
  bytes_after = bytes_after;
  bytes_in_area = bytes_in_area;
}

-- the writes of a change are of lines of the storage
pub writes_inside : (b : List ℕ) (pieces : List Piece) → AreInside (writes_of b pieces)
writes_inside b [] = All-nil (λ (write : LineWrite). write.line < LINES)
writes_inside b (p ∷ pieces) =
    let first = writes_of_piece p.area p.at p.bytes b in
    All-append (λ (write : LineWrite). write.line < LINES) first (writes_of (after b first) pieces) (changes_inside b (put_in (spans_of p.area) p.at p.bytes b)) (writes_inside (after b first) pieces)
