-- The lines that a piece touches.
use Rattle.std.proofs.Common.{◌≡◌, ◌≢◌, true, false, ℕ, ◌+◌, ◌-◌, ◌*◌, ◌/◌, ◌<◌, ◌≤◌, List, [], ◌∷◌, ◌++◌, length, get_or, take, refl, sym, ◌∙◌, ap, arith, inl, inr}
use Rattle.std.proofs.lemmas.List.{take_more, ext_get_or, length-append, append-nil, nil_from_length}
use Rattle.std.proofs.lemmas.Slice.Eq.{bytes_eq-Decides}
use Rattle.std.specs.Str.{bytes_eq}
use Rattle.std.proofs.lemmas.Bool.{cases_order}
use Rattle.storage_lines.specs.declared.lines.TheConstants.{STORAGE_BYTES, LINES, BATCH_LINES}
use Rattle.storage_lines.specs.declared.areas.Spans.{Spans}
use Rattle.storage_lines.specs.declared.lines.LineWrite.{LineWrite}
use Rattle.storage_lines.specs.Areas.{total_size, place_in, put_in, IsAscending}
use Rattle.storage_lines.specs.Lines.{after, line_of, changes_below, changes}
use Rattle.storage_lines.proofs.AreaLemmas.{place_rises, place_inside, put_in-other, length-put_in}
use Rattle.storage_lines.proofs.LineLemmas.{length-after, length-line_of, get_or-line_of, same_line, line_cases, after-append, line_put, line_kept, no_changes, changes_more, changes_grow}

pub place_same : (p : Spans) (i j : ℕ) → IsAscending p → i < total_size p → j < total_size p → place_in p i ≡ place_in p j → i ≡ j
place_same p i j up h g e = elim (cases_order i j) [
  | inl same ↦ same
  | inr x ↦ elim x [
    | inl below ↦ absurd (omega (arith, place_rises p i j up below g))
    | inr above ↦ absurd (omega (arith, place_rises p j i up above h))
  ]
]

-- the line behind one more write
pub line_more_same : (b : List ℕ) (ws : List LineWrite) (i n : ℕ) (d : LineWrite) → i < length ws → 8 * n + 8 ≤ length b → length (get_or ws i d).bytes ≡ 8 → (get_or ws i d).line ≡ n →
    line_of (after b (take (i + 1) ws)) n ≡ (get_or ws i d).bytes
line_more_same b ws i n d h fits size is =
    ap (λ (l : List LineWrite). line_of (after b l) n) (take_more ws i d h)
    ∙ ap (λ (l : List ℕ). line_of l n) (after-append b (take i ws) (get_or ws i d ∷ []))
    ∙ line_put (after b (take i ws)) (get_or ws i d) n (omega (arith, length-after b (take i ws))) is size

pub line_more_other : (b : List ℕ) (ws : List LineWrite) (i n : ℕ) (d : LineWrite) → i < length ws → 8 * n + 8 ≤ length b → (get_or ws i d).line ≢ n →
    line_of (after b (take (i + 1) ws)) n ≡ line_of (after b (take i ws)) n
line_more_other b ws i n d h fits other =
    ap (λ (l : List LineWrite). line_of (after b l) n) (take_more ws i d h)
    ∙ ap (λ (l : List ℕ). line_of l n) (after-append b (take i ws) (get_or ws i d ∷ []))
    ∙ line_kept (after b (take i ws)) (get_or ws i d) n (omega (arith, length-after b (take i ws))) other

pub line_is : (b bytes : List ℕ) (n : ℕ) → 8 * n + 8 ≤ length b → length bytes ≡ 8 → ((k : ℕ) → k < 8 → get_or bytes k 0 ≡ get_or b (8 * n + k) 0) → line_of b n ≡ bytes
line_is b bytes n fits size each = ext_get_or 0 (line_of b n) bytes (length-line_of b n fits ∙ sym size)
    (λ k h. let few : k < 8 = omega (arith, length-line_of b n fits) in get_or-line_of b n k 0 few ∙ sym (each k few))

pub line_has : (b bytes : List ℕ) (n : ℕ) → line_of b n ≡ bytes → (k : ℕ) → k < 8 → get_or b (8 * n + k) 0 ≡ get_or bytes k 0
line_has b bytes n e k h = sym (get_or-line_of b n k 0 h) ∙ ap (λ (l : List ℕ). get_or l k 0) e

-- a line on which no byte of the piece lies
pub line_untouched : (p : Spans) (at : ℕ) (new b : List ℕ) (n : ℕ) → 8 * n + 8 ≤ length b → ((i : ℕ) → i < length new → place_in p (at + i) / 8 ≢ n) → line_of b n ≡ line_of (put_in p at new b) n
line_untouched p at new b n fits none = same_line b (put_in p at new b) n fits (omega (arith, length-put_in p at new b))
    (λ j h. sym (put_in-other p at new b (8 * n + j) 0 (λ i few e. none i few (omega arith))))

-- a place of the piece lies between its first and its last
pub between_ends : (p : Spans) (at n i : ℕ) → IsAscending p → at + n ≤ total_size p → i < n → (place_in p at ≤ place_in p (at + i)) × (place_in p (at + i) ≤ place_in p (at + n - 1))
between_ends p at n i up fits h = (
  elim (cases_order 0 i) [
    | inl e ↦ let same : at ≡ at + i = omega arith in let f : place_in p at ≡ place_in p (at + i) = ap (λ (k : ℕ). place_in p k) same in omega arith
    | inr x ↦ elim x [ inl pos ↦ omega (arith, place_rises p at (at + i) up (omega arith) (omega arith)) | inr neg ↦ absurd (omega arith) ]
  ],
  elim (cases_order (i + 1) n) [
    | inl e ↦ let same : at + i ≡ at + n - 1 = omega arith in let f : place_in p (at + i) ≡ place_in p (at + n - 1) = ap (λ (k : ℕ). place_in p k) same in omega arith
    | inr x ↦ elim x [ inl pos ↦ omega (arith, place_rises p (at + i) (at + n - 1) up (omega arith) (omega arith)) | inr neg ↦ absurd (omega arith) ]
  ],
)

pub no_lines : (a c : List ℕ) → changes_below 0 a c ≡ []
unfolding changes_below
no_lines a c = refl

-- no writes before the first touched line, and none behind the last
pub changes_before : (p : Spans) (at : ℕ) (new b : List ℕ) (first : ℕ) → IsAscending p → length b ≡ STORAGE_BYTES → at + length new ≤ total_size p → 0 < length new → first ≡ place_in p at / 8 →
    changes_below first b (put_in p at new b) ≡ []
changes_before p at new b first up size fits some is =
    let inside = place_inside p at up (omega arith) in
    let none = no_changes 0 first b (put_in p at new b) (λ n h g. line_untouched p at new b n (omega arith) (λ i few (e : place_in p (at + i) / 8 ≡ n). omega (arith, (between_ends p at (length new) i up fits few).0))) in
    let start : 0 + first ≡ first = omega arith in
    ap (λ (k : ℕ). changes_below k b (put_in p at new b)) (sym start) ∙ none ∙ no_lines b (put_in p at new b)

pub changes_behind : (p : Spans) (at : ℕ) (new b : List ℕ) (last : ℕ) → IsAscending p → length b ≡ STORAGE_BYTES → at + length new ≤ total_size p → 0 < length new → last ≡ place_in p (at + length new - 1) / 8 →
    changes b (put_in p at new b) ≡ changes_below (last + 1) b (put_in p at new b)
changes_behind p at new b last up size fits some is =
    let inside = place_inside p (at + length new - 1) up (omega arith) in
    let none = no_changes (last + 1) (LINES - (last + 1)) b (put_in p at new b) (λ n h g. line_untouched p at new b n (omega arith) (λ i few (e : place_in p (at + i) / 8 ≡ n). omega (arith, (between_ends p at (length new) i up fits few).1))) in
    let whole : LINES ≡ last + 1 + (LINES - (last + 1)) = omega arith in
    ap (λ (k : ℕ). changes_below k b (put_in p at new b)) whole ∙ none

-- the writes with one more line looked at, which changes or not
pub changed_more : (n : ℕ) (old new before bytes : List ℕ) (ws vs : List LineWrite) → before ≡ line_of old n → line_of new n ≡ bytes → ws ≡ changes_below n old new →
    bytes_eq bytes before ≡ false → vs ≡ ws ++ record { line = n; bytes = bytes } ∷ [] → vs ≡ changes_below (n + 1) old new
changed_more n old new before bytes ws vs b a same differ is =
    elim (line_cases n old new) [
      | inl equal ↦ let holds : bytes_eq bytes before ≡ true = (bytes_eq-Decides bytes before).1 (sym a ∙ sym equal.0 ∙ sym b) in let clash : true ≡ false = sym holds ∙ differ in cc
      | inr other ↦ is ∙ ap (λ (l : List LineWrite). l ++ record { line = n; bytes = bytes } ∷ []) same
          ∙ ap (λ (x : List ℕ). changes_below n old new ++ record { line = n; bytes = x } ∷ []) (sym a)
          ∙ ap (λ (l : List LineWrite). changes_below n old new ++ l) (sym other.1) ∙ sym (changes_more n old new)
    ]

pub unchanged_more : (n : ℕ) (old new before bytes : List ℕ) (ws vs : List LineWrite) → before ≡ line_of old n → line_of new n ≡ bytes → ws ≡ changes_below n old new →
    bytes_eq bytes before ≡ true → vs ≡ ws → vs ≡ changes_below (n + 1) old new
unchanged_more n old new before bytes ws vs b a same equal is =
    let lines : bytes ≡ before = (bytes_eq-Decides bytes before).0 equal in
    elim (line_cases n old new) [
      | inl x ↦ is ∙ same ∙ sym (append-nil (changes_below n old new)) ∙ ap (λ (l : List LineWrite). changes_below n old new ++ l) (sym x.1) ∙ sym (changes_more n old new)
      | inr other ↦ absurd (other.0 (sym b ∙ sym lines ∙ sym a))
    ]

-- one more line that changes makes more than a full batch
pub too_many : (n : ℕ) (old new before bytes : List ℕ) (ws : List LineWrite) → n < LINES → before ≡ line_of old n → line_of new n ≡ bytes → ws ≡ changes_below n old new →
    bytes_eq bytes before ≡ false → length ws ≡ BATCH_LINES → BATCH_LINES < length (changes old new)
too_many n old new before bytes ws inside b a same differ full =
    let w : LineWrite = record { line = n; bytes = bytes } in
    let more : ws ++ w ∷ [] ≡ changes_below (n + 1) old new = changed_more n old new before bytes ws (ws ++ w ∷ []) b a same differ refl in
    let grow = changes_grow (n + 1) (LINES - (n + 1)) old new in
    let whole : n + 1 + (LINES - (n + 1)) ≡ LINES = omega arith in
    let sizes : length (changes_below (n + 1 + (LINES - (n + 1))) old new) ≡ length (changes old new) = ap (λ (k : ℕ). length (changes_below k old new)) whole in
    let sum : length (ws ++ w ∷ []) ≡ length (changes_below (n + 1) old new) = ap (λ (l : List LineWrite). length l) more in
    omega (arith, length-append ws (w ∷ []))

pub no_piece : (p : Spans) (at : ℕ) (new b : List ℕ) → length new ≡ 0 → changes b (put_in p at new b) ≡ []
no_piece p at new b none =
    let empty : put_in p at new b ≡ b = ap (λ (l : List ℕ). put_in p at l b) (nil_from_length new none) in
    ap (λ (l : List ℕ). changes b l) empty ∙ no_changes 0 LINES b b (λ n h g. refl) ∙ no_lines b b
