-- What the first writes of a piece leave of the areas' bytes.
use Rattle.std.proofs.Common.{◌≡◌, ◌≢◌, inl, inr, ℕ, zero, suc, ◌+◌, ◌-◌, ◌*◌, ◌<◌, ◌≤◌, List, length, get_or, take, drop, sym, ◌∙◌, ap, subst, arith}
use Rattle.std.proofs.lemmas.List.{get_or_past, get_or-take, get_or-drop, length-take, length-drop, ext_get_or}
use Rattle.std.proofs.lemmas.Bool.{cases_lt, cases_order}
use Rattle.storage_lines.specs.declared.areas.Spans.{Spans}
use Rattle.storage_lines.specs.declared.areas.Area.{Area}
use Rattle.storage_lines.specs.declared.lines.TheConstants.{STORAGE_BYTES, LINES}
use Rattle.storage_lines.specs.Areas.{total_size, size_of_area, place_in, place_of, put_in, spans_of, logical_of, IsAscending}
use Rattle.storage_lines.specs.Lines.{after}
use Rattle.storage_lines.specs.Pieces.{writes_of_piece}
use Rattle.storage_lines.specs.Laws.{HasPut, EndsWithLine, PiecesInSteps}
use Rattle.storage_lines.proofs.Listed.{length-listed, get_or-listed}
use Rattle.storage_lines.proofs.AreaLemmas.{place_rises, place_inside, put_in-at, put_in-other}
use Rattle.storage_lines.proofs.LineLemmas.{IsMixed, mixed_prefix, mixed_all}
use Rattle.storage_lines.proofs.SplitLemmas.{place_same}
use Rattle.storage_lines.proofs.ApartLemmas.{ascending, areas_apart}

-- where the places of n bytes cross a border
pub record Cut (p : Spans) (at n border c : ℕ) : Type 0 where
  pub few : c ≤ n
  pub below : (i : ℕ) → i < c → place_in p (at + i) < border
  pub above : (i : ℕ) → c ≤ i → i < n → border ≤ place_in p (at + i)

pub cut : (p : Spans) (at n border : ℕ) → IsAscending p → at + n ≤ total_size p → (c : ℕ) × Cut p at n border c
cut p at zero border up fits = (0, record { few = omega arith; below = λ i h. absurd (omega arith); above = λ i h g. absurd (omega arith) })
cut p at (suc n) border up fits = elim (cases_lt (place_in p (at + n)) border) [
  | inl below ↦ (
    suc n,
    record {
      few = omega arith;
      above = λ i h g. absurd (omega arith);
      below = λ i h. elim (cases_lt i n) [
        | inl less ↦ omega (arith, place_rises p (at + i) (at + n) up (omega arith) (omega arith))
        | inr same ↦ let e : i ≡ n = omega arith in let f : place_in p (at + i) ≡ place_in p (at + n) = ap (λ (k : ℕ). place_in p (at + k)) e in omega arith
      ];
    },
  )
  | inr above ↦
      let found = cut p at n border up (omega arith) in
      let c = found.1 in (
        found.0,
        record {
          few = let few = c.few in omega arith;
          below = c.below;
          above = λ i h g. elim (cases_lt i n) [
            | inl less ↦ c.above i h less
            | inr same ↦ let e : i ≡ n = omega arith in let f : place_in p (at + i) ≡ place_in p (at + n) = ap (λ (k : ℕ). place_in p (at + k)) e in omega arith
          ];
        },
      )
]

-- the byte at a logical place
pub get_or-area : (a : Area) (b : List ℕ) (i : ℕ) → i < size_of_area a → get_or (logical_of a b) i 0 ≡ get_or b (place_of a i) 0
get_or-area a b i h = get_or-listed (size_of_area a) (λ k. get_or b (place_of a k) 0) i 0 h

pub length-area : (a : Area) (b : List ℕ) → length (logical_of a b) ≡ size_of_area a
length-area a b = length-listed (size_of_area a) (λ k. get_or b (place_of a k) 0)

-- some of the logical bytes, one by one
pub area_bytes : (a : Area) (b xs : List ℕ) (at n : ℕ) → at + n ≤ size_of_area a → length xs ≡ n → ((i : ℕ) → i < n → get_or xs i 0 ≡ get_or b (place_of a (at + i)) 0) → xs ≡ take n (drop at (logical_of a b))
area_bytes a b xs at n fits size each =
    let L = logical_of a b in
    ext_get_or 0 xs (take n (drop at L)) (omega (arith, length-take n (drop at L), length-drop at L, length-area a b))
    (λ i h. let few : i < n = omega arith in each i few ∙ sym (get_or-area a b (at + i) (omega arith)) ∙ sym (get_or-drop at L i 0) ∙ sym (get_or-take n (drop at L) i 0 few))

-- a byte that no byte of the piece is at, after some of the piece's writes
mixed_other : (p : Spans) (at : ℕ) (new old now : List ℕ) (m k : ℕ) → k < length old → IsMixed m old (put_in p at new old) now → ((j : ℕ) → j < length new → place_in p (at + j) ≢ k) → get_or now k 0 ≡ get_or old k 0
mixed_other p at new old now m k inside mix other = elim (cases_lt k (8 * m)) [
  | inl below ↦ mix.front k below inside ∙ put_in-other p at new old k 0 other
  | inr above ↦ mix.back k above inside
]

-- new before a border and old from it on: some first bytes of the piece are there
pub mixed_piece : (a : Area) (at : ℕ) (new old now : List ℕ) (m : ℕ) → length old ≡ STORAGE_BYTES → at + length new ≤ size_of_area a → IsMixed m old (put_in (spans_of a) at new old) now →
    (c : ℕ) × Cut (spans_of a) at (length new) (8 * m) c × HasPut at new c (logical_of a old) (logical_of a now)
mixed_piece a at new old now m size fits mix =
    let p = spans_of a in
    let up = ascending a in
    let found = cut p at (length new) (8 * m) up fits in
    let c = found.0 in
    let k = found.1 in
    let few = k.few in
    let kept : (i : ℕ) → i < size_of_area a → ((j : ℕ) → j < length new → place_in p (at + j) ≢ place_in p i) → get_or now (place_in p i) 0 ≡ get_or old (place_in p i) 0 =
    λ i h other. mixed_other p at new old now m (place_in p i) (omega (arith, place_inside p i up h)) mix other in (
      c,
      k,
      record {
        size = length-area a now ∙ sym (length-area a old);
        put = λ i h. let inside = place_inside p (at + i) up (omega arith) in
            get_or-area a now (at + i) (omega arith) ∙ mix.front (place_in p (at + i)) (k.below i h) (omega arith) ∙ put_in-at p at new old i 0 up size fits (omega arith);
        below = λ i h. elim (cases_lt i (size_of_area a)) [
          | inl inside ↦ get_or-area a now i inside ∙ kept i inside (λ j g e. let same = place_same p (at + j) i up (omega arith) inside e in omega arith) ∙ sym (get_or-area a old i inside)
          | inr past ↦ get_or_past (logical_of a now) i 0 (omega (arith, length-area a now)) ∙ sym (get_or_past (logical_of a old) i 0 (omega (arith, length-area a old)))
        ];
        behind = λ i h. elim (cases_lt i (size_of_area a)) [
          | inl inside ↦ get_or-area a now i inside ∙ elim (cases_lt i (at + length new)) as (λ x. get_or now (place_in p i) 0 ≡ get_or old (place_in p i) 0) [
            | inl here ↦
                let at' : at + (i - at) ≡ i = omega arith in
                let above : 8 * m ≤ place_in p i = let f : place_in p (at + (i - at)) ≡ place_in p i = ap (λ (j : ℕ). place_in p j) at' in let g = k.above (i - at) (omega arith) (omega arith) in omega arith in
                let within = place_inside p i up inside in
                mix.back (place_in p i) above (omega arith)
            | inr past ↦ kept i inside (λ j g e. let same = place_same p (at + j) i up (omega arith) inside e in omega arith)
          ] ∙ sym (get_or-area a old i inside)
          | inr past ↦ get_or_past (logical_of a now) i 0 (omega (arith, length-area a now)) ∙ sym (get_or_past (logical_of a old) i 0 (omega (arith, length-area a old)))
        ];
      },
    )

-- After each prefix of a piece's writes some first bytes of the piece are there: all of them after the last write.
pub area_prefix : (a : Area) (at : ℕ) (new old : List ℕ) (j : ℕ) → length old ≡ STORAGE_BYTES → at + length new ≤ size_of_area a → j ≤ length (writes_of_piece a at new old) →
    (m : ℕ) × (c : ℕ) × Cut (spans_of a) at (length new) (8 * m) c × HasPut at new c (logical_of a old) (logical_of a (after old (take j (writes_of_piece a at new old))))
area_prefix a at new old j size fits h =
    let found = mixed_prefix LINES old (put_in (spans_of a) at new old) j (omega arith) h in
    let piece = mixed_piece a at new old (after old (take j (writes_of_piece a at new old))) found.0 size fits found.2 in
    (found.0, piece.0, piece.1, piece.2)

pub area_whole : (a : Area) (at : ℕ) (new old : List ℕ) → length old ≡ STORAGE_BYTES → at + length new ≤ size_of_area a →
    HasPut at new (length new) (logical_of a old) (logical_of a (after old (writes_of_piece a at new old)))
area_whole a at new old size fits =
    let piece = mixed_piece a at new old (after old (writes_of_piece a at new old)) LINES size fits (mixed_all LINES old (put_in (spans_of a) at new old) (omega arith)) in
    let k = piece.1 in
    let few = k.few in
    let all : piece.0 ≡ length new = elim (cases_lt piece.0 (length new)) [
      | inl less ↦ absurd (omega (arith, k.above piece.0 (omega arith) less, place_inside (spans_of a) (at + piece.0) (ascending a) (omega arith)))
      | inr same ↦ omega arith
    ] in
    subst (λ (c : ℕ). HasPut at new c (logical_of a old) (logical_of a (after old (writes_of_piece a at new old)))) all piece.2

-- where a piece is cut, a line ends
pub ends_with_line : (a : Area) (at n m c : ℕ) → Cut (spans_of a) at n (8 * m) c → EndsWithLine a at n c
ends_with_line a at n m c k = let few = k.few in elim (cases_order c 0) [
  | inl none ↦ inl none
  | inr x ↦ elim x [
    | inl neg ↦ absurd (omega arith)
    | inr some ↦ elim (cases_lt c n) [
      | inl less ↦
          let last : at + (c - 1) ≡ at + c - 1 = omega arith in
          let below : place_of a (at + c - 1) < 8 * m = let e = ap (λ (i : ℕ). place_of a i) last in let g = k.below (c - 1) (omega arith) in omega arith in
          let above = k.above c (omega arith) less in
          inr (inr (some, less, omega arith))
      | inr all ↦ inr (inl (omega arith))
    ]
  ]
]

-- no other area changes
other_area : (a other : Area) (at : ℕ) (new old : List ℕ) (j : ℕ) → a ≢ other → length old ≡ STORAGE_BYTES → at + length new ≤ size_of_area a → j ≤ length (writes_of_piece a at new old) →
    logical_of other (after old (take j (writes_of_piece a at new old))) ≡ logical_of other old
other_area a other at new old j apart size fits h =
    let now = after old (take j (writes_of_piece a at new old)) in
    let found = mixed_prefix LINES old (put_in (spans_of a) at new old) j (omega arith) h in
    ext_get_or 0 (logical_of other now) (logical_of other old) (length-area other now ∙ sym (length-area other old))
    (λ i l.
    let inside : i < size_of_area other = omega (arith, length-area other now) in
    let place = place_inside (spans_of other) i (ascending other) inside in
    get_or-area other now i inside
    ∙ mixed_other (spans_of a) at new old now found.0 (place_of other i) (omega arith) found.2 (λ k g (e : place_of a (at + k) ≡ place_of other i). apart (areas_apart a other (at + k) i (omega arith) inside e).0)
    ∙ sym (get_or-area other old i inside))

pub pieces_in_steps : PiecesInSteps
pieces_in_steps = record {
  each = λ a at new old j size fits h. let found = area_prefix a at new old j size fits h in (found.1, found.2.few, ends_with_line a at (length new) found.0 found.1 found.2, found.3);
  whole = area_whole;
  others = other_area;
}
