-- The fence after any number of its writes.
use Rattle.std.proofs.Common.{◌≡◌, ℕ, zero, suc, ◌+◌, ◌-◌, ◌*◌, ◌<◌, ◌≤◌, lt-ltb, List, [], ◌∷◌, ◌++◌, length, get_or, take, drop, refl, ap, sym, ◌∙◌, subst, inl, inr, ◌⊎◌, arith, length-append, append_assoc}
use Rattle.std.specs.Prelude.{All}
use Rattle.std.specs.List.{flat_map}
use Rattle.std.proofs.Math.Seq.{take-append-add, take-length}
use Rattle.std.proofs.lemmas.Bool.{cases_lt}
use Rattle.std.proofs.lemmas.List.{ext_get_or, get_or-take, get_or-drop, take-append-drop, take-append-le}
use Rattle.std.proofs.lemmas.Grind.{common_steps, fold-append}
use Rattle.storage_lines.specs.declared.lines.TheConstants.{STORAGE_BYTES}
use Rattle.fence_records.specs.declared.TheConstants.{FENCE_BYTES}
use Rattle.storage_lines.specs.declared.areas.Area.TheVariants.{Fence}
use Rattle.storage_lines.specs.declared.lines.LineWrite.{LineWrite}
use Rattle.storage_lines.specs.Areas.{place_of, place_in, put_in, IsAscending, spans_of}
use Rattle.storage_lines.specs.Lines.{after, changes, put_line, line_change}
use Rattle.storage_lines.specs.Laws.{UpToLine}
use Rattle.storage_lines.proofs.Listed.{length-listed, get_or-listed}
use Rattle.storage_lines.proofs.AreaLemmas.{length-put_in, put_in-at, put_in-other, place_rises, place_inside}
use Rattle.storage_lines.proofs.LineLemmas.{line_cases, changes_more}
use Rattle.storage_lines.proofs.SplitLemmas.{changes_before, changes_behind}
use Rattle.storage_lines.proofs.ApartLemmas.{whole_changes, each_change}
use Rattle.fence_records.specs.Fence.{Figure, IsFigure, IsFence, record_of, items_of, fence_version}
use Rattle.fence_records.specs.Write.{fence_area, encoded, without_fence, with_records, with_fence, fence_writes}
use Rattle.fence_records.proofs.Figures.{no_record}

-- encoded figures, whatever follows, are a fence of their items
pub fence_of_encoded : (area rest : List ℕ) (figures : List Figure) → area ≡ encoded figures ++ rest → All IsFigure figures → IsFence area (flat_map items_of figures)
fence_of_encoded area rest figures e right =
    let P : List ℕ → Type 0 = λ a. IsFence a (flat_map items_of figures) in
    subst P (sym e) (record {
      figures = figures;
      rest = 99 ∷ rest;
      right = right;
      bytes_are = append_assoc (flat_map record_of figures) (99 ∷ []) rest;
      ends = no_record (99 ∷ rest) (λ h. absurd (omega (arith, h))) (λ h. absurd (omega (arith, h))) (λ h. absurd (omega (arith, h)));
      items_are = refl;
    })

-- the area's first bytes
abbrev pub Begins : List ℕ → List ℕ → Type 0
Begins b xs = (i : ℕ) → i < length xs → get_or b (place_of Fence i) 0 ≡ get_or xs i 0

pub length-area : (b : List ℕ) → length (fence_area b) ≡ FENCE_BYTES
length-area b = length-listed FENCE_BYTES (λ i. get_or b (place_of Fence i) 0)

pub get_or-area : (b : List ℕ) (i : ℕ) → i < FENCE_BYTES → get_or (fence_area b) i 0 ≡ get_or b (place_of Fence i) 0
get_or-area b i h = get_or-listed FENCE_BYTES (λ k. get_or b (place_of Fence k) 0) i 0 h

pub area_begins : (b xs : List ℕ) → length xs ≤ FENCE_BYTES → Begins b xs → fence_area b ≡ xs ++ drop (length xs) (fence_area b)
area_begins b xs few h =
    let area = length-area b in
    let size : length (take (length xs) (fence_area b)) ≡ length xs = length-first (length xs) (fence_area b) (omega arith) in
    let front : take (length xs) (fence_area b) ≡ xs = ext_get_or 0 (take (length xs) (fence_area b)) xs size
    (λ i less. let below : i < length xs = omega arith in get_or-take (length xs) (fence_area b) i 0 below ∙ (get_or-area b i (omega arith) ∙ h i below)) in
    sym (take-append-drop (length xs) (fence_area b)) ∙ ap (λ t. t ++ drop (length xs) (fence_area b)) front
  where
    length-first : (n : ℕ) (xs : List ℕ) → n ≤ length xs → length (take n xs) ≡ n
    length-first n xs h = grind (arith, common_steps)

begins_fence : (b : List ℕ) (figures : List Figure) → length (encoded figures) ≤ FENCE_BYTES → All IsFigure figures → Begins b (encoded figures) → IsFence (fence_area b) (flat_map items_of figures)
begins_fence b figures few right h = fence_of_encoded (fence_area b) (drop (length (encoded figures)) (fence_area b)) figures (area_begins b (encoded figures) few h) right

no_figures : All IsFigure []
no_figures k d h = absurd (omega arith)

begins_empty : (b : List ℕ) → Begins b (fence_version ++ 99 ∷ []) → IsFence (fence_area b) []
begins_empty b h = begins_fence b [] (omega arith) no_figures h

same_area : (a b : List ℕ) → ((i : ℕ) → i < FENCE_BYTES → get_or a (place_of Fence i) 0 ≡ get_or b (place_of Fence i) 0) → fence_area a ≡ fence_area b
same_area a b h = ext_get_or 0 (fence_area a) (fence_area b) (length-area a ∙ sym (length-area b))
    (λ i less. let below : i < FENCE_BYTES = omega (arith, length-area a, length-area b) in get_or-area a i below ∙ (h i below ∙ sym (get_or-area b i below)))

rising : IsAscending (spans_of Fence)
rising = record { first = omega arith; second = omega arith; third = omega arith }

pub first_place : (i : ℕ) → i < 160 → place_of Fence i ≡ 3936 + i
first_place i h = rw (lt-ltb i 160 h) refl

-- a byte of another place is kept
kept_byte : (at : ℕ) (xs b : List ℕ) (k : ℕ) → at + length xs ≤ FENCE_BYTES → k < FENCE_BYTES → (k < at) ⊎ (at + length xs ≤ k) → get_or (put_in (spans_of Fence) at xs b) (place_of Fence k) 0 ≡ get_or b (place_of Fence k) 0
kept_byte at xs b k few less out = put_in-other (spans_of Fence) at xs b (place_of Fence k) 0 (λ i h e. elim out [
  | inl below ↦ let rise = place_rises (spans_of Fence) k (at + i) rising (omega arith) (omega arith) in omega (arith, rise)
  | inr above ↦ let rise = place_rises (spans_of Fence) (at + i) k rising (omega arith) (omega arith) in omega (arith, rise)
])

put_byte : (at : ℕ) (xs b : List ℕ) (i : ℕ) → length b ≡ STORAGE_BYTES → at + length xs ≤ FENCE_BYTES → i < length xs → get_or (put_in (spans_of Fence) at xs b) (place_of Fence (at + i)) 0 ≡ get_or xs i 0
put_byte at xs b i size few h = put_in-at (spans_of Fence) at xs b i 0 rising size few h

pub length-cleared : (b : List ℕ) → length (without_fence b) ≡ length b
length-cleared b = length-put_in (spans_of Fence) 0 (fence_version ++ 99 ∷ []) b

pub length-behind : (new b : List ℕ) → length (with_records new b) ≡ length b
length-behind new b = length-put_in (spans_of Fence) 8 (drop 8 new) (without_fence b) ∙ length-cleared b

pub length-written : (new b : List ℕ) → length (with_fence new b) ≡ length b
length-written new b = length-put_in (spans_of Fence) 0 (take 8 new) (with_records new b) ∙ length-behind new b

-- the bytes after a part of the writes are up to a line of one of the three steps
pub data Step (b new now : List ℕ) : Type 0 where
  clearing : (border : ℕ) → UpToLine border b (without_fence b) now → Step b new now
  filling : (border : ℕ) → UpToLine border (without_fence b) (with_records new b) now → Step b new now
  closing : (border : ℕ) → UpToLine border (with_records new b) (with_fence new b) now → Step b new now

take_two : (j : ℕ) (xs ys : List LineWrite) (b : List ℕ) → ((j ≤ length xs) × (after b (take j (xs ++ ys)) ≡ after b (take j xs))) ⊎ (after b (take j (xs ++ ys)) ≡ after (after b xs) (take (j - length xs) ys))
take_two j xs ys b = elim (cases_lt (length xs) j) [
  | inl above ↦ inr (ap (after b) (take_past j xs ys (omega arith)) ∙ fold-append put_line b xs (take (j - length xs) ys))
  | inr below ↦ inl (omega arith, ap (after b) (take-append-le j xs ys (omega arith)))
]
  where
    take_past : (j : ℕ) (xs ys : List LineWrite) → length xs ≤ j → take j (xs ++ ys) ≡ xs ++ take (j - length xs) ys
    take_past j xs ys h = let e : j ≡ length xs + (j - length xs) = omega arith in ap (λ k. take k (xs ++ ys)) e ∙ take-append-add xs ys (j - length xs)

pub step_of : (b new : List ℕ) (j : ℕ) → length b ≡ STORAGE_BYTES → j ≤ length (fence_writes new b) → Step b new (after b (take j (fence_writes new b)))
step_of b new j size few =
    let xs = changes b (without_fence b) in
    let ys = changes (without_fence b) (with_records new b) in
    let zs = changes (with_records new b) (with_fence new b) in
    let s1 : length (without_fence b) ≡ STORAGE_BYTES = length-cleared b ∙ size in
    let s2 : length (with_records new b) ≡ STORAGE_BYTES = length-behind new b ∙ size in
    let e1 : after b (changes b (without_fence b)) ≡ without_fence b = whole_changes b (without_fence b) size s1 in
    let e2 : after (without_fence b) (changes (without_fence b) (with_records new b)) ≡ with_records new b = whole_changes (without_fence b) (with_records new b) s1 s2 in
    let all : j ≤ length xs + (length ys + length zs) = omega (arith, length-append xs (ys ++ zs), length-append ys zs, few) in
    elim (take_two j xs (ys ++ zs) b) [
      | inl w ↦ let m = each_change b (without_fence b) j size w.0 in clearing m.0 (subst (UpToLine m.0 b (without_fence b)) (sym w.1) m.1)
      | inr w ↦
          let here : after b (take j (fence_writes new b)) ≡ after (without_fence b) (take (j - length xs) (ys ++ zs)) = w ∙ ap (λ t. after t (take (j - length xs) (ys ++ zs))) e1 in
          elim (take_two (j - length xs) ys zs (without_fence b)) [
            | inl v ↦ let m = each_change (without_fence b) (with_records new b) (j - length xs) s1 v.0 in filling m.0 (subst (UpToLine m.0 (without_fence b) (with_records new b)) (sym (here ∙ v.1)) m.1)
            | inr v ↦
                let there : after b (take j (fence_writes new b)) ≡ after (with_records new b) (take (j - length xs - length ys) zs) = here ∙ (v ∙ ap (λ t. after t (take (j - length xs - length ys) zs)) e2) in
                let m = each_change (with_records new b) (with_fence new b) (j - length xs - length ys) s2 (omega arith) in
                closing m.0 (subst (UpToLine m.0 (with_records new b) (with_fence new b)) (sym there) m.1)
          ]
    ]

place_low : (i : ℕ) → i < FENCE_BYTES → 3936 ≤ place_of Fence i
place_low zero h = omega (arith, first_place 0 (omega arith))
place_low (suc i) h = let rise = place_rises (spans_of Fence) 0 (suc i) rising (omega arith) h in omega (arith, rise, first_place 0 (omega arith))

put_first : (xs b : List ℕ) (i : ℕ) → length b ≡ STORAGE_BYTES → length xs ≤ FENCE_BYTES → i < length xs → get_or (put_in (spans_of Fence) 0 xs b) (place_of Fence i) 0 ≡ get_or xs i 0
put_first xs b i size few h =
    let e : i ≡ 0 + i = omega arith in
    ap (λ k. get_or (put_in (spans_of Fence) 0 xs b) (place_of Fence k) 0) e ∙ put_byte 0 xs b i size (omega arith) h

-- clearing has with_fence the first line or nothing
pub clearing_begins : (border : ℕ) (b now : List ℕ) → length b ≡ STORAGE_BYTES → UpToLine border b (without_fence b) now → (fence_area b ≡ fence_area now) ⊎ Begins now (fence_version ++ 99 ∷ [])
clearing_begins border b now size m = elim (cases_lt 492 border) [
  | inl above ↦ inr (λ i less.
      let place = first_place i (omega arith) in
      m.front (place_of Fence i) (omega (arith, place)) (omega (arith, place)) ∙ put_first (fence_version ++ 99 ∷ []) b i size (omega arith) less)
  | inr below ↦ inl (same_area b now (λ i less.
      let low = place_low i less in
      let inside = place_inside (spans_of Fence) i rising less in
      sym (m.back (place_of Fence i) (omega (arith, low)) (omega (arith, inside)))))
]

pub cleared_head : (b : List ℕ) → length b ≡ STORAGE_BYTES → Begins (without_fence b) (fence_version ++ 99 ∷ [])
cleared_head b size i less = put_first (fence_version ++ 99 ∷ []) b i size (omega arith) less

behind_head : (new b : List ℕ) → length b ≡ STORAGE_BYTES → length new ≤ FENCE_BYTES → Begins (with_records new b) (fence_version ++ 99 ∷ [])
behind_head new b size few i less =
    let rest : 8 + length (drop 8 new) ≤ FENCE_BYTES = grind (arith, common_steps) in
    kept_byte 8 (drop 8 new) (without_fence b) i rest (omega arith) (inl (omega arith)) ∙ cleared_head b size i less

on_filling : (border : ℕ) (new b now : List ℕ) → length b ≡ STORAGE_BYTES → length new ≤ FENCE_BYTES → UpToLine border (without_fence b) (with_records new b) now → Begins now (fence_version ++ 99 ∷ [])
on_filling border new b now size few m i less =
    let inside = place_inside (spans_of Fence) i rising (omega arith) in
    let long = length-cleared b in
    elim (cases_lt (place_of Fence i) (8 * border)) [
      | inl front ↦ m.front (place_of Fence i) front (omega (arith, inside, long)) ∙ behind_head new b size few i less
      | inr back ↦ m.back (place_of Fence i) (omega (arith, back)) (omega (arith, inside, long)) ∙ cleared_head b size i less
    ]

behind_rest : (new b : List ℕ) (i : ℕ) → length b ≡ STORAGE_BYTES → length new ≤ FENCE_BYTES → 8 ≤ i → i < length new → get_or (with_records new b) (place_of Fence i) 0 ≡ get_or new i 0
behind_rest new b i size few high less =
    let e : i ≡ 8 + (i - 8) = omega arith in
    let rest : 8 + length (drop 8 new) ≤ FENCE_BYTES = grind (arith, common_steps) in
    let below : i - 8 < length (drop 8 new) = grind (arith, common_steps) in
    let s1 : length (without_fence b) ≡ STORAGE_BYTES = length-cleared b ∙ size in
    ap (λ k. get_or (with_records new b) (place_of Fence k) 0) e ∙ (put_byte 8 (drop 8 new) (without_fence b) (i - 8) s1 rest below ∙ (get_or-drop 8 new (i - 8) 0 ∙ ap (λ k. get_or new k 0) (sym e)))

length-front : (new : List ℕ) → length (take 8 new) ≤ 8
length-front new = grind (arith, common_steps)

-- once the first line of the last step is with_fence
closed_head : (border : ℕ) (new b now : List ℕ) → 492 < border → length b ≡ STORAGE_BYTES → length new ≤ FENCE_BYTES → UpToLine border (with_records new b) (with_fence new b) now → Begins now new
closed_head border new b now above size few m i less =
    let long = length-behind new b in
    let s2 : length (with_records new b) ≡ STORAGE_BYTES = length-behind new b ∙ size in
    let eight = length-front new in
    let inside = place_inside (spans_of Fence) i rising (omega arith) in
    elim (cases_lt i 8) [
      | inl low ↦
          let place = first_place i (omega arith) in
          let short : i < length (take 8 new) = grind (arith, common_steps) in
          m.front (place_of Fence i) (omega (arith, place)) (omega (arith, inside, long)) ∙ (put_first (take 8 new) (with_records new b) i s2 (omega (arith, eight)) short ∙ get_or-take 8 new i 0 low)
      | inr high ↦ elim (cases_lt (place_of Fence i) (8 * border)) [
        | inl front ↦ m.front (place_of Fence i) front (omega (arith, inside, long)) ∙ (kept_byte 0 (take 8 new) (with_records new b) i (omega (arith, eight)) (omega arith) (inr (omega (arith, eight))) ∙ behind_rest new b i size few (omega arith) less)
        | inr back ↦ m.back (place_of Fence i) (omega (arith, back)) (omega (arith, inside, long)) ∙ behind_rest new b i size few (omega arith) less
      ]
    ]

on_closing : (border : ℕ) (new b now : List ℕ) → length b ≡ STORAGE_BYTES → length new ≤ FENCE_BYTES → UpToLine border (with_records new b) (with_fence new b) now → Begins now (fence_version ++ 99 ∷ []) ⊎ Begins now new
on_closing border new b now size few m =
    let long = length-behind new b in
    elim (cases_lt 492 border) [
      | inl above ↦ inr (closed_head border new b now above size few m)
      | inr below ↦ inl (λ i less.
          let low = place_low i (omega arith) in
          let inside = place_inside (spans_of Fence) i rising (omega arith) in
          m.back (place_of Fence i) (omega (arith, low)) (omega (arith, inside, long)) ∙ behind_head new b size few i less)
    ]

-- after each number of the writes the area is the old one, or begins with an end, or with the new bytes
pub step_begins : (b new now : List ℕ) → length b ≡ STORAGE_BYTES → length new ≤ FENCE_BYTES → Step b new now → (fence_area b ≡ fence_area now) ⊎ (Begins now (fence_version ++ 99 ∷ []) ⊎ Begins now new)
step_begins b new now size few (clearing border m) = elim (clearing_begins border b now size m) [ inl h ↦ inl h | inr h ↦ inr (inl h) ]
step_begins b new now size few (filling border m) = inr (inl (on_filling border new b now size few m))
step_begins b new now size few (closing border m) = inr (on_closing border new b now size few m)

-- all of the writes
pub whole_writes : (b new : List ℕ) → length b ≡ STORAGE_BYTES → after b (fence_writes new b) ≡ with_fence new b
whole_writes b new size =
    let xs = changes b (without_fence b) in
    let ys = changes (without_fence b) (with_records new b) in
    let zs = changes (with_records new b) (with_fence new b) in
    let s1 : length (without_fence b) ≡ STORAGE_BYTES = length-cleared b ∙ size in
    let s2 : length (with_records new b) ≡ STORAGE_BYTES = length-behind new b ∙ size in
    let s3 : length (with_fence new b) ≡ STORAGE_BYTES = length-written new b ∙ size in
    let e1 : after b xs ≡ without_fence b = whole_changes b (without_fence b) size s1 in
    let e2 : after (without_fence b) ys ≡ with_records new b = whole_changes (without_fence b) (with_records new b) s1 s2 in
    let e3 : after (with_records new b) zs ≡ with_fence new b = whole_changes (with_records new b) (with_fence new b) s2 s3 in
    fold-append put_line b xs (ys ++ zs) ∙ (ap (λ t. after t (ys ++ zs)) e1 ∙ (fold-append put_line (without_fence b) ys zs ∙ (ap (λ t. after t zs) e2 ∙ e3)))

pub written_begins : (b new : List ℕ) → length b ≡ STORAGE_BYTES → length new ≤ FENCE_BYTES → Begins (with_fence new b) new
written_begins b new size few = closed_head 1920 new b (with_fence new b) (omega arith) size few (record {
  size = length-written new b ∙ sym (length-behind new b);
  front = λ k h g. refl;
  back = λ k h g. absurd (omega (arith, h, g, length-behind new b, size));
})

-- the area that is read
pub area_read : (area b : List ℕ) → area ≡ take FENCE_BYTES (drop 0 (fence_area b)) → area ≡ fence_area b
area_read area b h = h ∙ (ap (λ k. take k (fence_area b)) (sym (length-area b)) ∙ take-length (fence_area b))

-- the first line alone changes
pub one_line : (b : List ℕ) → length b ≡ STORAGE_BYTES → length (changes b (without_fence b)) ≤ 1
one_line b size =
    let place : place_in (spans_of Fence) 0 ≡ 3936 = first_place 0 (omega arith) in
    let last : place_in (spans_of Fence) 4 ≡ 3940 = first_place 4 (omega arith) in
    let before = changes_before (spans_of Fence) 0 (fence_version ++ 99 ∷ []) b 492 rising size (omega arith) (omega arith) refl in
    let behind = changes_behind (spans_of Fence) 0 (fence_version ++ 99 ∷ []) b 492 rising size (omega arith) (omega arith) refl in
    let all : changes b (without_fence b) ≡ line_change 492 b (without_fence b) = behind ∙ (changes_more 492 b (without_fence b) ∙ ap (λ t. t ++ line_change 492 b (without_fence b)) before) in
    elim (line_cases 492 b (without_fence b)) [
      | inl same ↦ let e : length (changes b (without_fence b)) ≡ 0 = ap length all ∙ ap length same.1 in omega arith
      | inr other ↦ let e : length (changes b (without_fence b)) ≡ 1 = ap length all ∙ ap length other.1 in omega arith
    ]
