-- The lines that a fence's writes touch, and how the writes follow one another.
use Rattle.std.proofs.Common.{◌≡◌, ◌≢◌, ℕ, zero, suc, ◌+◌, ◌-◌, ◌/◌, ◌<◌, ◌≤◌, min, List, [], ◌∷◌, ◌++◌, length, get_or, take, drop, map, refl, ap, sym, ◌∙◌, inl, inr, ◌⊎◌, arith, length-append, append_assoc, lt-ltb, le-ltb}
use Rattle.std.specs.List.{flat_map}
use Rattle.std.proofs.Math.Seq.{drop-cons, take-length}
use Rattle.std.proofs.lemmas.Bool.{cases_lt}
use Rattle.std.proofs.lemmas.List.{take_rest}
use Rattle.std.proofs.lemmas.List.Concat.{flat_map-cons}
use Rattle.std.proofs.lemmas.Grind.{fold-append}
use Rattle.storage_lines.specs.declared.lines.TheConstants.{STORAGE_BYTES}
use Rattle.fence_records.specs.declared.TheConstants.{FENCE_BYTES}
use Rattle.storage_lines.specs.declared.areas.Area.TheVariants.{Fence}
use Rattle.storage_lines.specs.declared.lines.LineWrite.{LineWrite}
use Rattle.storage_lines.specs.Areas.{place_of, put_in, spans_of}
use Rattle.storage_lines.specs.Lines.{after, changes, changes_below, line_change, put_line}
use Rattle.storage_lines.specs.Pieces.{writes_of_piece}
use Rattle.storage_lines.proofs.LineLemmas.{length-after, line_cases, changes_more, no_changes}
use Rattle.storage_lines.proofs.SplitLemmas.{line_untouched, no_lines}
use Rattle.storage_lines.proofs.ApartLemmas.{whole_changes}
use Rattle.fence_records.specs.declared.items.FenceItem.{FenceItem}
use Rattle.fence_records.specs.Fence.{point_bytes, fence_version}
use Rattle.fence_records.specs.Lists.{point}
use Rattle.fence_records.specs.Write.{without_fence, with_records, with_fence, fence_writes}
use Rattle.fence_records.proofs.Steps.{length-cleared, length-behind, first_place}

-- one line more has at most one write more
few_step : (n : ℕ) (a c : List ℕ) → length (changes_below (n + 1) a c) ≤ length (changes_below n a c) + 1
few_step n a c =
    let e : length (changes_below (n + 1) a c) ≡ length (changes_below n a c) + length (line_change n a c) = ap length (changes_more n a c) ∙ length-append (changes_below n a c) (line_change n a c) in
    elim (line_cases n a c) [
      | inl same ↦ let f : length (line_change n a c) ≡ 0 = ap length same.1 in omega (arith, e, f)
      | inr other ↦ let f : length (line_change n a c) ≡ 1 = ap length other.1 in omega (arith, e, f)
    ]

few_more : (m k : ℕ) (a c : List ℕ) → length (changes_below (m + k) a c) ≤ length (changes_below m a c) + k
few_more m zero a c =
    let e : m + zero ≡ m = omega arith in
    let f : length (changes_below (m + zero) a c) ≡ length (changes_below m a c) = ap (λ n. length (changes_below n a c)) e in
    omega (arith, f)
few_more m (suc k) a c =
    let e : m + suc k ≡ (m + k) + 1 = omega arith in
    let f : length (changes_below (m + suc k) a c) ≡ length (changes_below ((m + k) + 1) a c) = ap (λ n. length (changes_below n a c)) e in
    let g = few_step (m + k) a c in
    let h = few_more m k a c in
    omega (arith, f, g, h)

second_place : (i : ℕ) → 160 ≤ i → i < FENCE_BYTES → place_of Fence i ≡ 5676 + (i - 160)
second_place i low high = rw (le-ltb i 160 low, lt-ltb i 416 high) refl

-- a place of the fence lies in lines 492 to 511 or 709 to 741
place_lines : (i : ℕ) → i < FENCE_BYTES → ((492 ≤ place_of Fence i / 8) × (place_of Fence i / 8 ≤ 511)) ⊎ ((709 ≤ place_of Fence i / 8) × (place_of Fence i / 8 ≤ 741))
place_lines i h = elim (cases_lt i 160) [
  | inl low ↦ let e = first_place i low in inl (omega (arith, e, low), omega (arith, e, low))
  | inr high ↦ let e = second_place i high h in inr (omega (arith, e, high, h), omega (arith, e, high, h))
]

apart_lines : (at : ℕ) (xs b : List ℕ) (m k : ℕ) → length b ≡ STORAGE_BYTES → m + k ≤ 1920 → ((n : ℕ) (i : ℕ) → m ≤ n → n < m + k → i < length xs → place_of Fence (at + i) / 8 ≢ n)
    → changes_below (m + k) b (put_in (spans_of Fence) at xs b) ≡ changes_below m b (put_in (spans_of Fence) at xs b)
apart_lines at xs b m k size fits apart = no_changes m k b (put_in (spans_of Fence) at xs b) (λ n h g. line_untouched (spans_of Fence) at xs b n (omega (arith, size, fits, g)) (λ i less. apart n i h g less))

-- a piece of the first eight bytes has one write at most
pub few_head : (xs b : List ℕ) → length b ≡ STORAGE_BYTES → length xs ≤ 8 → length (writes_of_piece Fence 0 xs b) ≤ 1
few_head xs b size few =
    let now = put_in (spans_of Fence) 0 xs b in
    let place : (i : ℕ) → i < length xs → place_of Fence (0 + i) ≡ 3936 + (0 + i) = λ i less. first_place (0 + i) (omega (arith, less, few)) in
    let low : changes_below (0 + 492) b now ≡ changes_below 0 b now = apart_lines 0 xs b 0 492 size (omega arith) (λ n i h g less e. omega (arith, place i less, e, g)) in
    let high : changes_below (493 + 1427) b now ≡ changes_below 493 b now = apart_lines 0 xs b 493 1427 size (omega arith) (λ n i h g less e. omega (arith, place i less, e, h, few, less)) in
    let one : length (changes_below (492 + 1) b now) ≤ length (changes_below 492 b now) + 1 = few_step 492 b now in
    let none : length (changes_below 0 b now) ≡ 0 = ap length (no_lines b now) in
    let e1 : length (changes_below 492 b now) ≡ length (changes_below 0 b now) = ap length low in
    let e2 : length (changes_below 1920 b now) ≡ length (changes_below 493 b now) = ap length high in
    omega (arith, one, none, e1, e2)

-- the others have 53 lines
pub few_others : (xs b : List ℕ) → length b ≡ STORAGE_BYTES → 8 + length xs ≤ FENCE_BYTES → length (writes_of_piece Fence 8 xs b) ≤ 53
few_others xs b size few =
    let now = put_in (spans_of Fence) 8 xs b in
    let place : (i : ℕ) → i < length xs → ((492 ≤ place_of Fence (8 + i) / 8) × (place_of Fence (8 + i) / 8 ≤ 511)) ⊎ ((709 ≤ place_of Fence (8 + i) / 8) × (place_of Fence (8 + i) / 8 ≤ 741)) = λ i less. place_lines (8 + i) (omega (arith, less, few)) in
    let below : changes_below (0 + 492) b now ≡ changes_below 0 b now = apart_lines 8 xs b 0 492 size (omega arith) (λ n i h g less e. elim (place i less) [ inl p ↦ omega (arith, p.0, e, g) | inr p ↦ omega (arith, p.0, e, g) ]) in
    let middle : changes_below (512 + 197) b now ≡ changes_below 512 b now = apart_lines 8 xs b 512 197 size (omega arith) (λ n i h g less e. elim (place i less) [ inl p ↦ omega (arith, p.1, e, h) | inr p ↦ omega (arith, p.0, e, g) ]) in
    let above : changes_below (742 + 1178) b now ≡ changes_below 742 b now = apart_lines 8 xs b 742 1178 size (omega arith) (λ n i h g less e. elim (place i less) [ inl p ↦ omega (arith, p.1, e, h) | inr p ↦ omega (arith, p.1, e, h) ]) in
    let first : length (changes_below (492 + 20) b now) ≤ length (changes_below 492 b now) + 20 = few_more 492 20 b now in
    let second : length (changes_below (709 + 33) b now) ≤ length (changes_below 709 b now) + 33 = few_more 709 33 b now in
    let none : length (changes_below 0 b now) ≡ 0 = ap length (no_lines b now) in
    let e1 : length (changes_below 492 b now) ≡ length (changes_below 0 b now) = ap length below in
    let e2 : length (changes_below 709 b now) ≡ length (changes_below 512 b now) = ap length middle in
    let e3 : length (changes_below 1920 b now) ≡ length (changes_below 742 b now) = ap length above in
    omega (arith, first, second, none, e1, e2, e3)

drop_past : (k : ℕ) (xs : List ℕ) → length xs ≤ k → drop k xs ≡ []
drop_past zero [] h = refl
drop_past zero (x ∷ xs) h = absurd (omega (arith, h))
drop_past (suc k) [] h = refl
drop_past (suc k) (x ∷ xs) h = drop_past k xs (omega (arith, h))

take_past : (k : ℕ) (xs : List ℕ) → length xs ≤ k → take k xs ≡ xs
take_past zero [] h = refl
take_past zero (x ∷ xs) h = absurd (omega (arith, h))
take_past (suc k) [] h = refl
take_past (suc k) (x ∷ xs) h = ap (λ t. x ∷ t) (take_past k xs (omega (arith, h)))

-- the first eight bytes, or all where they are fewer
pub at_eight : (new : List ℕ) (head : ℕ) → (head ≡ 8) ⊎ ((head ≡ length new) × (length new ≤ 8)) → (take (length new - head) (drop head new) ≡ drop 8 new) × (take head new ≡ take 8 new)
at_eight new head (inl e) = (take_rest new head ∙ ap (λ k. drop k new) e, ap (λ k. take k new) e)
at_eight new head (inr h) =
    let all : drop head new ≡ [] = drop_past head new (omega (arith, h.0)) in
    let none : drop 8 new ≡ [] = drop_past 8 new h.1 in
    (take_rest new head ∙ (all ∙ sym none), ap (λ k. take k new) h.0 ∙ (take-length new ∙ sym (take_past 8 new h.1)))

pub head_cases : (n head : ℕ) → head ≡ min n 8 → (head ≡ 8) ⊎ ((head ≡ n) × (n ≤ 8))
head_cases n head e = elim (cases_lt 8 n) [
  | inl more ↦ inl (omega (arith, e, more))
  | inr few ↦ inr (omega (arith, e, few), few)
]

-- clearing gives one write at most
pub few_first : (b : List ℕ) (none first : List LineWrite) → length b ≡ STORAGE_BYTES → none ≡ [] → first ≡ none ++ writes_of_piece Fence 0 (fence_version ++ 99 ∷ []) (after b none) → length first ≤ 1
few_first b none first size e f =
    let long : length (after b none) ≡ STORAGE_BYTES = length-after b none ∙ size in
    let few = few_head (fence_version ++ 99 ∷ []) (after b none) long (omega arith) in
    let zero_length : length none ≡ 0 = ap length e in
    let both : length first ≡ length none + length (writes_of_piece Fence 0 (fence_version ++ 99 ∷ []) (after b none)) = ap length f ∙ length-append none (writes_of_piece Fence 0 (fence_version ++ 99 ∷ []) (after b none)) in
    omega (arith, few, zero_length, both)

-- the three steps are the writes
pub steps_follow : (b new : List ℕ) (none first second third : List LineWrite) (tail head : List ℕ) → length b ≡ STORAGE_BYTES → none ≡ [] → tail ≡ drop 8 new → head ≡ take 8 new
    → first ≡ none ++ writes_of_piece Fence 0 (fence_version ++ 99 ∷ []) (after b none)
    → second ≡ first ++ writes_of_piece Fence 8 tail (after b first)
    → third ≡ second ++ writes_of_piece Fence 0 head (after b second)
    → (after b first ≡ without_fence b) × (first ≡ changes b (without_fence b)) × (after b second ≡ with_records new b) × (second ≡ changes b (without_fence b) ++ changes (without_fence b) (with_records new b)) × (third ≡ fence_writes new b)
steps_follow b new none first second third tail head size e0 et eh f1 f2 f3 =
    let xs = changes b (without_fence b) in
    let ys = changes (without_fence b) (with_records new b) in
    let zs = changes (with_records new b) (with_fence new b) in
    let s1 : length (without_fence b) ≡ STORAGE_BYTES = length-cleared b ∙ size in
    let s2 : length (with_records new b) ≡ STORAGE_BYTES = length-behind new b ∙ size in
    let a1 : after b xs ≡ without_fence b = whole_changes b (without_fence b) size s1 in
    let a2 : after (without_fence b) ys ≡ with_records new b = whole_changes (without_fence b) (with_records new b) s1 s2 in
    let g1 : first ≡ xs = f1 ∙ ap (λ t. t ++ writes_of_piece Fence 0 (fence_version ++ 99 ∷ []) (after b t)) e0 in
    let h1 : after b first ≡ without_fence b = ap (after b) g1 ∙ a1 in
    let g2 : second ≡ xs ++ ys = f2 ∙ (ap (λ t. first ++ writes_of_piece Fence 8 t (after b first)) et ∙ (ap (λ t. first ++ writes_of_piece Fence 8 (drop 8 new) t) h1 ∙ ap (λ t. t ++ ys) g1)) in
    let h2 : after b second ≡ with_records new b = ap (after b) g2 ∙ (fold-append put_line b xs ys ∙ (ap (λ t. after t ys) a1 ∙ a2)) in
    let g3 : third ≡ xs ++ (ys ++ zs) = f3 ∙ (ap (λ t. second ++ writes_of_piece Fence 0 t (after b second)) eh ∙ (ap (λ t. second ++ writes_of_piece Fence 0 (take 8 new) t) h2 ∙ (ap (λ t. t ++ zs) g2 ∙ append_assoc xs ys zs))) in
    (h1, g1, h2, g2, g3)

-- one more place is appended
pub push_next : (d : FenceItem) (items : List FenceItem) (turn : ℕ) (xs ys : List ℕ) → turn < length items → ys ≡ xs ++ point_bytes (point (get_or items turn d))
    → ys ++ flat_map point_bytes (map point (drop (turn + 1) items)) ≡ xs ++ flat_map point_bytes (map point (drop turn items))
push_next d items turn xs ys less e =
    let next : turn + 1 ≡ suc turn = omega arith in
    let split : drop turn items ≡ get_or items turn d ∷ drop (turn + 1) items = drop-cons items turn d less ∙ ap (λ k. get_or items turn d ∷ drop k items) (sym next) in
    let rest = flat_map point_bytes (map point (drop (turn + 1) items)) in
    ap (λ t. t ++ rest) e ∙ (append_assoc xs (point_bytes (point (get_or items turn d))) rest
    ∙ ap (λ t. xs ++ t) (sym (flat_map-cons point_bytes (point (get_or items turn d)) (map point (drop (turn + 1) items))) ∙ ap (λ t. flat_map point_bytes (map point t)) (sym split)))

pub push_done : (items : List FenceItem) (turn : ℕ) (xs : List ℕ) → length items ≤ turn → xs ++ flat_map point_bytes (map point (drop turn items)) ≡ xs
push_done items turn xs h = ap (λ t. xs ++ flat_map point_bytes (map point t)) (none turn items h) ∙ nothing xs
  where
    none : (k : ℕ) (is : List FenceItem) → length is ≤ k → drop k is ≡ []
    none zero [] h = refl
    none zero (i ∷ is) h = absurd (omega (arith, h))
    none (suc k) [] h = refl
    none (suc k) (i ∷ is) h = none k is (omega (arith, h))

    nothing : (xs : List ℕ) → xs ++ [] ≡ xs
    nothing [] = refl
    nothing (x ∷ xs) = ap (λ t. x ∷ t) (nothing xs)
