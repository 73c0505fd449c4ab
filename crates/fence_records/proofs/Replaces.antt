-- The fence after each number of its writes, as a list of items.
use Rattle.std.proofs.Common.{◌≡◌, ℕ, zero, suc, ◌+◌, ◌≤◌, Bool, true, false, nat_lt, List, [], ◌∷◌, ◌++◌, length, take, drop, map, refl, ap, sym, ◌∙◌, inl, inr, arith, length-append, append_assoc, Option, Some, None, ltb-false, if◌then◌else◌}
use Rattle.std.specs.Prelude.{◌⊎◌, Result, Ok, Err, count_by}
use Rattle.std.specs.List.{flat_map}
use Rattle.std.specs.Str.{bytes_eq}
use Rattle.std.specs.Result.{result_unwrap_or}
use Rattle.std.proofs.Math.Seq.{take-length}
use Rattle.std.proofs.lemmas.Bool.{cases_lt}
use Rattle.std.proofs.lemmas.List.Concat.{flat_map-cons}
use Rattle.storage_lines.specs.declared.lines.TheConstants.{STORAGE_BYTES}
use Rattle.fence_records.specs.declared.TheConstants.{FENCE_BYTES}
use Rattle.storage_lines.specs.declared.lines.LineWrite.{LineWrite}
use Rattle.storage_lines.specs.Lines.{after}
use Rattle.storage_lines.proofs.ApartLemmas.{whole_changes, each_change}
use Rattle.fence_records.specs.declared.items.FenceItem.{FenceItem}
use Rattle.fence_records.specs.Fence.{Figure, Polygon, Round, ReturnPoint, record_of, items_of, fence_version}
use Rattle.fence_records.specs.Write.{fence_area, encoded, without_fence, with_fence, fence_writes}
use Rattle.fence_records.specs.Lists.{fence_of, figures_in, figures_of, figure_writes, replace_writes, clear_fence_writes, is_return_point, FencesAreReplaced, FencesInSteps}
use Rattle.fence_records.proofs.Steps.{Begins, area_begins, clearing_begins, cleared_head, length-cleared, step_of, step_begins, whole_writes, written_begins}
use Rattle.fence_records.proofs.Rereads.{reread, figures_back, no_figure, kept_figures}
use Rattle.fence_records.proofs.Cutting.{figures_hold}

few_figures : (fs : List Figure) → length fs ≤ length (flat_map record_of fs)
few_figures [] = omega arith
few_figures (f ∷ fs) =
    let rest : length fs ≤ length (flat_map record_of fs) = few_figures fs in
    let e : length (flat_map record_of (f ∷ fs)) ≡ length (record_of f) + length (flat_map record_of fs) = ap length (flat_map-cons record_of f fs) ∙ length-append (record_of f) (flat_map record_of fs) in
    let one : 1 ≤ length (record_of f) = some_record f in
    let whole : suc (length fs) ≤ length (flat_map record_of (f ∷ fs)) = omega (arith, rest, e, one) in
    whole
  where
    some_record : (f : Figure) → 1 ≤ length (record_of f)
    some_record (Polygon inside pattern points) = omega arith
    some_record (Round inside radius p) = omega arith
    some_record (ReturnPoint p) = omega arith

-- the items in the area, as `fence_of` has them
abbrev items_in : List ℕ → List FenceItem
items_in area = if bytes_eq (take 4 area) fence_version then flat_map items_of (figures_in FENCE_BYTES (drop 4 area)) else []

-- bytes that begin with encoded figures hold these, as they are read back
pub begins_items : (b : List ℕ) (fs : List Figure) → length (encoded fs) ≤ FENCE_BYTES → Begins b (encoded fs) → fence_of b ≡ flat_map items_of (map reread fs)
begins_items b fs few h =
    let rest = drop (length (encoded fs)) (fence_area b) in
    let area : fence_area b ≡ encoded fs ++ rest = area_begins b (encoded fs) few h in
    let inner : length (flat_map record_of fs ++ 99 ∷ []) ≡ length (flat_map record_of fs) + 1 = length-append (flat_map record_of fs) (99 ∷ []) in
    let all : length (encoded fs) ≡ 4 + length (flat_map record_of fs ++ 99 ∷ []) = length-append fence_version (flat_map record_of fs ++ 99 ∷ []) in
    let small : length fs ≤ FENCE_BYTES = omega (arith, few_figures fs, inner, all, few) in
    let figures : figures_in FENCE_BYTES (flat_map record_of fs ++ 99 ∷ rest) ≡ map reread fs = figures_back FENCE_BYTES fs (99 ∷ rest) small (no_figure rest) in
    ap items_in area ∙ (ap (λ t. flat_map items_of (figures_in FENCE_BYTES t)) (append_assoc (flat_map record_of fs) (99 ∷ []) rest) ∙ ap (flat_map items_of) figures)

begins_none : (b : List ℕ) → Begins b (fence_version ++ 99 ∷ []) → fence_of b ≡ []
begins_none b h = begins_items b [] (omega arith) h

same_items : (a b : List ℕ) → fence_area a ≡ fence_area b → fence_of a ≡ fence_of b
same_items a b e = ap items_in e

-- how items are replaced
pub record Replaced (bytes : List ℕ) (items : List FenceItem) (ws : List LineWrite) : Type 0 where
  pub figures : List Figure
  pub cut : figures_of (length items) items ≡ Some figures
  pub few : length (encoded figures) ≤ FENCE_BYTES
  pub writes : ws ≡ fence_writes (encoded figures) bytes

abbrev pub or_too_long : List ℕ → List Figure → Bool → Result (List LineWrite) ℕ
or_too_long bytes fs b = if b then Err 4 else Ok (fence_writes (encoded fs) bytes)

abbrev taken : List LineWrite → Result (List LineWrite) ℕ
taken ws = Ok ws

ok_writes : (vs ws : List LineWrite) → taken vs ≡ taken ws → vs ≡ ws
ok_writes vs ws h = ap (λ (r : Result (List LineWrite) ℕ). result_unwrap_or r []) h

by_length : (bytes : List ℕ) (items : List FenceItem) (ws : List LineWrite) (fs : List Figure) (b : Bool) → figures_of (length items) items ≡ Some fs → nat_lt FENCE_BYTES (length (encoded fs)) ≡ b
    → or_too_long bytes fs b ≡ Ok ws → Replaced bytes items ws
by_length bytes items ws fs true cut e h = absurd (cc)
by_length bytes items ws fs false cut e h = record { figures = fs; cut = cut; few = ltb-false FENCE_BYTES (length (encoded fs)) e; writes = sym (ok_writes (fence_writes (encoded fs) bytes) ws h) }

by_figures : (bytes : List ℕ) (items : List FenceItem) (ws : List LineWrite) (o : Option (List Figure)) → figures_of (length items) items ≡ o → figure_writes bytes o ≡ Ok ws → Replaced bytes items ws
by_figures bytes items ws None cut h = absurd (cc)
by_figures bytes items ws (Some fs) cut h = by_length bytes items ws fs (nat_lt FENCE_BYTES (length (encoded fs))) cut refl h

by_returns : (bytes : List ℕ) (items : List FenceItem) (ws : List LineWrite) (b : Bool) → (if b then Err 5 else figure_writes bytes (figures_of (length items) items)) ≡ Ok ws → Replaced bytes items ws
by_returns bytes items ws true h = absurd (cc)
by_returns bytes items ws false h = by_figures bytes items ws (figures_of (length items) items) refl h

pub replaced : (bytes : List ℕ) (items : List FenceItem) (ws : List LineWrite) → replace_writes bytes items ≡ Ok ws → Replaced bytes items ws
replaced bytes items ws h = by_returns bytes items ws (nat_lt 1 (count_by is_return_point items)) h

-- the bytes after all of the writes
whole_items : (bytes : List ℕ) (fs : List Figure) → length bytes ≡ STORAGE_BYTES → length (encoded fs) ≤ FENCE_BYTES → fence_of (after bytes (fence_writes (encoded fs) bytes)) ≡ flat_map items_of (map reread fs)
whole_items bytes fs size few = ap fence_of (whole_writes bytes (encoded fs) size) ∙ begins_items (with_fence (encoded fs) bytes) fs few (written_begins bytes (encoded fs) size few)

pub fences_are_replaced : FencesAreReplaced
fences_are_replaced bytes items ws size fit h =
    let r = replaced bytes items ws h in
    let hold = figures_hold (length items) items r.figures fit r.cut in
    ap (λ t. fence_of (after bytes t)) r.writes ∙ (whole_items bytes r.figures size r.few ∙ (ap (flat_map items_of) (kept_figures r.figures hold.1) ∙ hold.0))

take_past : (j : ℕ) (ws : List LineWrite) → length ws ≤ j → take j ws ≡ ws
take_past zero [] h = refl
take_past zero (w ∷ ws) h = absurd (omega (arith, h))
take_past (suc j) [] h = refl
take_past (suc j) (w ∷ ws) h = ap (λ t. w ∷ t) (take_past j ws (omega (arith, h)))

-- a number of writes, at most all of them
up_to_all : (ws : List LineWrite) (j : ℕ) → (k : ℕ) × (k ≤ length ws) × (take j ws ≡ take k ws)
up_to_all ws j = elim (cases_lt (length ws) j) [
  | inr few ↦ (j, omega (arith, few), refl)
  | inl more ↦ (length ws, omega arith, take_past j ws (omega (arith, more)) ∙ sym (take-length ws))
]

clears : (bytes : List ℕ) (j : ℕ) → length bytes ≡ STORAGE_BYTES → (fence_of (after bytes (take j (clear_fence_writes bytes))) ≡ fence_of bytes) ⊎ (fence_of (after bytes (take j (clear_fence_writes bytes))) ≡ [])
clears bytes j size =
    let k = up_to_all (clear_fence_writes bytes) j in
    let now = after bytes (take k.0 (clear_fence_writes bytes)) in
    let e : fence_of (after bytes (take j (clear_fence_writes bytes))) ≡ fence_of now = ap (λ t. fence_of (after bytes t)) k.2 in
    let m = each_change bytes (without_fence bytes) k.0 size k.1 in
    elim (clearing_begins m.0 bytes now size m.1) [
      | inl same ↦ inl (e ∙ same_items now bytes (sym same))
      | inr none ↦ inr (e ∙ begins_none now none)
    ]

replaces : (bytes : List ℕ) (items : List FenceItem) (ws : List LineWrite) (j : ℕ) → length bytes ≡ STORAGE_BYTES → replace_writes bytes items ≡ Ok ws
    → (fence_of (after bytes (take j ws)) ≡ fence_of bytes) ⊎ ((fence_of (after bytes (take j ws)) ≡ []) ⊎ (fence_of (after bytes (take j ws)) ≡ fence_of (after bytes ws)))
replaces bytes items ws j size h =
    let r = replaced bytes items ws h in
    let all = fence_writes (encoded r.figures) bytes in
    let k = up_to_all all j in
    let now = after bytes (take k.0 all) in
    let e : fence_of (after bytes (take j ws)) ≡ fence_of now = ap (λ t. fence_of (after bytes (take j t))) r.writes ∙ ap (λ t. fence_of (after bytes t)) k.2 in
    let new : fence_of (after bytes ws) ≡ flat_map items_of (map reread r.figures) = ap (λ t. fence_of (after bytes t)) r.writes ∙ whole_items bytes r.figures size r.few in
    elim (step_begins bytes (encoded r.figures) now size r.few (step_of bytes (encoded r.figures) k.0 size k.1)) [
      | inl same ↦ inl (e ∙ same_items now bytes (sym same))
      | inr h ↦ elim h [
        | inl none ↦ inr (inl (e ∙ begins_none now none))
        | inr at ↦ inr (inr (e ∙ (begins_items now r.figures r.few at ∙ sym new)))
      ]
    ]

cleared : (bytes : List ℕ) → length bytes ≡ STORAGE_BYTES → fence_of (after bytes (clear_fence_writes bytes)) ≡ []
cleared bytes size = ap fence_of (whole_changes bytes (without_fence bytes) size (length-cleared bytes ∙ size)) ∙ begins_none (without_fence bytes) (cleared_head bytes size)

pub fences_in_steps : FencesInSteps
fences_in_steps = record { cleared = cleared; clears = clears; replaces = replaces }
