-- The records that are appended.
use Rattle.std.proofs.Common.{◌≡◌, ℕ, suc, ◌+◌, ◌*◌, ◌<◌, ◌≤◌, Bool, true, false, List, [], ◌∷◌, ◌++◌, length, map, refl, ap, sym, ◌∙◌, subst, arith, length-append, append_assoc, Some, nat_lt, le-ltb, lt-ltb}
use Rattle.std.specs.Prelude.{MatchBool, Ok, Err}
use Rattle.std.specs.List.{flat_map}
use Rattle.std.proofs.lemmas.List.{length-map}
use Rattle.std.proofs.lemmas.List.Concat.{flat_map-cons}
use Rattle.fence_records.specs.declared.TheConstants.{FENCE_BYTES}
use Rattle.storage_lines.specs.declared.lines.LineWrite.{LineWrite}
use Rattle.storage_lines.specs.Numbers.{bytes_of_number}
use Rattle.storage_lines.proofs.NumberLemmas.{length-bytes_of}
use Rattle.fence_records.specs.declared.items.FenceItem.{FenceItem}
use Rattle.fence_records.specs.declared.items.Point.{Point}
use Rattle.fence_records.specs.Cut.{IsAllowedFence}
use Rattle.fence_records.specs.Fence.{Figure, Polygon, Round, ReturnPoint, record_of, point_bytes}
use Rattle.fence_records.specs.Write.{encoded, fence_writes}
use Rattle.fence_records.specs.Lists.{point, figures_of, replace_writes}
use Rattle.fence_records.proofs.Figures.{length-point_bytes, length-all_bytes}
use Rattle.fence_records.proofs.Cutting.{no_items}
use Rattle.fence_records.proofs.Replaces.{or_too_long}
use Rattle.fence_records.proofs.Runs.{allowed_writes}

-- a figure's record is appended, or has no room
abbrev pub IsAppended : Bool → List ℕ → List ℕ → List ℕ → Type 0
IsAppended b old new part = MatchBool b (new ≡ old ++ part) (415 < length old + length part)

pub at_figure : (b : Bool) (old new : List ℕ) (f g : Figure) (n : ℕ) → f ≡ g → n ≡ length (record_of f) → MatchBool b (new ≡ old ++ record_of f) (415 < length old + n) → IsAppended b old new (record_of g)
at_figure true old new f g n e k h = h ∙ ap (λ x. old ++ record_of x) e
at_figure false old new f g n e k h = subst (λ x. 415 < length old + length (record_of x)) e (subst (λ m. 415 < length old + m) k h)

pub home_size : (p : Point) → 9 ≡ length (record_of (ReturnPoint p))
home_size p = sym (ap suc (length-point_bytes p))

pub circle_size : (inside : Bool) (radius : ℕ) (p : Point) → 13 ≡ length (record_of (Round inside radius p))
circle_size inside radius p =
    let a : length (point_bytes p ++ bytes_of_number 4 radius) ≡ length (point_bytes p) + length (bytes_of_number 4 radius) = length-append (point_bytes p) (bytes_of_number 4 radius) in
    let b : length (point_bytes p) ≡ 8 = length-point_bytes p in
    let c : length (bytes_of_number 4 radius) ≡ 4 = length-bytes_of 4 radius in
    let d : length (point_bytes p ++ bytes_of_number 4 radius) ≡ 12 = omega (arith, a, b, c) in
    sym (ap suc d)

pub polygon_size : (inside : Bool) (pattern : ℕ) (items : List FenceItem) → 2 + 8 * length items ≡ length (record_of (Polygon inside pattern (map point items)))
polygon_size inside pattern items =
    let a : length (flat_map point_bytes (map point items)) ≡ 8 * length (map point items) = length-all_bytes (map point items) in
    let b : length (map point items) ≡ length items = length-map items point in
    let whole : 2 + 8 * length items ≡ suc (suc (length (flat_map point_bytes (map point items)))) = omega (arith, a, b) in
    whole

nothing : (xs : List ℕ) → xs ≡ xs ++ []
nothing [] = refl
nothing (x ∷ xs) = ap (λ t. x ∷ t) (nothing xs)

pub no_records : (items : List FenceItem) (fs : List Figure) (bytes : List ℕ) → length items ≡ 0 → figures_of (length items) items ≡ Some fs → bytes ≡ bytes ++ flat_map record_of fs
no_records [] fs bytes e h = let none : fs ≡ [] = no_items 0 fs h in nothing bytes ∙ ap (λ gs. bytes ++ flat_map record_of gs) (sym none)
no_records (i ∷ items) fs bytes e h = absurd (omega (arith, e))

pub records_join : (r : Bool) (old one new : List ℕ) (f : Figure) (gs fs : List Figure) → fs ≡ f ∷ gs → one ≡ old ++ record_of f → IsAppended r one new (flat_map record_of gs) → IsAppended r old new (flat_map record_of fs)
records_join true old one new f gs fs e h k =
    k ∙ (ap (λ t. t ++ flat_map record_of gs) h ∙ (append_assoc old (record_of f) (flat_map record_of gs) ∙ (ap (λ t. old ++ t) (sym (flat_map-cons record_of f gs)) ∙ ap (λ t. old ++ flat_map record_of t) (sym e))))
records_join false old one new f gs fs e h k =
    let size : length one ≡ length old + length (record_of f) = ap length h ∙ length-append old (record_of f) in
    let all : length (flat_map record_of fs) ≡ length (record_of f) + length (flat_map record_of gs) = ap (λ t. length (flat_map record_of t)) e ∙ (ap length (flat_map-cons record_of f gs) ∙ length-append (record_of f) (flat_map record_of gs)) in
    omega (arith, size, all, k)

pub no_room : (old : List ℕ) (f : Figure) (gs fs : List Figure) → fs ≡ f ∷ gs → 415 < length old + length (record_of f) → 415 < length old + length (flat_map record_of fs)
no_room old f gs fs e h =
    let all : length (flat_map record_of fs) ≡ length (record_of f) + length (flat_map record_of gs) = ap (λ t. length (flat_map record_of t)) e ∙ (ap length (flat_map-cons record_of f gs) ∙ length-append (record_of f) (flat_map record_of gs)) in
    omega (arith, all, h)

pub writes_fit : (bytes new : List ℕ) (items : List FenceItem) (fs : List Figure) (ws : List LineWrite) → IsAllowedFence items → figures_of (length items) items ≡ Some fs → new ≡ encoded fs → length new ≤ FENCE_BYTES → ws ≡ fence_writes new bytes
    → replace_writes bytes items ≡ Ok ws
writes_fit bytes new items fs ws allowed cut e few w =
    let size : length new ≡ length (encoded fs) = ap length e in
    let fits : nat_lt FENCE_BYTES (length (encoded fs)) ≡ false = le-ltb FENCE_BYTES (length (encoded fs)) (omega (arith, size, few)) in
    allowed_writes bytes items fs allowed cut ∙ (ap (or_too_long bytes fs) fits ∙ ap (λ t. Ok t) (sym (w ∙ ap (λ t. fence_writes t bytes) e)))

pub writes_exceed : (bytes : List ℕ) (items : List FenceItem) (fs : List Figure) → IsAllowedFence items → figures_of (length items) items ≡ Some fs → FENCE_BYTES < length (encoded fs) → replace_writes bytes items ≡ Err 4
writes_exceed bytes items fs allowed cut more = allowed_writes bytes items fs allowed cut ∙ ap (or_too_long bytes fs) (lt-ltb FENCE_BYTES (length (encoded fs)) more)
