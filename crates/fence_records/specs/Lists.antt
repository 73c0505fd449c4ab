-- The stored fence as a function, and the fence that a list of items makes.
use Rattle.std.specs.Prelude.{◌≡◌, ◌⊎◌, ◌↔◌, ◌<◌, FitsSigned, ℕ, zero, suc, ◌+◌, ◌-◌, ◌*◌, ◌/◌, ◌^◌}
use Rattle.std.specs.Prelude.{Bool, ◌==◌, ◌&&◌, ◌||◌, nat_lt, nat_le, List, [], ◌∷◌, length, take}
use Rattle.std.specs.Prelude.{drop, map, count_by, slice_index, if◌then◌else◌, Option, Some, None}
use Rattle.std.specs.Prelude.{option_map, Result, Ok, Err}
use Rattle.std.specs.List.{flat_map, range_with_len}
use Rattle.std.specs.Option.{option_map_or}
use Rattle.std.specs.Str.{bytes_eq}
use Rattle.word_bits.specs.Pattern.{magnitude}
use Rattle.storage_lines.specs.declared.lines.LineWrite.{LineWrite}
use Rattle.storage_lines.specs.Lines.{after, changes}
use Rattle.storage_lines.specs.declared.lines.TheConstants.{STORAGE_BYTES}
use Rattle.std.specs.Int.{w32}
use Rattle.storage_lines.specs.Numbers.{number_of}
use Rattle.storage_lines.specs.Bytes.{IsBytes}
use Rattle.fence_records.specs.declared.TheConstants.{FENCE_BYTES}
use Rattle.fence_records.specs.declared.items.Kind.{Kind}
use Rattle.fence_records.specs.declared.items.Kind.TheVariants.{Return, Vertex, Circle, Unknown}
use Rattle.fence_records.specs.declared.items.FenceItem.{FenceItem}
use Rattle.fence_records.specs.declared.items.Point.{Point}
use Rattle.fence_records.specs.Items.{kind_of}
use Rattle.fence_records.specs.Cut.{IsCut, IsAllowedFence}
use Rattle.fence_records.specs.Fence.{Figure, IsFence, Polygon, Round, ReturnPoint, items_of}
use Rattle.fence_records.specs.Fence.{record_of, fence_version, point_of, points_from}
use Rattle.fence_records.specs.Write.{fence_area, encoded, without_fence, fence_writes}

-- how many of the powers of two from 2 to 2 ^ 23 a number reaches: its highest bit
abbrev pub highest_bit : ℕ → ℕ
highest_bit n = count_by (λ k. nat_le (2 ^ k) n) (range_with_len 1 23)

-- the pattern of a whole number below 2 ^ 24
abbrev pub pattern_of : ℕ → ℕ
pattern_of n =
    if n == 0 then 0
    else (127 + highest_bit n) * 2 ^ 23 + (n * 2 ^ (23 - highest_bit n) - 2 ^ 23)

-- the whole number of a pattern that isn't negative
abbrev pub whole_number_in : ℕ → ℕ
whole_number_in pattern = magnitude pattern / 2 ^ 149

-- the figure of a type that begins the bytes, with how many bytes it takes
abbrev pub figure_of : ℕ → List ℕ → Option (Figure)
figure_of type bytes =
    if (type == 98) || (type == 97) then
    Some (Polygon (type == 98) (pattern_of (slice_index bytes 1))
    (points_from (slice_index bytes 1) (drop 2 bytes)))
    else (if (type == 92) || (type == 93) then
    Some (Round (type == 92) (number_of (take 4 (drop 9 bytes))) (point_of (drop 1 bytes)))
    else (if type == 95 then Some (ReturnPoint (point_of (drop 1 bytes))) else None))

-- the figure, where the bytes have its whole record
abbrev pub if_whole : List ℕ → Option Figure → Option Figure
if_whole bytes None = None
if_whole bytes (Some f) = if nat_le (length (record_of f)) (length bytes) then Some f else None

-- the figure whose whole record begins the bytes
abbrev pub first_figure : List ℕ → Option Figure
first_figure bytes = if_whole bytes (figure_of (slice_index bytes 0) bytes)

-- the figures up to the first end, at most n
unfoldable pub figures_in : ℕ → List ℕ → List Figure
figures_in zero bytes = []
figures_in (suc n) bytes =
    option_map_or (λ f. f ∷ figures_in n (drop (length (record_of f)) bytes))
    (first_figure bytes) []

-- The stored fence: the one list with `IsFence`.
abbrev pub fence_of : List ℕ → List FenceItem
fence_of bytes =
    if bytes_eq (take 4 (fence_area bytes)) fence_version
    then flat_map items_of (figures_in FENCE_BYTES (drop 4 (fence_area bytes))) else []

-- It is: the area holds these items and no others.
abbrev pub FenceIsListed : Type 0
FenceIsListed = (bytes : List ℕ) (items : List FenceItem)
    → IsBytes (fence_area bytes) → IsFence (fence_area bytes) items ↔ (items ≡ fence_of bytes)

-- where the item is
abbrev pub point : FenceItem → Point
point i = record { x = i.x; y = i.y }

-- the two are vertices of one polygon
abbrev pub is_alike : FenceItem → FenceItem → Bool
is_alike a b = (a.command == b.command) && (a.param1 == b.param1)

-- the items are a polygon with this many vertices, which is the number of the first one's pattern
abbrev pub is_polygon : FenceItem → List FenceItem → ℕ → Bool
is_polygon first items n =
    (first.param1 == pattern_of n) && (nat_le 3 n && (nat_le n 51
    && ((length items == n) && (count_by (is_alike first) items == n))))

-- the figure that begins the items
abbrev pub figure_with : Kind → FenceItem → List FenceItem → Option Figure
figure_with Return first items = Some (ReturnPoint (point first))
figure_with Circle first items = Some (Round (first.command == 5003) first.param1 (point first))
figure_with Vertex first items =
    if is_polygon first (take (whole_number_in first.param1) items) (whole_number_in first.param1)
    then Some (Polygon (first.command == 5001) first.param1
    (map point (take (whole_number_in first.param1) items)))
    else None
figure_with Unknown first items = None

-- the figure of a run, and its first item
abbrev pub figure_at : Kind → FenceItem → List FenceItem → Figure
figure_at Return first run = ReturnPoint (point first)
figure_at Circle first run = Round (first.command == 5003) first.param1 (point first)
figure_at Vertex first run = Polygon (first.command == 5001) first.param1 (map point run)
figure_at Unknown first run = ReturnPoint (point first)

-- what follows a figure, if there is one
abbrev pub and_then : Option Figure → (Figure → Option (List Figure)) → Option (List Figure)
and_then None f = None
and_then (Some x) f = f x

-- the figures that the items are, one after another, if they are at most n
unfoldable pub figures_of : ℕ → List FenceItem → Option (List Figure)
figures_of n [] = Some []
figures_of zero (i ∷ items) = None
figures_of (suc n) (i ∷ items) =
    and_then (figure_with (kind_of i.command) i (i ∷ items))
    (λ f. option_map (λ fs. f ∷ fs) (figures_of n (drop (length (items_of f)) (i ∷ items))))

-- MAV_CMD_NAV_FENCE_RETURN_POINT
abbrev pub is_return_point : FenceItem → Bool
is_return_point i = i.command == 5000

-- the lines that write these figures, where they fit
abbrev pub figure_writes : List ℕ → Option (List Figure) → Result (List LineWrite) ℕ
figure_writes bytes None = Err 5
figure_writes bytes (Some fs) =
    if nat_lt FENCE_BYTES (length (encoded fs)) then Err 4 else Ok (fence_writes (encoded fs) bytes)

-- The lines that write these items; 5 where they are no fence, 4 where they don't fit.
abbrev pub replace_writes : List ℕ → List FenceItem → Result (List LineWrite) ℕ
replace_writes bytes items =
    if nat_lt 1 (count_by is_return_point items) then Err 5
    else figure_writes bytes (figures_of (length items) items)

-- Items are figures exactly where they are runs. What is no fence is refused with 5, and nothing
-- else is.
pub record FiguresAreCuts : Type 0 where
  pub cut : (items : List FenceItem)
      → IsCut items ↔ ((fs : List Figure) × figures_of (length items) items ≡ Some fs)
  pub refused : (bytes : List ℕ) (items : List FenceItem)
      → (¬ IsAllowedFence items) ↔ (replace_writes bytes items ≡ Err 5)

-- the lines that clear the fence
abbrev pub clear_fence_writes : List ℕ → List LineWrite
clear_fence_writes bytes = changes bytes (without_fence bytes)

-- an item that `from_item` gives: a return point has no parameter, and a vertex the one pattern of
-- its count
pub record IsFenceItem (i : FenceItem) : Type 0 where
  pub x : FitsSigned w32 i.x
  pub y : FitsSigned w32 i.y
  pub bits : i.param1 < 2 ^ 32
  pub return_point : i.command ≡ 5000 → i.param1 ≡ 0
  pub vertex : kind_of i.command ≡ Vertex → i.param1 ≡ pattern_of (whole_number_in i.param1)

-- all of them are
abbrev pub AreFenceItems : List FenceItem → Type 0
AreFenceItems [] = Unit {0}
AreFenceItems (i ∷ items) = IsFenceItem i × AreFenceItems items

-- After the lines that write items the fence is these items.
abbrev pub FencesAreReplaced : Type 0
FencesAreReplaced = (bytes : List ℕ) (items : List FenceItem) (ws : List LineWrite)
    → length bytes ≡ STORAGE_BYTES → AreFenceItems items
    → replace_writes bytes items ≡ Ok ws → fence_of (after bytes ws) ≡ items

-- after the first j of the lines that write a fence it is the old one, none, or the new one
abbrev pub IsReplacedInSteps : List ℕ → List LineWrite → ℕ → Type 0
IsReplacedInSteps bytes ws j =
    (fence_of (after bytes (take j ws)) ≡ fence_of bytes)
    ⊎ ((fence_of (after bytes (take j ws)) ≡ [])
    ⊎ (fence_of (after bytes (take j ws)) ≡ fence_of (after bytes ws)))

-- After each number of the lines that clear a fence or write one it is the old fence, none, or the
-- new one; after all that clear it, it is none.
pub record FencesInSteps : Type 0 where
  pub cleared : (bytes : List ℕ) → length bytes ≡ STORAGE_BYTES
      → fence_of (after bytes (clear_fence_writes bytes)) ≡ []
  pub clears : (bytes : List ℕ) (j : ℕ) → length bytes ≡ STORAGE_BYTES
      → (fence_of (after bytes (take j (clear_fence_writes bytes))) ≡ fence_of bytes)
      ⊎ (fence_of (after bytes (take j (clear_fence_writes bytes))) ≡ [])
  pub replaces : (bytes : List ℕ) (items : List FenceItem) (ws : List LineWrite) (j : ℕ)
      → length bytes ≡ STORAGE_BYTES → replace_writes bytes items ≡ Ok ws
      → IsReplacedInSteps bytes ws j
