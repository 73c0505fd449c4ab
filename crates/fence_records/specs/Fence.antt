-- The records of a fence, and the items that they hold.
use Rattle.std.specs.Prelude.{ℕ, zero, suc, pos, ◌≡◌, ◌≢◌, ◌<◌, ◌^◌, Bool, MatchBool, if◌then◌else◌}
use Rattle.std.specs.Prelude.{List, [], ◌∷◌, ◌++◌, length, take, drop, map, All, FitsSigned}
use Rattle.std.specs.Int.{w32}
use Rattle.std.specs.List.{flat_map}
use Rattle.std.specs.Str.{bytes_eq}
use Rattle.storage_lines.specs.Numbers.{bytes_of_number, number_of, unsigned, signed_of}
use Rattle.mission_commands.specs.Commands.{IsPatternOfWhole}
use Rattle.fence_records.specs.declared.items.FenceItem.{FenceItem}
use Rattle.fence_records.specs.declared.items.Point.{Point}

-- what a fence is made of; the first says whether it is to be kept inside,
-- the second is the pattern of a polygon's count of vertices, or of a circle's radius
pub data Figure : Type 0 where
  Polygon : Bool → ℕ → List Point → Figure
  Round : Bool → ℕ → Point → Figure
  ReturnPoint : Point → Figure

-- an item at a point
abbrev pub item : ℕ → ℕ → Point → FenceItem
item command param1 p = record { command = command; param1 = param1; x = p.x; y = p.y }

-- the items of a figure: a vertex has its polygon's count as param1, a return point 0
abbrev pub items_of : Figure → List FenceItem
items_of (Polygon inside pattern points) = map (item (if inside then 5001 else 5002) pattern) points
items_of (Round inside radius p) = item (if inside then 5003 else 5004) radius p ∷ []
items_of (ReturnPoint p) = item 5000 0 p ∷ []

-- latitude and longitude, four bytes each
abbrev pub point_bytes : Point → List ℕ
point_bytes p = bytes_of_number 4 (unsigned 4 p.x) ++ bytes_of_number 4 (unsigned 4 p.y)

-- how a figure is stored: a byte of its type, then its numbers
abbrev pub record_of : Figure → List ℕ
record_of (Polygon inside pattern points) =
    (if inside then 98 else 97) ∷ length points ∷ flat_map point_bytes points
record_of (Round inside radius p) =
    (if inside then 92 else 93) ∷ (point_bytes p ++ bytes_of_number 4 radius)
record_of (ReturnPoint p) = 95 ∷ point_bytes p

-- both are numbers of four bytes
abbrev pub IsPoint : Point → Type 0
IsPoint p = FitsSigned w32 p.x × FitsSigned w32 p.y

-- what a record can hold
abbrev pub IsFigure : Figure → Type 0
IsFigure (Polygon inside pattern points) =
    (length points < 256) × (IsPatternOfWhole (pos (length points)) pattern) × (All IsPoint points)
IsFigure (Round inside radius p) = (radius < 2 ^ 32) × (IsPoint p)
IsFigure (ReturnPoint p) = IsPoint p

-- the bytes begin with no whole record
abbrev pub IsFenceEnd : List ℕ → Type 0
IsFenceEnd bytes = (f : Figure) (rest : List ℕ) → IsFigure f → bytes ≢ record_of f ++ rest

-- the bytes are records up to an end, and these hold the items
pub record HoldsItems (bytes : List ℕ) (items : List FenceItem) : Type 0 where
  pub figures : List Figure
  pub rest : List ℕ
  pub right : All IsFigure figures
  pub bytes_are : bytes ≡ flat_map record_of figures ++ rest
  pub ends : IsFenceEnd rest
  pub items_are : items ≡ flat_map items_of figures

-- the first four bytes of the area, without which there are no items
abbrev pub fence_version : List ℕ
fence_version = 0xEB ∷ 0 ∷ 0 ∷ 0 ∷ []

-- the area holds the items; without the version it holds none
abbrev pub IsFence : List ℕ → List FenceItem → Type 0
IsFence area items =
    MatchBool (bytes_eq (take 4 area) fence_version) (HoldsItems (drop 4 area) items) (items ≡ [])

-- the point that the first eight bytes say
abbrev pub point_of : List ℕ → Point
point_of bytes = record {
  x = signed_of 4 (number_of (take 4 bytes));
  y = signed_of 4 (number_of (take 4 (drop 4 bytes)));
}

-- so many points, one after another
unfoldable pub points_from : ℕ → List ℕ → List Point
points_from zero bytes = []
points_from (suc n) bytes = point_of bytes ∷ points_from n (drop 8 bytes)
