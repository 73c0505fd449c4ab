-- How a list of items is cut into circles, return points and polygons.
use Rattle.std.specs.Prelude.{pos, ◌≡◌, ◌≤◌, ◌+◌, ◌==◌, Bool, List, [], ◌∷◌, length, All, count_by}
use Rattle.std.specs.List.{flat_map}
use Rattle.word_bits.specs.Pattern.{IsWhole}
use Rattle.fence_records.specs.declared.items.Kind.{Kind}
use Rattle.fence_records.specs.declared.items.Kind.TheVariants.{Return, Vertex, Circle, Unknown}
use Rattle.fence_records.specs.declared.items.FenceItem.{FenceItem}
use Rattle.fence_records.specs.Items.{kind_of}

-- the item belongs to the same polygon
abbrev pub IsAlike : FenceItem → FenceItem → Type 0
IsAlike first i = (i.command ≡ first.command) × (i.param1 ≡ first.param1)

-- the items that go with a first one: none, or the other vertices of a polygon of 3 to 51, as many
-- as it counts
abbrev pub GoesWith : Kind → FenceItem → List FenceItem → Type 0
GoesWith Return first rest = rest ≡ []
GoesWith Vertex first rest =
    IsWhole first.param1 (pos (length rest + 1)) × (2 ≤ length rest) × (length rest ≤ 50)
    × All (IsAlike first) rest
GoesWith Circle first rest = rest ≡ []
GoesWith Unknown first rest = ⊥

-- the items are one circle, return point or polygon
pub record AreOneFigure (run : List FenceItem) : Type 0 where
  pub first : FenceItem
  pub rest : List FenceItem
  pub run_is : run ≡ first ∷ rest
  pub goes : GoesWith (kind_of first.command) first rest

-- the items are such runs, one after another
pub record IsCut (items : List FenceItem) : Type 0 where
  pub runs : List (List FenceItem)
  pub right : All AreOneFigure runs
  pub items_are : items ≡ flat_map (λ run. run) runs

-- MAV_CMD_NAV_FENCE_RETURN_POINT
abbrev pub is_return : FenceItem → Bool
is_return i = i.command == 5000

-- the items are a fence: whole figures, and at most one return point
abbrev pub IsAllowedFence : List FenceItem → Type 0
IsAllowedFence items = IsCut items × (count_by is_return items ≤ 1)
