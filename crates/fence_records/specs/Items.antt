-- Which items a fence can have.
use Rattle.std.specs.Prelude.{ℕ, pos, ◌≢◌, ◌<◌, ◌^◌, ◌==◌, ◌||◌, IsTrue, if◌then◌else◌, List, []}
use Rattle.std.specs.Prelude.{◌∷◌}
use Rattle.word_bits.specs.Pattern.{IsFinite}
use Rattle.mission_commands.specs.declared.commands.Item.{Item}
use Rattle.mission_commands.specs.declared.table.Shape.TheVariants.{Plain}
use Rattle.mission_commands.specs.Commands.{Rule, Listed, Framed, Param1, Param2, Param3, Param4}
use Rattle.mission_commands.specs.Commands.{Latitude, Longitude, Altitude, IsWithin, IsLatitude}
use Rattle.mission_commands.specs.Commands.{IsLongitude, is_frame}
use Rattle.fence_records.specs.declared.items.Kind.{Kind}
use Rattle.fence_records.specs.declared.items.Kind.TheVariants.{Return, Vertex, Circle, Unknown}
use Rattle.fence_records.specs.declared.items.FenceItem.{FenceItem}

-- what an item with this command is
abbrev pub kind_of : ℕ → Kind
kind_of c =
    if c == 5000 then Return
    else (if (c == 5001) || (c == 5002) then Vertex
    else (if (c == 5003) || (c == 5004) then Circle else Unknown))

-- a count of vertices, or a radius above zero
abbrev pub AllowsKind : Kind → ℕ → Type 0
AllowsKind Return bits = Unit {0}
AllowsKind Vertex bits = IsWithin (pos 3) (pos 51) bits
AllowsKind Circle bits = (bits ≢ 0) × (bits < 2 ^ 31) × (IsFinite bits)
AllowsKind Unknown bits = ⊥

-- the command is one of a fence
abbrev pub IsKnown : Kind → Type 0
IsKnown Return = Unit {0}
IsKnown Vertex = Unit {0}
IsKnown Circle = Unit {0}
IsKnown Unknown = ⊥

-- the item meets this rule; the altitude and the other parameters aren't tested
abbrev pub MeetsFence : Item → Rule → Type 0
MeetsFence item Listed = IsKnown (kind_of item.command)
MeetsFence item Framed = IsTrue (is_frame Plain item.frame)
MeetsFence item Param1 = AllowsKind (kind_of item.command) item.param1
MeetsFence item Param2 = Unit {0}
MeetsFence item Param3 = Unit {0}
MeetsFence item Param4 = Unit {0}
MeetsFence item Latitude = IsLatitude item.x
MeetsFence item Longitude = IsLongitude item.y
MeetsFence item Altitude = Unit {0}

-- in the order in which they are tried
abbrev pub fence_rules : List Rule
fence_rules = Listed ∷ Framed ∷ Param1 ∷ Latitude ∷ Longitude ∷ []

-- what is kept of an item: a return point has no parameter
abbrev pub fence_item_of : Item → FenceItem
fence_item_of item = record {
  command = item.command;
  param1 = if item.command == 5000 then 0 else item.param1;
  x = item.x;
  y = item.y;
}
