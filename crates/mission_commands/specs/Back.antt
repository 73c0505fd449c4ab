-- What a stored command gives back of its item.
use Rattle.std.specs.Prelude.{ℕ, ℤ, pos, ◌≡◌}
use Rattle.word_bits.specs.Pattern.{IsWhole}
use Rattle.mission_commands.specs.declared.table.Use.{Use}
use Rattle.mission_commands.specs.declared.table.Use.TheVariants.{Unused, Whole, Signed, Pattern}
use Rattle.mission_commands.specs.declared.table.Shape.{Shape}
use Rattle.mission_commands.specs.declared.table.Shape.TheVariants.{Located, Plain, Unlisted}
use Rattle.mission_commands.specs.declared.table.Row.{Row}
use Rattle.mission_commands.specs.declared.commands.Command.{Command}
use Rattle.mission_commands.specs.declared.commands.Item.{Item}
use Rattle.mission_commands.specs.Table.{row_of}
use Rattle.mission_commands.specs.Commands.{IsPatternOfWhole, IsAltitude, frame_flags, Meets, MeetsAll, item_rules, IsStored, IsItemOf}

-- the same whole number
abbrev pub SameWhole : ℕ → ℕ → Type 0
SameWhole bits back = (n : ℤ) × (IsWhole bits n) × (IsWhole back n) × (IsPatternOfWhole n back)

-- a whole number comes back by its pattern, another finite pattern as it was, and nothing as 0
abbrev pub SameParam : Use → ℕ → ℕ → Type 0
SameParam Unused bits back = back ≡ 0
SameParam (Whole low high width) bits back = SameWhole bits back
SameParam (Signed high width) bits back = SameWhole bits back
SameParam Pattern bits back = back ≡ bits

-- The same place, the same flags and an altitude of the same centimetres; without a location, zeros
-- and frame 2.
abbrev pub SamePosition : Shape → Item → Item → Type 0
SamePosition Located item back = (back.x ≡ item.x) × (back.y ≡ item.y)
    × (frame_flags back.frame ≡ frame_flags item.frame)
    × ((k : ℤ) × (IsAltitude item.z k) × (IsAltitude back.z k))
SamePosition Plain item back = (back.x ≡ pos 0) × (back.y ≡ pos 0) × (back.frame ≡ 2)
SamePosition Unlisted item back = ⊥

-- the stored fields come back
pub record GivesBack (row : Row) (item back : Item) : Type 0 where
  pub command_is : back.command ≡ item.command
  pub param1 : SameParam row.param1 item.param1 back.param1
  pub param2 : SameParam row.param2 item.param2 back.param2
  pub param3 : SameParam row.param3 item.param3 back.param3
  pub param4 : SameParam row.param4 item.param4 back.param4
  pub place : SamePosition row.shape item back

-- an item that meets its rules, stored and sent again, has its stored fields
abbrev pub ComesBack : Type 0
ComesBack = (item : Item) (c : Command) (seq : ℕ) (back : Item)
    → MeetsAll (Meets item (row_of item.command)) item_rules → IsStored item c
    → IsItemOf c seq back → GivesBack (row_of item.command) item back
