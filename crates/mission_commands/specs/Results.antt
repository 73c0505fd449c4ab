-- Each item has one result.
use Rattle.std.specs.Prelude.{ℕ, ◌≡◌, Result}
use Rattle.mission_commands.specs.declared.commands.Command.{Command}
use Rattle.mission_commands.specs.declared.commands.Item.{Item}
use Rattle.mission_commands.specs.Table.{row_of}
use Rattle.mission_commands.specs.Commands.{Meets, item_rules, IsTested, IsStored}

-- the item is stored so, or refused so
abbrev pub HasResult : Item → Result Command ℕ → Type 0
HasResult item r = IsTested (Meets item (row_of item.command)) item_rules (IsStored item) r

-- An item, of any numbers, has a result, and no other.
pub record HasOneResult (item : Item) : Type 0 where
  pub result : Result Command ℕ
  pub has : HasResult item result
  pub only : (r : Result Command ℕ) → HasResult item r → r ≡ result

-- of each item
abbrev pub EachHasOneResult : Type 0
EachHasOneResult = (item : Item) → HasOneResult item
