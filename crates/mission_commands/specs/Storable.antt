-- Which commands fifteen bytes can hold.
use Rattle.std.specs.Prelude.{◌≡◌, ◌≢◌, ◌≤◌, ◌<◌, ◌^◌, [], ◌∷◌, ◌++◌, length, take}
use Rattle.storage_lines.specs.Bytes.{IsBytes}
use Rattle.mission_commands.specs.declared.commands.Command.{Command}
use Rattle.mission_commands.specs.declared.commands.Item.{Item}
use Rattle.mission_commands.specs.Table.{row_of}
use Rattle.mission_commands.specs.Commands.{Meets, MeetsAll, item_rules, IsStored}

-- A command of twelve bytes of content that has an id of two bytes, and not the one that marks the
-- long form. Where the id is above 255, the last two bytes of its content are 0.
pub record IsStorable (c : Command) : Type 0 where
  pub id : c.id < 2 ^ 16
  pub no_mark : c.id ≢ 1
  pub p1 : c.p1 < 2 ^ 16
  pub content : length c.content ≡ 12
  pub bytes : IsBytes c.content
  pub short : 256 ≤ c.id → c.content ≡ take 10 c.content ++ 0 ∷ 0 ∷ []

-- What is stored of an item, of any numbers, is such a command.
abbrev pub StoresFit : Type 0
StoresFit = (item : Item) (c : Command)
    → MeetsAll (Meets item (row_of item.command)) item_rules → IsStored item c → IsStorable c
