-- What `from_item` gives, and what an item that is read back looks like.
use Rattle.std.specs.Prelude.{ℕ, pos, ◌≡◌, ◌<◌, Result}
use Rattle.mission_commands.specs.declared.commands.Item.{Item}
use Rattle.mission_commands.specs.Commands.{MeetsAll, IsTested, IsPatternOfWhole}
use Rattle.fence_records.specs.declared.items.FenceItem.{FenceItem}
use Rattle.fence_records.specs.Items.{MeetsFence, fence_rules, fence_item_of}
use Rattle.fence_records.specs.Lists.{IsFenceItem, pattern_of}

-- the item is kept so, or refused so
abbrev pub HasFenceResult : Item → Result FenceItem ℕ → Type 0
HasFenceResult item r = IsTested (MeetsFence item) fence_rules (λ i. i ≡ fence_item_of item) r

-- An item, of any numbers, has a result, and no other.
pub record HasOneFenceResult (item : Item) : Type 0 where
  pub result : Result FenceItem ℕ
  pub has : HasFenceResult item result
  pub only : (r : Result FenceItem ℕ) → HasFenceResult item r → r ≡ result

-- of each item
abbrev pub EachHasOneFenceResult : Type 0
EachHasOneFenceResult = (item : Item) → HasOneFenceResult item

-- What is kept of an item can stand in a fence: it is read back as it was.
abbrev pub KeepsFenceItems : Type 0
KeepsFenceItems =
    (item : Item) → MeetsAll (MeetsFence item) fence_rules → IsFenceItem (fence_item_of item)

-- A count has one nearest pattern, and `pattern_of` is that.
abbrev pub CountsHavePatterns : Type 0
CountsHavePatterns = (n : ℕ) → n < 256
    → IsPatternOfWhole (pos n) (pattern_of n)
    × ((p : ℕ) → IsPatternOfWhole (pos n) p → p ≡ pattern_of n)

-- an item that is read back: its frame is 0, and what isn't stored is 0
abbrev pub item_of : FenceItem → ℕ → Item
item_of i seq = record {
  param1 = i.param1;
  param2 = 0;
  param3 = 0;
  param4 = 0;
  x = i.x;
  y = i.y;
  z = 0;
  seq = seq;
  command = i.command;
  frame = 0;
  current = 0;
  autocontinue = 1;
}
