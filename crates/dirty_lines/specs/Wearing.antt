-- Entries put one after another, for none of which the guard row is used up.
use Rattle.std.specs.Prelude.{◌≡◌, ◌≢◌, ◌≤◌, ◌+◌, List, [], ◌∷◌, Bool, true, false, IsTrue, IsFalse}
use Rattle.flash_traits.specs.declared.numbers.TheConstants.{GUARD_HALFWORDS}
use Rattle.storage_lines.specs.declared.lines.LineWrite.{LineWrite}
use Rattle.storage_lines.specs.Lines.{after}
use Rattle.block_store.specs.Store.{Store, durable_of, guard_of, free_of, room_of, entry_bytes, is_alone, is_spilled, switch_leaves, lacks_room, Voids, raise}

-- What the put of an entry makes of a store: the bytes have its lines, and the guard count rises by
-- two where a sector is voided for it; where none is, the free bytes fall by the entry's, and where
-- there was room so does the room. Where there was room, and wherever the put isn't armed, one
-- sector then has all bytes; an armed store without room is spilled. What a switch leaves free is
-- there still but for the entry, and an armed spilled store has room for the entry.
pub record IsPut (armed : Bool) (entry : List LineWrite) (old new : Store) : Type 0 where
  pub durable : durable_of new ≡ after (durable_of old) entry
  pub guard : guard_of new ≡ guard_of old + raise armed old entry
  pub free : guard_of new ≡ guard_of old → free_of new + entry_bytes entry ≡ free_of old
  pub room : IsFalse (lacks_room old entry) → room_of new + entry_bytes entry ≡ room_of old
  pub alone : armed ≡ false → IsTrue (is_alone new)
  pub stays : IsFalse (lacks_room old entry) → IsTrue (is_alone new)
  pub spills : armed ≡ true → IsTrue (lacks_room old entry) → IsTrue (is_spilled new)
  pub copied : armed ≡ false → IsTrue (lacks_room old entry)
      → switch_leaves old ≤ room_of new + entry_bytes entry
  pub within : armed ≡ true → IsTrue (is_spilled old) → entry_bytes entry ≤ room_of old

-- These entries are put one after another, from one store to the other, and none of them wears the
-- guard row: wherever a sector is to be voided for one, the guard count isn't 8,192.
abbrev pub NoneWears : Bool → List (List LineWrite) → Store → Store → Type 0
NoneWears armed [] old new = new ≡ old
NoneWears armed (entry ∷ entries) old new =
    (Voids armed old entry → guard_of old ≢ GUARD_HALFWORDS)
    × (next : Store) × IsPut armed entry old next × NoneWears armed entries next new
