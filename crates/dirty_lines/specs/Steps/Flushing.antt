-- What a flush has done so far.
use Rattle.std.specs.Prelude.{◌≡◌, ◌⊎◌, ◌-◌, ◌*◌, ◌<◌, ◌≤◌, ℕ, List, length, take, Bool, true, false, IsTrue, IsFalse}
use Rattle.flash_traits.specs.declared.numbers.TheConstants.{GUARD_HALFWORDS}
use Rattle.flash_traits.specs.declared.board.Board.{Ghosts}
use Rattle.flash_traits.specs.declared.board.Fault.{Fault}
use Rattle.flash_traits.specs.Calls.{Changes, ErasesNothing}
use Rattle.flash_traits.specs.Counts.{raised_by}
use Rattle.storage_lines.specs.declared.lines.LineWrite.{LineWrite}
use Rattle.block_store.specs.Store.{Fits, durable_of, guard_of, room_of, is_alone, is_spilled, is_spent}
use Rattle.block_store.specs.Losses.{PutsLines}
use Rattle.dirty_lines.specs.Lines.{Lines}
use Rattle.dirty_lines.specs.Entries.{Wrote, joined}
use Rattle.dirty_lines.specs.Losses.{MayPutFirst, NextExceeds, NextVoids}

-- These entries were put, and the store fits.
pub record HasPutEntries {B : Type 0} (g : Ghosts B) (armed : Bool)
    (entries : List (List LineWrite))
    (old new : Lines) (before now : B) : Type 0 where
  pub wrote : Wrote entries armed old new
  pub fits : Fits g now new.store
  pub rises : guard_of old.store ≤ guard_of new.store
  pub alone : armed ≡ false → IsTrue (is_alone old.store) → IsTrue (is_alone new.store)
  pub settled : armed ≡ false → 0 < length entries → IsTrue (is_alone new.store)
  pub changes : Changes g before now (MayPutFirst old.pending)
      (PutsLines (2 * length entries) (joined entries))
  pub erases : armed ≡ true → ErasesNothing g before now
  pub erased : (g.moment now).erases ≤ raised_by (length entries) (g.moment before).erases
  pub counts : g.faults now ≡ g.faults before

-- The first entry is refused: the store is armed and spilled and the entry exceeds the room, or a
-- sector is to be voided and the guard row is used up.
abbrev pub Refuses : Bool → Lines → Type 0
Refuses armed lines =
    ((armed ≡ true) × IsTrue (is_spilled lines.store)
    × NextExceeds (room_of lines.store) lines.pending)
    ⊎ (NextVoids armed lines.store lines.pending × (guard_of lines.store ≡ GUARD_HALFWORDS))

-- Of n lines so many are left to put. Without the last of the entries that were put there are fewer
-- than n, and where there is one the first wasn't refused.
pub record HasLeft {B : Type 0} (g : Ghosts B) (armed : Bool) (n left : ℕ) (old new : Lines)
    (before now : B) : Type 0 where
  pub entries : List (List LineWrite)
  pub put : HasPutEntries g armed entries old new before now
  pub rest : left ≡ n - length (joined entries)
  pub still : length entries ≡ 0 → (new ≡ old) × (now ≡ before)
  pub fitted : 0 < length entries → Refuses armed old → ⊥
  pub fewest : (k : ℕ) → k < length entries → length (joined (take k entries)) < n

-- Nothing was put, and a store that isn't spent is as it was.
pub record IsHeld (old new : Lines) : Type 0 where
  pub durable : durable_of new.store ≡ durable_of old.store
  pub pending : new.pending ≡ old.pending
  pub same : IsFalse (is_spent new.store) → new.store ≡ old.store
