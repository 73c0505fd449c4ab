-- What a flush does to the bytes of an image, and what a loss inside one leaves.
use Rattle.std.specs.Prelude.{◌≡◌, ◌⊎◌, ℕ, ◌+◌, ◌*◌, ◌<◌, List, ◌++◌, length, Bool}
use Rattle.flash_traits.specs.declared.numbers.TheConstants.{GUARD_HALFWORDS}
use Rattle.flash_traits.specs.Words.{Words}
use Rattle.flash_traits.specs.declared.board.Board.{Ghosts}
use Rattle.storage_lines.specs.declared.lines.LineWrite.{LineWrite}
use Rattle.storage_lines.specs.Lines.{after}
use Rattle.sector_image.specs.Stands.{Stands}
use Rattle.sector_image.specs.Losses.{RaisesGuard}
use Rattle.sector_image.specs.declared.kept.Kept.{Kept}
use Rattle.sector_switch.specs.States.{FitsCopied}
use Rattle.sector_image.specs.Fits.{free_of}
use Rattle.block_store.specs.Store.{Store, entry_bytes, guard_of, home_free, Voids}
use Rattle.block_store.specs.Refusals.{IsWornWith}
use Rattle.dirty_lines.specs.Lines.{Lines}
use Rattle.dirty_lines.specs.Entries.{CutIntoEntries, IsLongest, joined}

-- The words stand for the bytes that they stood for with a prefix of the pending lines, in whole
-- entries, and these lines are left. The guard count rose by at most two for each entry, and so
-- much more.
pub record PutsFirst (more : ℕ) (pending rest : List LineWrite) (old new : Words) : Type 0 where
  pub entries : List (List LineWrite)
  pub cut : CutIntoEntries entries rest pending
  pub bytes : (b : List ℕ) → Stands old b → Stands new (after b (joined entries))
  pub guard : RaisesGuard (2 * length entries + more) old.guard new.guard

-- The same, whatever lines are left: the entry that was cut short may have raised the guard count
-- by two. Since it is pending still, the count rose by at most two for each pending line.
pub record MayPutFirst (pending : List LineWrite) (old new : Words) : Type 0 where
  pub rest : List LineWrite
  pub puts : PutsFirst 2 pending rest old new
  pub within : RaisesGuard (2 * length pending) old.guard new.guard

-- the words have one entry more than those up to the rest
pub record PutsOneMore (pending rest : List LineWrite) (old new : Words) : Type 0 where
  pub entry : List LineWrite
  pub behind : List LineWrite
  pub next : rest ≡ entry ++ behind
  pub longest : IsLongest entry behind
  pub puts : PutsFirst 0 pending behind old new

-- A flush that stopped at this rest: the words have the entries up to it, or the next one too.
abbrev pub MayPutNext : List LineWrite → List LineWrite → Words → Words → Type 0
MayPutNext pending rest old new =
    PutsFirst 2 pending rest old new ⊎ PutsOneMore pending rest old new

-- the next entry of the pending lines exceeds the room
pub record NextExceeds (room : ℕ) (pending : List LineWrite) : Type 0 where
  pub entry : List LineWrite
  pub behind : List LineWrite
  pub next : pending ≡ entry ++ behind
  pub longest : IsLongest entry behind
  pub exceeds : room < entry_bytes entry

-- a sector is to be voided for the next entry of the pending lines
pub record NextVoids (armed : Bool) (store : Store) (pending : List LineWrite) : Type 0 where
  pub entry : List LineWrite
  pub behind : List LineWrite
  pub next : pending ≡ entry ++ behind
  pub longest : IsLongest entry behind
  pub voids : Voids armed store entry

-- The image is spilled with every chunk copied, the guard row is used up, and home's free bytes are
-- fewer than those of the next entry of the pending lines.
abbrev pub IsWornForNext : {B : Type 0} → Ghosts B → B → Lines → Type 0
IsWornForNext g b lines =
    (kept : Kept) × FitsCopied g b kept lines.store.bytes × (kept.guard ≡ GUARD_HALFWORDS)
    × NextExceeds (free_of kept) lines.pending

-- A sector is to be voided for the next entry of these lines, of this store, and the guard row is
-- used up. The image is spilled with every chunk copied, and home has the free bytes of the store.
abbrev pub IsWornAt : {B : Type 0} → Ghosts B → B → Bool → Store → Lines → Type 0
IsWornAt g b armed store lines =
    NextVoids armed store lines.pending × (guard_of store ≡ GUARD_HALFWORDS)
    × IsWornWith g b lines.store.bytes (home_free store)
