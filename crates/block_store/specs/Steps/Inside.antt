-- How the state inside a store is seen, and what a spilled one keeps free.
use Rattle.std.specs.Prelude.{◌≡◌, ℕ, ◌+◌, ◌≤◌, length, if◌then◌else◌}
use Rattle.flash_traits.specs.Budget.{copy_bytes}
use Rattle.storage_lines.specs.declared.lines.TheConstants.{STORAGE_BYTES}
use Rattle.sector_image.specs.Images.{Bytes}
use Rattle.sector_switch.specs.States.{taken_of}
use Rattle.block_store.specs.declared.State.{State as Inner}
use Rattle.block_store.specs.declared.State.TheVariants as inner
use Rattle.block_store.specs.Store.{StoreState, Alone, Spilled, Spent, lacks_in}

abbrev pub state_of : Inner → StoreState
state_of (inner.Alone alone) = Alone alone
state_of (inner.Spilled spilled) = Spilled spilled
state_of inner.Spent = Spent

-- What is claimed of the other sector of a spilled store: the bytes that are written, those that
-- the copy takes, and 66 for the entry that comes after the copy.
abbrev pub claimed_in : StoreState → Bytes → ℕ
claimed_in (Alone kept) bytes = 0
claimed_in (Spilled kept) bytes = taken_of kept bytes + copy_bytes
claimed_in Spent bytes = 0

-- the bytes of a sector
abbrev pub sector_in : StoreState → ℕ
sector_in (Alone kept) = kept.sector_bytes
sector_in (Spilled kept) = kept.sector_bytes
sector_in Spent = 0

-- What holds of every store: it has the bytes of the storage, and a spilled one has room for the
-- copy and one more whole entry.
pub record HasBytesAndRoom (state : StoreState) (bytes : Bytes) : Type 0 where
  pub size : length bytes.whole ≡ STORAGE_BYTES
  pub claimed : claimed_in state bytes ≤ sector_in state

-- how much the guard count rises in a put that isn't armed: by two where there is no room
abbrev pub due_in : StoreState → ℕ → ℕ
due_in state size = if lacks_in state size then 2 else 0
