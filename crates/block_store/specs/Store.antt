-- What contracts see of a store.
use Rattle.std.specs.Prelude.{◌≡◌, ◌≤◌, ℕ, ◌+◌, ◌-◌, ◌*◌, List, [], ◌∷◌, length, Bool, true, false, None}
use Rattle.std.specs.Prelude.{if◌then◌else◌, nat_lt, IsTrue}
use Rattle.std.specs.Option.{option_map_or}
use Rattle.flash_traits.specs.Budget.{budget_of, header_bytes, copy_bytes, line_bytes}
use Rattle.flash_traits.specs.declared.board.Board.{Ghosts}
use Rattle.storage_lines.specs.declared.lines.LineWrite.{LineWrite}
use Rattle.storage_lines.specs.declared.lines.TheConstants.{LINES}
use Rattle.sector_log.specs.declared.log.Log.{Log}
use Rattle.sector_image.specs.declared.kept.Kept.{Kept}
use Rattle.sector_log.specs.Bytes.{value_of}
use Rattle.sector_image.specs.Images.{Bytes}
use Rattle.sector_image.specs.Room.{left_to_copy}
use Rattle.sector_image.specs.Fits as fits
use Rattle.sector_switch.specs.States as states
use Rattle.sector_image.specs.Fits.{FitsAlone, FitsSpilled}

-- One sector has all bytes; or home is full and the other sector takes the entries; or a call has
-- failed, and the board is to be opened again.
pub data StoreState : Type 0 where
  Alone : (kept : Kept) → StoreState
  Spilled : (kept : Kept) → StoreState
  Spent : StoreState

-- the state, with the bytes of the image and those of the sector in use alone
pub record Store : Type 0 where
  pub state : StoreState
  pub bytes : Bytes

-- the storage bytes that the words stand for
abbrev pub durable_of : Store → List ℕ
durable_of store = store.bytes.whole

-- one sector has all bytes
abbrev pub in_one_sector : StoreState → Bool
in_one_sector (Alone kept) = true
in_one_sector (Spilled kept) = false
in_one_sector Spent = false

-- home is full, and the other sector takes the entries
abbrev pub in_both_sectors : StoreState → Bool
in_both_sectors (Alone kept) = false
in_both_sectors (Spilled kept) = true
in_both_sectors Spent = false

-- a call has failed
abbrev pub has_failed : StoreState → Bool
has_failed (Alone kept) = false
has_failed (Spilled kept) = false
has_failed Spent = true

abbrev pub is_alone : Store → Bool
is_alone store = in_one_sector store.state

abbrev pub is_spilled : Store → Bool
is_spilled store = in_both_sectors store.state

abbrev pub is_spent : Store → Bool
is_spent store = has_failed store.state

-- The store's state fits the board, and so it isn't spent. No torn last entry waits to be
-- completed.
abbrev pub FitsState : {B : Type 0} → Ghosts B → B → StoreState → Bytes → Type 0
FitsState g b (Alone kept) bytes = FitsAlone g b kept bytes
FitsState g b (Spilled kept) bytes = FitsSpilled g b kept bytes × (kept.completable ≡ false)
FitsState g b Spent bytes = ⊥

abbrev pub Fits : {B : Type 0} → Ghosts B → B → Store → Type 0
Fits g b store = FitsState g b store.state store.bytes

-- the guard count
abbrev pub guard_in : StoreState → ℕ
guard_in (Alone kept) = kept.guard
guard_in (Spilled kept) = kept.guard
guard_in Spent = 0

abbrev pub guard_of : Store → ℕ
guard_of store = guard_in store.state

-- the guard count, and two more where the store is spilled: the switch that is due raises it by two
abbrev pub guard_ahead : Store → ℕ
guard_ahead store = guard_of store + (if is_spilled store then 2 else 0)

-- The bytes that an entry of one of the caller's lines may take: the free bytes of home, and where
-- the store is spilled those of the other sector less what is kept for the copy.
abbrev pub room_in : StoreState → Bytes → ℕ
room_in (Alone kept) bytes = fits.free_of kept
room_in (Spilled kept) bytes = states.room_of kept bytes
room_in Spent bytes = 0

abbrev pub room_of : Store → ℕ
room_of store = room_in store.state store.bytes

-- the free bytes of both sectors together
abbrev pub free_in : StoreState → ℕ
free_in (Alone kept) = fits.free_of kept + (kept.sector_bytes - header_bytes)
free_in (Spilled kept) =
    fits.free_of kept + option_map_or (λ log. kept.sector_bytes - 2 * log.end) kept.other 0
free_in Spent = 0

abbrev pub free_of : Store → ℕ
free_of store = free_in store.state

-- What an armed vehicle may still write: ten bytes for each line of the budget, and the room of a
-- spilled store.
abbrev pub spare_in : StoreState → Bytes → ℕ
spare_in (Alone kept) bytes = line_bytes * budget_of kept.sector_bytes
spare_in (Spilled kept) bytes = states.room_of kept bytes
spare_in Spent bytes = 0

abbrev pub spare_of : Store → ℕ
spare_of store = spare_in store.state store.bytes

-- an armed vehicle may still write so many lines, each as an entry of its own
abbrev pub HasSpare : Store → ℕ → Type 0
HasSpare store lines = line_bytes * lines ≤ spare_of store

-- these lines have ascending numbers without a gap, from this one on
abbrev pub Ascend : ℕ → List LineWrite → Type 0
Ascend line [] = Unit {0}
Ascend line (write ∷ writes) = (write.line ≡ line) × Ascend (line + 1) writes

-- an entry is 1 to 8 such lines of the storage
pub record AreOneEntry (writes : List LineWrite) : Type 0 where
  pub first : ℕ
  pub ascend : Ascend first writes
  pub some : 1 ≤ length writes
  pub most : length writes ≤ 8
  pub inside : first + length writes ≤ LINES

-- the bytes of flash that an entry takes: its header and eight for each line
abbrev pub entry_bytes : List LineWrite → ℕ
entry_bytes writes = 2 + 8 * length writes

-- There is no room for an entry of so many bytes where the store is spilled, or home's free bytes
-- are fewer.
abbrev pub lacks_in : StoreState → ℕ → Bool
lacks_in (Alone kept) size = nat_lt (fits.free_of kept) size
lacks_in (Spilled kept) size = true
lacks_in Spent size = true

-- there is no room for an entry of these lines
abbrev pub lacks_room : Store → List LineWrite → Bool
lacks_room store writes = lacks_in store.state (entry_bytes writes)

-- A sector is to be voided: the put isn't armed, and there is no room.
abbrev pub Voids : Bool → Store → List LineWrite → Type 0
Voids armed store writes = (armed ≡ false) × IsTrue (lacks_room store writes)

-- how much the put of these lines raises the guard count: by two where a sector is to be voided
abbrev pub raise : Bool → Store → List LineWrite → ℕ
raise armed store writes = if armed then 0 else (if lacks_room store writes then 2 else 0)

-- the chunks of some bytes that a switch copies to a sector without entries
abbrev pub left_from_zeros : List ℕ → ℕ
left_from_zeros whole = left_to_copy whole (value_of []) None

-- The bytes that a switch leaves free at least: those of a sector without its header and an entry
-- of 66 bytes for each chunk that isn't all zeros, and of a spilled store without what is written
-- and for each chunk that is left to copy.
abbrev pub switch_leaves_in : StoreState → Bytes → ℕ
switch_leaves_in (Alone kept) bytes =
    kept.sector_bytes - (header_bytes + copy_bytes * left_from_zeros bytes.whole)
switch_leaves_in (Spilled kept) bytes = kept.sector_bytes - states.taken_of kept bytes
switch_leaves_in Spent bytes = 0

abbrev pub switch_leaves : Store → ℕ
switch_leaves store = switch_leaves_in store.state store.bytes

-- the free bytes of home, which a spilled store doesn't use any more
abbrev pub home_free_in : StoreState → ℕ
home_free_in (Alone kept) = fits.free_of kept
home_free_in (Spilled kept) = fits.free_of kept
home_free_in Spent = 0

abbrev pub home_free : Store → ℕ
home_free store = home_free_in store.state

-- what holds of the log of home
abbrev pub OnHomeIn : StoreState → (Log → Type 0) → Type 0
OnHomeIn (Alone kept) P = P kept.home
OnHomeIn (Spilled kept) P = P kept.home
OnHomeIn Spent P = Unit {0}

abbrev pub OnHome : Store → (Log → Type 0) → Type 0
OnHome store P = OnHomeIn store.state P
