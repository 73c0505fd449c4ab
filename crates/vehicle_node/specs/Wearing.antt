-- What is put, event by event, wears no guard row: wherever a sector is to be voided the guard row
-- isn't used up.
use Rattle.std.specs.Prelude.{◌≡◌, ◌≢◌, ◌⊎◌, ◌<◌, List, [], ◌∷◌, ◌++◌, length, Bool, false, ◌&&◌, IsTrue}
use Rattle.flash_traits.specs.declared.board.Board.{Ghosts}
use Rattle.flash_traits.specs.declared.numbers.TheConstants.{GUARD_HALFWORDS}
use Rattle.flash_traits.specs.Words.{Words}
use Rattle.storage_lines.specs.declared.lines.LineWrite.{LineWrite}
use Rattle.sector_image.specs.Stands.{Stands, Reading, IsReadAs, count_after}
use Rattle.block_store.specs.Store as store
use Rattle.sector_switch.specs.States.{HomeAfter}
use Rattle.block_store.specs.Store.{Store, durable_of, guard_of, guard_ahead, room_of, is_alone, is_spilled, OnHome}
use Rattle.dirty_lines.specs.Lines.{Lines, lines_of}
use Rattle.dirty_lines.specs.Entries.{CutIntoEntries, IsFewest, flash_bytes}
use Rattle.dirty_lines.specs.Wearing.{NoneWears}
use Rattle.vehicle_core.specs.declared.orders.Need.TheVariants.{FlushAll}
use Rattle.vehicle_core.specs.Acts.{Act}
use Rattle.vehicle_runs.specs.Arming.{need_in, is_armed_after, is_armed_after_all}
use Rattle.vehicle_runs.specs.Runs.{boot}

-- Lines are issued, entries are put, or the store is made to stand alone.
pub data LineStep : Type 0 where
  Issue : (writes : List LineWrite) → LineStep
  Put : (entries : List (List LineWrite)) → LineStep
  Compact : LineStep

-- The store is made to stand alone. Where it does so already nothing is done; where it was spilled
-- a sector is voided, and the guard count wasn't 8,192.
pub record Compacts (old new : Lines) : Type 0 where
  pub pending : new.pending ≡ old.pending
  pub durable : durable_of new.store ≡ durable_of old.store
  pub alone : IsTrue (is_alone new.store)
  pub guard : guard_of new.store ≡ guard_ahead old.store
  pub idle : IsTrue (is_alone old.store) → new ≡ old
  pub unworn : IsTrue (is_spilled old.store) → guard_of old.store ≢ GUARD_HALFWORDS

-- What a step makes of the pending lines. Lines are issued after those that are pending; what is
-- put are the entries in front, each the longest run, and none of them wears the guard row; while
-- armed the store isn't made to stand alone.
abbrev pub IsStep : Bool → LineStep → Lines → Lines → Type 0
IsStep armed (Issue writes) old new = new ≡ lines_of old.store (old.pending ++ writes)
IsStep armed (Put entries) old new =
    CutIntoEntries entries new.pending old.pending × NoneWears armed entries old.store new.store
IsStep armed Compact old new = (armed ≡ false) × Compacts old new

-- steps one after another
abbrev pub AreSteps : Bool → List LineStep → Lines → Lines → Type 0
AreSteps armed [] old new = new ≡ old
AreSteps armed (step ∷ steps) old new =
    (mid : Lines) × IsStep armed step old mid × AreSteps armed steps mid new

-- the lines that steps issue
abbrev pub issued_by : List LineStep → List LineWrite
issued_by [] = []
issued_by (Issue writes ∷ steps) = writes ++ issued_by steps
issued_by (Put entries ∷ steps) = issued_by steps
issued_by (Compact ∷ steps) = issued_by steps

-- The pending lines came from here to there by steps that issue these lines, and of which none
-- wears the guard row.
pub record Unworn (armed : Bool) (writes : List LineWrite) (old new : Lines) : Type 0 where
  pub steps : List LineStep
  pub issued : issued_by steps ≡ writes
  pub done : AreSteps armed steps old new

-- The same of an act. What is put for it is put armed where the vehicle is armed before it and
-- after it, and nothing is pending after an act that asks for all lines to be put.
pub record ActUnworn (armed : Bool) (act : Act) (writes : List LineWrite) (old new : Lines)
    : Type 0 where
  pub unworn : Unworn (armed && is_armed_after armed act) writes old new
  pub whole : need_in act ≡ FlushAll → new.pending ≡ []

-- and of acts one after another
abbrev pub ActsUnworn : Bool → List Act → List LineWrite → Lines → Lines → Type 0
ActsUnworn armed [] writes old new = (writes ≡ []) × (new ≡ old)
ActsUnworn armed (act ∷ acts) writes old new =
    (first : List LineWrite) × (more : List LineWrite) × (mid : Lines) × (writes ≡ first ++ more)
    × ActUnworn armed act first old mid × ActsUnworn (is_armed_after armed act) acts more mid new

-- and of an event: after its acts the fewest entries are put that hold eight lines, or all.
pub record EventUnworn (armed : Bool) (acts : List Act) (writes : List LineWrite) (old new : Lines)
    : Type 0 where
  pub mid : Lines
  pub acted : ActsUnworn armed acts writes old mid
  pub entries : List (List LineWrite)
  pub cut : CutIntoEntries entries new.pending mid.pending
  pub fewest : IsFewest 8 entries new.pending
  pub last : NoneWears (is_armed_after_all armed acts) entries mid.store new.store

-- A sector is to be voided for the pending lines, were all of them put: there are some and the
-- store is spilled, or their entries take more bytes than home has free.
pub record PendingVoids (lines : Lines) : Type 0 where
  pub entries : List (List LineWrite)
  pub cut : CutIntoEntries entries [] lines.pending
  pub lacks : ((0 < length entries) × IsTrue (is_spilled lines.store))
      ⊎ room_of lines.store < flash_bytes entries

-- All pending lines are put, and none of their entries wears the guard row; what the board then has
-- fits the store after them.
pub record AllUnworn {B : Type 0} (g : Ghosts B) (armed : Bool) (lines : Lines) (board : B)
    : Type 0 where
  pub entries : List (List LineWrite)
  pub cut : CutIntoEntries entries [] lines.pending
  pub last : Store
  pub each : NoneWears armed entries lines.store last
  pub fits : store.Fits g board last

-- The words were opened with one sector that has all bytes, and then the lines of boot were put,
-- and none of their entries wears the guard row.
pub record BootUnworn (words : Words) (lines : Lines) : Type 0 where
  pub opened : Store
  pub alone : IsTrue (is_alone opened)
  pub stands : Stands words (durable_of opened)
  pub guard : (reading : Reading) → IsReadAs words reading → guard_of opened ≡ count_after reading
  pub home : (reading : Reading) → IsReadAs words reading → OnHome opened (HomeAfter reading)
  pub entries : List (List LineWrite)
  pub cut : CutIntoEntries entries [] (boot (durable_of opened))
  pub each : NoneWears false entries opened lines.store
