-- What holds of every reading.
use Rattle.std.specs.Prelude.{◌≡◌, ◌⊎◌, ◌<◌, ℕ, ◌+◌, min, max, List, [], ◌∷◌, ◌++◌, length, All, Option}
use Rattle.flash_traits.specs.Losses.{Received, Datagram, Idle, End}
use Rattle.vehicle_core.specs.Vehicle.{Asked}
use Rattle.vehicle_core.specs.Acts.{Act}
use Rattle.vehicle_runs.specs.Frames.{Answer, acknowledged}
use Rattle.vehicle_runs.specs.Reading.{Says, IsSilent, Reads, no_rests}
use Rattle.vehicle_runs.specs.Runs.{Run, run_of}

-- A frame is silent or says something, and never more than one thing.
pub record FramesAreRead : Type 0 where
  pub any : (bytes : List ℕ) → IsSilent bytes ⊎ ((asked : Option Asked) × Says bytes asked)
  pub one : (bytes : List ℕ) (a b : Option Asked) → Says bytes a → Says bytes b → a ≡ b

-- a datagram comes from one of the eight stations
abbrev pub IsInRange : Received → Type 0
IsInRange (Datagram peer bytes) = peer < 8
IsInRange Idle = Unit {0}
IsInRange End = Unit {0}

-- every list of events in range can be read
abbrev pub EventsAreRead : Type 0
EventsAreRead = (events : List Received) → All IsInRange events → (acts : List (List Act))
    × (rests : List (List ℕ)) × Reads no_rests events acts rests

-- events are read in one way
abbrev pub EventsAreReadOnce : Type 0
EventsAreReadOnce = (events : List Received) (acts others : List (List Act))
    (rests left : List (List ℕ))
    → Reads no_rests events acts rests → Reads no_rests events others left
    → (acts ≡ others) × (rests ≡ left)

-- After one event more, eight lines more are flushed than after the one before, or than were issued
-- before the last storage acknowledgement of that event, or all.
pub record FlooredByEvent (before r : Run) : Type 0 where
  pub answers : List Answer
  pub whole : before.answers ++ answers ≡ r.answers
  pub floor : r.floor ≡ min (length r.issued) (max before.floor (acknowledged answers) + 8)

abbrev pub FloorsByEvents : Type 0
FloorsByEvents = (budget : ℕ) (b : List ℕ) (events : List (List Act)) (acts : List Act)
    → FlooredByEvent (run_of budget b events) (run_of budget b (events ++ acts ∷ []))
