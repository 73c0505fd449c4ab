-- How events are read: the bytes of each station are one stream, whatever the borders of its
-- datagrams, and each right frame in it has a message.
use Rattle.std.specs.Prelude.{◌≡◌, ◌⊎◌, ℕ, ◌+◌, List, [], ◌∷◌, ◌++◌, map, replicate, Option, Some, slice_get, slice_index, slice_set}
use Rattle.flash_traits.specs.Losses.{Received, Datagram, Idle, End}
use Rattle.mav_messages.specs.declared.messages.Message.{Message}
use Rattle.mav_messages.specs.Messages.{FitsTypes}
use Rattle.mav_frames.specs.Cut.{StreamPiece, Cut, frames_in}
use Rattle.mav_frames.specs.Frames.{IsMessageOf, is_v2, sequence_place}
use Rattle.mission_service.specs.declared.uploads.Target.{Target}
use Rattle.vehicle_core.specs.Vehicle.{Asked, Asks}
use Rattle.vehicle_core.specs.Acts.{Act, heard_as, Said, Beat, Stream}
use Rattle.vehicle_runs.specs.Frames.{stations}

-- the bytes of each station that don't make a whole frame yet; none at the start
abbrev pub no_rests : List (List ℕ)
no_rests = replicate 8 []

-- a frame that has no message says nothing: it isn't right
abbrev pub IsSilent : List ℕ → Type 0
IsSilent bytes = (message : Message) → FitsTypes message → IsMessageOf bytes message → ⊥

-- the system and the component that a frame says it is from
abbrev pub sender_in : List ℕ → Target
sender_in bytes = record {
  system = slice_index bytes (sequence_place (is_v2 bytes) + 1);
  component = slice_index bytes (sequence_place (is_v2 bytes) + 2);
}

-- The frame's message asks for this.
pub record Says (bytes : List ℕ) (asked : Option Asked) : Type 0 where
  pub message : Message
  pub is : IsMessageOf bytes message
  pub fits : FitsTypes message
  pub asks : Asks (sender_in bytes) message asked

-- what a station says by these frames, in order
abbrev pub AreSaid : ℕ → List (List ℕ) → List Act → Type 0
AreSaid station [] acts = acts ≡ []
AreSaid station (bytes ∷ frames) acts =
    (IsSilent bytes × AreSaid station frames acts)
    ⊎ ((asked : Option Asked) × (more : List Act) × Says bytes asked × AreSaid station frames more
    × (acts ≡ Said station (heard_as (is_v2 bytes) asked) ∷ more))

-- after the messages of an event each station's list goes on
abbrev pub streams : List Act
streams = map Stream stations

-- at an idle turn each station is told that the vehicle is there, and asked for the next items of
-- its uploads
abbrev pub beats : List Act
beats = map Beat stations

-- These bytes of a station were cut into frames after its rest, and the frames say this.
pub record IsHeard (station : ℕ) (bytes : List ℕ) (old : List (List ℕ)) (said : List Act)
    (new : List (List ℕ)) : Type 0 where
  pub rest : List ℕ
  pub rest_is : slice_get old station ≡ Some rest
  pub pieces : List StreamPiece
  pub new_rest : List ℕ
  pub cut : Cut (rest ++ bytes) pieces new_rest
  pub are_said : AreSaid station (frames_in pieces) said
  pub new_is : new ≡ slice_set old station new_rest

-- A datagram lengthens its station's stream.
pub record IsDatagram (station : ℕ) (bytes : List ℕ) (old : List (List ℕ)) (acts : List Act)
    (new : List (List ℕ)) : Type 0 where
  pub said : List Act
  pub heard : IsHeard station bytes old said new
  pub acts_are : acts ≡ said ++ streams

-- the acts of an event, and each station's rest before and after it
abbrev pub IsEvent : List (List ℕ) → Received → List Act → List (List ℕ) → Type 0
IsEvent old (Datagram station bytes) acts new = IsDatagram station bytes old acts new
IsEvent old Idle acts new = (acts ≡ beats ++ streams) × (new ≡ old)
IsEvent old End acts new = (acts ≡ []) × (new ≡ old)

-- the acts of each of these events, one after another
abbrev pub Reads : List (List ℕ) → List Received → List (List Act) → List (List ℕ) → Type 0
Reads old [] events new = (events ≡ []) × (new ≡ old)
Reads old (e ∷ es) events new =
    (acts : List Act) × (mid : List (List ℕ)) × (more : List (List Act))
    × IsEvent old e acts mid × Reads mid es more new × (events ≡ acts ∷ more)
