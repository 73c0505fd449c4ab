-- What the vehicle sends: which frames go to whom.
use Rattle.std.specs.Prelude.{◌≡◌, ℕ, ◌+◌, ◌%◌, max, Bool, List, [], ◌∷◌, map, filter, replicate, slice_index, slice_set, if◌then◌else◌}
use Rattle.std.specs.List.{AllZip, flat_map, fold, range_with_len}
use Rattle.flash_traits.specs.Losses.{SentFrame}
use Rattle.mav_messages.specs.declared.messages.Message.{Message}
use Rattle.mav_messages.specs.declared.messages.To.{To}
use Rattle.mav_messages.specs.declared.messages.To.TheVariants.{Station, All}
use Rattle.mav_frames.specs.Frames.{IsSent}
use Rattle.vehicle_core.specs.Vehicle.{Vehicle, Content, Told, new_vehicle, is_heard, speaks_v2, is_storage_acknowledgement}
use Rattle.vehicle_core.specs.Replies.{Tells}

-- the eight stations
abbrev pub stations : List ℕ
stations = range_with_len 0 8

-- to whom it is told: a station, or all that were heard, ascending
abbrev pub told_to : Vehicle → To → List ℕ
told_to vehicle (Station station) = station ∷ []
told_to vehicle All = filter (is_heard vehicle) stations

-- one content for one station
pub record Delivery : Type 0 where
  pub station : ℕ
  pub content : Content

abbrev pub deliveries_of : Vehicle → Told → List Delivery
deliveries_of vehicle told =
    map (λ station. record { station = station; content = told.content }) (told_to vehicle told.to)

abbrev pub deliveries : Vehicle → List Told → List Delivery
deliveries vehicle told = flat_map (deliveries_of vehicle) told

-- the machine: the vehicle's state, and each station's next sequence number
pub record Machine : Type 0 where
  pub vehicle : Vehicle
  pub sequences : List ℕ

abbrev pub new_machine : Machine
new_machine = record { vehicle = new_vehicle; sequences = replicate 8 0 }

-- A delivery with the version and the sequence number of its frame, and how many lines were issued
-- before it.
pub record Answer : Type 0 where
  pub station : ℕ
  pub v2 : Bool
  pub sequence : ℕ
  pub content : Content
  pub issued : ℕ

-- one frame more: each station has sequence numbers of its own, from 0 on, modulo 256
abbrev pub counted : Machine → Delivery → Machine
counted machine d = record machine {
  sequences = slice_set machine.sequences d.station
      ((slice_index machine.sequences d.station + 1) % 256);
}

abbrev pub counted_all : Machine → List Delivery → Machine
counted_all machine ds = fold counted machine ds

-- each delivery goes as a frame of the station's version, with the station's next sequence number,
-- after so many lines were issued
abbrev pub numbered : ℕ → Machine → List Delivery → List Answer
numbered issued machine [] = []
numbered issued machine (d ∷ ds) = record {
  station = d.station;
  v2 = speaks_v2 machine.vehicle d.station;
  sequence = slice_index machine.sequences d.station;
  content = d.content;
  issued = issued;
} ∷ numbered issued (counted machine d) ds

-- the most lines that were issued before one of the storage acknowledgements among these answers,
-- or 0
abbrev pub acknowledged : List Answer → ℕ
acknowledged [] = 0
acknowledged (answer ∷ answers) =
    max (if is_storage_acknowledgement answer.content then answer.issued else 0)
    (acknowledged answers)

-- The frame of an answer goes to its station, from system 1, component 1, and its message says what
-- is told.
pub record IsFrameOf (answer : Answer) (frame : SentFrame) : Type 0 where
  pub peer : frame.peer ≡ answer.station
  pub message : Message
  pub tells : Tells answer.content message
  pub sent : IsSent answer.v2 answer.sequence 1 1 message frame.bytes

-- the frames are those of these answers, in order
abbrev pub AreFramesOf : List Answer → List SentFrame → Type 0
AreFramesOf answers frames = AllZip IsFrameOf answers frames
