-- The generated session: its messages, its turns, and their events.
use Rattle.std.specs.Prelude.{◌≡◌, ◌≢◌, ℕ, zero, suc, ◌+◌, ◌%◌, ◌^◌, ◌==◌, if◌then◌else◌, true, List, [], ◌∷◌, ◌++◌, length, map, take, slice_get, Some, MatchOption, pos}
use Rattle.flash_traits.specs.Losses.{Received, Datagram, Idle, End}
use Rattle.word_bits.specs.Pattern.{IsWhole}
use Rattle.param_tree.specs.MavTypes.{mav_type_of}
use Rattle.param_tree.specs.declared.Var.{Var}
use Rattle.param_tree.specs.Rows.{vehicle_rows}
use Rattle.mav_messages.specs.declared.messages.Message.{Message}
use Rattle.mav_messages.specs.declared.messages.Message.TheVariants.{ParamSet, MissionCount, MissionItemInt, CommandLong}
use Rattle.mav_frames.specs.Frames.{IsSent}
use Rattle.session_boards.specs.declared.messages.TheConstants.{STATION_COMPONENT, STATION_SYSTEM}

-- what the station sends: PARAM_SET of a row to a number; MISSION_COUNT 5; the item of a round with
-- this seq; COMMAND_LONG 245, which asks for a flush
pub data Sending : Type 0 where
  Sets : (row number : ℕ) → Sending
  Counts : Sending
  Gives : (round seq : ℕ) → Sending
  Flushes : Sending

-- what comes in one turn: a message, or nothing
pub data Turn : Type 0 where
  Sends : Sending → Turn
  Waits : Turn

-- each round sets the next of the rows 64 to 239
abbrev pub set_of : ℕ → Sending
set_of round = Sets (64 + round % 176) (round % 100)

-- an upload of five items
abbrev pub upload : ℕ → List Sending
upload round = Counts ∷ Gives round 0 ∷ Gives round 1 ∷ Gives round 2 ∷ Gives round 3
    ∷ Gives round 4 ∷ []

-- every tenth round, from the first one on, has an upload
abbrev pub upload_of : ℕ → List Sending
upload_of round = if round % 10 == 0 then upload round else []

-- every sixteenth round ends with a flush
abbrev pub flush_of : ℕ → List Sending
flush_of round = if round % 16 == 15 then Flushes ∷ [] else []

-- the messages of a round, in their order
abbrev pub messages_of : ℕ → List Sending
messages_of round = set_of round ∷ (upload_of round ++ flush_of round)

-- each of the messages in a turn of its own, and then a turn in which nothing comes
abbrev pub waits_after : List Sending → List Turn
waits_after messages = map Sends messages ++ Waits ∷ []

-- the turns of so many rounds from one on
abbrev pub turns_from : ℕ → ℕ → List Turn
turns_from first zero = []
turns_from first (suc rounds) = waits_after (messages_of first) ++ turns_from (first + 1) rounds

-- the turns of a session of so many rounds
abbrev pub session : ℕ → List Turn
session rounds = turns_from 0 rounds

-- the pattern of a number, and not that of minus zero
pub record IsBitsOf (number pattern : ℕ) : Type 0 where
  pub whole : IsWhole pattern (pos number)
  pub plus : pattern ≢ 2 ^ 31

-- PARAM_SET with the name and the type of the row
pub record SaysSet (row number : ℕ) (message : Message) : Type 0 where
  pub var : Var
  pub pattern : ℕ
  pub row_is : slice_get vehicle_rows row ≡ Some var
  pub bits : IsBitsOf number pattern
  pub message_is : message ≡ ParamSet pattern 1 1 var.name (mav_type_of var.kind)

-- MISSION_ITEM_INT of a waypoint in the frame 3, relative to home: a little further north in each
-- round and further east in each item, 10 to 14 metres high
pub record SaysItem (round seq : ℕ) (message : Message) : Type 0 where
  pub pattern : ℕ
  pub bits : IsBitsOf (10 + seq) pattern
  pub message_is : message ≡ MissionItemInt 0 0 0 0 (pos (473977420 + round)) (pos (85455970 + seq))
      pattern seq 16 1 1 3 0 1 0

-- the message says what the station sends; each is for system 1 and component 1
abbrev pub SaysSending : Sending → Message → Type 0
SaysSending (Sets row number) message = SaysSet row number message
SaysSending Counts message = message ≡ MissionCount 5 1 1 0
SaysSending (Gives round seq) message = SaysItem round seq message
SaysSending Flushes message = message ≡ CommandLong 0x3F80_0000 0 0 0 0 0 0 245 1 1 0

-- One frame of version 2 with the message, from station 0, is the whole datagram.
pub record IsDatagramOf (sequence : ℕ) (sending : Sending) (event : Received) : Type 0 where
  pub message : Message
  pub bytes : List ℕ
  pub says : SaysSending sending message
  pub sent : IsSent true sequence STATION_SYSTEM STATION_COMPONENT message bytes
  pub event_is : event ≡ Datagram 0 bytes

-- the event of a turn, where a message in it has this sequence number
abbrev pub IsEventOf : ℕ → Turn → Received → Type 0
IsEventOf sequence (Sends sending) event = IsDatagramOf sequence sending event
IsEventOf sequence Waits event = event ≡ Idle

-- how many messages are sent in the turns
abbrev pub sent_in : List Turn → ℕ
sent_in [] = 0
sent_in (Sends sending ∷ turns) = suc (sent_in turns)
sent_in (Waits ∷ turns) = sent_in turns

-- The event with this number, counted from 0: that of the turn with this number, messages being
-- numbered by those before them, modulo 256; and the end, where there is no such turn.
abbrev pub IsEventAt : ℕ → ℕ → Received → Type 0
IsEventAt rounds number event = MatchOption (slice_get (session rounds) number) (event ≡ End)
    (λ turn. IsEventOf (sent_in (take number (session rounds)) % 256) turn event)

-- The events are the first ones of the session.
pub record AreFirst (rounds : ℕ) (events : List Received) : Type 0 where
  pub each : (k : ℕ) (event : Received) → slice_get events k ≡ Some event
      → IsEventAt rounds k event

-- The events are the whole session: one for each turn, and the end.
pub record IsGenerated (rounds : ℕ) (events : List Received) : Type 0 where
  pub first : AreFirst rounds events
  pub whole : length events ≡ length (session rounds) + 1

-- no event is the end
abbrev pub HasNoEnd : List Received → Type 0
HasNoEnd [] = Unit {0}
HasNoEnd (event ∷ events) = (event ≢ End) × HasNoEnd events

-- the last event is the end, and no other is
abbrev pub EndsOnce : List Received → Type 0
EndsOnce events = (before : List Received) × (events ≡ before ++ End ∷ []) × HasNoEnd before
