-- Frames sent, one after another.
use Rattle.std.specs.Prelude.{◌≡◌, ◌<◌, ℕ, List, ◌++◌, length, take, map, filter, Result, ⊤}
use Rattle.flash_traits.specs.declared.board.Board.{Ghosts}
use Rattle.flash_traits.specs.Calls.{ErasesNothing}
use Rattle.flash_traits.specs.Losses.{SentFrame, Outcome}
use Rattle.mav_messages.specs.declared.messages.To.{To}
use Rattle.mav_messages.specs.declared.messages.To.TheVariants.{Station, All}
use Rattle.vehicle_core.specs.Vehicle.{Vehicle, Content, is_heard}
use Rattle.vehicle_runs.specs.Frames.{Machine, Answer, Delivery, numbered, counted, counted_all, AreFramesOf}
use Rattle.vehicle_node.specs.Standing.{Node, raised_by}
use Rattle.vehicle_node.specs.Steps.Calls.{HasSent, Call}
use Rattle.vehicle_node.specs.declared.NodeError.{NodeError}

-- a station is one of the eight
abbrev pub IsInside : To → Type 0
IsInside (Station station) = station < 8
IsInside All = Unit {0}

-- one content for one station
abbrev pub delivery : ℕ → Content → Delivery
delivery station content = record { station = station; content = content }

-- the deliveries of one content to those of these stations that were heard
abbrev pub deliveries_to : Vehicle → List ℕ → Content → List Delivery
deliveries_to vehicle listed content =
    map (λ station. delivery station content) (filter (is_heard vehicle) listed)

-- The answers that deliveries give. How many lines were issued before, a frame doesn't say.
abbrev pub answers_to : Machine → List Delivery → List Answer
answers_to machine ds = numbered 0 machine ds

-- one more frame was sent to the station
pub record Counted (station : ℕ) (old new : Node) : Type 0 where
  pub budget : new.budget ≡ old.budget
  pub lines : new.lines ≡ old.lines
  pub machine : (content : Content) → new.machine ≡ counted old.machine (delivery station content)
  pub rests : new.rests ≡ old.rests
  pub frame_count : new.frames ≡ raised_by 1 old.frames
  pub line_count : new.issued ≡ old.issued
  pub index : new.index ≡ old.index

-- these frames were sent, and nothing else happened
pub record SendsFrames (frames : List SentFrame) (from o : Outcome) : Type 0 where
  pub words : o.words ≡ from.words
  pub events : o.events ≡ from.events
  pub frames_are : o.frames ≡ from.frames ++ frames

-- a prefix of these answers was sent, and nothing else happened
pub record SendsPrefix (answers : List Answer) (from o : Outcome) : Type 0 where
  pub words : o.words ≡ from.words
  pub events : o.events ≡ from.events
  pub sent : List SentFrame
  pub frames : o.frames ≡ from.frames ++ sent
  pub first : AreFramesOf (take (length sent) answers) sent

-- These deliveries are sent by these frames, and nothing else is done.
pub record Sent (old : Node) (ds : List Delivery) (frames : List SentFrame) (new : Node)
    : Type 0 where
  pub budget : new.budget ≡ old.budget
  pub lines : new.lines ≡ old.lines
  pub machine : new.machine ≡ counted_all old.machine ds
  pub rests : new.rests ≡ old.rests
  pub frames_are : AreFramesOf (answers_to old.machine ds) frames
  pub frame_count : new.frames ≡ raised_by (length frames) old.frames
  pub line_count : new.issued ≡ old.issued

pub record SentAll {B : Type 0} (g : Ghosts B) (ds : List Delivery) (old : Node) (board : B)
    (new : Node)
    (after_board : B) : Type 0 where
  pub frames : List SentFrame
  pub sent : Sent old ds frames new
  pub told : HasSent g frames (SendsFrames frames) board after_board
  pub still : ErasesNothing g board after_board

-- the deliveries were sent, or the sending was cut short
abbrev pub SendDone : {B : Type 0} → Ghosts B → List Delivery → Node → B → Result ⊤ NodeError → Node
    → B → Type 0
SendDone g ds old board result new after_board =
    Call g (SendsPrefix (answers_to old.machine ds)) (λ error. Unit {0})
    (SentAll g ds old board new after_board) board result after_board
