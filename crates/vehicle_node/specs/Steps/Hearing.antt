-- Several acts of an event, one after another: what was answered, and what a loss inside leaves.
use Rattle.std.specs.Prelude.{◌≡◌, ◌≤◌, ℕ, ◌+◌, ◌*◌, List, [], ◌∷◌, ◌++◌, length, Option, Some, Result, ⊤, slice_get, slice_set}
use Rattle.flash_traits.specs.declared.board.Board.{Ghosts}
use Rattle.flash_traits.specs.declared.numbers.TheConstants.{GUARD_HALFWORDS}
use Rattle.flash_traits.specs.Calls.{ErasesNothing}
use Rattle.flash_traits.specs.Losses.{Received, SentFrame, Outcome}
use Rattle.storage_lines.specs.declared.lines.LineWrite.{LineWrite}
use Rattle.mav_frames.specs.Cut.{Whole, IsFrame, Cut, Pushes}
use Rattle.vehicle_core.specs.Acts.{Act}
use Rattle.vehicle_runs.specs.Arming.{NoneFlushes, is_armed_after_all, IsArmedThroughout, IsArmedOnce}
use Rattle.vehicle_runs.specs.Guard.{CountsUpTo}
use Rattle.vehicle_runs.specs.Reading.{IsEvent, IsHeard}
use Rattle.vehicle_runs.specs.Runs.{Run, all_acts}
use Rattle.vehicle_runs.specs.Safe.{SafeAt, Adds}
use Rattle.vehicle_node.specs.Standing.{Node, IsAloneUnlessArmed, StandsAt, armed_in, ceiling, raised_by}
use Rattle.vehicle_node.specs.Wearing.{ActsUnworn}
use Rattle.vehicle_node.specs.Steps.Calls.{HasSent, Call, WornWhere}
use Rattle.vehicle_node.specs.declared.NodeError.{NodeError}
use Rattle.vehicle_node.specs.declared.TheConstants.{ROOM_FROM}

-- The node is where this run is, and the guard count can't rise above the limit and two more for
-- each line of the run.
pub record StandsBelow (limit : ℕ) (node : Node) (b : List ℕ) (r : Run) (sent : List SentFrame)
    : Type 0 where
  pub at : StandsAt node b r sent
  pub ahead : ceiling node ≤ limit + 2 * length r.issued

-- Nothing was received, and these frames with those that were added are safe in the run.
pub record SafeInside (limit : ℕ) (b : List ℕ) (r : Run) (floor : ℕ) (sent : List SentFrame)
    (from o : Outcome) : Type 0 where
  pub events_are : o.events ≡ from.events
  pub added_frames : List SentFrame
  pub frames_are : o.frames ≡ from.frames ++ added_frames
  pub safe : SafeAt b r floor (sent ++ added_frames) o.words
  pub guard : CountsUpTo (limit + 2 * length r.issued) o.words.guard

-- These acts were answered: wherever the node was in a run, it is after these acts. Where none of
-- them puts all and there are few lines enough, none was put.
pub record AnsweredAll {B : Type 0} (g : Ghosts B) (old : Node) (board : B) (acts : List Act)
    (new : Node)
    (after_board : B) : Type 0 where
  pub frames : List SentFrame
  pub sent : HasSent g frames (Adds [] frames) board after_board
  pub stands : (b : List ℕ) (r : Run) (sent : List SentFrame) → StandsAt old b r sent
      → StandsAt new b (all_acts old.budget b r acts) (sent ++ frames)
  pub issued : List LineWrite
  pub grew : (b : List ℕ) (r : Run) (sent : List SentFrame) → StandsAt old b r sent
      → (all_acts old.budget b r acts).issued ≡ r.issued ++ issued
  pub counted : new.issued ≡ raised_by (length issued) old.issued
  pub put : List LineWrite
  pub split : put ++ new.lines.pending ≡ old.lines.pending ++ issued
  pub few : NoneFlushes acts → length old.lines.pending + length issued ≤ ROOM_FROM → put ≡ []
  pub ahead : ceiling new ≤ ceiling old + 2 * length issued
  pub budget : new.budget ≡ old.budget
  pub armed : armed_in new ≡ is_armed_after_all (armed_in old) acts
  pub alone : IsAloneUnlessArmed old → IsAloneUnlessArmed new
  pub still : IsArmedThroughout (armed_in old) acts → ErasesNothing g board after_board
  pub unworn : ActsUnworn (armed_in old) acts issued old.lines new.lines

-- wherever the node was in a run, what a loss leaves is safe in the run with these acts
abbrev pub SafeIn : Node → List Act → Outcome → Outcome → Type 0
SafeIn node acts from o = (limit : ℕ) (b : List ℕ) (r : Run) (sent : List SentFrame)
    → StandsBelow limit node b r sent
    → SafeInside limit b (all_acts node.budget b r acts) r.floor sent from o

pub record ActsAnswered {B : Type 0} (g : Ghosts B) (old : Node) (board : B) (acts : List Act)
    (new : Node)
    (after_board : B) : Type 0 where
  pub rests : new.rests ≡ old.rests
  pub answered : AnsweredAll g old board acts new after_board

-- Wherever the node was in a run, the run with these acts issues lines enough that the guard count
-- can have come to the end of the row.
abbrev pub MayWearIn : Node → List Act → Type 0
MayWearIn node acts = (limit : ℕ) (b : List ℕ) (r : Run) (sent : List SentFrame)
    → StandsBelow limit node b r sent
    → GUARD_HALFWORDS ≤ limit + 2 * length (all_acts node.budget b r acts).issued

-- acts that are known were answered, or a prefix of them
abbrev pub ActsDone : {B : Type 0} → Ghosts B → Node → B → List Act → Result ⊤ NodeError → Node → B
    → Type 0
ActsDone g old board acts result new after_board =
    Call g (SafeIn old acts)
    (WornWhere g old (IsArmedOnce (armed_in old) acts) (MayWearIn old acts) new after_board)
    (ActsAnswered g old board acts new after_board) board result after_board

-- The cutter of a station took a byte, with which maybe a frame is whole.
pub record Pushed (station byte : ℕ) (frame : Option (List ℕ)) (old new : List (List ℕ))
    : Type 0 where
  pub rest : List ℕ
  pub rest_is : slice_get old station ≡ Some rest
  pub new_rest : List ℕ
  pub pushes : Pushes rest byte frame new_rest
  pub new_is : new ≡ slice_set old station new_rest

-- at most the rests have changed
abbrev pub KeepsButRests : Node → Node → Type 0
KeepsButRests old new = new ≡ record old { rests = new.rests }

-- a station has a rest, which begins neither with a whole frame nor with a byte to skip
pub record HasRest (station : ℕ) (rests : List (List ℕ)) : Type 0 where
  pub rest : List ℕ
  pub rest_is : slice_get rests station ≡ Some rest
  pub cut : Cut rest [] rest

-- The bytes are one whole frame, and the station has no rest before it.
pub record IsFront (station : ℕ) (bytes : List ℕ) (rests : List (List ℕ)) : Type 0 where
  pub rest_is : slice_get rests station ≡ Some []
  pub frame : IsFrame bytes
  pub cut : Cut bytes (Whole bytes ∷ []) []

-- A prefix of a station's bytes was heard, and what was sent and put is safe in the run with what
-- it says.
pub record SafeHearing (station : ℕ) (bytes : List ℕ) (node : Node) (limit : ℕ) (b : List ℕ)
    (r : Run) (sent : List SentFrame) (from o : Outcome) : Type 0 where
  pub first : List ℕ
  pub more : List ℕ
  pub split : first ++ more ≡ bytes
  pub said : List Act
  pub mid : List (List ℕ)
  pub heard : IsHeard station first node.rests said mid
  pub inside : SafeInside limit b (all_acts node.budget b r said) r.floor sent from o

-- wherever the node was in a run, what a loss leaves is safe in the run with a prefix of the bytes
abbrev pub SafeHeard : ℕ → List ℕ → Node → Outcome → Outcome → Type 0
SafeHeard station bytes node from o = (limit : ℕ) (b : List ℕ) (r : Run) (sent : List SentFrame)
    → StandsBelow limit node b r sent → SafeHearing station bytes node limit b r sent from o

-- In a prefix of a station's bytes the vehicle was armed.
pub record ArmedHearing (station : ℕ) (bytes : List ℕ) (node : Node) : Type 0 where
  pub first : List ℕ
  pub more : List ℕ
  pub split : first ++ more ≡ bytes
  pub said : List Act
  pub mid : List (List ℕ)
  pub heard : IsHeard station first node.rests said mid
  pub armed : IsArmedOnce (armed_in node) said

-- What a prefix of a station's bytes says issues lines enough to wear the guard row.
pub record WearingHearing (station : ℕ) (bytes : List ℕ) (node : Node) : Type 0 where
  pub first : List ℕ
  pub more : List ℕ
  pub split : first ++ more ≡ bytes
  pub said : List Act
  pub mid : List (List ℕ)
  pub heard : IsHeard station first node.rests said mid
  pub enough : MayWearIn node said

-- what a station's bytes say was answered
pub record HeardAll {B : Type 0} (g : Ghosts B) (old : Node) (board : B) (station : ℕ)
    (bytes : List ℕ)
    (new : Node) (after_board : B) : Type 0 where
  pub said : List Act
  pub heard : IsHeard station bytes old.rests said new.rests
  pub answered : AnsweredAll g old board said new after_board

-- the same where the bytes may have been heard in part alone
abbrev pub HearDone : {B : Type 0} → Ghosts B → Node → B → ℕ → List ℕ → Result ⊤ NodeError → Node
    → B → Type 0
HearDone g old board station bytes result new after_board =
    Call g (SafeHeard station bytes old)
    (WornWhere g old (ArmedHearing station bytes old) (WearingHearing station bytes old) new
    after_board)
    (HeardAll g old board station bytes new after_board) board result after_board

-- The event can be read so that what was sent and put is safe in the run with its acts.
pub record SafeTaking (event : Received) (node : Node) (limit : ℕ) (b : List ℕ) (r : Run)
    (sent : List SentFrame) (from o : Outcome) : Type 0 where
  pub acts : List Act
  pub new_rests : List (List ℕ)
  pub reads : IsEvent node.rests event acts new_rests
  pub inside : SafeInside limit b (all_acts node.budget b r acts) r.floor sent from o

-- wherever the node was in a run, what a loss leaves is safe in the run with the event
abbrev pub SafeTaken : Received → Node → Outcome → Outcome → Type 0
SafeTaken event node from o = (limit : ℕ) (b : List ℕ) (r : Run) (sent : List SentFrame)
    → StandsBelow limit node b r sent → SafeTaking event node limit b r sent from o

-- The event can be read into acts at whose start or after one of which the vehicle was armed.
pub record ArmedTaking (event : Received) (node : Node) : Type 0 where
  pub acts : List Act
  pub new_rests : List (List ℕ)
  pub reads : IsEvent node.rests event acts new_rests
  pub armed : IsArmedOnce (armed_in node) acts

-- The event can be read into acts that issue lines enough to wear the guard row.
pub record WearingTaking (event : Received) (node : Node) : Type 0 where
  pub acts : List Act
  pub new_rests : List (List ℕ)
  pub reads : IsEvent node.rests event acts new_rests
  pub enough : MayWearIn node acts

-- all acts of an event were answered
pub record TakenAll {B : Type 0} (g : Ghosts B) (event : Received) (old : Node) (board : B)
    (new : Node)
    (after_board : B) : Type 0 where
  pub acts : List Act
  pub reads : IsEvent old.rests event acts new.rests
  pub answered : AnsweredAll g old board acts new after_board

abbrev pub TakeDone : {B : Type 0} → Ghosts B → Received → Node → B → Result ⊤ NodeError → Node → B
    → Type 0
TakeDone g event old board result new after_board =
    Call g (SafeTaken event old)
    (WornWhere g old (ArmedTaking event old) (WearingTaking event old) new after_board)
    (TakenAll g event old board new after_board) board result after_board
