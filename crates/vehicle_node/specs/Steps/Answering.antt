-- One act of an event: its lines are issued, all lines are put where it asks for that, and then its
-- frames are sent.
use Rattle.std.specs.Prelude.{◌≡◌, ◌⊎◌, ◌≤◌, ◌<◌, ℕ, ◌+◌, ◌*◌, Bool, true, false, ◌&&◌, List, [], ◌++◌, length, take, Option, Result, ⊤, IsOk}
use Rattle.flash_traits.specs.declared.board.Board.{Ghosts}
use Rattle.flash_traits.specs.Calls.{ErasesNothing}
use Rattle.flash_traits.specs.Losses.{SentFrame, Outcome}
use Rattle.storage_lines.specs.declared.lines.LineWrite.{LineWrite}
use Rattle.storage_lines.specs.Lines.{after}
use Rattle.sector_image.specs.Stands.{Stands}
use Rattle.block_store.specs.Store.{durable_of, HasSpare}
use Rattle.block_store.specs.declared.PutError.{PutError}
use Rattle.block_store.specs.declared.PutError.TheVariants as put_error
use Rattle.dirty_lines.specs.Lines.{current_of}
use Rattle.dirty_lines.specs.Entries.{CutIntoEntries, IsFewest}
use Rattle.dirty_lines.specs.Wearing.{NoneWears}
use Rattle.mav_frames.specs.Frames.{is_v2}
use Rattle.vehicle_core.specs.declared.orders.Need.{Need}
use Rattle.vehicle_core.specs.declared.orders.Need.TheVariants.{Nothing, FlushAll}
use Rattle.vehicle_core.specs.Vehicle.{Asked, is_armed}
use Rattle.vehicle_core.specs.Acts.{Act, Said, heard_as, Did, did}
use Rattle.vehicle_runs.specs.Frames.{Delivery, deliveries, counted_all, AreFramesOf}
use Rattle.vehicle_runs.specs.Guard.{CountsUpTo}
use Rattle.vehicle_runs.specs.Reading.{Says, IsSilent}
use Rattle.vehicle_runs.specs.Safe.{Adds}
use Rattle.vehicle_node.specs.Standing.{Node, IsAlone, armed_in, ceiling, raised_by}
use Rattle.vehicle_node.specs.Wearing.{Compacts, Unworn}
use Rattle.vehicle_node.specs.Steps.Calls.{HasSent, Call, WornAlone}
use Rattle.vehicle_node.specs.Steps.Sending.{answers_to}
use Rattle.vehicle_node.specs.declared.NodeError.{NodeError}
use Rattle.vehicle_node.specs.declared.NodeError.TheVariants as node_error
use Rattle.vehicle_node.specs.declared.TheConstants.{ROOM_FROM}

-- the node's error for that of a flush, which never lacks room
abbrev pub IsErrorOf : PutError → NodeError → Type 0
IsErrorOf (put_error.Fault kind) error = error ≡ node_error.Fault kind
IsErrorOf (put_error.NoRoom room) error = ⊥
IsErrorOf (put_error.Worn count) error = error ≡ node_error.Worn count

-- the store has bytes to spare for the pending lines and so many more
abbrev pub HasSpareFor : Node → ℕ → Type 0
HasSpareFor node more = HasSpare node.lines.store (length node.lines.pending + more)

-- While armed the pending lines have room.
abbrev pub HasRoom : Bool → Node → Type 0
HasRoom armed node = armed ≡ true → HasSpareFor node 0

-- Lines were put, and nothing else has changed: what was spare while armed still is for the lines
-- that are left, and who isn't armed leaves one sector with all bytes where it was so.
pub record OnlyPuts (armed : Bool) (old new : Node) : Type 0 where
  pub budget : new.budget ≡ old.budget
  pub machine : new.machine ≡ old.machine
  pub rests : new.rests ≡ old.rests
  pub frame_count : new.frames ≡ old.frames
  pub line_count : new.issued ≡ old.issued
  pub index : new.index ≡ old.index
  pub put : List LineWrite
  pub split : put ++ new.lines.pending ≡ old.lines.pending
  pub durable : durable_of new.lines.store ≡ after (durable_of old.lines.store) put
  pub ahead : ceiling new ≤ ceiling old
  pub spare : armed ≡ true → (more : ℕ) → HasSpareFor old more → HasSpareFor new more
  pub alone : armed ≡ false → IsAlone old → IsAlone new
  pub unworn : Unworn armed [] old.lines new.lines

-- A prefix of the pending lines was put: at least n, or all, and no more than it takes in entries
-- of up to eight lines.
pub record Flushed (n : ℕ) (armed : Bool) (old new : Node) : Type 0 where
  pub puts : OnlyPuts armed old new
  pub enough : n ≤ length puts.put ⊎ new.lines.pending ≡ []
  pub few : length puts.put < n + 8
  pub entries : List (List LineWrite)
  pub cut : CutIntoEntries entries new.lines.pending old.lines.pending
  pub fewest : IsFewest n entries new.lines.pending
  pub each : NoneWears armed entries old.lines.store new.lines.store

-- A prefix of the pending lines was put, and nothing was received or sent.
pub record Flushing (node : Node) (from o : Outcome) : Type 0 where
  pub events : o.events ≡ from.events
  pub frames : o.frames ≡ from.frames
  pub put : List LineWrite
  pub rest : List LineWrite
  pub split : put ++ rest ≡ node.lines.pending
  pub stands : Stands o.words (after (durable_of node.lines.store) put)
  pub guard : CountsUpTo (ceiling node) o.words.guard

pub record FlushedAll {B : Type 0} (g : Ghosts B) (n : ℕ) (armed : Bool) (old : Node) (board : B)
    (new : Node) (after_board : B) : Type 0 where
  pub flushed : Flushed n armed old new
  pub sent : HasSent g [] (Adds [] []) board after_board
  pub still : armed ≡ true → ErasesNothing g board after_board

abbrev pub FlushDone : {B : Type 0} → Ghosts B → ℕ → Bool → Node → B → Result ⊤ NodeError → Node
    → B → Type 0
FlushDone g n armed old board result new after_board =
    Call g (Flushing old) (WornAlone g armed (ceiling old) old new after_board)
    (FlushedAll g n armed old board new after_board) board result after_board

-- The store was made to stand alone, and nothing else has changed.
pub record Compacted (old new : Node) : Type 0 where
  pub same : new ≡ record old { lines = new.lines }
  pub pending : new.lines.pending ≡ old.lines.pending
  pub durable : durable_of new.lines.store ≡ durable_of old.lines.store
  pub ahead : ceiling new ≤ ceiling old
  pub alone : IsAlone new
  pub compacts : Compacts old.lines new.lines

pub record CompactedAll {B : Type 0} (g : Ghosts B) (old : Node) (board : B) (new : Node)
    (after_board : B) : Type 0 where
  pub compacted : Compacted old new
  pub sent : HasSent g [] (Adds [] []) board after_board

-- where the store stands alone already there is nothing that could wear it
abbrev pub CompactDone : {B : Type 0} → Ghosts B → Node → B → Result ⊤ NodeError → Node → B → Type 0
CompactDone g old board result new after_board =
    Call g (Flushing old) (WornAlone g false (ceiling old) old new after_board)
    (CompactedAll g old board new after_board) board result after_board

-- Where all is needed, nothing is pending, and unless the vehicle stays armed one sector has all
-- bytes; else nothing was put.
pub record Settled (need : Need) (armed : Bool) (old new : Node) : Type 0 where
  pub puts : OnlyPuts armed old new
  pub whole : need ≡ FlushAll → new.lines.pending ≡ []
  pub alone : need ≡ FlushAll → armed ≡ false → IsAlone new
  pub idle : need ≡ Nothing → puts.put ≡ []

pub record SettledAll {B : Type 0} (g : Ghosts B) (need : Need) (armed : Bool) (old : Node)
    (board : B) (new : Node) (after_board : B) : Type 0 where
  pub settled : Settled need armed old new
  pub sent : HasSent g [] (Adds [] []) board after_board
  pub still : armed ≡ true → ErasesNothing g board after_board

abbrev pub SettleDone : {B : Type 0} → Ghosts B → Need → Bool → Node → B → Result ⊤ NodeError
    → Node → B → Type 0
SettleDone g need armed old board result new after_board =
    Call g (Flushing old) (WornAlone g armed (ceiling old) old new after_board)
    (SettledAll g need armed old board new after_board) board result after_board

-- These lines are issued after those that were pending, of which a prefix was put. They aren't
-- counted yet.
pub record Issued (armed : Bool) (old : Node) (writes : List LineWrite) (new : Node)
    : Type 0 where
  pub budget : new.budget ≡ old.budget
  pub machine : new.machine ≡ old.machine
  pub rests : new.rests ≡ old.rests
  pub put : List LineWrite
  pub split : put ++ new.lines.pending ≡ old.lines.pending ++ writes
  pub durable : durable_of new.lines.store ≡ after (durable_of old.lines.store) put
  pub few : length old.lines.pending ≤ ROOM_FROM → put ≡ []
  pub frame_count : new.frames ≡ old.frames
  pub line_count : new.issued ≡ old.issued
  pub index : new.index ≡ old.index
  pub ahead : ceiling new ≤ ceiling old + 2 * length writes
  pub spare : armed ≡ true → (more : ℕ) → HasSpareFor old (length writes + more)
      → HasSpareFor new more
  pub alone : armed ≡ false → IsAlone old → IsAlone new
  pub unworn : Unworn armed writes old.lines new.lines

pub record IssuedAll {B : Type 0} (g : Ghosts B) (armed : Bool) (writes : List LineWrite)
    (old : Node) (board : B) (new : Node) (after_board : B) : Type 0 where
  pub issued : Issued armed old writes new
  pub sent : HasSent g [] (Adds [] []) board after_board
  pub still : armed ≡ true → ErasesNothing g board after_board

abbrev pub IssueDone : {B : Type 0} → Ghosts B → Bool → List LineWrite → Node → B
    → Result ⊤ NodeError → Node → B → Type 0
IssueDone g armed writes old board result new after_board =
    Call g (Flushing old) (WornAlone g armed (ceiling old) old new after_board)
    (IssuedAll g armed writes old board new after_board) board result after_board

-- These lines are issued after those that were pending, of which a prefix was put: all, where all
-- is needed. Then these deliveries are sent by these frames.
pub record Answered (need : Need) (armed : Bool) (writes : List LineWrite) (ds : List Delivery)
    (old : Node) (frames : List SentFrame) (new : Node) : Type 0 where
  pub budget : new.budget ≡ old.budget
  pub machine : new.machine ≡ counted_all old.machine ds
  pub rests : new.rests ≡ old.rests
  pub put : List LineWrite
  pub split : put ++ new.lines.pending ≡ old.lines.pending ++ writes
  pub durable : durable_of new.lines.store ≡ after (durable_of old.lines.store) put
  pub few : need ≡ Nothing → length old.lines.pending ≤ ROOM_FROM → put ≡ []
  pub whole : need ≡ FlushAll → new.lines.pending ≡ []
  pub frames_are : AreFramesOf (answers_to old.machine ds) frames
  pub frame_count : new.frames ≡ raised_by (length frames) old.frames
  pub line_count : new.issued ≡ raised_by (length writes) old.issued
  pub ahead : ceiling new ≤ ceiling old + 2 * length writes
  pub spare : armed ≡ true → (more : ℕ) → HasSpareFor old (length writes + more)
      → HasSpareFor new more
  pub alone : armed ≡ false → IsAlone old ⊎ need ≡ FlushAll → IsAlone new
  pub unworn : Unworn armed writes old.lines new.lines

-- A prefix of the answers was sent, and a prefix of the lines pending and issued was put: all,
-- where all is needed, before anything was sent.
pub record Answering (need : Need) (writes : List LineWrite) (ds : List Delivery) (node : Node)
    (from o : Outcome) : Type 0 where
  pub events : o.events ≡ from.events
  pub sent : List SentFrame
  pub frames : o.frames ≡ from.frames ++ sent
  pub first : AreFramesOf (take (length sent) (answers_to node.machine ds)) sent
  pub put : List LineWrite
  pub rest : List LineWrite
  pub split : put ++ rest ≡ node.lines.pending ++ writes
  pub whole : need ≡ FlushAll → sent ≡ [] ⊎ rest ≡ []
  pub stands : Stands o.words (after (durable_of node.lines.store) put)
  pub guard : CountsUpTo (ceiling node + 2 * length writes) o.words.guard

pub record AnsweredAs {B : Type 0} (g : Ghosts B) (need : Need) (armed : Bool)
    (writes : List LineWrite) (ds : List Delivery)
    (old : Node) (board : B) (new : Node) (after_board : B) : Type 0 where
  pub frames : List SentFrame
  pub answered : Answered need armed writes ds old frames new
  pub sent : HasSent g frames (Adds [] frames) board after_board
  pub still : armed ≡ true → ErasesNothing g board after_board

abbrev pub AnswerDone : {B : Type 0} → Ghosts B → Need → Bool → List LineWrite → List Delivery
    → Node → B → Result ⊤ NodeError → Node → B → Type 0
AnswerDone g need armed writes ds old board result new after_board =
    Call g (Answering need writes ds old)
    (WornAlone g armed (ceiling old + 2 * length writes) old new after_board)
    (AnsweredAs g need armed writes ds old board new after_board) board result after_board

-- what the vehicle does at a node
abbrev pub did_at : Node → Act → Did
did_at node act = did node.budget (current_of node.lines) node.machine.vehicle act

abbrev pub deliveries_at : Node → Act → List Delivery
deliveries_at node act = deliveries (did_at node act).vehicle (did_at node act).told

-- the node with the vehicle's state after an act
abbrev pub node_after : Node → Act → Node
node_after node act = record node {
  machine = record node.machine { vehicle = (did_at node act).vehicle };
}

-- the vehicle is armed before an act and after it: what is put for the act erases nothing
abbrev pub armed_over : Node → Act → Bool
armed_over node act = armed_in node && is_armed (did_at node act).vehicle

-- the act was answered, or the answer was cut short
abbrev pub ActDone : {B : Type 0} → Ghosts B → Node → B → Act → Result ⊤ NodeError → Node → B
    → Type 0
ActDone g old board act result new after_board =
    AnswerDone g (did_at old act).need (armed_over old act) (did_at old act).writes
    (deliveries_at old act) (node_after old act) board result new after_board

-- a frame that has a message was answered; any other one changes nothing
abbrev pub FrameDone : {B : Type 0} → Ghosts B → Node → B → ℕ → List ℕ → Result ⊤ NodeError → Node
    → B → Type 0
FrameDone g old board station bytes result new after_board =
    (IsSilent bytes × IsOk result × (new ≡ old) × (after_board ≡ board))
    ⊎ ((asked : Option Asked) × Says bytes asked
    × ActDone g old board (Said station (heard_as (is_v2 bytes) asked)) result new after_board)
