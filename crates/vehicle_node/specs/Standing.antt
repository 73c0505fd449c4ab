-- When a node stands for a run.
use Rattle.std.specs.Prelude.{◌≡◌, ◌≤◌, ◌↔◌, ℕ, ◌+◌, ◌*◌, List, [], ◌∷◌, ◌++◌, ◌-◌, max, length, IfSome, IsTrue, IsFalse, Bool}
use Rattle.flash_traits.specs.declared.board.Board.{Ghosts}
use Rattle.flash_traits.specs.Budget.{budget_of}
use Rattle.flash_traits.specs.Calls.{ErasesNothing}
use Rattle.flash_traits.specs.Losses.{Received, End, SentFrame, Outcome, After, after_recv}
pub use Rattle.flash_traits.specs.Counts.{counts, raised_by}
use Rattle.storage_lines.specs.declared.lines.LineWrite.{LineWrite}
use Rattle.storage_lines.specs.Lines.{after}
use Rattle.param_tree.specs.Rows.{vehicle_rows}
use Rattle.param_index.specs.Places.{Places, IsIndexOf}
use Rattle.block_store.specs.Store as store
use Rattle.block_store.specs.Store.{durable_of, guard_ahead, is_alone, HasSpare}
use Rattle.dirty_lines.specs.Lines.{Lines, current_of}
use Rattle.vehicle_core.specs.Vehicle.{is_armed}
use Rattle.vehicle_core.specs.Acts.{Act}
use Rattle.vehicle_runs.specs.Arming.{NoneFlushes, is_armed_after_all, IsArmedThroughout, IsArmedOnce}
use Rattle.vehicle_runs.specs.Frames.{Machine, AreFramesOf, acknowledged}
use Rattle.vehicle_runs.specs.Reading.{IsEvent, Reads, no_rests}
use Rattle.vehicle_runs.specs.Guard.{raised_in}
use Rattle.vehicle_runs.specs.Runs.{Run, event_done, run_of}
use Rattle.vehicle_runs.specs.Safe.{Adds}
use Rattle.vehicle_node.specs.Wearing.{EventUnworn}
use Rattle.vehicle_node.specs.declared.Turn.{Turn}
use Rattle.vehicle_node.specs.declared.Turn.TheVariants as turn
use Rattle.vehicle_node.specs.declared.TheConstants.{ROOM_FROM}

-- What contracts see of a node: the arming budget of its board, its pending lines over the store,
-- the vehicle's state with the sequence numbers, each station's bytes that don't make a whole frame
-- yet, how many frames it has sent and lines issued, and the places of the parameter records.
pub record Node : Type 0 where
  pub budget : ℕ
  pub lines : Lines
  pub machine : Machine
  pub rests : List (List ℕ)
  pub frames : ℕ
  pub issued : ℕ
  pub index : Places

-- the node's vehicle is armed
abbrev pub armed_in : Node → Bool
armed_in node = is_armed node.machine.vehicle

-- So many lines were issued since the vehicle was armed: no more than the budget has, and the store
-- has bytes to spare for those that are pending and those that may still be issued.
pub record HasRoomSince (node : Node) (since : ℕ) : Type 0 where
  pub within : since ≤ node.budget
  pub spare : HasSpare node.lines.store
      (length node.lines.pending + (node.budget - since))

-- nothing is erased while the vehicle is armed, so what may be written then has room
abbrev pub HasRoomWhereArmed : Node → Type 0
HasRoomWhereArmed node = IfSome node.machine.vehicle.armed (HasRoomSince node)

-- the places are those of the storage bytes with all pending lines
abbrev pub IsIndexed : Node → Type 0
IsIndexed node = IsIndexOf vehicle_rows (current_of node.lines) node.index

-- The store fits the board, the budget is that of the board's sectors, and the places are those of
-- the current bytes.
pub record Fits {B : Type 0} (g : Ghosts B) (b : B) (node : Node) : Type 0 where
  pub store : store.Fits g b node.lines.store
  pub budget : node.budget ≡ budget_of (g.sector_bytes b)
  pub armed : HasRoomWhereArmed node
  pub index : IsIndexed node

-- one sector has all bytes
abbrev pub IsAlone : Node → Type 0
IsAlone node = IsTrue (is_alone node.lines.store)

-- where the vehicle isn't armed one sector has all bytes
abbrev pub IsAloneUnlessArmed : Node → Type 0
IsAloneUnlessArmed node = IsFalse (armed_in node) → IsAlone node

-- What the guard count can rise to until nothing is pending: each line is an entry of its own at
-- worst, and an entry may need a switch of the sectors, which raises the count by two.
abbrev pub ceiling : Node → ℕ
ceiling node = guard_ahead node.lines.store + 2 * length node.lines.pending

-- The node is where this run is, whether inside an event or between two, and these frames were
-- sent.
pub record StandsAt (node : Node) (b : List ℕ) (r : Run) (frames : List SentFrame) : Type 0 where
  pub machine : node.machine ≡ r.machine
  pub sent : AreFramesOf r.answers frames
  -- the issued lines that aren't pending
  pub put : List LineWrite
  pub split : put ++ node.lines.pending ≡ r.issued
  pub durable : durable_of node.lines.store ≡ after b put
  pub enough : max r.floor (acknowledged r.answers) ≤ length put
  pub frame_count : node.frames ≡ counts (length frames)
  pub line_count : node.issued ≡ counts (length r.issued)

-- From the storage bytes b the node has taken these events, sent these frames and finished m
-- events.
pub record StandsForRun (node : Node) (b : List ℕ) (events : List Received)
    (frames : List SentFrame)
    (m : ℕ) : Type 0 where
  pub acts : List (List Act)
  pub reads : Reads no_rests events acts node.rests
  pub finished : m ≡ length events
  pub at : StandsAt node b (run_of node.budget b acts) frames

-- The node stands for a run at whose start the guard count was so much, and stays within what the
-- run may raise it to, were all pending lines put.
pub record StaysWithin (count : ℕ) (node : Node) (b : List ℕ) (events : List Received)
    (frames : List SentFrame) (m : ℕ) : Type 0 where
  pub run : StandsForRun node b events frames m
  pub ahead : ceiling node ≤ raised_in count (run_of node.budget b run.acts)

-- One event was received and finished: whatever run the node stood for, it stands for the run with
-- this event.
pub record Finished {B : Type 0} (g : Ghosts B) (old : Node) (board : B) (new : Node)
    (after_board : B)
    (answer : Turn) : Type 0 where
  pub event : Received
  pub frames : List SentFrame
  pub last : (answer ≡ turn.End) ↔ (event ≡ End)
  -- the lists of the board grow by the event and the frames, and a loss after the event leaves both
  pub lists : (e : List Received) (f : List SentFrame) → g.has_lists board e f
      → g.has_lists after_board (e ++ event ∷ []) (f ++ frames)
  pub here : (o : Outcome) → g.now after_board o → After (g.now board) (Adds (event ∷ []) frames) o
  pub one_reception : (g.moment after_board).receptions ≡ (after_recv (g.moment board)).receptions
  pub stands : (b : List ℕ) (events : List Received) (sent : List SentFrame) (m : ℕ)
      → StandsForRun old b events sent m
      → StandsForRun new b (events ++ event ∷ []) (sent ++ frames) (m + 1)
  -- the acts are those of the event, and they issue these lines, which are counted
  pub acts : List Act
  pub reads : IsEvent old.rests event acts new.rests
  pub issued : List LineWrite
  pub grew : (b : List ℕ) (r : Run) (sent : List SentFrame) → StandsAt old b r sent
      → (event_done old.budget b r acts).issued ≡ r.issued ++ issued
  pub counted : new.issued ≡ raised_by (length issued) old.issued
  -- the vehicle is armed where the acts say so
  pub armed : armed_in new ≡ is_armed_after_all (armed_in old) acts
  -- where it is armed all the time nothing is erased
  pub still : IsArmedThroughout (armed_in old) acts → ErasesNothing g board after_board
  -- Of the lines that were pending and these a prefix was put: where no order came to put all, and
  -- they are few enough that no room had to be made, no more than it takes to put at least eight in
  -- entries of up to eight lines.
  pub put : List LineWrite
  pub split : put ++ new.lines.pending ≡ old.lines.pending ++ issued
  pub few : NoneFlushes acts → length old.lines.pending + length issued ≤ ROOM_FROM
      → length put ≤ 15
  -- the guard count may rise by two more for each of the lines that were issued
  pub within : (count : ℕ) (b : List ℕ) (events : List Received) (sent : List SentFrame) (m : ℕ)
      → StaysWithin count old b events sent m
      → StaysWithin count new b (events ++ event ∷ []) (sent ++ frames) (m + 1)
  -- nowhere was a sector to be voided where the guard row was used up
  pub unworn : EventUnworn (armed_in old) acts issued old.lines new.lines

-- An event was received in which the vehicle was armed, at its start or after one of its acts.
pub record WasArmed {B : Type 0} (g : Ghosts B) (old : Node) (board after_board : B) : Type 0 where
  pub event : Received
  pub lists : (e : List Received) (f : List SentFrame) → g.has_lists board e f
      → (sent : List SentFrame) × g.has_lists after_board (e ++ event ∷ []) (f ++ sent)
  pub acts : List Act
  pub rests : List (List ℕ)
  pub reads : IsEvent old.rests event acts rests
  pub armed : IsArmedOnce (armed_in old) acts
