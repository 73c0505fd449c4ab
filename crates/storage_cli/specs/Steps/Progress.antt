-- How far a serve has come: what was received and sent, and what a loss of power leaves of it.
use Rattle.std.specs.Prelude.{◌≡◌, ℕ, ◌+◌, ◌-◌, List, [], ◌∷◌, ◌++◌, length, Option, Some, None, Result, Ok, Err}
use Rattle.flash_traits.specs.declared.board.Board.{Ghosts}
use Rattle.flash_traits.specs.Words.{Words}
use Rattle.flash_traits.specs.Losses.{Received, SentFrame, Outcome}
use Rattle.flash_traits.specs.Calls.{Passes}
use Rattle.sector_image.specs.Stands.{Stands}
use Rattle.flash_traits.specs.Counts.{counts}
use Rattle.vehicle_core.specs.Acts.{Act}
use Rattle.vehicle_runs.specs.Safe.{Safe, SafeSince, Adds}
use Rattle.vehicle_runs.specs.Arming.{IsArmedOnce}
use Rattle.vehicle_runs.specs.Reading.{Reads}
use Rattle.vehicle_runs.specs.Runs.{Run, run_of}
use Rattle.vehicle_node.specs.Standing.{Node, StandsForRun, StaysWithin, armed_in}
use Rattle.storage_cli.specs.declared.stop.Served.{Served}
use Rattle.storage_cli.specs.declared.stop.Stop.{Stop}
use Rattle.storage_cli.specs.declared.stop.Stop.TheVariants as stop
use Rattle.session_boards.specs.Session.{HasNoEnd, EndsOnce}
use Rattle.replay.specs.Histories.{IsWholeRun}
use Rattle.storage_cli.specs.Serving.{is_armed_after_events, EventsUnworn, ServeUnworn}

-- what has been added since an outcome is safe, with all events finished or all but one
pub record IsSafe (budget : ℕ) (b : List ℕ) (events : List Received) (frames : List SentFrame)
    (from o : Outcome) : Type 0 where
  pub finished : ℕ
  pub since : SafeSince budget b events frames finished from o

-- Events were received and finished, and frames were sent: whatever run the node stood for, it
-- stands for the run with these and stays within what that may raise the guard count to, each loss
-- inside is safe, the acts say whether the vehicle is armed, and nothing that was put wore the
-- guard row.
pub record Progress {B : Type 0} (g : Ghosts B) (budget : ℕ) (old : Node) (board : B) (new : Node)
    (after_board : B) (events : List Received) (frames : List SentFrame) : Type 0 where
  pub told : g.tells after_board → g.tells board
  pub lists : (e : List Received) (f : List SentFrame) → g.has_lists board e f
      → g.has_lists after_board (e ++ events) (f ++ frames)
  pub stands : (b : List ℕ) (e : List Received) (f : List SentFrame) (m : ℕ)
      → StandsForRun old b e f m
      → StandsForRun new b (e ++ events) (f ++ frames) (m + length events)
  pub within : (count : ℕ) (b : List ℕ) (e : List Received) (f : List SentFrame) (m : ℕ)
      → StaysWithin count old b e f m
      → StaysWithin count new b (e ++ events) (f ++ frames) (m + length events)
  pub losses : (b : List ℕ) (e : List Received) (f : List SentFrame) (m : ℕ)
      → (g.tells board → StandsForRun old b e f m)
      → Passes g board after_board (IsSafe budget b e f) (Adds events frames)
  pub acts : List (List Act)
  pub reads : Reads old.rests events acts new.rests
  pub armed : armed_in new ≡ is_armed_after_events (armed_in old) acts
  pub unworn : EventsUnworn (armed_in old) acts old.lines new.lines

-- how many events came before the end, where it came within so many turns
abbrev pub EndsInTurns : Option ℕ → ℕ → List Received → Type 0
EndsInTurns (Some count) turns events = EndsOnce events × (count ≡ length events - 1)
EndsInTurns None turns events = HasNoEnd events × (length events ≡ turns)

-- the events that were finished within so many turns
pub record FinishesEvents {B : Type 0} (g : Ghosts B) (budget : ℕ) (old : Node) (board : B)
    (new : Node)
    (after_board : B) (turns : ℕ) (end : Option ℕ) : Type 0 where
  pub events : List Received
  pub frames : List SentFrame
  pub progress : Progress g budget old board new after_board events frames
  pub ends : EndsInTurns end turns events

-- the events of a serve of so many turns that was not cut off
abbrev pub EndsBy : Result Served Stop → ℕ → List Received → Type 0
EndsBy (Ok served) turns events = EndsOnce events × (served.events ≡ length events - 1)
EndsBy (Err (stop.Turns n)) turns events = HasNoEnd events × (length events ≡ turns) × (n ≡ turns)
EndsBy (Err _) turns events = ⊥

-- the number of frames that a serve tells
abbrev pub CountsFrames : Result Served Stop → List SentFrame → Type 0
CountsFrames (Ok served) frames = served.frames ≡ counts (length frames)
CountsFrames (Err _) frames = Unit {0}

-- the number of lines that a serve tells
abbrev pub TellsLineCount : Result Served Stop → Run → Type 0
TellsLineCount (Ok served) r = served.lines ≡ counts (length r.issued)
TellsLineCount (Err _) r = Unit {0}

-- the whole run, whose lines are counted
pub record IsCounted (budget : ℕ) (result : Result Served Stop) (b : List ℕ)
    (events : List Received) (frames : List SentFrame) (words : Words) : Type 0 where
  pub whole : IsWholeRun budget b events frames words
  pub lines : TellsLineCount result (run_of budget b whole.acts)

-- How a serve that was not cut off has left the board, from these words; `begun` says that the
-- lists were empty at its start.
pub record CompletesServe {B : Type 0} (g : Ghosts B) (budget : ℕ) (before : Words) (begun : Type 0)
    (board : B) (turns : ℕ) (result : Result Served Stop) : Type 0 where
  pub events : List Received
  pub frames : List SentFrame
  pub lists : begun → g.has_lists board events frames
  pub ends : EndsBy result turns events
  pub whole : g.tells board → (b : List ℕ) → Stands before b
      → IsCounted budget result b events frames (g.words board)
  pub counted : g.tells board → CountsFrames result frames
  pub unworn : g.tells board → ServeUnworn g before events board

-- An event was received after some that were finished, in which the vehicle was armed, at its start
-- or after one of its acts.
pub record WasArmedSince {B : Type 0} (g : Ghosts B) (old : Node) (board after_board : B)
    : Type 0 where
  pub events : List Received
  pub lists : (e : List Received) (f : List SentFrame) → g.has_lists board e f
      → (sent : List SentFrame) × g.has_lists after_board (e ++ events) (f ++ sent)
  pub acts : List (List Act)
  pub last : List Act
  pub rests : List (List ℕ)
  pub reads : Reads old.rests events (acts ++ last ∷ []) rests
  pub armed : IsArmedOnce (is_armed_after_events (armed_in old) acts) last

-- what a loss leaves of a serve
abbrev pub IsSafeRun : ℕ → List ℕ → Outcome → Type 0
IsSafeRun budget b o = Safe budget b o.events o.frames (length o.events - 1) o.words
