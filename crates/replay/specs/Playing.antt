-- What one call of a node does over a board that runs a script.
use Rattle.std.specs.Prelude.{◌≡◌, ◌⊎◌, ℕ, ◌+◌, true, false, length, List, [], ◌++◌, Result, Ok, Err}
use Rattle.flash_traits.specs.Words.{Words}
use Rattle.flash_traits.specs.Losses.{Received, SentFrame}
use Rattle.guard_row.specs.Row.{IsGuardRow}
use Rattle.storage_lines.specs.Lines.{after}
use Rattle.sector_image.specs.Stands.{Stands}
use Rattle.vehicle_runs.specs.Runs.{Run}
use Rattle.vehicle_runs.specs.Safe.{Safe}
use Rattle.vehicle_runs.specs.Guard.{MayWear}
use Rattle.vehicle_node.specs.Standing.{Node, StandsAt, StandsForRun, StaysWithin}
use Rattle.script_lines.specs.Script.{ScriptLine, HasNoEnd}
use Rattle.script_board.specs.Taking.{events_of}
use Rattle.script_board.specs.Printing.{frame_lines}
use Rattle.script_board.specs.Hearing.{loses, HasNoLossNow, EndsWithEnd}
use Rattle.vehicle_node.specs.declared.Turn.{Turn}
use Rattle.vehicle_node.specs.declared.Turn.TheVariants as turn
use Rattle.replay.specs.Breaks.{OnStopped, OnWorn, BetweenEvents, OnRefused}
use Rattle.replay.specs.Guard.{Rises}
use Rattle.replay.specs.Histories.{AreNext, IsWholeRun, EndsSo}
use Rattle.replay.specs.declared.Stop.{Stop}
use Rattle.replay.specs.declared.Break.{Break}
use Rattle.replay.specs.declared.Break.TheVariants.{Lost, Stopped}

-- these lines of the script were taken, and these frames printed
pub record AddsLines (took_before took_now : List ScriptLine → Type 0)
    (printed_before printed_now : List ℕ) (lines : List ScriptLine) (frames : List SentFrame)
    : Type 0 where
  pub lines_are : AreNext took_before took_now lines
  pub printed_are : printed_now ≡ printed_before ++ frame_lines frames

-- Whatever run the node stood for, it stands for the run that goes on with these events and frames,
-- and stays within what that run may raise the guard count to.
pub record GoesOn (old new : Node) (events : List Received) (frames : List SentFrame)
    : Type 0 where
  pub stands : (b : List ℕ) (e : List Received) (f : List SentFrame) (m : ℕ)
      → StandsForRun old b e f m
      → StandsForRun new b (e ++ events) (f ++ frames) (m + length events)
  pub within : (count : ℕ) (b : List ℕ) (e : List Received) (f : List SentFrame) (m : ℕ)
      → StaysWithin count old b e f m
      → StaysWithin count new b (e ++ events) (f ++ frames) (m + length events)

-- Whatever run the node stood for, the words are safe with these events and frames, so many of the
-- events being finished, and their guard count is at most what the run may raise it to. Where the
-- guard row was used up, the run issues lines enough for that.
pub record Breaks (budget : ℕ) (how : Break) (old : Node) (events : List Received)
    (frames : List SentFrame) (finished : ℕ) (words : Words) : Type 0 where
  pub safe : (b : List ℕ) (e : List Received) (f : List SentFrame) (m : ℕ)
      → StandsForRun old b e f m
      → Safe budget b (e ++ events) (f ++ frames) (m + finished) words
  pub rises : (count : ℕ) (b : List ℕ) (e : List Received) (f : List SentFrame) (m : ℕ)
      → StaysWithin count old b e f m → Rises budget count b (e ++ events) words
  pub worn : OnStopped (OnWorn (λ full. (count : ℕ) (b : List ℕ) (e : List Received)
      (f : List SentFrame) (m : ℕ) → StaysWithin count old b e f m
      → MayWear budget count b (e ++ events))) how

-- events: how they end
abbrev pub EventEnds : {T : Type 0} → ℕ → Result T Break → Node → Node → List Received
    → List SentFrame → ℕ → Words → Type 0
EventEnds budget (Ok turn) old new events frames finished words =
    GoesOn old new events frames × (new.budget ≡ old.budget)
EventEnds budget (Err how) old new events frames finished words =
    Breaks budget how old events frames finished words

-- The node of an opening from these words stands for the run before its first event, and stays
-- within what that run may raise the guard count to.
pub record Opens (budget : ℕ) (before : Words) (node : Node) : Type 0 where
  pub stands : (b : List ℕ) → Stands before b → StandsForRun node b [] [] 0
  pub within : (count : ℕ) (b : List ℕ) → IsGuardRow before.guard count → Stands before b
      → StaysWithin count node b [] [] 0
  pub same_budget : node.budget ≡ budget

-- From these words on, what is left now is safe with these events and frames, so many of the events
-- being finished, and its guard count is at most what the run may raise it to. Where the guard row
-- was used up, the run issues lines enough for that.
pub record BreaksFrom (budget : ℕ) (how : Break) (before : Words) (events : List Received)
    (frames : List SentFrame) (finished : ℕ) (now : Words) : Type 0 where
  pub safe : (b : List ℕ) → Stands before b → Safe budget b events frames finished now
  pub rises : (count : ℕ) (b : List ℕ) → IsGuardRow before.guard count → Stands before b
      → Rises budget count b events now
  pub worn : OnStopped (OnWorn (λ full. (count : ℕ) (b : List ℕ)
      → IsGuardRow before.guard count → Stands before b → MayWear budget count b events)) how

-- the opening, from these words
abbrev pub OpenEnds : ℕ → Result Node Break → Words → Words → Type 0
OpenEnds budget (Ok node) before now = Opens budget before node
OpenEnds budget (Err how) before now = BreaksFrom budget how before [] [] 0 now

-- the close
abbrev pub CloseEnds : {T : Type 0} → ℕ → Result T Break → Node → Words → Type 0
CloseEnds budget (Ok t) node now = (b : List ℕ) (r : Run) (frames : List SentFrame)
    → StandsAt node b r frames → Stands now (after b r.issued)
CloseEnds budget (Err how) node now = Breaks budget how node [] [] 0 now

-- a whole run from its opening to its close, or one that was cut off
abbrev pub RunEnds : {T : Type 0} → ℕ → Result T Break → Words → List Received
    → List SentFrame → ℕ → Words → Type 0
RunEnds budget (Ok t) before events frames finished now =
    (b : List ℕ) → Stands before b → IsWholeRun budget b events frames now
RunEnds budget (Err how) before events frames finished now =
    BreaksFrom budget how before events frames finished now

-- how a loss fell: at a line `x`, the last one taken, with all events finished; or at a call, and
-- one fewer loss waits
abbrev pub Falls : List ScriptLine → ℕ → ℕ → ℕ → Type 0
Falls lines finished before now =
    (EndsSo true lines finished × (now ≡ before + loses lines))
    ⊎ (EndsSo false lines finished × (now + 1 ≡ before + loses lines))

-- What became of the lines and of the waiting losses where a run stopped: no line `x` was taken,
-- and where a line was refused or the source failed, all events are finished. A refused line leaves
-- the losses waiting.
abbrev pub StopsSo : Stop → List ScriptLine → ℕ → ℕ → ℕ → Type 0
StopsSo why lines finished before now =
    HasNoLossNow lines
    × BetweenEvents (finished ≡ length (events_of lines)) why
    × OnRefused (λ line. HasNoEnd lines × (now ≡ before + loses lines)) why

-- the same where it broke off
abbrev pub BreaksSo : Break → List ScriptLine → ℕ → ℕ → ℕ → Type 0
BreaksSo Lost lines finished before now = HasNoEnd lines × Falls lines finished before now
BreaksSo (Stopped why) lines finished before now = StopsSo why lines finished before now

-- what one event does with the lines and with the waiting losses, which the end forgets
abbrev pub TurnUses : Result Turn Break → List ScriptLine → ℕ → ℕ → ℕ → Type 0
TurnUses (Ok turn.More) lines finished before now =
    HasNoLossNow lines × HasNoEnd lines × (now ≡ before + loses lines)
TurnUses (Ok turn.End) lines finished before now =
    HasNoLossNow lines × EndsWithEnd lines × (now ≡ 0)
TurnUses (Err how) lines finished before now = BreaksSo how lines finished before now

-- what events up to the end do
abbrev pub PlayUses : {T : Type 0} → Result T Break → List ScriptLine → ℕ → ℕ → ℕ → Type 0
PlayUses (Ok t) lines finished before now =
    HasNoLossNow lines × EndsWithEnd lines × (now ≡ 0)
PlayUses (Err how) lines finished before now = BreaksSo how lines finished before now

-- what a call does that takes no line: a loss waits no more where it fell
abbrev pub QuietUses : {T : Type 0} → Result T Break → ℕ → ℕ → Type 0
QuietUses (Ok t) before now = now ≡ before
QuietUses (Err Lost) before now = now + 1 ≡ before
QuietUses (Err (Stopped why)) before now = now ≡ before
