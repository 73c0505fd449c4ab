-- Runs of a node with losses of power between them.
use Rattle.std.specs.Prelude.{◌≡◌, ℕ, ◌+◌, ◌≤◌, Bool, true, false, length, List, [], ◌∷◌, ◌++◌}
use Rattle.flash_traits.specs.Words.{Words}
use Rattle.flash_traits.specs.Losses.{Received, SentFrame}
use Rattle.flash_traits.specs.declared.numbers.TheConstants.{GUARD_HALFWORDS}
use Rattle.guard_row.specs.Row.{IsGuardRow}
use Rattle.storage_lines.specs.Lines.{after}
use Rattle.sector_image.specs.Stands.{Stands}
use Rattle.vehicle_core.specs.Acts.{Act}
use Rattle.vehicle_runs.specs.Frames.{AreFramesOf}
use Rattle.vehicle_runs.specs.Guard.{CountsUpTo}
use Rattle.vehicle_runs.specs.Reading.{Reads, no_rests}
use Rattle.vehicle_runs.specs.Runs.{run_of}
use Rattle.vehicle_runs.specs.Safe.{Safe}
use Rattle.script_lines.specs.Script.{ScriptLine, LossNow, HasNoEnd}
use Rattle.script_board.specs.Taking.{events_of}
use Rattle.script_board.specs.Printing.{frame_lines, loss_line}
use Rattle.script_board.specs.Hearing.{loses, HasNoLossNow, EndsWithEnd}
use Rattle.script_board.specs.declared.waiting.TheConstants.{WAITING_LOSSES}
use Rattle.replay.specs.Breaks.{OnWorn, OnRefused, BetweenEvents}
use Rattle.replay.specs.Guard.{Issues, raised_over}
use Rattle.replay.specs.declared.Stop.{Stop}

-- whichever lines of the script were taken before, now these were taken too
abbrev pub AreNext : (List ScriptLine → Type 0) → (List ScriptLine → Type 0) → List ScriptLine
    → Type 0
AreNext took_before took_now lines =
    (before : List ScriptLine) → took_before before → took_now (before ++ lines)

-- One run that a loss ended: the lines of the script that it took, the frames that it sent, how
-- many of its events were finished, how many lines the machine issues over its events, and the
-- words that the loss left.
pub record Ran : Type 0 where
  pub lines : List ScriptLine
  pub frames : List SentFrame
  pub finished : ℕ
  pub issued : ℕ
  pub words : Words
  -- a line `x` ended it, between two calls of the device
  pub between_calls : Bool

-- a line `x` ended the run, with all of its events finished, or a line `l` did
abbrev pub EndsSo : Bool → List ScriptLine → ℕ → Type 0
EndsSo true lines finished = (front : List ScriptLine) × (lines ≡ front ++ LossNow ∷ [])
    × HasNoLossNow front × (finished ≡ length (events_of lines))
EndsSo false lines finished = HasNoLossNow lines

-- It began with the bytes of the words before, and what the loss left is safe. Its opening and the
-- lines that it issued have raised the guard count by two each at most. It came to no end of the
-- script.
pub record IsRun (budget : ℕ) (before : Words) (r : Ran) : Type 0 where
  pub bytes : List ℕ
  pub began : Stands before bytes
  pub safe : Safe budget bytes (events_of r.lines) r.frames r.finished r.words
  pub issues : Issues budget bytes (events_of r.lines) r.issued
  pub rises : (count : ℕ) → IsGuardRow before.guard count
      → CountsUpTo (raised_over 1 r.issued count) r.words.guard
  pub ends : EndsSo r.between_calls r.lines r.finished
  pub no_end : HasNoEnd r.lines

-- The first run begins with these words, and each later one with those that the loss before it
-- left; at last these are left.
abbrev pub History : ℕ → Words → List Ran → Words → Type 0
History budget before [] now = now ≡ before
History budget before (r ∷ rs) now = IsRun budget before r × History budget r.words rs now

-- what is printed: of each run its frames, and then `loss`
abbrev pub history_lines : List Ran → List ℕ
history_lines [] = []
history_lines (r ∷ rs) = (frame_lines r.frames ++ loss_line) ++ history_lines rs

-- the lines of the script that these runs took
abbrev pub lines_taken : List Ran → List ScriptLine
lines_taken [] = []
lines_taken (r ∷ rs) = r.lines ++ lines_taken rs

-- how many lines the machine issued in these runs
abbrev pub lines_issued : List Ran → ℕ
lines_issued [] = 0
lines_issued (r ∷ rs) = r.issued + lines_issued rs

-- how many runs were ended by a line `l`
abbrev pub by_call : Bool → ℕ
by_call true = 0
by_call false = 1

abbrev pub losses_by_call : List Ran → ℕ
losses_by_call [] = 0
losses_by_call (r ∷ rs) = by_call r.between_calls + losses_by_call rs

-- So many losses wait after these runs, where so many waited before them. In each run one more
-- waits with each line `l` that it took, but never more than sixteen; where a line `l` ended it,
-- one of them waits no more.
abbrev pub WaitAfter : ℕ → List Ran → ℕ → Type 0
WaitAfter before [] now = now ≡ before
WaitAfter before (r ∷ rs) now = (before + loses r.lines ≤ WAITING_LOSSES)
    × (between : ℕ) × (between + by_call r.between_calls ≡ before + loses r.lines)
    × WaitAfter between rs now

-- No more than sixteen losses wait at any time, from none on: in these runs, and in the last one
-- that took these lines after them.
abbrev pub NeverMoreWait : List Ran → List ScriptLine → Type 0
NeverMoreWait runs last = (before : ℕ) × WaitAfter 0 runs before
    × (before + loses last ≤ WAITING_LOSSES)

-- The whole run over these events, from these bytes: the frames are all its answers, and the words
-- stand for the bytes with all of its lines.
pub record IsWholeRun (budget : ℕ) (b : List ℕ) (events : List Received) (frames : List SentFrame)
    (words : Words) : Type 0 where
  pub acts : List (List Act)
  pub rests : List (List ℕ)
  pub reads : Reads no_rests events acts rests
  pub all_answers : AreFramesOf (run_of budget b acts).answers frames
  pub all_lines : Stands words (after b (run_of budget b acts).issued)

-- Runs that losses ended: the lines that they took, what was printed, and how many losses wait.
-- Each line `l` ended one of them or waits, and no more than sixteen ever waited.
pub record Ended (budget : ℕ) (before : Words) (lines : List ScriptLine) (text : List ℕ)
    (waiting : ℕ) (now : Words) : Type 0 where
  pub runs : List Ran
  pub history : History budget before runs now
  pub lines_are : lines ≡ lines_taken runs
  pub text_is : text ≡ history_lines runs
  pub each_loses : losses_by_call runs + waiting ≡ loses lines
  pub few_wait : WaitAfter 0 runs waiting

-- A replay that came to its end: these lines were taken and this was printed, of runs that losses
-- ended, and of one whole run after them. No more than sixteen losses ever waited.
pub record Replayed (budget : ℕ) (before : Words) (lines : List ScriptLine) (text : List ℕ)
    (now : Words) : Type 0 where
  pub runs : List Ran
  pub words : Words
  pub history : History budget before runs words
  pub last_lines : List ScriptLine
  pub last_frames : List SentFrame
  pub bytes : List ℕ
  pub began : Stands words bytes
  pub whole : IsWholeRun budget bytes (events_of last_lines) last_frames now
  pub lines_are : lines ≡ lines_taken runs ++ last_lines
  pub text_is : text ≡ history_lines runs ++ frame_lines last_frames
  -- the end is the last line, and no line `x` stands in the last run
  pub ends : EndsWithEnd lines
  pub no_loss_now : HasNoLossNow last_lines
  -- each loss by a call stands among the lines `l`
  pub enough : losses_by_call runs ≤ loses (lines_taken runs)
  pub few_wait : NeverMoreWait runs last_lines

-- A replay that was cut short: what is left of the last run is safe too. Where the next line was
-- refused or the source failed, all of its events are finished; where a line was refused, each line
-- `l` before it ended a run or waits. No more than sixteen losses ever waited. Where the guard row
-- was used up, the openings of all runs and the lines that they issued are enough to raise the
-- guard count of the first words to its end.
pub record CutShort (budget : ℕ) (before : Words) (lines : List ScriptLine) (text : List ℕ)
    (stop : Stop) (waiting : ℕ) (now : Words) : Type 0 where
  pub runs : List Ran
  pub words : Words
  pub history : History budget before runs words
  pub last_lines : List ScriptLine
  pub last_frames : List SentFrame
  pub finished : ℕ
  pub bytes : List ℕ
  pub began : Stands words bytes
  pub safe : Safe budget bytes (events_of last_lines) last_frames finished now
  pub issued : ℕ
  pub issues : Issues budget bytes (events_of last_lines) issued
  pub lines_are : lines ≡ lines_taken runs ++ last_lines
  pub text_is : text ≡ history_lines runs ++ frame_lines last_frames
  pub no_loss_now : HasNoLossNow last_lines
  pub between : BetweenEvents (finished ≡ length (events_of last_lines)) stop
  pub enough : losses_by_call runs ≤ loses (lines_taken runs)
  pub few_wait : NeverMoreWait runs last_lines
  pub each_loses : OnRefused (λ line. HasNoEnd lines
      × (losses_by_call runs + waiting ≡ loses lines)) stop
  pub worn : OnWorn (λ full. (count : ℕ) → IsGuardRow before.guard count
      → GUARD_HALFWORDS ≤ raised_over (length runs + 1) (lines_issued runs + issued) count) stop
