-- What losses of power leave of many runs.
use Rattle.std.specs.Prelude.{◌≡◌, ◌≢◌, ◌≤◌, ◌+◌, ◌*◌, ℕ, max, List, [], ◌∷◌, ◌++◌, length, take}
use Rattle.flash_traits.specs.Words.{Words}
use Rattle.storage_lines.specs.declared.lines.LineWrite.{LineWrite}
use Rattle.storage_lines.specs.Lines.{after, line_of}
use Rattle.sector_image.specs.Stands.{Stands}
use Rattle.vehicle_core.specs.Acts.{Act}
use Rattle.vehicle_runs.specs.Reading.{Reads, no_rests}
use Rattle.vehicle_runs.specs.Frames.{acknowledged}
use Rattle.vehicle_runs.specs.Runs.{run_of, floor_of}
use Rattle.script_board.specs.Taking.{events_of}
use Rattle.replay.specs.Histories.{Ran, History}

-- The lines that a run put before its loss, from these bytes on: a prefix of those that it issued,
-- with every one that was flushed or issued before a storage acknowledgement that was sent.
pub record Leaves (budget : ℕ) (bytes : List ℕ) (r : Ran) (put : List LineWrite) : Type 0 where
  pub acts : List (List Act)
  pub rests : List (List ℕ)
  pub reads : Reads no_rests (events_of r.lines) acts rests
  pub kept : ℕ
  pub flushed : max (floor_of budget bytes acts r.finished)
      (acknowledged (take (length r.frames) (run_of budget bytes acts).answers)) ≤ kept
  pub few : kept ≤ length (run_of budget bytes acts).issued
  pub put_is : put ≡ take kept (run_of budget bytes acts).issued

-- each run put such lines, over the bytes that those before it left
abbrev pub EachLeaves : ℕ → List ℕ → List Ran → List (List LineWrite) → Type 0
EachLeaves budget bytes [] puts = puts ≡ []
EachLeaves budget bytes (r ∷ runs) [] = ⊥
EachLeaves budget bytes (r ∷ runs) (put ∷ puts) =
    Leaves budget bytes r put × EachLeaves budget (after bytes put) runs puts

-- the lines of all runs, in order
abbrev pub all_lines : List (List LineWrite) → List LineWrite
all_lines [] = []
all_lines (put ∷ puts) = put ++ all_lines puts

-- After a history the words stand for the bytes of its start with the lines that its runs put.
abbrev pub HistoryKeeps : Type 0
HistoryKeeps = (budget : ℕ) (before now : Words) (runs : List Ran) (bytes : List ℕ)
    → History budget before runs now → Stands before bytes
    → (puts : List (List LineWrite)) × EachLeaves budget bytes runs puts
    × Stands now (after bytes (all_lines puts))

-- none of these writes is of this line
abbrev pub LeavesLine : ℕ → List LineWrite → Type 0
LeavesLine line [] = Unit {0}
LeavesLine line (write ∷ writes) = (write.line ≢ line) × LeavesLine line writes

-- Whatever was written before it, a line of eight bytes inside the storage reads as it was written,
-- as long as no later write is of that line.
abbrev pub LinesStay : Type 0
LinesStay = (bytes : List ℕ) (earlier later : List LineWrite) (write : LineWrite)
    → length write.bytes ≡ 8 → 8 * write.line + 8 ≤ length bytes → LeavesLine write.line later
    → line_of (after bytes (earlier ++ write ∷ later)) write.line ≡ write.bytes
