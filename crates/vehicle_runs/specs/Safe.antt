-- What a loss of power leaves of a run.
use Rattle.std.specs.Prelude.{◌≡◌, ◌⊎◌, ◌≤◌, ℕ, ◌+◌, max, List, ◌++◌, length, take}
use Rattle.flash_traits.specs.Words.{Words}
use Rattle.flash_traits.specs.Losses.{Received, SentFrame, Outcome}
use Rattle.storage_lines.specs.Lines.{after}
use Rattle.sector_image.specs.Stands.{Stands}
use Rattle.vehicle_core.specs.Acts.{Act}
use Rattle.vehicle_runs.specs.Frames.{AreFramesOf, acknowledged}
use Rattle.vehicle_runs.specs.Reading.{Reads, no_rests}
use Rattle.vehicle_runs.specs.Runs.{Run, run_of, floor_of}

-- The frames are those of a prefix of the run's answers, and the words stand for the bytes of the
-- start with a prefix of its lines: at least as many as were flushed, and as were issued before a
-- storage acknowledgement among these frames.
pub record SafeAt (b : List ℕ) (r : Run) (floor : ℕ) (frames : List SentFrame) (words : Words)
    : Type 0 where
  pub first : AreFramesOf (take (length frames) r.answers) frames
  pub kept : ℕ
  pub enough : max floor (acknowledged (take (length frames) r.answers)) ≤ kept
  pub few : kept ≤ length r.issued
  pub stands : Stands words (after b (take kept r.issued))

-- Of the run over these events from these bytes, with this arming budget, m events are finished,
-- and the frames of these were all sent. At most one event isn't finished.
pub record Safe (budget : ℕ) (b : List ℕ) (events : List Received) (frames : List SentFrame)
    (m : ℕ) (words : Words) : Type 0 where
  pub acts : List (List Act)
  pub rests : List (List ℕ)
  pub reads : Reads no_rests events acts rests
  pub count : (m ≡ length events) ⊎ (m + 1 ≡ length events)
  pub finished : length (run_of budget b (take m acts)).answers ≤ length frames
  pub at : SafeAt b (run_of budget b acts) (floor_of budget b acts m) frames words

-- the same of what has been added since an outcome
pub record SafeSince (budget : ℕ) (b : List ℕ) (events : List Received) (frames : List SentFrame)
    (m : ℕ) (from o : Outcome) : Type 0 where
  pub added_events : List Received
  pub events_are : o.events ≡ from.events ++ added_events
  pub added_frames : List SentFrame
  pub frames_are : o.frames ≡ from.frames ++ added_frames
  pub safe : Safe budget b (events ++ added_events) (frames ++ added_frames) m o.words

-- these events and these frames have been added
pub record Adds (events : List Received) (frames : List SentFrame) (from o : Outcome) : Type 0 where
  pub events_are : o.events ≡ from.events ++ events
  pub frames_are : o.frames ≡ from.frames ++ frames
