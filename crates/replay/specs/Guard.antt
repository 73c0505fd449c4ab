-- How far the guard count may rise over runs: by two at each opening, and by two for each line that
-- the machine issues.
use Rattle.std.specs.Prelude.{◌≡◌, ℕ, ◌+◌, ◌*◌, List, length}
use Rattle.flash_traits.specs.Words.{Words}
use Rattle.flash_traits.specs.Losses.{Received}
use Rattle.vehicle_core.specs.Acts.{Act}
use Rattle.vehicle_runs.specs.Guard.{CountsUpTo, raised_in}
use Rattle.vehicle_runs.specs.Reading.{Reads, no_rests}
use Rattle.vehicle_runs.specs.Runs.{run_of}

-- From these bytes on, the run over these events issues so many lines, those of boot among them.
pub record Issues (budget : ℕ) (b : List ℕ) (events : List Received) (number : ℕ) : Type 0 where
  pub acts : List (List Act)
  pub rests : List (List ℕ)
  pub reads : Reads no_rests events acts rests
  pub number_is : number ≡ length (run_of budget b acts).issued

-- the most that so many openings and so many lines may have raised a guard count to
abbrev pub raised_over : ℕ → ℕ → ℕ → ℕ
raised_over openings lines count = count + 2 * openings + 2 * lines

-- The words have a guard count of at most what the run over these events may have raised it to that
-- was so much at its start.
pub record Rises (budget count : ℕ) (b : List ℕ) (events : List Received) (words : Words)
    : Type 0 where
  pub acts : List (List Act)
  pub rests : List (List ℕ)
  pub reads : Reads no_rests events acts rests
  pub guard : CountsUpTo (raised_in count (run_of budget b acts)) words.guard
