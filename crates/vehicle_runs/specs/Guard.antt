-- How far the guard count may rise over a run: by two at its opening, and by two for each line
-- issued.
use Rattle.std.specs.Prelude.{◌≡◌, ◌≤◌, ℕ, ◌+◌, ◌*◌, List, ◌++◌, length}
use Rattle.flash_traits.specs.declared.numbers.TheConstants.{GUARD_HALFWORDS}
use Rattle.flash_traits.specs.Losses.{Received, Outcome}
use Rattle.guard_row.specs.Row.{IsGuardRow}
use Rattle.vehicle_core.specs.Acts.{Act}
use Rattle.vehicle_runs.specs.Reading.{Reads, no_rests}
use Rattle.vehicle_runs.specs.Runs.{Run, run_of}

-- the most that a run may have raised the guard count to that was so much at its start
abbrev pub raised_in : ℕ → Run → ℕ
raised_in count r = count + 2 + 2 * length r.issued

-- the guard row has a count of at most so much
abbrev pub CountsUpTo : ℕ → List ℕ → Type 0
CountsUpTo most row = (count : ℕ) × IsGuardRow row count × (count ≤ most)

-- What a loss leaves has a guard count of at most what the run may raise it to over these events
-- and those that have been added since an outcome.
pub record RisesWithin (budget count : ℕ) (b : List ℕ) (events : List Received) (from o : Outcome)
    : Type 0 where
  pub added_events : List Received
  pub events_are : o.events ≡ from.events ++ added_events
  pub acts : List (List Act)
  pub rests : List (List ℕ)
  pub reads : Reads no_rests (events ++ added_events) acts rests
  pub guard : CountsUpTo (raised_in count (run_of budget b acts)) o.words.guard

-- The run over these events issues lines enough that a guard count of so much at its start can have
-- come to the end of the row.
pub record MayWear (budget count : ℕ) (b : List ℕ) (events : List Received) : Type 0 where
  pub acts : List (List Act)
  pub rests : List (List ℕ)
  pub reads : Reads no_rests events acts rests
  pub enough : GUARD_HALFWORDS ≤ raised_in count (run_of budget b acts)
