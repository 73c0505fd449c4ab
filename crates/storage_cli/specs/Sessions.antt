-- What a `gen` has done: a generated session, run in memory.
use Rattle.std.specs.Prelude.{◌≡◌, ◌≤◌, ℕ, ◌+◌, ◌*◌, ◌-◌, List, length, replicate}
use Rattle.flash_traits.specs.Budget.{budget_of}
use Rattle.flash_traits.specs.Counts.{counts}
use Rattle.flash_traits.specs.Losses.{Received}
use Rattle.flash_traits.specs.declared.numbers.TheConstants.{GUARD_HALFWORDS}
use Rattle.sha2.specs.Sha256.{sha256}
use Rattle.storage_lines.specs.Lines.{after}
use Rattle.sector_log.specs.Storage.{storage_bytes}
use Rattle.session_boards.specs.Session.{AreFirst, IsGenerated}
use Rattle.session_boards.specs.declared.device.TheConstants.{SECTOR_BYTES}
use Rattle.vehicle_core.specs.Acts.{Act}
use Rattle.vehicle_runs.specs.Reading.{Reads, no_rests}
use Rattle.vehicle_runs.specs.Runs.{Run, run_of}
use Rattle.storage_cli.specs.Texts.{session_line}

-- The bytes of an image without entries, all 0; their number is an argument, so that nothing
-- computes them.
unfoldable pub zeros : ℕ → List ℕ
zeros size = replicate size 0

-- the storage bytes of a fresh image
abbrev pub fresh_storage : List ℕ
fresh_storage = zeros storage_bytes

-- the generated session of so many rounds, and the acts of its events
pub record Session (rounds : ℕ) : Type 0 where
  pub events : List Received
  pub generated : IsGenerated rounds events
  pub acts : List (List Act)
  pub rests : List (List ℕ)
  pub reads : Reads no_rests events acts rests

-- The run of a vehicle over these acts, from a fresh image on. The sectors of its device give the
-- arming budget.
abbrev pub fresh_run : List (List Act) → Run
fresh_run acts = run_of (budget_of SECTOR_BYTES) fresh_storage acts

-- The first events of the generated session of so many rounds whose run issues so many lines that
-- the guard row can be used up: its count, which is 0 in a fresh image, rises by two at the opening
-- and by two for each line at most, and it ends at 8,192.
pub record WearsOut (rounds : ℕ) : Type 0 where
  pub events : List Received
  pub first : AreFirst rounds events
  pub acts : List (List Act)
  pub rests : List (List ℕ)
  pub reads : Reads no_rests events acts rests
  pub enough : GUARD_HALFWORDS ≤ 2 + 2 * length (fresh_run acts).issued

-- the digest of the storage bytes with all lines of a run that began with a fresh image
unfoldable pub digest_after : Run → List ℕ
digest_after r = sha256 (after fresh_storage r.issued)

-- The line of a session: the events before its end, the frames of all answers of the run, all of
-- its lines with those of boot, and the digest. A count of 64 bits stands still at its end.
abbrev pub line_of_session : {rounds : ℕ} → Session rounds → List ℕ
line_of_session {rounds} s =
    session_line rounds (length s.events - 1) (counts (length (fresh_run s.acts).answers))
    (counts (length (fresh_run s.acts).issued)) (digest_after (fresh_run s.acts))

-- There is a session of so many rounds, and whichever one is taken, its line was printed: their
-- number alone decides the line.
pub record PrintsSession (rounds : ℕ) (Printed : List ℕ → Type 0) : Type 0 where
  pub session : Session rounds
  pub printed : (s : Session rounds) → Printed (line_of_session s)
