-- What a generated session came to, as the program keeps it.
use Rattle.std.specs.Prelude.{◌≡◌, ℕ, ◌-◌, length}
use Rattle.flash_traits.specs.Counts.{counts}
use Rattle.storage_cli.specs.declared.stop.Stop.{Stop}
use Rattle.storage_cli.specs.declared.stop.Stop.TheVariants as stop
use Rattle.storage_cli.specs.declared.stop.Summary.{Summary}
use Rattle.storage_cli.specs.Sessions.{Session, fresh_run, digest_after}

-- the summary tells the session of so many rounds
pub record IsSummary (rounds : ℕ) (summary : Summary) : Type 0 where
  pub session : Session rounds
  pub rounds_are : summary.rounds ≡ rounds
  pub events_are : summary.events ≡ length session.events - 1
  pub frames_are : summary.frames ≡ counts (length (fresh_run session.acts).answers)
  pub lines_are : summary.lines ≡ counts (length (fresh_run session.acts).issued)
  pub digest_is : summary.digest ≡ digest_after (fresh_run session.acts)

-- why it may stop: want of memory, or a guard row that is used up
abbrev pub IsSessionStop : Stop → Type 0
IsSessionStop stop.Memory = Unit {0}
IsSessionStop stop.Worn = Unit {0}
IsSessionStop _ = ⊥
