-- How a replay ends, as the program keeps it.
use Rattle.std.specs.Prelude.{◌≡◌, ℕ, List, ◌++◌, Result, Ok, Err}
use Rattle.flash_traits.specs.Counts.{raised}
use Rattle.flash_traits.specs.Words.{Words}
use Rattle.flash_traits.specs.Causes.{Rose}
use Rattle.replay.specs.Breaks.{OnForeign, OnInput}
use Rattle.replay.specs.declared.Stop as script
use Rattle.replay.specs.declared.Stop.TheVariants as script_stop
use Rattle.script_replay.specs.Replays.{ReplaysPart}
use Rattle.storage_cli.specs.declared.stop.Stop.{Stop}
use Rattle.storage_cli.specs.declared.stop.Stop.TheVariants as stop
use Rattle.storage_cli.specs.declared.replaying.Replayed.{Replayed}
use Rattle.storage_cli.specs.declared.replaying.Replayed.TheVariants as replayed
use Rattle.storage_cli.specs.Steps.Stops.{IsFirst}

-- how a command ends where its script stopped
abbrev pub ending_of : script.Stop → Result Replayed Stop
ending_of script_stop.Memory = Err stop.Memory
ending_of (script_stop.Foreign region offset word) =
    Err (stop.Foreign (record { region = region; offset = offset; word = word }))
ending_of (script_stop.Worn count) = Err stop.Worn
ending_of (script_stop.Refused line) = Err (stop.Script line)
ending_of script_stop.Input = Err stop.Input
ending_of script_stop.Output = Ok replayed.Prefix

-- what holds where the script came to its end, of the digest
abbrev pub OnWhole : Replayed → (List ℕ → Type 0) → Type 0
OnWhole (replayed.Whole digest) P = P digest
OnWhole replayed.Prefix P = Unit {0}

-- what holds where the output failed
abbrev pub OnPrefix : Replayed → Type 0 → Type 0
OnPrefix (replayed.Whole digest) P = Unit {0}
OnPrefix replayed.Prefix P = P

-- how often the source has failed behind a stop: once more where it says so
abbrev pub input_at : Stop → ℕ → ℕ
input_at stop.Words before = before
input_at stop.Memory before = before
input_at (stop.Foreign foreign) before = before
input_at stop.Read before = before
input_at stop.Flash before = before
input_at stop.Link before = before
input_at stop.Worn before = before
input_at (stop.Turns turns) before = before
input_at stop.Attach before = before
input_at stop.Input before = raised before
input_at (stop.Script line) before = before

-- the same behind a replay, and how often the sink has failed
abbrev pub input_after : Result Replayed Stop → ℕ → ℕ
input_after (Ok replayed) before = before
input_after (Err why) before = input_at why before

abbrev pub output_after : Result Replayed Stop → ℕ → ℕ
output_after (Ok (replayed.Whole digest)) before = before
output_after (Ok replayed.Prefix) before = raised before
output_after (Err why) before = before

-- a text was printed of lines of the script
pub record HasPart (budget : ℕ) (before : Words) (rest_before rest_now : List ℕ)
    (written_before written_now : List ℕ) (why : script.Stop) : Type 0 where
  pub text : List ℕ
  pub written : written_now ≡ written_before ++ text
  pub part : ReplaysPart budget before rest_before rest_now text why

-- why the image isn't copied: a foreign halfword, or a failed read
abbrev pub IsReadStop : Stop → Type 0
IsReadStop (stop.Foreign foreign) = Unit {0}
IsReadStop stop.Read = Unit {0}
IsReadStop _ = ⊥

-- why a replay may stop before its script: want of memory, a foreign halfword, a failed read or a
-- failed attach
abbrev pub IsEarly : Stop → Type 0
IsEarly stop.Memory = Unit {0}
IsEarly (stop.Foreign foreign) = Unit {0}
IsEarly stop.Read = Unit {0}
IsEarly stop.Attach = Unit {0}
IsEarly _ = ⊥

-- It stopped before its script: the source and the sink are as they were (`same`), and a foreign
-- halfword is the first one, where the words are told.
pub record StopsBefore (told : Type 0) (words : Words) (same : Type 0) (why : Stop) : Type 0 where
  pub early : IsEarly why
  pub untouched : same
  pub first : told → IsFirst words why

-- It stopped in its script. `told` says that the board, the source and the sink tell.
pub record StopsInside (told : Type 0) (budget : ℕ) (words : Words)
    (rest_before rest_now written_before written_now : List ℕ) (faults_before faults_now : ℕ)
    (why : Stop) : Type 0 where
  pub script_why : script.Stop
  pub ends : ending_of script_why ≡ Err why
  pub has : told → HasPart budget words rest_before rest_now written_before written_now script_why
  pub never_foreign : OnForeign (λ place. told → ⊥) script_why
  pub input : OnInput (Rose faults_before faults_now) script_why
