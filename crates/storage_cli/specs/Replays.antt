-- What a `replay` has done, and what it prints.
use Rattle.std.specs.Prelude.{◌≡◌, ℕ, List, [], ◌++◌}
use Rattle.flash_traits.specs.Words.{Words}
use Rattle.flash_traits.specs.declared.board.Board as board
use Rattle.flash_traits.specs.declared.stream.Source as source
use Rattle.flash_traits.specs.declared.stream.Sink as sink
use Rattle.sector_image.specs.FirstBad.{Place}
use Rattle.replay.specs.declared.Stop.{Stop}
use Rattle.replay.specs.declared.Stop.TheVariants as stop
use Rattle.script_replay.specs.Replays.{ReplaysWhole, ReplaysPart}
use Rattle.storage_cli.specs.declared.status.TheConstants.{ATTACH_FAILED, FOREIGN_WORD, INPUT_FAILED, NO_MEMORY, OUTPUT_FAILED, READ_FAILED, SCRIPT_REFUSED, WORN}
use Rattle.storage_cli.specs.Texts.{memory_line, foreign_line, read_line, worn_line, input_line, script_line, attach_line, replay_digest_line}

-- the board tells its words, the source the bytes that are left, and the sink those written
abbrev pub AllTell : {B S K : Type 0} → board.Ghosts B → source.Ghosts S → sink.Ghosts K → B → S → K
    → Type 0
AllTell b s k board input out = b.tells board × s.tells_rest input × k.tells_written out

-- The script came to its end: what its runs print was printed, and then the digest of the storage
-- bytes that are left.
pub record PrintsWhole (budget : ℕ) (before : Words) (rest_before rest_now : List ℕ)
    (written_before written_now : List ℕ) : Type 0 where
  pub text : List ℕ
  pub digest : List ℕ
  pub written : written_now ≡ written_before ++ (text ++ replay_digest_line digest)
  pub whole : ReplaysWhole budget before rest_before rest_now text digest

-- the status of each stop
abbrev pub status_of_script : Stop → ℕ
status_of_script stop.Memory = NO_MEMORY
status_of_script (stop.Foreign region offset word) = FOREIGN_WORD
status_of_script (stop.Worn count) = WORN
status_of_script (stop.Refused line) = SCRIPT_REFUSED
status_of_script stop.Input = INPUT_FAILED
status_of_script stop.Output = OUTPUT_FAILED

-- the line of each stop: none where the output failed
abbrev pub line_of_script : Stop → List ℕ
line_of_script stop.Memory = memory_line
line_of_script (stop.Foreign region offset word) = foreign_line region offset word
line_of_script (stop.Worn count) = worn_line
line_of_script (stop.Refused line) = script_line line
line_of_script stop.Input = input_line
line_of_script stop.Output = []

-- The script was cut short: what its runs print was printed as far as they came, and then the line
-- of the stop that the status tells.
pub record PrintsPart (budget : ℕ) (before : Words) (rest_before rest_now : List ℕ)
    (written_before written_now : List ℕ) (status : ℕ) : Type 0 where
  pub text : List ℕ
  pub why : Stop
  pub status_is : status ≡ status_of_script why
  pub written : written_now ≡ written_before ++ (text ++ line_of_script why)
  pub part : ReplaysPart budget before rest_before rest_now text why

-- the sink has some text after what it had, and then this line, where it tells its bytes
abbrev pub PrintsLast : {K : Type 0} → sink.Ghosts K → K → K → List ℕ → Type 0
PrintsLast k old new line =
    k.tells_written new → (text : List ℕ) × (k.written new ≡ k.written old ++ (text ++ line))

-- The line of each status of a replay that did not do all of its work: it is all that is printed
-- before the script is read, and from then on the last line.
pub record PrintsReplayStatus (status : ℕ) (printed printed_last : List ℕ → Type 0)
    : Type 0 where
  pub read : status ≡ READ_FAILED → printed read_line
  pub attach : status ≡ ATTACH_FAILED → printed attach_line
  pub memory : status ≡ NO_MEMORY → printed_last memory_line
  pub foreign : status ≡ FOREIGN_WORD
      → (place : Place) × printed_last (foreign_line place.region place.at place.word)
  pub worn : status ≡ WORN → printed_last worn_line
  pub input : status ≡ INPUT_FAILED → printed_last input_line
  pub script : status ≡ SCRIPT_REFUSED → (line : ℕ) × printed_last (script_line line)
