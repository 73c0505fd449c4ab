-- What a replay has done with a script, from the bytes that the source had left on.
use Rattle.std.specs.Prelude.{◌≡◌, ℕ, ◌+◌, ◌≤◌, List, [], ◌∷◌, ◌++◌, length}
use Rattle.flash_traits.specs.Words.{Words}
use Rattle.sha2.specs.Sha256.{sha256}
use Rattle.sector_image.specs.Stands.{Stands}
use Rattle.script_lines.specs.Script.{ScriptLine, End, IsScript}
use Rattle.script_lines.specs.declared.line.Waiting.{Waiting}
use Rattle.script_lines.specs.declared.numbers.TheConstants.{SCRIPT_LINES}
use Rattle.script_board.specs.Hearing.{IsRefused}
use Rattle.replay.specs.Histories.{Replayed, CutShort}
use Rattle.replay.specs.Breaks.{OnRefused}
use Rattle.replay.specs.declared.Stop.{Stop}
use Rattle.script_replay.specs.Calls.{Takes}

-- The lines of the script up to its end were taken, this text was printed of them, and the digest
-- is that of the bytes which the words stand for at last.
pub record ReplaysWhole (budget : ℕ) (before : Words) (rest_before rest_now text digest : List ℕ)
    : Type 0 where
  pub lines : List ScriptLine
  pub unread : List ℕ
  pub takes : Takes [] rest_before unread rest_now lines
  pub now : Words
  pub replayed : Replayed budget before lines text now
  -- they are the script that the source began with, which has no more lines than a script may have
  pub front : List ScriptLine
  pub lines_are : lines ≡ front ++ End ∷ []
  pub script : IsScript front (unread ++ rest_now) rest_before
  pub bytes : List ℕ
  pub stands : Stands now bytes
  pub digest_is : digest ≡ sha256 bytes

-- The first lines of the script were taken, and this text was printed of them. Where a line was
-- refused it is the next one: it isn't of the grammar, or one loss more than sixteen would wait.
pub record ReplaysPart (budget : ℕ) (before : Words) (rest_before rest_now text : List ℕ)
    (stop : Stop) : Type 0 where
  pub lines : List ScriptLine
  pub unread : List ℕ
  pub takes : Takes [] rest_before unread rest_now lines
  pub waiting : List Waiting
  pub now : Words
  pub cut : CutShort budget before lines text stop (length waiting) now
  pub few : length lines ≤ SCRIPT_LINES
  pub refused : OnRefused (λ line. (line ≡ length lines + 1)
      × IsRefused (length lines) waiting unread (Unit {0}) rest_now) stop
