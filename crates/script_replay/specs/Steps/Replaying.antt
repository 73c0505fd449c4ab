-- What a replay does with the board in a place.
use Rattle.std.specs.Prelude.{◌≡◌, ℕ, Option, IsSome, List, [], ◌++◌, length}
use Rattle.flash_traits.specs.Words.{Words}
use Rattle.flash_traits.specs.Budget.{budget_of}
use Rattle.flash_traits.specs.declared.stream.Source as source
use Rattle.flash_traits.specs.declared.stream.Sink as sink
use Rattle.sector_image.specs.Stands.{Stands}
use Rattle.script_lines.specs.Script.{ScriptLine}
use Rattle.script_board.specs.declared.board.ScriptBoard.{ScriptBoard}
use Rattle.replay.specs.Breaks.{OnRefused}
use Rattle.replay.specs.Histories.{Replayed, CutShort}
use Rattle.replay.specs.declared.Stop.{Stop}
use Rattle.script_replay.specs.Calls.{Takes}
use Rattle.script_replay.specs.Steps.Places.{input_of, out_of, size_of, words_at, unread_at}
use Rattle.script_replay.specs.Steps.Places.{rest_at, TellsRest, written_at, TellsWritten, line_at}
use Rattle.script_replay.specs.Steps.Places.{losses_at, waiting_at, RefusesAt, input_faults_at}
use Rattle.script_replay.specs.Steps.Places.{output_faults_at}
use Rattle.script_replay.specs.declared.start.Beginning as beginning

module _ {S K : Type 0} {g : source.Ghosts S} {h : sink.Ghosts K} {M : Type 0}
    (m : beginning.Ghosts M) where
  -- There is a board before the first line of its script, and these ghost values are what stands
  -- of it.
  pub record Begins (place : Option (ScriptBoard S K g h)) : Type 0 where
    pub some : IsSome place
    pub input : input_of place ≡ m.input
    pub out : out_of place ≡ m.out
    pub size : size_of place ≡ m.sector_bytes
    pub unread : unread_at place ≡ []
    pub rest : rest_at place ≡ m.rest
    pub tells_rest : TellsRest place → m.tells_rest
    pub written : written_at place ≡ m.written
    pub tells_written : TellsWritten place → m.tells_written
    pub line : line_at place ≡ 0
    pub waiting : losses_at place ≡ []
    pub input_faults : input_faults_at place ≡ m.input_faults
    pub output_faults : output_faults_at place ≡ m.output_faults

  -- what was printed and which lines were taken, from these words on
  pub record Ran (before : Words) (place : Option (ScriptBoard S K g h))
      (history : List ScriptLine → List ℕ → Type 0) : Type 0 where
    pub text : List ℕ
    pub written : written_at place ≡ m.written ++ text
    pub lines : List ScriptLine
    pub count : line_at place ≡ length lines
    pub takes : Takes [] m.rest (unread_at place) (rest_at place) lines
    pub is : history lines text

  -- where all is told and the words before stand for bytes, this holds of the lines and the text
  abbrev pub RanSo : Words → Option (ScriptBoard S K g h)
      → (List ScriptLine → List ℕ → Type 0) → Type 0
  RanSo before place history = TellsRest place → TellsWritten place → (b : List ℕ)
      → Stands before b → Ran before place history

  -- the script came to its end
  abbrev pub ReplaysAt : Words → Option (ScriptBoard S K g h) → Type 0
  ReplaysAt before place = RanSo before place (λ lines text.
      Replayed (budget_of m.sector_bytes) before lines text (words_at place))

  -- it stopped before
  abbrev pub StopsAt : Words → Option (ScriptBoard S K g h) → Stop → Type 0
  StopsAt before place stop = RanSo before place (λ lines text.
      CutShort (budget_of m.sector_bytes) before lines text stop (waiting_at place)
      (words_at place)
      × OnRefused (RefusesAt place) stop)
