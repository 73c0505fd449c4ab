-- The events and the frames of a board since a call of a node began.
use Rattle.std.specs.Prelude.{◌≡◌, ◌≢◌, ℕ, ◌+◌, ◌≤◌, Bool, true, false, Option, Some, None, List, length}
use Rattle.flash_traits.specs.declared.stream.Source as source
use Rattle.flash_traits.specs.declared.stream.Sink as sink
use Rattle.flash_traits.specs.Losses.{Received, SentFrame, Outcome}
use Rattle.flash_traits.specs.Counts.{raised}
use Rattle.flash_traits.specs.declared.board.Event.{Event}
use Rattle.script_lines.specs.Script.{ScriptLine}
use Rattle.script_board.specs.Boards.{words_in, unread_in}
use Rattle.script_board.specs.Hearing.{FewWait, IsRefused}
use Rattle.script_board.specs.declared.board.ScriptMark.{ScriptMark}
use Rattle.script_board.specs.declared.board.ScriptMark.TheVariants.{Lost, Refused, Input, Output}
use Rattle.script_board.specs.declared.board.ScriptBoard.{ScriptBoard}
use Rattle.script_replay.specs.Calls.{Takes, ArePrinted, HasHeard, events_heard, too_many}
use Rattle.script_replay.specs.declared.start.Start as start

module _ {S K N : Type 0} {g : source.Ghosts S} {h : sink.Ghosts K} (n : start.Ghosts N) where
  -- The events are those that were received, and the frames those that were printed, where no line
  -- failed and the sink tells its bytes. The lines of the script that were taken are told by what
  -- was heard. What source and sink tell, they told before.
  pub record HasLists (b : ScriptBoard S K g h) (heard : Option Event) (buffer : List ℕ)
      (events : List Received) (frames : List SentFrame) : Type 0 where
    pub told_rest : g.tells_rest b.input.now → n.tells_rest
    pub told_written : h.tells_written b.out.now → n.tells_written
    pub events_are : events ≡ events_heard heard buffer
    pub printed : b.mark ≢ Some Output → h.tells_written b.out.now
        → ArePrinted n.written (h.written b.out.now) frames
    pub lines : List ScriptLine
    pub line : b.line ≡ n.line + length lines
    pub hears : HasHeard n.room heard buffer b.mark n.waiting (length b.waiting.items)
        n.input_faults (g.faults b.input.now) (b.line + 1)
        (IsRefused b.line b.waiting.items (unread_in b) (g.tells_rest b.input.now)
        (g.rest b.input.now))
        lines
    pub takes : g.tells_rest b.input.now
        → Takes n.unread n.rest (unread_in b) (g.rest b.input.now) lines
    pub few : FewWait n.waiting lines

  -- the same, but where there were more receptions than a call makes, only their number is told
  abbrev pub StandsFor : Bool → Bool → ScriptBoard S K g h → Option Event → List ℕ
      → List Received → List SentFrame → Type 0
  StandsFor room true b heard buffer events frames = too_many room ≤ length events
  StandsFor room false b heard buffer events frames = HasLists b heard buffer events frames

  -- What a loss leaves now: the words as they stand, the event that was received, and the frames
  -- that were printed. After a fault of the sink nothing is told.
  pub record HasLeft (over : Bool) (b : ScriptBoard S K g h) (heard : Option Event)
      (buffer : List ℕ) (o : Outcome) : Type 0 where
    pub within : over ≡ false
    pub told : h.tells_written b.out.now
    pub unfailed : b.mark ≢ Some Output
    pub words : o.words ≡ words_in b
    pub events : o.events ≡ events_heard heard buffer
    pub frames : ArePrinted n.written (h.written b.out.now) o.frames

-- how often the source has failed since a call of a node began: once where the mark says so
abbrev pub input_marked : Option ScriptMark → ℕ → ℕ
input_marked None before = before
input_marked (Some Lost) before = before
input_marked (Some (Refused line)) before = before
input_marked (Some Input) before = raised before
input_marked (Some Output) before = before

-- the same of the sink
abbrev pub output_marked : Option ScriptMark → ℕ → ℕ
output_marked None before = before
output_marked (Some Lost) before = before
output_marked (Some (Refused line)) before = before
output_marked (Some Input) before = before
output_marked (Some Output) before = raised before
