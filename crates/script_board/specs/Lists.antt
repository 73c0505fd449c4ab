-- The events and the frames that a script's board stands for.
use Rattle.std.specs.Prelude.{◌≡◌, ◌≢◌, ℕ, ◌<◌, ◌-◌, ◌^◌, List, ◌++◌, length, slice_index, Some}
use Rattle.flash_traits.specs.declared.stream.Source as source
use Rattle.flash_traits.specs.declared.stream.Sink as sink
use Rattle.flash_traits.specs.declared.board.Fault.{Fault}
use Rattle.flash_traits.specs.Causes.{counts_by_kind}
use Rattle.flash_traits.specs.Losses.{Received, SentFrame, Moment}
use Rattle.script_lines.specs.Script.{ScriptLine}
use Rattle.script_board.specs.Taking.{AreTaken, events_of}
use Rattle.script_board.specs.Printing.{frame_lines}
use Rattle.script_board.specs.Boards.{unread_in, reception_faults}
use Rattle.script_board.specs.declared.board.ScriptMark.TheVariants.{Output}
use Rattle.script_board.specs.declared.board.ScriptBoard.{ScriptBoard}

-- Of the bytes that the source gave, so many before the unread ones are lines of the script, with
-- these events.
pub record HasTaken (given rest unread : List ℕ) (taken : ℕ) (events : List Received)
    : Type 0 where
  pub before : List ℕ
  pub bytes : List ℕ
  pub lines : List ScriptLine
  pub given_are : given ≡ before ++ (bytes ++ unread)
  pub count : length bytes ≡ taken
  pub are : AreTaken lines bytes (unread ++ rest)
  pub events_are : events ≡ events_of lines

-- The last so many bytes of the sink are the lines of these frames.
pub record HasPrinted (written : List ℕ) (given : ℕ) (frames : List SentFrame) : Type 0 where
  pub before : List ℕ
  pub written_are : written ≡ before ++ frame_lines frames
  pub count : length (frame_lines frames) ≡ given

-- Where the source tells its bytes, the events are those of the lines taken; where the sink tells
-- its bytes and hasn't failed, the frames are those printed. A count at its end tells nothing.
pub record HasLists {S K : Type 0} (g : source.Ghosts S) (h : sink.Ghosts K)
    (b : ScriptBoard S K g h) (events : List Received) (frames : List SentFrame) : Type 0 where
  pub taken : g.tells_given b.input.now → g.tells_rest b.input.now → b.taken < 2 ^ 64 - 1
      → HasTaken (g.given b.input.now) (g.rest b.input.now) (unread_in b) b.taken events
  pub printed : b.mark ≢ Some Output → h.tells_written b.out.now → b.given < 2 ^ 64 - 1
      → HasPrinted (h.written b.out.now) b.given frames

-- the calls so far
abbrev pub moment_of : {S K : Type 0} {g : source.Ghosts S} {h : sink.Ghosts K}
    → ScriptBoard S K g h → Moment
moment_of b = record {
  programs = slice_index b.moment 0;
  erases = slice_index b.moment 1;
  receptions = slice_index b.moment 2;
  sendings = slice_index b.moment 3;
}

-- how often each kind of call has failed
abbrev pub failures : {S K : Type 0} (g : source.Ghosts S) (h : sink.Ghosts K)
    → ScriptBoard S K g h → Fault → ℕ
failures g h b = counts_by_kind (slice_index b.faults 0) (slice_index b.faults 1)
    (slice_index b.faults 2) (reception_faults g b) (h.faults b.out.now)
