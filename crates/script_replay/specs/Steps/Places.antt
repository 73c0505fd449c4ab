-- The board in a place, from which a call of a node takes it and where it puts it back.
use Rattle.std.specs.Prelude.{◌≡◌, ◌≢◌, ◌≤◌, ℕ, ◌+◌, ◌*◌, ◌-◌, Bool, true, false, Option, Some}
use Rattle.std.specs.Prelude.{None, IsSome, List, [], ◌++◌, length, take, Result, Err, OnOk}
use Rattle.std.specs.Borrow.{GName}
use Rattle.flash_traits.specs.Words.{Words}
use Rattle.flash_traits.specs.Losses.{SentFrame}
use Rattle.flash_traits.specs.declared.board.Board as board
use Rattle.flash_traits.specs.declared.stream.Source as source
use Rattle.flash_traits.specs.declared.stream.Sink as sink
use Rattle.vehicle_node.specs.Standing.{Node, Fits}
use Rattle.vehicle_node.specs.declared.Turn.{Turn}
use Rattle.script_lines.specs.Script.{ScriptLine}
use Rattle.script_lines.specs.declared.line.Waiting.{Waiting}
use Rattle.script_lines.specs.declared.numbers.TheConstants.{SCRIPT_LINES}
use Rattle.script_board.specs.Boards.{words_in, unread_in}
use Rattle.script_board.specs.Hearing.{FewWait, IsRefused, loses}
use Rattle.script_board.specs.Printing.{frame_lines}
use Rattle.script_board.specs.Taking.{events_of}
use Rattle.script_board.specs.declared.board.ScriptBoard.{ScriptBoard}
use Rattle.replay.specs.Playing.{EventEnds, TurnUses}
use Rattle.replay.specs.declared.Break.{Break}
use Rattle.replay.specs.declared.Break.TheVariants.{Stopped}
use Rattle.replay.specs.declared.Stop.TheVariants as stops
use Rattle.script_replay.specs.Calls.{Takes}
use Rattle.script_replay.specs.declared.start.Start as start
use Rattle.script_replay.specs.declared.start.Beginning as beginning

module _ {S K : Type 0} {g : source.Ghosts S} {h : sink.Ghosts K} where
  -- the names of its source and of its sink
  abbrev pub input_of : Option (ScriptBoard S K g h) → GName
  input_of (Some b) = b.input.ghost_name
  input_of None = 0

  abbrev pub out_of : Option (ScriptBoard S K g h) → GName
  out_of (Some b) = b.out.ghost_name
  out_of None = 0

  -- the bytes of its sectors, and its words
  abbrev pub size_of : Option (ScriptBoard S K g h) → ℕ
  size_of (Some b) = b.geometry.sector_bytes
  size_of None = 0

  abbrev pub words_at : Option (ScriptBoard S K g h) → Words
  words_at (Some b) = words_in b
  words_at None = record { s0 = []; s1 = []; guard = [] }

  -- the bytes that were read and not taken, and those that are left to read, where they are told
  abbrev pub unread_at : Option (ScriptBoard S K g h) → List ℕ
  unread_at (Some b) = unread_in b
  unread_at None = []

  abbrev pub rest_at : Option (ScriptBoard S K g h) → List ℕ
  rest_at (Some b) = g.rest b.input.now
  rest_at None = []

  abbrev pub TellsRest : Option (ScriptBoard S K g h) → Type 0
  TellsRest (Some b) = g.tells_rest b.input.now
  TellsRest None = ⊥

  -- the bytes that were printed, where they are told
  abbrev pub written_at : Option (ScriptBoard S K g h) → List ℕ
  written_at (Some b) = h.written b.out.now
  written_at None = []

  abbrev pub TellsWritten : Option (ScriptBoard S K g h) → Type 0
  TellsWritten (Some b) = h.tells_written b.out.now
  TellsWritten None = ⊥

  -- how many lines were taken, and the losses that wait
  abbrev pub line_at : Option (ScriptBoard S K g h) → ℕ
  line_at (Some b) = b.line
  line_at None = 0

  abbrev pub losses_at : Option (ScriptBoard S K g h) → List Waiting
  losses_at (Some b) = b.waiting.items
  losses_at None = []

  abbrev pub waiting_at : Option (ScriptBoard S K g h) → ℕ
  waiting_at place = length (losses_at place)

  -- how much of the script and of the waiting losses is left at most
  abbrev pub remaining_at : Option (ScriptBoard S K g h) → ℕ
  remaining_at place = 3 * (SCRIPT_LINES - line_at place) + 2 * waiting_at place

  -- the next line has this number and is refused
  abbrev pub RefusesAt : Option (ScriptBoard S K g h) → ℕ → Type 0
  RefusesAt place line = (line ≡ line_at place + 1)
      × IsRefused (line_at place) (losses_at place) (unread_at place) (TellsRest place)
      (rest_at place)

  -- how often its source and its sink have failed
  abbrev pub input_faults_at : Option (ScriptBoard S K g h) → ℕ
  input_faults_at (Some b) = g.faults b.input.now
  input_faults_at None = 0

  abbrev pub output_faults_at : Option (ScriptBoard S K g h) → ℕ
  output_faults_at (Some b) = h.faults b.out.now
  output_faults_at None = 0

  -- the node belongs to it
  abbrev pub FitsAt : board.Ghosts (ScriptBoard S K g h) → Option (ScriptBoard S K g h) → Node
      → Type 0
  FitsAt meaning (Some b) node = Fits meaning b node
  FitsAt meaning None node = ⊥

  -- these are the lines of the script taken so far, of the bytes that were left at the start
  abbrev pub TookAt : List ℕ → Option (ScriptBoard S K g h) → List ScriptLine → Type 0
  TookAt rest place lines = (line_at place ≡ length lines)
      × Takes [] rest (unread_at place) (rest_at place) lines

  -- There is a board, and these ghost values are what stands of it.
  pub record Starts {N : Type 0} (n : start.Ghosts N) (place : Option (ScriptBoard S K g h))
      : Type 0 where
    pub some : IsSome place
    pub input : input_of place ≡ n.input
    pub out : out_of place ≡ n.out
    pub size : size_of place ≡ n.sector_bytes
    pub unread : unread_at place ≡ n.unread
    pub rest : rest_at place ≡ n.rest
    pub tells_rest : TellsRest place → n.tells_rest
    pub written : written_at place ≡ n.written
    pub tells_written : TellsWritten place → n.tells_written
    pub line : line_at place ≡ n.line
    pub waiting : waiting_at place ≡ n.waiting
    pub input_faults : input_faults_at place ≡ n.input_faults
    pub output_faults : output_faults_at place ≡ n.output_faults

  -- The board is back with its source and its sink, and nothing of what was printed is lost.
  pub record Returns {N : Type 0} (n : start.Ghosts N) (place : Option (ScriptBoard S K g h))
      : Type 0 where
    pub some : IsSome place
    pub input : input_of place ≡ n.input
    pub out : out_of place ≡ n.out
    pub size : size_of place ≡ n.sector_bytes
    pub told_rest : TellsRest place → n.tells_rest
    pub told_written : TellsWritten place → n.tells_written
    pub grows : TellsWritten place → take (length n.written) (written_at place) ≡ n.written

  -- these lines were taken since
  pub record Added {N : Type 0} (n : start.Ghosts N) (place : Option (ScriptBoard S K g h))
      (lines : List ScriptLine) : Type 0 where
    pub line : line_at place ≡ n.line + length lines
    pub takes : TellsRest place → Takes n.unread n.rest (unread_at place) (rest_at place) lines

  -- these frames were printed since, as long as the sink tells its bytes
  abbrev pub Printed : {N : Type 0} → start.Ghosts N → Option (ScriptBoard S K g h)
      → List SentFrame → Type 0
  Printed n place frames =
      TellsWritten place → written_at place ≡ n.written ++ frame_lines frames

  -- The player holds a board over the source and the sink of the start, and what was printed since
  -- follows what was printed then.
  pub record HoldsAt {M : Type 0} (m : beginning.Ghosts M) (place : Option (ScriptBoard S K g h))
      : Type 0 where
    pub some : IsSome place
    pub input : input_of place ≡ m.input
    pub out : out_of place ≡ m.out
    pub size : size_of place ≡ m.sector_bytes
    pub told_rest : TellsRest place → m.tells_rest
    pub told_written : TellsWritten place → m.tells_written
    pub grows : TellsWritten place → (text : List ℕ) × (written_at place ≡ m.written ++ text)

  -- nothing failed in what was printed, and all bytes are told
  pub record ToldAt (printed : Bool) (place : Option (ScriptBoard S K g h)) : Type 0 where
    pub unfailed : printed ≡ true
    pub rest : TellsRest place
    pub written : TellsWritten place

  -- One event: these lines were taken, and where no line failed these frames were printed, and the
  -- node goes on, or what a loss left is safe.
  pub record Plays {N : Type 0} (n : start.Ghosts N) (budget : ℕ)
      (place : Option (ScriptBoard S K g h)) (old new : Node) (result : Result Turn Break)
      : Type 0 where
    pub lines : List ScriptLine
    pub frames : List SentFrame
    pub finished : ℕ
    pub added : Added n place lines
    pub uses : TurnUses result lines finished n.waiting (waiting_at place)
    pub some : OnOk result (1 ≤ length lines)
    pub few : waiting_at place ≤ n.waiting + loses lines
    pub few_wait : FewWait n.waiting lines
    pub printed : result ≢ Err (Stopped stops.Output) → Printed n place frames
    pub ends : result ≢ Err (Stopped stops.Output) → TellsWritten place
        → EventEnds budget result old new (events_of lines) frames finished (words_at place)
