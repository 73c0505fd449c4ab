-- What one call of a node does to a script and to its output.
use Rattle.std.specs.Prelude.{◌≡◌, ◌⊎◌, ℕ, ◌+◌, ◌<◌, Bool, true, false, Option, Some, None, Ok}
use Rattle.std.specs.Prelude.{List, [], ◌∷◌, ◌++◌}
use Rattle.flash_traits.specs.Losses.{Received, received, SentFrame}
use Rattle.flash_traits.specs.declared.board.Event.{Event}
use Rattle.script_lines.specs.Script.{ScriptLine}
use Rattle.script_board.specs.Taking.{AreTaken}
use Rattle.script_board.specs.Printing.{frame_lines}
use Rattle.script_board.specs.Hearing.{IsEventHeard, IsUnheard, waiting_behind, loses}
use Rattle.script_board.specs.declared.board.ScriptMark.{ScriptMark}
use Rattle.script_board.specs.declared.board.ScriptMark.TheVariants.{Lost, Refused, Input, Output}

-- These lines of a script were taken: before them stood bytes that were read and not taken, and
-- those that were left to read; behind them others do.
pub record Takes (unread_before rest_before unread_now rest_now : List ℕ)
    (lines : List ScriptLine) : Type 0 where
  pub bytes : List ℕ
  pub split : unread_before ++ rest_before ≡ bytes ++ (unread_now ++ rest_now)
  pub whole : AreTaken lines bytes (unread_now ++ rest_now)

-- a station's number and bytes, each below 256
abbrev pub AreBytes : List ℕ → Type 0
AreBytes [] = Unit {0}
AreBytes (byte ∷ bytes) = (byte < 256) × AreBytes bytes

-- each frame is of bytes
abbrev pub AreFrames : List SentFrame → Type 0
AreFrames [] = Unit {0}
AreFrames (frame ∷ frames) = (frame.peer < 256) × AreBytes frame.bytes × AreFrames frames

-- these frames were printed behind what was printed before
abbrev pub ArePrinted : List ℕ → List ℕ → List SentFrame → Type 0
ArePrinted before now frames = (now ≡ before ++ frame_lines frames) × AreFrames frames

-- the event that was received, or none
abbrev pub events_heard : Option Event → List ℕ → List Received
events_heard None buffer = []
events_heard (Some event) buffer = received event buffer ∷ []

-- So many losses would wait. One fewer does where one fell in a call; the script's own failures
-- come with no event.
abbrev pub WaitsBy : Option ScriptMark → ℕ → ℕ → Type 0
WaitsBy None would now = now ≡ would
WaitsBy (Some Lost) would now = now + 1 ≡ would
WaitsBy (Some (Refused line)) would now = ⊥
WaitsBy (Some Input) would now = ⊥
WaitsBy (Some Output) would now = now ≡ would

-- The lines that a call took: none, where it received nothing; or those up to where no event came,
-- where it has room for one; or those up to the event that came.
abbrev pub HasHeard : Bool → Option Event → List ℕ → Option ScriptMark → ℕ → ℕ → ℕ → ℕ → ℕ
    → Type 0 → List ScriptLine → Type 0
HasHeard room None buffer mark before now faults_before faults_now next refused lines =
    ((lines ≡ []) × WaitsBy mark before now)
    ⊎ ((room ≡ true) × IsUnheard None mark 0 lines faults_before faults_now next refused
    × (now ≡ before + loses lines))
HasHeard room (Some event) buffer mark before now faults_before faults_now next refused lines =
    IsEventHeard event buffer lines × WaitsBy mark (waiting_behind (Ok event) before lines) now

-- more receptions than a call of a node makes: one, or none
abbrev pub too_many : Bool → ℕ
too_many true = 2
too_many false = 1
