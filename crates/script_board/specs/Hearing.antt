-- The event that comes next.
use Rattle.std.specs.Prelude.{◌≡◌, ◌≢◌, ◌⊎◌, ℕ, ◌+◌, ◌≤◌, List, [], ◌∷◌, ◌++◌, length, Option}
use Rattle.std.specs.Prelude.{Result, Ok, Err}
use Rattle.flash_traits.specs.Counts.{raised}
use Rattle.flash_traits.specs.Losses.{received}
use Rattle.flash_traits.specs.declared.board.Event.{Event}
use Rattle.flash_traits.specs.declared.board.Event.TheVariants as event
use Rattle.flash_traits.specs.declared.board.Failed.{Failed}
use Rattle.script_lines.specs.Script.{ScriptLine, Datagram, Idle, LossNow, LossLater, End, HasNoEnd}
use Rattle.script_lines.specs.Seen.{script_line_of}
use Rattle.script_lines.specs.declared.line.ScriptLine as lines
use Rattle.script_lines.specs.declared.line.Waiting.{Waiting}
use Rattle.script_lines.specs.declared.numbers.TheConstants.{SCRIPT_LINES}
use Rattle.script_board.specs.Taking.{IsAhead, HasNoLine, events_in}
use Rattle.script_board.specs.Marks.{marked}
use Rattle.script_board.specs.declared.board.ScriptMark.{ScriptMark}
use Rattle.script_board.specs.declared.board.ScriptMark.TheVariants.{Lost, Refused, Input}
use Rattle.script_board.specs.declared.waiting.TheConstants.{WAITING_LOSSES}

-- the line that was taken, or none
abbrev pub taken_lines : {E : Type 0} → Result lines.ScriptLine E → List ScriptLine
taken_lines (Ok line) = script_line_of line ∷ []
taken_lines (Err e) = []

-- the losses that wait after a line
abbrev pub waiting_after : List Waiting → ScriptLine → List Waiting
waiting_after waiting (LossLater call how) = waiting ++ record { call = call; how = how } ∷ []
waiting_after waiting (Datagram station bytes) = waiting
waiting_after waiting Idle = waiting
waiting_after waiting LossNow = waiting
waiting_after waiting End = waiting

-- the losses that wait after these lines
abbrev pub waits_by : List Waiting → List ScriptLine → List Waiting
waits_by waiting [] = waiting
waits_by waiting (line ∷ lines) = waits_by (waiting_after waiting line) lines

-- where a loss begins to wait alone, calls are counted from there
abbrev pub since_when : List Waiting → ℕ → ℕ
since_when [] since = 0
since_when (first ∷ waiting) since = since

-- how many calls were counted since then, behind a line
abbrev pub since_taken : List Waiting → ℕ → ScriptLine → ℕ
since_taken waiting since (LossLater call how) = since_when waiting since
since_taken waiting since (Datagram station bytes) = since
since_taken waiting since Idle = since
since_taken waiting since LossNow = since
since_taken waiting since End = since

-- the same where power was lost at once by the line `x`: they are counted anew
abbrev pub since_after : List Waiting → ℕ → ScriptLine → ℕ
since_after waiting since (LossLater call how) = since_when waiting since
since_after waiting since (Datagram station bytes) = since
since_after waiting since Idle = since
since_after waiting since LossNow = 0
since_after waiting since End = since

-- the same after these lines
abbrev pub since_by : List Waiting → ℕ → List ScriptLine → ℕ
since_by waiting since [] = since
since_by waiting since (line ∷ lines) =
    since_by (waiting_after waiting line) (since_after waiting since line) lines

-- The next line is refused: so many lines were taken that no more are, or the unread bytes begin
-- with no line of the grammar, or with a loss where sixteen wait.
abbrev pub IsRefused : ℕ → List Waiting → List ℕ → Type 0 → List ℕ → Type 0
IsRefused line waiting unread told rest =
    (SCRIPT_LINES ≤ line)
    ⊎ HasNoLine unread told rest
    ⊎ ((length waiting ≡ WAITING_LOSSES) × ((call : ℕ) × (how : ℕ) × (bytes : ℕ)
    × IsAhead (LossLater call how) bytes unread told rest))

-- whether a line is a loss at a later call, as a number
abbrev pub loses_in : ScriptLine → ℕ
loses_in (LossLater call how) = 1
loses_in (Datagram station bytes) = 0
loses_in Idle = 0
loses_in LossNow = 0
loses_in End = 0

-- how many of these lines are losses at later calls
abbrev pub loses : List ScriptLine → ℕ
loses [] = 0
loses (line ∷ lines) = loses_in line + loses lines

-- with the losses of these lines no more than sixteen wait, if no more did before them
abbrev pub FewWait : ℕ → List ScriptLine → Type 0
FewWait waiting lines =
    waiting ≤ WAITING_LOSSES → waiting + loses lines ≤ WAITING_LOSSES

-- none of these lines is a loss now
abbrev pub HasNoLossNow : List ScriptLine → Type 0
HasNoLossNow [] = Unit {0}
HasNoLossNow (line ∷ lines) = (line ≢ LossNow) × HasNoLossNow lines

-- the last of these lines is the end, and no earlier one
abbrev pub EndsWithEnd : List ScriptLine → Type 0
EndsWithEnd lines = (front : List ScriptLine) × (lines ≡ front ++ End ∷ []) × HasNoEnd front

-- each of these lines is a loss at a later call
abbrev pub AreLosses : List ScriptLine → Type 0
AreLosses [] = Unit {0}
AreLosses (line ∷ lines) = (loses_in line ≡ 1) × AreLosses lines

-- an event was heard: that of the last line, behind losses at later calls
abbrev pub IsEventHeard : Event → List ℕ → List ScriptLine → Type 0
IsEventHeard event buffer lines = (front : List ScriptLine) × (last : ScriptLine)
    × (lines ≡ front ++ last ∷ []) × AreLosses front
    × (events_in last ≡ received event buffer ∷ [])

-- Why no event came behind the losses at later calls: a line `x` was the last one taken, or the
-- source failed, which is one fault more of it, or the next line is refused. Each leaves its mark,
-- but for a fault of the source where the script had failed before.
abbrev pub IsUnheard : Option ScriptMark → Option ScriptMark → ℕ → List ScriptLine → ℕ → ℕ → ℕ
    → Type 0 → Type 0
IsUnheard mark_before mark_now failures lines faults_before faults_now line refused =
    ((front : List ScriptLine) × (lines ≡ front ++ LossNow ∷ []) × AreLosses front
    × (mark_now ≡ marked mark_before Lost) × (faults_now ≡ faults_before))
    ⊎ (AreLosses lines × (faults_now ≡ raised faults_before)
    × (failures ≡ 0 → mark_now ≡ marked mark_before Input))
    ⊎ (AreLosses lines × refused × (mark_now ≡ marked mark_before (Refused line))
    × (faults_now ≡ faults_before))

-- how many losses wait behind a reception: the end forgets them
abbrev pub waiting_behind : Result Event Failed → ℕ → List ScriptLine → ℕ
waiting_behind (Ok event.End) waiting lines = 0
waiting_behind (Ok event.Idle) waiting lines = waiting + loses lines
waiting_behind (Ok (event.Datagram peer len)) waiting lines = waiting + loses lines
waiting_behind (Err e) waiting lines = waiting + loses lines

-- which losses wait behind a reception
abbrev pub waits_behind : Result Event Failed → List Waiting → List ScriptLine → List Waiting
waits_behind (Ok event.End) waiting lines = []
waits_behind (Ok event.Idle) waiting lines = waits_by waiting lines
waits_behind (Ok (event.Datagram peer len)) waiting lines = waits_by waiting lines
waits_behind (Err e) waiting lines = waits_by waiting lines
