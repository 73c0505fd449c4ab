-- Why a command stops, as the program keeps it: its status, its line and its cause.
use Rattle.std.specs.Prelude.{◌≡◌, ◌⊎◌, ℕ, List, Result, Ok, Err}
use Rattle.flash_traits.specs.Words.{Words}
use Rattle.flash_traits.specs.Causes.{raised_at}
use Rattle.flash_traits.specs.declared.board.Fault.{Fault}
use Rattle.flash_traits.specs.declared.board.Fault.TheVariants as fault
use Rattle.sector_image.specs.FirstBad.{FirstBad, foreign_place}
use Rattle.sector_image.specs.declared.kept.SurveyError.{SurveyError}
use Rattle.sector_image.specs.declared.kept.SurveyError.TheVariants as survey
use Rattle.vehicle_node.specs.declared.NodeError.{NodeError}
use Rattle.vehicle_node.specs.declared.NodeError.TheVariants as node_error
use Rattle.storage_cli.specs.declared.stop.Served.{Served}
use Rattle.storage_cli.specs.declared.stop.Stop.{Stop}
use Rattle.storage_cli.specs.declared.stop.Stop.TheVariants as stop
use Rattle.storage_cli.specs.declared.status.TheConstants.{ATTACH_FAILED, FLASH_FAILED, FOREIGN_WORD, INPUT_FAILED, LINK_FAILED, NO_COMMAND, NO_MEMORY, READ_FAILED, SCRIPT_REFUSED, TURNS_OVER, WORN}
use Rattle.storage_cli.specs.Texts.{words_line, memory_line, foreign_line, read_line, flash_line, link_line, worn_line, turns_line, attach_line, input_line, script_line}

-- the status of each stop
abbrev pub status_of_stop : Stop → ℕ
status_of_stop stop.Words = NO_COMMAND
status_of_stop stop.Memory = NO_MEMORY
status_of_stop (stop.Foreign foreign) = FOREIGN_WORD
status_of_stop stop.Read = READ_FAILED
status_of_stop stop.Flash = FLASH_FAILED
status_of_stop stop.Link = LINK_FAILED
status_of_stop stop.Worn = WORN
status_of_stop (stop.Turns turns) = TURNS_OVER
status_of_stop stop.Attach = ATTACH_FAILED
status_of_stop stop.Input = INPUT_FAILED
status_of_stop (stop.Script line) = SCRIPT_REFUSED

-- the line of each stop
abbrev pub line_of_stop : Stop → List ℕ
line_of_stop stop.Words = words_line
line_of_stop stop.Memory = memory_line
line_of_stop (stop.Foreign foreign) = foreign_line foreign.region foreign.offset foreign.word
line_of_stop stop.Read = read_line
line_of_stop stop.Flash = flash_line
line_of_stop stop.Link = link_line
line_of_stop stop.Worn = worn_line
line_of_stop (stop.Turns turns) = turns_line turns
line_of_stop stop.Attach = attach_line
line_of_stop stop.Input = input_line
line_of_stop (stop.Script line) = script_line line

-- why a command stops where a call of the board failed
abbrev pub stop_of_fault : Fault → Stop
stop_of_fault fault.Attach = stop.Attach
stop_of_fault fault.Read = stop.Read
stop_of_fault fault.Flash = stop.Flash
stop_of_fault fault.Recv = stop.Link
stop_of_fault fault.Send = stop.Link

-- why a command stops where its node did
abbrev pub stop_of : NodeError → Stop
stop_of node_error.Memory = stop.Memory
stop_of (node_error.Fault kind) = stop_of_fault kind
stop_of (node_error.Foreign region offset word) =
    stop.Foreign (record { region = region; offset = offset; word = word })
stop_of (node_error.Worn count) = stop.Worn

-- why a command stops where its survey did
abbrev pub stop_of_survey : SurveyError → Stop
stop_of_survey (survey.Fault kind) = stop_of_fault kind
stop_of_survey (survey.Foreign region offset word) =
    stop.Foreign (record { region = region; offset = offset; word = word })

-- The counts of the board's faults where a command stops: that of the fault which the stop tells is
-- one higher, and no other changes.
abbrev pub IsCausedBy : Stop → (Fault → ℕ) → (Fault → ℕ) → Type 0
IsCausedBy stop.Words before now = now ≡ before
IsCausedBy stop.Memory before now = now ≡ before
IsCausedBy (stop.Foreign foreign) before now = now ≡ before
IsCausedBy stop.Read before now = now ≡ raised_at fault.Read before
IsCausedBy stop.Flash before now = now ≡ raised_at fault.Flash before
IsCausedBy stop.Link before now = (now ≡ raised_at fault.Recv before)
    ⊎ (now ≡ raised_at fault.Send before)
IsCausedBy stop.Worn before now = now ≡ before
IsCausedBy (stop.Turns turns) before now = now ≡ before
IsCausedBy stop.Attach before now = now ≡ raised_at fault.Attach before
IsCausedBy stop.Input before now = now ≡ before
IsCausedBy (stop.Script line) before now = now ≡ before

-- and where it doesn't stop, none changes
abbrev pub StopsByCause : {T : Type 0} → (Fault → ℕ) → (Fault → ℕ) → Result T Stop → Type 0
StopsByCause before now (Ok did) = now ≡ before
StopsByCause before now (Err why) = IsCausedBy why before now

-- a foreign halfword is the first one
abbrev pub IsFirst : Words → Stop → Type 0
IsFirst words (stop.Foreign foreign) =
    FirstBad words (foreign_place foreign.region foreign.offset foreign.word)
IsFirst words _ = Unit {0}

-- what holds where memory is wanting
abbrev pub OnMemory : Stop → Type 0 → Type 0
OnMemory stop.Memory P = P
OnMemory _ P = Unit {0}

-- what holds where the words are no image
abbrev pub OnForeign : Stop → Type 0 → Type 0
OnForeign (stop.Foreign foreign) P = P
OnForeign _ P = Unit {0}

-- what holds where the guard row is used up
abbrev pub OnWorn : Stop → Type 0 → Type 0
OnWorn stop.Worn P = P
OnWorn _ P = Unit {0}

-- why a serve may stop
abbrev pub IsServeStop : Stop → Type 0
IsServeStop stop.Words = ⊥
IsServeStop stop.Input = ⊥
IsServeStop (stop.Script line) = ⊥
IsServeStop _ = Unit {0}

-- why an event may stop it: a failed call, or a guard row that is used up
abbrev pub IsEventStop : Stop → Type 0
IsEventStop stop.Words = ⊥
IsEventStop stop.Memory = ⊥
IsEventStop (stop.Foreign foreign) = ⊥
IsEventStop (stop.Turns turns) = ⊥
IsEventStop stop.Input = ⊥
IsEventStop (stop.Script line) = ⊥
IsEventStop _ = Unit {0}

-- a failed program, or a failed attach
abbrev pub IsFormatStop : Stop → Type 0
IsFormatStop stop.Flash = Unit {0}
IsFormatStop stop.Attach = Unit {0}
IsFormatStop _ = ⊥

-- the attach succeeded
abbrev pub IsAttached : {T : Type 0} → Result T Stop → Type 0
IsAttached (Ok did) = Unit {0}
IsAttached (Err stop.Attach) = ⊥
IsAttached (Err _) = Unit {0}

-- the end came, or the turns are over
abbrev pub IsDone : Result Served Stop → Type 0
IsDone (Ok served) = Unit {0}
IsDone (Err (stop.Turns turns)) = Unit {0}
IsDone (Err _) = ⊥

-- want of memory, a foreign halfword, a failed read, or a failed attach
abbrev pub StopsEarly : {T : Type 0} → Result T Stop → Type 0
StopsEarly (Err stop.Memory) = Unit {0}
StopsEarly (Err (stop.Foreign foreign)) = Unit {0}
StopsEarly (Err stop.Read) = Unit {0}
StopsEarly (Err stop.Attach) = Unit {0}
StopsEarly _ = ⊥

-- want of memory, a failed read, program or erase, a guard row that is used up, or a failed attach
abbrev pub StopsWorn : {T : Type 0} → Result T Stop → Type 0
StopsWorn (Err stop.Memory) = Unit {0}
StopsWorn (Err stop.Read) = Unit {0}
StopsWorn (Err stop.Flash) = Unit {0}
StopsWorn (Err stop.Worn) = Unit {0}
StopsWorn (Err stop.Attach) = Unit {0}
StopsWorn _ = ⊥
