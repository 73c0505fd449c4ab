-- How a call of a node ended, by the mark of its board and by the node's answer.
use Rattle.std.specs.Prelude.{Option, Some, None, Result, Ok, Err}
use Rattle.vehicle_node.specs.declared.NodeError.{NodeError}
use Rattle.vehicle_node.specs.declared.NodeError.TheVariants as node_error
use Rattle.sector_image.specs.FirstBad.{Place, foreign_place}
use Rattle.script_board.specs.declared.board.ScriptMark.{ScriptMark}
use Rattle.script_board.specs.declared.board.ScriptMark.TheVariants.{Lost, Refused, Input, Output}
use Rattle.replay.specs.declared.Break.{Break}
use Rattle.replay.specs.declared.Break.TheVariants as breaks
use Rattle.replay.specs.declared.Stop.{Stop}
use Rattle.replay.specs.declared.Stop.TheVariants as stops

-- The mark decides, also over an answer of the node. Without a mark no call failed, so the answer
-- is no fault; the last row stands for none.
abbrev pub ended : {T : Type 0} → Option ScriptMark → Result T NodeError → Result T Break
ended (Some Lost) answer = Err breaks.Lost
ended (Some (Refused line)) answer = Err (breaks.Stopped (stops.Refused line))
ended (Some Input) answer = Err (breaks.Stopped stops.Input)
ended (Some Output) answer = Err (breaks.Stopped stops.Output)
ended None (Ok value) = Ok value
ended None (Err node_error.Memory) = Err (breaks.Stopped stops.Memory)
ended None (Err (node_error.Foreign region offset word)) =
    Err (breaks.Stopped (stops.Foreign region offset word))
ended None (Err (node_error.Worn count)) = Err (breaks.Stopped (stops.Worn count))
ended None (Err (node_error.Fault kind)) = Err (breaks.Stopped stops.Memory)

-- the words are no image, and of the first foreign word this holds
abbrev pub IsForeign : (Place → Type 0) → Stop → Type 0
IsForeign P stops.Memory = ⊥
IsForeign P (stops.Foreign region offset word) = P (foreign_place region offset word)
IsForeign P (stops.Worn count) = ⊥
IsForeign P (stops.Refused line) = ⊥
IsForeign P stops.Input = ⊥
IsForeign P stops.Output = ⊥
