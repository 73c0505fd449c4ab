-- A line in memory, as the grammar has it.
use Rattle.script_lines.specs.Script as script
use Rattle.script_lines.specs.declared.line.ScriptLine.{ScriptLine}
use Rattle.script_lines.specs.declared.line.ScriptLine.TheVariants.{Datagram, Idle, LossNow, LossLater, End}

-- what it says
abbrev pub script_line_of : ScriptLine → script.ScriptLine
script_line_of (Datagram station bytes) = script.Datagram station bytes.items
script_line_of Idle = script.Idle
script_line_of LossNow = script.LossNow
script_line_of (LossLater waiting) = script.LossLater waiting.call waiting.how
script_line_of End = script.End
