-- Why a call failed.
use Rattle.std.specs.Prelude.{Option, Some, None}
use Rattle.script_board.specs.declared.board.ScriptMark.{ScriptMark}
use Rattle.script_board.specs.declared.board.ScriptMark.TheVariants.{Lost, Refused, Input, Output}

-- the mark of a call that failed so; a mark of the sink stays
abbrev pub marked : Option ScriptMark → ScriptMark → Option ScriptMark
marked None new = Some new
marked (Some Lost) new = Some new
marked (Some (Refused line)) new = Some new
marked (Some Input) new = Some new
marked (Some Output) new = Some Output
