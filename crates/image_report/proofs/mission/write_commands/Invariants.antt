use Rattle.std.specs.Prelude.{Ok}
use Rattle.flash_traits.specs.declared.board.Failed.{Failed}
use Rattle.mission_records.specs.Mission.{mission_of}
use Rattle.image_report.specs.Dumps.{command_line}
use Rattle.image_report.specs.Steps.Writes.{Writes}
use Rattle.image_report.proofs.Numbered.{lines_before}
use Rattle.image_report.proofs.mission.write_commands.Given as goal

abbrev pub invariant-loop-index : goal.invariant-loop-index
invariant-loop-index g l = Writes {T = Unit {0}} {E = Failed} g.K.Sink l.fn.out l.out (Ok tt) (lines_before command_line (mission_of l.bytes) l.index)
