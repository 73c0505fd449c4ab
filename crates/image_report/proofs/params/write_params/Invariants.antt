use Rattle.std.specs.Prelude.{Ok}
use Rattle.flash_traits.specs.declared.board.Failed.{Failed}
use Rattle.image_report.specs.Steps.Writes.{Writes}
use Rattle.image_report.proofs.Table.{lines_to}
use Rattle.image_report.proofs.params.write_params.Given as goal

abbrev pub invariant-loop-index : goal.invariant-loop-index
invariant-loop-index g l = Writes {T = Unit {0}} {E = Failed} g.K.Sink l.fn.out l.out (Ok tt) (lines_to l.bytes l.index)
