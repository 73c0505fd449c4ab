use Rattle.std.specs.Prelude.{Ok}
use Rattle.flash_traits.specs.declared.board.Failed.{Failed}
use Rattle.image_report.specs.Dumps.{fence_item_line}
use Rattle.image_report.specs.Steps.Writes.{Writes}
use Rattle.image_report.proofs.Numbered.{lines_before}
use Rattle.image_report.proofs.fence.write_items.Given as goal

abbrev pub invariant-loop-index : goal.invariant-loop-index
invariant-loop-index g l = Writes {T = Unit {0}} {E = Failed} g.K.Sink l.fn.out l.out (Ok tt) (lines_before fence_item_line l.items l.index)
