use Rattle.std.proofs.Common.{sym, ◌∙◌}
use Rattle.flash_board.specs.MemoryLaws.{untold_is_full}
use Rattle.flash_board.proofs.sure_board.SureBoardBoard.attach.Goals as goal

pub returns-clause-untold : goal.returns-clause-untold
returns-clause-untold c any e f told = absurd (untold_is_full c.args.self.now.memory any (sym c.attach.ensures.full ∙ told))
