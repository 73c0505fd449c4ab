use Rattle.std.proofs.Common.{rules, sym, ◌∙◌, ◌≡◌, ap}
use Rattle.flash_board.specs.MemoryLaws.{untold_is_full}
use Rattle.flash_board.specs.declared.memory.Memory.{Memory}
use Rattle.flash_board.proofs.mem_board.MemBoardBoard.attach.Goals as goal

pub returns-then-fails_now-clause-untold : goal.returns-then-fails_now-clause-untold
returns-then-fails_now-clause-untold c any e f told =
    let same : c.then-fails_now.self.memory ≡ c.args.self.now.memory = search rules in
    absurd (untold_is_full c.args.self.now.memory any (sym (ap (λ (m : Memory). m.full) same) ∙ told))

pub returns-clause-untold : goal.returns-clause-untold
returns-clause-untold c any e f told = absurd (untold_is_full c.args.self.now.memory any (sym c.attach.ensures.full ∙ told))
