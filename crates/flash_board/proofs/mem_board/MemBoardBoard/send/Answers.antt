use Rattle.std.proofs.Common.{inl}
use Rattle.flash_board.proofs.mem_board.MemBoardBoard.send.Goals as goal

pub returns-then-fails_now-clause-lists : goal.returns-then-fails_now-clause-lists
returns-then-fails_now-clause-lists c = λ e f stood. inl (c.fail_send.ensures.sends.lists e f stood)
