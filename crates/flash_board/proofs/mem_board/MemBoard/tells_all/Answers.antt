use Rattle.flash_board.specs.MemoryLaws.{recorded_events, recorded_frames, one_pair, just_now}
use Rattle.flash_board.proofs.mem_board.MemBoard.tells_all.Goals as goal

pub returns : goal.returns
returns c told =
    let m = c.args.self.now.memory in
    record { words = told; events = recorded_events m; frames = recorded_frames m; lists = one_pair m told; losses = just_now m told }
