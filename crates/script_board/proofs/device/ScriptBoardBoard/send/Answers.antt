use Rattle.std.proofs.Common.{◌≡◌, ℕ, List, min, ◌+◌, ◌-◌, ◌^◌, slice_index, ap, ◌∙◌}
use Rattle.flash_traits.specs.Losses.{sent_frame}
use Rattle.script_board.proofs.Listed.{lists_sent, unread_by}
use Rattle.script_board.proofs.Counting.{send_counts}
use Rattle.script_board.proofs.device.ScriptBoardBoard.send.Goals as goal

pub returns-clause-lists : goal.returns-clause-lists
returns-clause-lists g c =
    let e = c.print_frame.ensures in
    lists_sent g.S.Source g.K.Sink c.args.self.now c.print_frame.new.self c.print_frame.result (sent_frame c.args.peer c.args.bytes.now)
    e.others.input (unread_by _ _ _ _ (ap (λ b. b.items) e.others.buffer) e.others.ahead) e.others.taken e.told e.written e.given e.unmarked e.marked

pub returns-clause-cause : goal.returns-clause-cause
returns-clause-cause g c =
    let o = c.print_frame.ensures.others in
    let b = c.print_frame.new.self in
    send_counts g.S.Source g.K.Sink c.args.self.now b (λ k lt. ap (λ (f : List ℕ). slice_index f k) o.faults) c.print_frame.result
    (ap (λ (f : List ℕ). min (slice_index f 3 + g.S.Source.faults b.input.now) (2 ^ 64 - 1)) o.faults ∙ ap (λ i. min (slice_index c.args.self.now.faults 3 + g.S.Source.faults i.now) (2 ^ 64 - 1)) o.input)
    c.print_frame.ensures.cause
