use Rattle.std.proofs.Common.{◌≡◌, ◌+◌, length, ◌∙◌, ap, sym, subst, arith, Ok}
use Rattle.vehicle_core.specs.Vehicle.{Vehicle}
use Rattle.dirty_lines.specs.Lines.{Lines}
use Rattle.block_store.specs.Store as store
use Rattle.vehicle_runs.specs.Frames.{Machine, deliveries}
use Rattle.vehicle_node.specs.Standing.{Node, raised_by}
use Rattle.vehicle_node.specs.Steps.Inside.{view_of}
use Rattle.vehicle_node.specs.Steps.Answering.{IssuedAll, SettledAll, HasSpareFor}
use Rattle.vehicle_node.specs.Steps.Calls.{OfFlash, OfAnswer, Keeps}
use Rattle.vehicle_node.specs.Steps.Sending.{SendDone}
use Rattle.block_store.proofs.StoreLaws.{fits_attached}
use Rattle.vehicle_node.proofs.ActAnswers.{counted_as, issue_short, settle_short, answer_done}
use Rattle.vehicle_node.proofs.Keeping.{flash_answers, keeps_then, keeps_wider, keeps_sending}
use Rattle.vehicle_node.proofs.Passing.{on_any, error_passed}
use Rattle.vehicle_node.proofs.Node.answer.Goals as goal

pub issue-requires-clause-room : goal.issue-requires-clause-room
issue-requires-clause-room g c = λ is. let has = c.requires.room is in omega (arith, has)

pub returns-in_err-issue-clause-done : goal.returns-in_err-issue-clause-done
returns-in_err-issue-clause-done g c = λ told are.
    issue_short g.B.Board c.args.need c.args.armed c.args.batch.now.items (deliveries c.args.self.now.machine.vehicle told) c.args.self.now c.args.board.now c.in_err-issue.field-0.0 c.from_residual.result
    c.issue.new.self c.issue.new.board c.in_err-issue.ensures.done c.from_residual.ensures.1

pub settle-requires-clause-fits : goal.settle-requires-clause-fits
settle-requires-clause-fits g c =
    subst (λ (l : Lines). store.Fits g.B.Board c.issue.new.board l.store) (sym (ap (λ (n : Node). n.lines) c.self.view_is)) c.in_ok-issue.ensures.fits

pub settle-requires-clause-room : goal.settle-requires-clause-room
settle-requires-clause-room g c = λ is.
    let all : IssuedAll g.B.Board c.args.armed c.args.batch.now.items c.args.self.now c.args.board.now c.issue.new.self c.issue.new.board = c.in_ok-issue.ensures.done.done in
    let has = c.requires.room is in
    let more : HasSpareFor c.args.self.now (length c.args.batch.now.items + 0) = omega (arith, has) in
    subst (λ (l : Lines). store.HasSpare l.store (length l.pending + 0)) (sym (ap (λ (n : Node). n.lines) c.self.view_is)) (all.issued.spare is 0 more)

pub returns-in_err-settle-clause-done : goal.returns-in_err-settle-clause-done
returns-in_err-settle-clause-done g c = λ told are.
    let s = c.self.inside in
    settle_short g.B.Board g.met.B.Board.reads c.args.need c.args.armed c.args.batch.now.items (deliveries c.args.self.now.machine.vehicle told) c.args.self.now c.args.board.now c.issue.new.self
    (view_of (record s { issued = c.saturating_add-self-inside.result })) c.issue.new.board c.in_ok-issue.ensures.done
    (counted_as s c.issue.new.self c.saturating_add-self-inside.result c.len.result (length c.args.batch.now.items) c.self.view_is (omega (arith, c.saturating_add-self-inside.ensures)) c.len.ensures.value)
    c.in_err-settle.field-0.0 c.from_residual-in_err-settle.result c.settle.new.self c.settle.new.board c.in_err-settle.ensures.done c.from_residual-in_err-settle.ensures.1

pub returns-clause-done : goal.returns-clause-done
returns-clause-done g c = λ told are.
    let b = g.B.Board in
    let old = c.args.self.now in
    let s = c.self.inside in
    let mid = c.issue.new.self in
    let last = c.settle.new.self in
    let n = length c.args.batch.now.items in
    let counted : Node = view_of (record s { issued = c.saturating_add-self-inside.result }) in
    let is : counted ≡ record mid { issued = raised_by n mid.issued } =
    counted_as s mid c.saturating_add-self-inside.result c.len.result n c.self.view_is (omega (arith, c.saturating_add-self-inside.ensures)) c.len.ensures.value in
    let issued : IssuedAll b c.args.armed c.args.batch.now.items old c.args.board.now mid c.issue.new.board = c.in_ok-issue.ensures.done.done in
    let settled : SettledAll b c.args.need c.args.armed counted c.issue.new.board last c.settle.new.board = c.in_ok-settle.ensures.done.done in
    let machine : last.machine ≡ old.machine = settled.settled.puts.machine ∙ ap (λ (n : Node). n.machine) is ∙ issued.issued.machine in
    let sent = subst (λ (v : Vehicle). SendDone b (deliveries v told) last c.settle.new.board c.send_replies.result c.send_replies.new.self c.send_replies.new.board) (ap (λ (m : Machine). m.vehicle) machine)
    (c.send_replies.ensures.done told are) in
    answer_done b g.met.B.Board.reads c.args.need c.args.armed c.args.batch.now.items (deliveries old.machine.vehicle told) old c.args.board.now mid counted c.issue.new.board c.in_ok-issue.ensures.done is
    last c.settle.new.board c.in_ok-settle.ensures.done c.in_ok-settle.ensures.fits c.send_replies.result c.send_replies.new.self c.send_replies.new.board sent c.send_replies.ensures.keeps.never_worn

pub returns-clause-index : goal.returns-clause-index
returns-clause-index g c =
    let s = c.self.inside in
    let mid = c.issue.new.self in
    let counted : Node = view_of (record s { issued = c.saturating_add-self-inside.result }) in
    let is : counted ≡ record mid { issued = raised_by (length c.args.batch.now.items) mid.issued } =
    counted_as s mid c.saturating_add-self-inside.result c.len.result (length c.args.batch.now.items) c.self.view_is (omega (arith, c.saturating_add-self-inside.ensures)) c.len.ensures.value in
    let issued : IssuedAll g.B.Board c.args.armed c.args.batch.now.items c.args.self.now c.args.board.now mid c.issue.new.board = c.in_ok-issue.ensures.done.done in
    let settled : SettledAll g.B.Board c.args.need c.args.armed counted c.issue.new.board c.settle.new.self c.settle.new.board = c.in_ok-settle.ensures.done.done in
    on_any c.send_replies.result (c.send_replies.new.self.index ≡ c.args.self.now.index)
    (c.send_replies.ensures.keeps.index ∙ settled.settled.puts.index ∙ ap (λ (n : Node). n.index) is ∙ issued.issued.index)

pub send_replies-requires-clause-attached : goal.send_replies-requires-clause-attached
send_replies-requires-clause-attached g c = fits_attached g.B.Board c.settle.new.board c.settle.new.self.lines.store c.in_ok-settle.ensures.fits

pub returns-clause-keeps : goal.returns-clause-keeps
returns-clause-keeps g c =
    let b = g.B.Board in
    keeps_sending b OfFlash c.args.board.now c.settle.new.board c.send_replies.result c.settle.new.self c.send_replies.new.self c.send_replies.new.board (λ k is. flash_answers k is)
    (keeps_then b OfFlash OfFlash c.args.board.now c.issue.new.board (Ok tt) c.settle.new.board (λ k is. is) c.in_ok-issue.ensures.keeps c.in_ok-settle.ensures.keeps) c.send_replies.ensures.keeps

pub returns-in_err-issue-clause-keeps : goal.returns-in_err-issue-clause-keeps
returns-in_err-issue-clause-keeps g c =
    error_passed c.from_residual.result c.in_err-issue.field-0.0 (λ r. Keeps g.B.Board OfAnswer c.args.board.now r c.issue.new.board) c.from_residual.ensures.1
    (keeps_wider g.B.Board OfFlash OfAnswer c.args.board.now _ c.issue.new.board (λ k is. flash_answers k is) c.in_err-issue.ensures.keeps)

pub returns-in_err-settle-clause-keeps : goal.returns-in_err-settle-clause-keeps
returns-in_err-settle-clause-keeps g c =
    error_passed c.from_residual-in_err-settle.result c.in_err-settle.field-0.0 (λ r. Keeps g.B.Board OfAnswer c.args.board.now r c.settle.new.board) c.from_residual-in_err-settle.ensures.1
    (keeps_then g.B.Board OfFlash OfAnswer c.args.board.now c.issue.new.board _ c.settle.new.board (λ k is. flash_answers k is)
    (keeps_wider g.B.Board OfFlash OfAnswer c.args.board.now (Ok tt) c.issue.new.board (λ k is. flash_answers k is) c.in_ok-issue.ensures.keeps) c.in_err-settle.ensures.keeps)
