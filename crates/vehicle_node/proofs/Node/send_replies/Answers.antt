use Rattle.std.proofs.Common.{◌≡◌, ◌+◌, List, length, take, drop, Ok, Err, Result, ap, sym, arith, subst}
use Rattle.std.specs.Prelude.{⊤}
use Rattle.vehicle_runs.specs.Frames.{deliveries, deliveries_of}
use Rattle.vehicle_node.specs.declared.NodeError.{NodeError}
use Rattle.mav_messages.specs.declared.messages.Reply.{Reply}
use Rattle.mav_messages.specs.declared.messages.To.TheVariants.{Station}
use Rattle.mav_messages.specs.declared.messages.Message.TheVariants.{Heartbeat}
use Rattle.vehicle_core.specs.Vehicle.{Vehicle, Told}
use Rattle.vehicle_core.specs.Replies.{AreRepliesOf}
use Rattle.vehicle_node.specs.Steps.Sending.{SendDone}
use Rattle.vehicle_node.proofs.Keeping.{lines_then}
use Rattle.vehicle_node.proofs.RepliesSent.{done_then, done_short, vehicle_stays, told_at, all_told, told-more, told-rest}
use Rattle.vehicle_node.proofs.Node.send_replies.Goals as goal

abbrev no_reply : Reply
no_reply = record { to = Station 0; message = Heartbeat 0 0 0 0 0 0 }

pub loop-reply-preserved : goal.loop-reply-preserved
loop-reply-preserved g c =
    let i = c.loop-reply.invariant in
    let e = c.in_ok-send_reply.ensures in
    let b = g.B.Board in
    let old = c.args.self.now in
    let n = c.loop-reply.reply-index in
    let v = old.machine.vehicle in
    let list = c.as_slice-reply-items.result.now in
    record {
      done = λ told are.
          let before = i.done told are in
          let at = told_at told list n no_reply (subst (λ (l : List Reply). AreRepliesOf told l) (sym c.as_slice-reply-items.ensures.value) are) (omega (arith, c.loop-reply-test.true)) in
          let sent = subst (λ (v : Vehicle). SendDone b (deliveries_of v at.one) c.loop-reply.self c.loop-reply.board (Ok tt) c.send_reply.new.self c.send_reply.new.board)
          (vehicle_stays b (deliveries v (take n told)) old c.args.board.now c.loop-reply.self c.loop-reply.board before) (e.done at.one at.says) in
          done_then b (deliveries v (take n told)) (deliveries_of v at.one) (deliveries v (take (n + 1) told)) old c.args.board.now
          c.loop-reply.self c.loop-reply.board (Ok tt) c.send_reply.new.self c.send_reply.new.board before sent (told-more v told n at.one at.next);
      keeps = lines_then b old c.args.board.now c.loop-reply.self c.loop-reply.board (Ok tt) c.send_reply.new.self c.send_reply.new.board i.keeps e.keeps;
    }

pub returns-in_err-send_reply-clause-done : goal.returns-in_err-send_reply-clause-done
returns-in_err-send_reply-clause-done g c = λ told are.
    let i = c.loop-reply.invariant in
    let b = g.B.Board in
    let old = c.args.self.now in
    let n = c.loop-reply.reply-index in
    let v = old.machine.vehicle in
    let list = c.as_slice-reply-items.result.now in
    let e = c.in_err-send_reply.field-0.0 in
    let r : Result ⊤ NodeError = Err e in
    let before = i.done told are in
    let at = told_at told list n no_reply (subst (λ (l : List Reply). AreRepliesOf told l) (sym c.as_slice-reply-items.ensures.value) are) (omega (arith, c.loop-reply-test.true)) in
    let sent = subst (λ (v : Vehicle). SendDone b (deliveries_of v at.one) c.loop-reply.self c.loop-reply.board r c.send_reply.new.self c.send_reply.new.board)
    (vehicle_stays b (deliveries v (take n told)) old c.args.board.now c.loop-reply.self c.loop-reply.board before) (c.in_err-send_reply.ensures.done at.one at.says) in
    let some = done_then b (deliveries v (take n told)) (deliveries_of v at.one) (deliveries v (take (n + 1) told)) old c.args.board.now
    c.loop-reply.self c.loop-reply.board r c.send_reply.new.self c.send_reply.new.board before sent (told-more v told n at.one at.next) in
    done_short b (deliveries v (take (n + 1) told)) (deliveries v (drop (n + 1) told)) (deliveries v told) old c.args.board.now
    e c.from_residual.result c.send_reply.new.self c.send_reply.new.board some c.from_residual.ensures.1 (told-rest v told (n + 1))

pub returns-clause-done : goal.returns-clause-done
returns-clause-done g c = λ told are.
    let i = c.loop-reply.invariant in
    let b = g.B.Board in
    let old = c.args.self.now in
    let n = c.loop-reply.reply-index in
    let all : take n told ≡ told = all_told told c.args.replies.now.items n are (omega (arith, c.loop-reply-test.false, ap (λ (l : List Reply). length l) c.as_slice-reply-items.ensures.value)) in
    subst (λ (l : List Told). SendDone b (deliveries old.machine.vehicle l) old c.args.board.now (Ok tt) c.loop-reply.self c.loop-reply.board) all (i.done told are)
