use Rattle.std.proofs.Common.{◌+◌, ◌-◌, [], ◌∷◌, Ok, Err, Result, arith, subst}
use Rattle.std.specs.Prelude.{⊤}
use Rattle.vehicle_runs.specs.Frames.{stations}
use Rattle.vehicle_node.specs.declared.NodeError.{NodeError}
use Rattle.std.specs.List.{range_with_len}
use Rattle.vehicle_core.specs.Vehicle.{Vehicle}
use Rattle.vehicle_node.specs.Steps.Sending.{SendDone, deliveries_to}
use Rattle.vehicle_node.proofs.Keeping.{lines_then}
use Rattle.vehicle_node.proofs.RepliesSent.{done_then, done_short, vehicle_stays, to-more, to-rest}
use Rattle.vehicle_node.proofs.Node.send_to_all.Goals as goal

pub loop-station-preserved : goal.loop-station-preserved
loop-station-preserved g c =
    let i = c.loop-station.invariant in
    let e = c.in_ok-send_if_heard.ensures in
    let b = g.B.Board in
    let old = c.args.self.now in
    let n = c.loop-station.station in
    let v = old.machine.vehicle in
    record {
      done = λ content tells.
          let before = i.done content tells in
          let sent = subst (λ (v : Vehicle). SendDone b (deliveries_to v (n ∷ []) content) c.loop-station.self c.loop-station.board (Ok tt) c.send_if_heard.new.self c.send_if_heard.new.board)
          (vehicle_stays b (deliveries_to v (range_with_len 0 n) content) old c.args.board.now c.loop-station.self c.loop-station.board before) (e.done content tells) in
          done_then b (deliveries_to v (range_with_len 0 n) content) (deliveries_to v (n ∷ []) content) (deliveries_to v (range_with_len 0 (n + 1)) content) old c.args.board.now
          c.loop-station.self c.loop-station.board (Ok tt) c.send_if_heard.new.self c.send_if_heard.new.board before sent (to-more v n content);
      keeps = lines_then b old c.args.board.now c.loop-station.self c.loop-station.board (Ok tt) c.send_if_heard.new.self c.send_if_heard.new.board i.keeps e.keeps;
    }

pub returns-in_err-send_if_heard-clause-done : goal.returns-in_err-send_if_heard-clause-done
returns-in_err-send_if_heard-clause-done g c = λ content tells.
    let i = c.loop-station.invariant in
    let b = g.B.Board in
    let old = c.args.self.now in
    let n = c.loop-station.station in
    let v = old.machine.vehicle in
    let e = c.in_err-send_if_heard.field-0.0 in
    let r : Result ⊤ NodeError = Err e in
    let before = i.done content tells in
    let sent = subst (λ (v : Vehicle). SendDone b (deliveries_to v (n ∷ []) content) c.loop-station.self c.loop-station.board r c.send_if_heard.new.self c.send_if_heard.new.board)
    (vehicle_stays b (deliveries_to v (range_with_len 0 n) content) old c.args.board.now c.loop-station.self c.loop-station.board before) (c.in_err-send_if_heard.ensures.done content tells) in
    let some = done_then b (deliveries_to v (range_with_len 0 n) content) (deliveries_to v (n ∷ []) content) (deliveries_to v (range_with_len 0 (n + 1)) content) old c.args.board.now
    c.loop-station.self c.loop-station.board r c.send_if_heard.new.self c.send_if_heard.new.board before sent (to-more v n content) in
    done_short b (deliveries_to v (range_with_len 0 (n + 1)) content) (deliveries_to v (range_with_len (n + 1) (8 - (n + 1))) content) (deliveries_to v stations content) old c.args.board.now
    e c.from_residual.result c.send_if_heard.new.self c.send_if_heard.new.board some c.from_residual.ensures.1 (to-rest v (n + 1) content (omega (arith, c.loop-station-test.true)))
