use Rattle.std.proofs.Common.{arith, Ok}
use Rattle.vehicle_core.specs.Acts.{Beat}
use Rattle.vehicle_node.specs.Steps.Calls.{Keeps, OfAnswer}
use Rattle.vehicle_node.proofs.ActsDone.{acts_none, turns_more, turns_cut}
use Rattle.vehicle_node.proofs.Keeping.{keeps_none, keeps_then}
use Rattle.vehicle_node.proofs.Passing.{error_passed}
use Rattle.vehicle_node.proofs.Node.beat_all.Goals as goal

pub loop-station-init : goal.loop-station-init
loop-station-init g c = record {
  done = acts_none g.B.Board g.met.B.Board.reads c.args.self.now c.args.board.now c.requires.fits.store;
  fits = c.requires.fits;
  keeps = keeps_none g.B.Board OfAnswer c.args.board.now;
}

pub loop-station-preserved : goal.loop-station-preserved
loop-station-preserved g c =
    let i = c.loop-station.invariant in
    let e = c.in_ok-beat.ensures in
    record {
      done = turns_more g.B.Board Beat c.args.self.now c.args.board.now c.loop-station.station (omega arith) c.loop-station.self c.loop-station.board (Ok tt) c.beat.new.self c.beat.new.board i.done e.done;
      fits = e.fits;
      keeps = keeps_then g.B.Board OfAnswer OfAnswer c.args.board.now c.loop-station.board (Ok tt) c.beat.new.board (λ k is. is) i.keeps e.keeps;
    }

pub returns-in_err-beat-clause-done : goal.returns-in_err-beat-clause-done
returns-in_err-beat-clause-done g c =
    turns_cut g.B.Board Beat c.args.self.now c.args.board.now c.loop-station.station (omega arith) c.loop-station.self c.loop-station.board c.in_err-beat.field-0.0 c.from_residual.result c.beat.new.self c.beat.new.board
    c.from_residual.ensures.1 c.loop-station.invariant.done c.in_err-beat.ensures.done

pub returns-in_err-beat-clause-keeps : goal.returns-in_err-beat-clause-keeps
returns-in_err-beat-clause-keeps g c =
    error_passed c.from_residual.result c.in_err-beat.field-0.0 (λ r. Keeps g.B.Board OfAnswer c.args.board.now r c.beat.new.board) c.from_residual.ensures.1
    (keeps_then g.B.Board OfAnswer OfAnswer c.args.board.now c.loop-station.board _ c.beat.new.board (λ k is. is) c.loop-station.invariant.keeps c.in_err-beat.ensures.keeps)
