use Rattle.std.proofs.Common.{◌+◌, sym, subst, take, arith, Ok}
use Rattle.vehicle_core.specs.Acts.{Stream}
use Rattle.vehicle_runs.specs.Reading.{streams}
use Rattle.vehicle_node.specs.Standing.{Node, Fits}
use Rattle.vehicle_node.specs.Steps.Calls.{Keeps, OfAnswer}
use Rattle.vehicle_node.specs.Steps.Hearing.{ActsDone}
use Rattle.vehicle_node.proofs.ActAnswers.{act_nothing, did_nothing}
use Rattle.vehicle_node.proofs.ActsDone.{acts_none, turns_more, turns_cut}
use Rattle.vehicle_node.proofs.Keeping.{keeps_none, keeps_then}
use Rattle.vehicle_node.proofs.Passing.{error_passed}
use Rattle.vehicle_node.proofs.Node.stream_all.Goals as goal
use Rattle.vehicle_node.proofs.Node.stream_all.Goals.{then-streams+in_ok-stream, else-streams}

pub loop-station-init : goal.loop-station-init
loop-station-init g c = record {
  done = acts_none g.B.Board g.met.B.Board.reads c.args.self.now c.args.board.now c.requires.fits.store;
  fits = c.requires.fits;
  keeps = keeps_none g.B.Board OfAnswer c.args.board.now;
}

pub loop-station-preserved : goal.loop-station-preserved
loop-station-preserved g c =
    let b = g.B.Board in
    let i = c.loop-station.invariant in
    let old = c.args.self.now in
    let board = c.args.board.now in
    let n = c.loop-station.station in
    let mid = c.loop-station.self in
    let mid_board = c.loop-station.board in
    elim c.if-streams.branch [
      | then-streams+in_ok-stream w ↦
          let e = w.in_ok-stream.ensures in
          let new = w.stream.new.self in
          let last = w.stream.new.board in
          record {
            done = subst (λ (s : Node). ActsDone b old board (take (n + 1) streams) (Ok tt) s c.if-streams.board) (sym w.self-is)
                (subst (λ (l : g.row.B.Denot). ActsDone b old board (take (n + 1) streams) (Ok tt) new l) (sym w.board-is)
                (turns_more b Stream old board n (omega arith) mid mid_board (Ok tt) new last i.done e.done));
            fits = subst (λ (s : Node). Fits b c.if-streams.board s) (sym w.self-is) (subst (λ (l : g.row.B.Denot). Fits b l new) (sym w.board-is) e.fits);
            keeps = subst (λ (l : g.row.B.Denot). Keeps b OfAnswer board (Ok tt) l) (sym w.board-is)
                (keeps_then b OfAnswer OfAnswer board mid_board (Ok tt) last (λ k is. is) i.keeps e.keeps);
          }
      | else-streams w ↦
          let nothing_said = did_nothing c.self.inside mid (Stream n) c.self.view_is (c.streams.ensures.idle w.if-streams.false) in
          record {
            done = subst (λ (s : Node). ActsDone b old board (take (n + 1) streams) (Ok tt) s c.if-streams.board) (sym w.self-is)
                (subst (λ (l : g.row.B.Denot). ActsDone b old board (take (n + 1) streams) (Ok tt) mid l) (sym w.board-is)
                (turns_more b Stream old board n (omega arith) mid mid_board (Ok tt) mid mid_board i.done (act_nothing b g.met.B.Board.reads mid (Stream n) mid_board i.fits nothing_said)));
            fits = subst (λ (s : Node). Fits b c.if-streams.board s) (sym w.self-is) (subst (λ (l : g.row.B.Denot). Fits b l mid) (sym w.board-is) i.fits);
            keeps = subst (λ (l : g.row.B.Denot). Keeps b OfAnswer board (Ok tt) l) (sym w.board-is) i.keeps;
          }
    ]

pub returns-in_err-stream-clause-done : goal.returns-in_err-stream-clause-done
returns-in_err-stream-clause-done g c =
    turns_cut g.B.Board Stream c.args.self.now c.args.board.now c.loop-station.station (omega arith) c.loop-station.self c.loop-station.board c.in_err-stream.field-0.0 c.from_residual.result c.stream.new.self c.stream.new.board
    c.from_residual.ensures.1 c.loop-station.invariant.done c.in_err-stream.ensures.done

pub returns-in_err-stream-clause-keeps : goal.returns-in_err-stream-clause-keeps
returns-in_err-stream-clause-keeps g c =
    error_passed c.from_residual.result c.in_err-stream.field-0.0 (λ r. Keeps g.B.Board OfAnswer c.args.board.now r c.stream.new.board) c.from_residual.ensures.1
    (keeps_then g.B.Board OfAnswer OfAnswer c.args.board.now c.loop-station.board _ c.stream.new.board (λ k is. is) c.loop-station.invariant.keeps c.in_err-stream.ensures.keeps)
