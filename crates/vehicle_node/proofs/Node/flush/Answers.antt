use Rattle.std.proofs.Common.{Result, sym, subst, refl}
use Rattle.std.specs.Prelude.{⊤, OnOk, IfErr}
use Rattle.block_store.specs.Store as store
use Rattle.vehicle_node.specs.declared.NodeError.{NodeError}
use Rattle.vehicle_node.specs.Standing.{Node, ceiling}
use Rattle.vehicle_node.specs.Steps.Inside.{view_of}
use Rattle.vehicle_node.specs.Steps.Calls.{Keeps, WornAlone, OfFlash}
use Rattle.vehicle_node.specs.Steps.Answering.{FlushedAll, FlushDone, HasRoom}
use Rattle.vehicle_node.proofs.Keeping.{keeps_put, keeps_flush_refused, flush_worn}
use Rattle.vehicle_node.proofs.Passing.{at_ok, lists_kept}
use Rattle.block_store.proofs.StoreLaws.{fits_whole}
use Rattle.vehicle_node.proofs.Putting.{flush_losses, flush_within, never_full, nothing_sent, flushed}
use Rattle.vehicle_node.proofs.Node.flush.Goals as goal
use Rattle.vehicle_node.proofs.Node.flush.Goals.{in-Ok, in-Err}

pub error_of-requires : goal.error_of-requires
error_of-requires g c =
    let room = subst (HasRoom c.args.armed) (sym c.self.view_is) c.requires.room in
    let wrote = c.flush.ensures.written in
    record { never_full = never_full g.B.Board c.flush.new.board c.in-Err.error wrote.0 c.args.armed c.self.inside.lines c.flush.new.self wrote.1 room c.in-Err.ensures.no_room }

pub returns-clause-done : goal.returns-clause-done
returns-clause-done g c =
    let b = g.B.Board in
    let s = c.self.inside in
    let old : Node = view_of s in
    let new : Node = view_of (record s { lines = c.flush.new.self }) in
    let a = c.args.board.now in
    let last = c.flush.new.board in
    let armed = c.args.armed in
    let wrote = c.flush.ensures.written in
    let P : Node → Type 0 = λ node. FlushDone b c.args.n armed node a c.match-flush.result new last in
    subst P c.self.view_is (record {
      losses = flush_losses b g.met.B.Board.reads a last old (subst (λ (node : Node). store.Fits b a node.lines.store) (sym c.self.view_is) c.requires.fits) c.flush.result c.flush.new.self.pending c.flush.ensures.left c.flush.ensures.changes;
      lists = lists_kept b a last c.flush.ensures.changes.lists;
      done = elim c.match-flush.branch [
        | in-Ok w ↦ subst (λ (r : Result ⊤ NodeError). OnOk r (FlushedAll b c.args.n armed old a new last)) (sym w.result-is) (record {
          flushed = flushed c.args.n old new wrote.0 wrote.1 (at_ok c.flush.result w.in-Ok.is wrote.2) (fits_whole b last c.flush.new.self.store (at_ok c.flush.result w.in-Ok.is c.flush.ensures.fits))
              (λ not alone. at_ok c.flush.result w.in-Ok.is c.flush.ensures.alone not alone) refl;
          sent = nothing_sent b c.flush.ensures.changes;
          still = c.flush.ensures.erases;
        })
        | in-Err w ↦ subst (λ (r : Result ⊤ NodeError). OnOk r (FlushedAll b c.args.n armed old a new last)) (sym w.result-is) tt
      ];
      stopped = elim c.match-flush.branch [
        | in-Ok w ↦ subst (λ (r : Result ⊤ NodeError). IfErr r (WornAlone b armed (ceiling old) old new last)) (sym w.result-is) tt
        | in-Err w ↦ subst (λ (r : Result ⊤ NodeError). IfErr r (WornAlone b armed (ceiling old) old new last)) (sym w.result-is)
            (flush_worn b armed old new last w.in-Err.error w.error_of.result w.error_of.ensures w.in-Err.ensures.worn w.in-Err.ensures.worn_next
            (flush_within b a last old (subst (λ (node : Node). store.Fits b a node.lines.store) (sym c.self.view_is) c.requires.fits) c.flush.result c.flush.new.self.pending c.flush.ensures.left c.flush.ensures.changes))
      ];
    })

pub returns-clause-keeps : goal.returns-clause-keeps
returns-clause-keeps g c =
    let b = g.B.Board in
    let a = c.args.board.now in
    let last = c.flush.new.board in
    let e = c.flush.ensures in
    elim c.match-flush.branch [
      | in-Ok w ↦ subst (λ (r : Result ⊤ NodeError). Keeps b OfFlash a r last) (sym w.result-is) (keeps_put b a last e.changes.geometry e.changes.told w.in-Ok.ensures.counts)
      | in-Err w ↦ subst (λ (r : Result ⊤ NodeError). Keeps b OfFlash a r last) (sym w.result-is)
          (keeps_flush_refused b a w.in-Err.error w.error_of.result last c.args.armed c.flush.new.self.store.bytes w.error_of.ensures e.changes.geometry e.changes.told w.in-Err.ensures.counts w.in-Err.ensures.fault w.in-Err.ensures.worn)
    ]
