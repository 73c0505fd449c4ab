use Rattle.std.proofs.Common.{Result, false, sym, subst, refl}
use Rattle.std.specs.Prelude.{⊤, OnOk, IfErr}
use Rattle.block_store.specs.Store as store
use Rattle.block_store.specs.Store.{home_free}
use Rattle.vehicle_node.specs.Standing.{Node, ceiling}
use Rattle.vehicle_node.specs.Steps.Inside.{view_of}
use Rattle.vehicle_node.specs.Steps.Calls.{Keeps, WornAlone, OfFlash}
use Rattle.vehicle_node.specs.Steps.Answering.{CompactedAll, CompactDone}
use Rattle.vehicle_node.specs.declared.NodeError.{NodeError}
use Rattle.vehicle_node.proofs.Keeping.{keeps_put, keeps_compact_refused, compact_worn}
use Rattle.vehicle_node.proofs.Passing.{at_ok, lists_kept}
use Rattle.vehicle_node.proofs.Putting.{compact_losses, compacted, nothing_sent}
use Rattle.vehicle_node.proofs.Node.compact.Goals as goal
use Rattle.vehicle_node.proofs.Node.compact.Goals.{in-Ok, in-Err}

pub returns-clause-done : goal.returns-clause-done
returns-clause-done g c =
    let b = g.B.Board in
    let s = c.self.inside in
    let old : Node = view_of s in
    let new : Node = view_of (record s { lines = c.compact.new.self }) in
    let a = c.args.board.now in
    let last = c.compact.new.board in
    let e = c.compact.ensures in
    let P : Node → Type 0 = λ node. CompactDone b node a c.match-compact.result new last in
    subst P c.self.view_is (record {
      losses = compact_losses b g.met.B.Board.reads a last old (subst (λ (node : Node). store.Fits b a node.lines.store) (sym c.self.view_is) c.requires.fits) (λ alone. (e.idle alone).2) e.changes;
      lists = lists_kept b a last e.changes.lists;
      done = elim c.match-compact.branch [
        | in-Ok w ↦ subst (λ (r : Result ⊤ NodeError). OnOk r (CompactedAll b old a new last)) (sym w.result-is) (record {
          compacted = compacted old new (at_ok c.compact.result w.in-Ok.is e.guard) (at_ok c.compact.result w.in-Ok.is e.alone) e.pending e.durable (λ alone. (e.idle alone).1) (λ spilled full. w.in-Ok.ensures.used_up spilled full) refl;
          sent = nothing_sent b e.changes;
        })
        | in-Err w ↦ subst (λ (r : Result ⊤ NodeError). OnOk r (CompactedAll b old a new last)) (sym w.result-is) tt
      ];
      stopped = elim c.match-compact.branch [
        | in-Ok w ↦ subst (λ (r : Result ⊤ NodeError). IfErr r (WornAlone b false (ceiling old) old new last)) (sym w.result-is) tt
        | in-Err w ↦ subst (λ (r : Result ⊤ NodeError). IfErr r (WornAlone b false (ceiling old) old new last)) (sym w.result-is)
            (compact_worn b old new last w.in-Err.error w.error_of.result w.error_of.ensures w.in-Err.ensures.worn)
      ];
    })

pub returns-clause-keeps : goal.returns-clause-keeps
returns-clause-keeps g c =
    let b = g.B.Board in
    let a = c.args.board.now in
    let last = c.compact.new.board in
    let old : Node = view_of c.self.inside in
    let e = c.compact.ensures in
    elim c.match-compact.branch [
      | in-Ok w ↦ subst (λ (r : Result ⊤ NodeError). Keeps b OfFlash a r last) (sym w.result-is) (keeps_put b a last e.changes.geometry e.changes.told w.in-Ok.ensures.counts)
      | in-Err w ↦ subst (λ (r : Result ⊤ NodeError). Keeps b OfFlash a r last) (sym w.result-is)
          (keeps_compact_refused b a w.in-Err.error w.error_of.result last old c.compact.new.self.store.bytes (home_free old.lines.store) w.error_of.ensures e.changes.geometry e.changes.told w.in-Err.ensures.counts
          w.in-Err.ensures.fault w.in-Err.ensures.worn w.in-Err.ensures.worn_copied)
    ]
