use Rattle.std.proofs.Common.{◌≡◌, None}
use Rattle.vehicle_node.specs.Standing.{Fits, IsAloneUnlessArmed}
use Rattle.storage_cli.specs.Steps.Progress.{FinishesEvents}
use Rattle.storage_cli.proofs.serving.serve_events.Given as goal

abbrev pub invariant-loop-events : goal.invariant-loop-events
invariant-loop-events g l = record {
  finishes : FinishesEvents g.B.Board l.fn.node.budget l.fn.node l.fn.board l.node l.board l.events None;
  fits : Fits g.B.Board l.board l.node;
  geometry : g.B.Board.sector_bytes l.board ≡ g.B.Board.sector_bytes l.fn.board;
  budget : l.node.budget ≡ l.fn.node.budget;
  alone : IsAloneUnlessArmed l.fn.node → IsAloneUnlessArmed l.node;
  faults : g.B.Board.faults l.board ≡ g.B.Board.faults l.fn.board;
}
