use Rattle.vehicle_node.specs.Standing.{Fits}
use Rattle.test_vehicle_node.proofs.tests.prefixes.serve.Given as goal

abbrev pub invariant-events : goal.invariant-events
invariant-events g l = Fits g.B.Board l.board l.node
