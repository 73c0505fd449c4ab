use Rattle.std.proofs.Common.{IsTrue}
use Rattle.flash_board.specs.Kept.{peers_fit}
use Rattle.test_vehicle_node.proofs.tests.in_turn.Given as goal

abbrev pub invariant-places : goal.invariant-places
invariant-places l = IsTrue (peers_fit l.feed.items)
