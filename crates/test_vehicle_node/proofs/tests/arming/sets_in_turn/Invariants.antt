use Rattle.std.proofs.Common.{IsTrue}
use Rattle.flash_board.specs.Kept.{peers_fit}
use Rattle.test_vehicle_node.proofs.tests.arming.sets_in_turn.Given as goal

abbrev pub invariant-sets : goal.invariant-sets
invariant-sets l = IsTrue (peers_fit l.feed.items)
