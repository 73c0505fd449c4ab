use Rattle.std.proofs.Common.{IsTrue}
use Rattle.flash_board.specs.Kept.{peers_fit}
use Rattle.test_vehicle_node.proofs.tests.append_idle.Given as goal

abbrev pub invariant-turns : goal.invariant-turns
invariant-turns l = IsTrue (peers_fit l.feed.items)
