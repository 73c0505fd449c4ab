use Rattle.vehicle_node.proofs.Boot.{Booting}
use Rattle.vehicle_node.proofs.opening.issue_boot.Given as goal

abbrev pub invariant-loop-step : goal.invariant-loop-step
invariant-loop-step l = Booting l.lines l.fn.lines l.step
