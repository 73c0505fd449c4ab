use Rattle.param_index.proofs.PlaceLemmas.{KeptBelow}
use Rattle.param_index.proofs.building.keep_place.Given as goal

abbrev pub invariant-loop-i : goal.invariant-loop-i
invariant-loop-i g l = KeptBelow l.table l.header l.at l.fn.places l.places l.i
