use Rattle.std.proofs.Common.{true, replicate, refl, sym}
use Rattle.sector_image.proofs.CoverageLemmas.{each_marked, unmarked_none}
use Rattle.sector_image.proofs.coverage.Coverage.whole.Goals as goal

pub invariant_of-result : goal.invariant_of-result
invariant_of-result c = sym (unmarked_none 240 (replicate 240 true) (each_marked (replicate 240 true) refl))

pub returns : goal.returns
returns c = each_marked (replicate 240 true) refl
