use Rattle.sector_image.proofs.CoverageLemmas.{Compared}
use Rattle.sector_image.proofs.coverage.Coverage.compare.Given as goal

abbrev pub invariant-loop-chunk : goal.invariant-loop-chunk
invariant-loop-chunk l = Compared l.whole l.upper l.fn.self l.self l.from l.chunk
