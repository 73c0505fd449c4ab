use Rattle.std.proofs.Common.{◌∙◌, arith}
use Rattle.sector_image.proofs.CoverageLemmas.{compared_more, outside_of}
use Rattle.sector_image.proofs.coverage.Coverage.compare.Goals as goal

pub loop-chunk-preserved : goal.loop-chunk-preserved
loop-chunk-preserved c =
    compared_more c.args.whole.now c.args.upper.now c.args.self.now c.loop-chunk.self c.mark.new.self c.args.from c.loop-chunk.chunk (omega arith)
    c.loop-chunk.invariant (c.mark.ensures.here ∙ c.is_covered.ensures) c.mark.ensures.others

pub returns-clause-inside : goal.returns-clause-inside
returns-clause-inside c = λ chunk low high. c.loop-chunk.invariant.inside chunk low (omega arith)

pub returns-clause-outside : goal.returns-clause-outside
returns-clause-outside c =
    outside_of c.args.whole.now c.args.upper.now c.args.self.now c.loop-chunk.self c.args.from c.args.to c.loop-chunk.chunk c.loop-chunk.invariant (omega arith)
