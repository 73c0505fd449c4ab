use Rattle.sector_image.proofs.CoverageLemmas.{zeros_compared}
use Rattle.sector_image.proofs.images.Images.new.Goals as goal

pub invariant_of-result : goal.invariant_of-result
invariant_of-result c =
    zeros_compared c.in_ok-whole.whole.items c.in_ok-upper.upper.items c.whole.result c.in_ok-whole.ensures.size c.in_ok-upper.ensures.size
    c.in_ok-whole.ensures.zeros c.in_ok-upper.ensures.zeros c.whole.ensures
