use Rattle.sector_image.proofs.CoverageLemmas.{if_found, if_not_found}
use Rattle.sector_image.proofs.images.Images.first_left.Goals as goal

pub returns-clause-some : goal.returns-clause-some
returns-clause-some c = rw (← c.self.view_is) (if_found _ c.self.inside.coverage c.first_left.result c.first_left.ensures.size c.self.invariant.same c.first_left.ensures.position)

pub returns-clause-none : goal.returns-clause-none
returns-clause-none c = rw (← c.self.view_is) (if_not_found c.self.inside.whole.items c.self.inside.upper.items c.self.inside.coverage c.first_left.result c.first_left.ensures.size c.self.invariant.same c.first_left.ensures.position)
