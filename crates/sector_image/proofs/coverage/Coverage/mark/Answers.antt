use Rattle.std.proofs.Common.{false, get_or, arith}
use Rattle.sector_image.proofs.CoverageLemmas.{count_after, unmarked_most, one_or_none}
use Rattle.sector_image.proofs.coverage.Coverage.mark.Goals as goal

pub overflow_add-self : goal.overflow_add-self
overflow_add-self c = omega (arith, c.self.invariant, unmarked_most 240 c.self.inside.marks, one_or_none (get_or c.self.inside.marks c.args.chunk false))

pub overflow_sub-self : goal.overflow_sub-self
overflow_sub-self c = omega (arith, c.self.invariant, count_after 240 c.self.inside.marks c.args.chunk c.args.covered c.requires (omega arith))

pub invariant_of-self : goal.invariant_of-self
invariant_of-self c = omega (arith, c.self.invariant, count_after 240 c.self.inside.marks c.args.chunk c.args.covered c.requires (omega arith))
