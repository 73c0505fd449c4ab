use Rattle.std.proofs.Common.{ℤ, subst, w32}
use Rattle.std.proofs.lemmas.Int.{to_z-of_z}
use Rattle.word_bits.specs.Pattern.{IsNearest}
use Rattle.word_bits.proofs.Exact.{nearest_is_whole}
use Rattle.word_bits.proofs.bits_of.Goals as goal

pub returns-clause-exact : goal.returns-clause-exact
returns-clause-exact c = λ small.
    let P : ℤ → Type 0 = λ n. IsNearest c.nearest_pattern.result n 1 in
    nearest_is_whole c.nearest_pattern.result c.args.number c.ranges.number small (subst P (to_z-of_z w32 c.args.number c.ranges.number) c.nearest_pattern.ensures.nearest)
