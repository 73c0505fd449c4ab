use Rattle.std.proofs.Common.{ℤ, subst, w32}
use Rattle.std.proofs.lemmas.Int.{to_z-of_z}
use Rattle.word_bits.specs.Pattern.{IsNearest}
use Rattle.word_bits.proofs.Count.{one_centimetres}
use Rattle.word_bits.proofs.bits_of_centimetres.Goals as goal

pub returns-clause-only : goal.returns-clause-only
returns-clause-only c = λ j fits near.
    let P : ℤ → Type 0 = λ k. IsNearest c.nearest_pattern.result k 100 in
    let mine = subst P (to_z-of_z w32 c.args.k c.ranges.k) c.nearest_pattern.ensures.nearest in
    one_centimetres c.nearest_pattern.result j c.args.k fits c.requires near mine
