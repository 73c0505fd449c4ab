use Rattle.std.proofs.Common.{ℕ, ◌-◌, ◌*◌, ◌^◌, ◌<◌, refl, sym, subst, arith}
use Rattle.std.specs.Int.Count.{count_leading_zeros}
use Rattle.word_bits.proofs.Units.{first_place}
use Rattle.word_bits.proofs.highest_place.Goals as goal

pub returns-then-divisor-eq1-clause-above : goal.returns-then-divisor-eq1-clause-above
returns-then-divisor-eq1-clause-above c =
    let n = c.args.number in
    let place = first_place n (count_leading_zeros 32 n) c.requires.number.0 (omega arith) refl in
    subst (λ (d : ℕ). n * 2 ^ 31 < 2 ^ 24 * (d * 2 ^ (39 - count_leading_zeros 32 n))) (sym c.if-divisor-eq1.true) place.3
