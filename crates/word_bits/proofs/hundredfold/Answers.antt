use Rattle.std.proofs.Common.{ℕ, ◌≡◌, ◌-◌, ◌*◌, ◌/◌, ◌%◌, ◌^◌, arith}
use Rattle.std.proofs.lemmas.Nat.{one_shl, pow_pos}
use Rattle.word_bits.proofs.Count.{none_count, zero_count, mid_count}
use Rattle.word_bits.proofs.hundredfold.Goals as goal

pub returns-then-exponent-ge144-clause-none : goal.returns-then-exponent-ge144-clause-none
returns-then-exponent-ge144-clause-none c = λ a fits. none_count c.args.magnitude_bits a (omega arith) fits

pub returns-then-exponent-lt119-clause-only : goal.returns-then-exponent-lt119-clause-only
returns-then-exponent-lt119-clause-only c = λ a. zero_count c.args.magnitude_bits a (omega arith)

pub returns-clause-only : goal.returns-clause-only
returns-clause-only c = λ a.
    let m : ℕ = c.args.magnitude_bits in
    let k : ℕ = 149 - m / 2 ^ 23 in
    let u : 1 * 2 ^ k % 2 ^ 64 ≡ 2 ^ k = one_shl k 64 (omega arith) in
    mid_count m (1 * 2 ^ k % 2 ^ 64) a (omega arith) (omega arith) u (rw u (pow_pos k))
