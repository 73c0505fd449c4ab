use Rattle.std.proofs.Common.{ℕ, ◌≡◌, ◌+◌, ◌-◌, ◌*◌, ◌/◌, ◌%◌, ◌^◌, arith, ap, ◌∙◌, inl, inr, sym}
use Rattle.std.proofs.lemmas.Nat.{one_shl, shl_whole, pow_pos}
use Rattle.word_bits.specs.Pattern.{magnitude}
use Rattle.word_bits.proofs.Magnitude.{magnitude-small}
use Rattle.word_bits.proofs.Whole.{none_outside, some_low, none_low, some_high, none_high}
use Rattle.word_bits.proofs.whole_magnitude.Goals as goal
use Rattle.word_bits.proofs.whole_magnitude.Goals.{then-exponent-lt127-via-then-exponent-lt127, then-exponent-lt127-via-else-exponent-lt127+then-exponent-gt158}

pub returns-then-magnitude_bits-eq0-clause-number : goal.returns-then-magnitude_bits-eq0-clause-number
returns-then-magnitude_bits-eq0-clause-number c = (omega arith, ap magnitude c.if-magnitude_bits-eq0.true ∙ magnitude-small 0 (omega arith))

pub returns-then-exponent-lt127-clause-none : goal.returns-then-exponent-lt127-clause-none
returns-then-exponent-lt127-clause-none c = λ n fits.
    none_outside c.args.magnitude_bits n (omega arith)
    (elim c.then-exponent-lt127.branch [
      | then-exponent-lt127-via-then-exponent-lt127 w ↦ inl (omega arith)
      | then-exponent-lt127-via-else-exponent-lt127+then-exponent-gt158 w ↦ inr (omega arith)
    ]) fits

pub returns-then-digits-unit-eq0-clause-number : goal.returns-then-digits-unit-eq0-clause-number
returns-then-digits-unit-eq0-clause-number c =
    let m : ℕ = c.args.magnitude_bits in
    let k : ℕ = 150 - m / 2 ^ 23 in
    let u : 1 * 2 ^ k % 2 ^ 32 ≡ 2 ^ k = one_shl k 32 (omega arith) in
    some_low m (1 * 2 ^ k % 2 ^ 32) (omega arith) (omega arith) u (rw u (pow_pos k)) c.if-digits-unit-eq0.true

pub returns-else-digits-unit-eq0-clause-none : goal.returns-else-digits-unit-eq0-clause-none
returns-else-digits-unit-eq0-clause-none c = λ n fits.
    let m : ℕ = c.args.magnitude_bits in
    let k : ℕ = 150 - m / 2 ^ 23 in
    let u : 1 * 2 ^ k % 2 ^ 32 ≡ 2 ^ k = one_shl k 32 (omega arith) in
    none_low m (1 * 2 ^ k % 2 ^ 32) n (omega arith) (omega arith) u (rw u (pow_pos k)) c.if-digits-unit-eq0.false

pub returns-then-whole-clause-number : goal.returns-then-whole-clause-number
returns-then-whole-clause-number c =
    let m : ℕ = c.args.magnitude_bits in
    let q : ℕ = m % 2 ^ 23 + 2 ^ 23 in
    let k : ℕ = m / 2 ^ 23 - 150 in
    let w : q * 2 ^ k % 2 ^ 64 ≡ q * 2 ^ k = shl_whole q 24 k 64 (omega arith) (omega arith) in
    (c.if-whole.true, some_high m (omega arith) ∙ ap (λ v. v * 2 ^ 149) (sym w))

pub returns-else-whole-clause-none : goal.returns-else-whole-clause-none
returns-else-whole-clause-none c = λ n fits.
    let m : ℕ = c.args.magnitude_bits in
    let q : ℕ = m % 2 ^ 23 + 2 ^ 23 in
    let k : ℕ = m / 2 ^ 23 - 150 in
    let w : q * 2 ^ k % 2 ^ 64 ≡ q * 2 ^ k = shl_whole q 24 k 64 (omega arith) (omega arith) in
    none_high m n (omega arith) (rw w at c.if-whole.false) fits
