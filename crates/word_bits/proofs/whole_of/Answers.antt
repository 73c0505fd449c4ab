use Rattle.std.proofs.Common.{ℕ, ◌≡◌, ◌%◌, ◌^◌, ◌<◌, ◌≤◌, arith, ap, ◌∙◌, sym, subst, ℤ, pos, neg_ℤ, ◌-ℤ◌, bit_and, w32, w64, to_z, of_z}
use Rattle.std.proofs.lemmas.Nat.{and_mask}
use Rattle.std.proofs.lemmas.Int.{ints, to_z_pos}
use Rattle.word_bits.specs.Pattern.{magnitude, IsWhole}
use Rattle.word_bits.proofs.WholeSigns.{whole_above, whole_below, none_whole}
use Rattle.word_bits.proofs.Options.{IfNone-from}
use Rattle.word_bits.proofs.whole_of.Goals as goal

pub returns-in_err-whole-clause-none : goal.returns-in_err-whole-clause-none
returns-in_err-whole-clause-none c =
    let e : bit_and c.args.bits 0x7FFF_FFFF ≡ c.args.bits % 2 ^ 31 = and_mask c.args.bits 31 in
    IfNone-from ((n : ℤ) → ¬ IsWhole c.args.bits n) c.from_residual.result (none_whole c.args.bits (λ a fits f. c.in_err-whole.ensures.none a fits (ap magnitude e ∙ f)))

pub returns-else-whole-clause-number : goal.returns-else-whole-clause-number
returns-else-whole-clause-number c =
    let e : bit_and c.args.bits 0x7FFF_FFFF ≡ c.args.bits % 2 ^ 31 = and_mask c.args.bits 31 in
    let n : ℕ = c.in_ok-whole.whole in
    let at : c.args.bits < 2 ^ 31 = omega arith in
    let below : n < 2 ^ 31 = omega (arith, c.in_ok-whole.ensures.number.0, c.if-whole.false) in
    let P : ℤ → Type 0 = IsWhole c.args.bits in
    subst P (sym (to_z_pos w32 n (omega (arith, c.in_ok-whole.ensures.number.0))))
    (whole_above c.args.bits n at below (ap magnitude (sym e) ∙ c.in_ok-whole.ensures.number.1))

pub returns-else-bits-lt-SIGN-clause-number : goal.returns-else-bits-lt-SIGN-clause-number
returns-else-bits-lt-SIGN-clause-number c =
    let e : bit_and c.args.bits 0x7FFF_FFFF ≡ c.args.bits % 2 ^ 31 = and_mask c.args.bits 31 in
    let n : ℕ = c.in_ok-whole.whole in
    let small : n ≤ 2 ^ 31 = c.in_ok-whole.ensures.number.0 in
    let z : to_z w32 (of_z w32 (to_z w64 (of_z w64 (pos 0 -ℤ to_z w64 n)))) ≡ neg_ℤ (pos n) = omega (arith, ints, small) in
    let P : ℤ → Type 0 = IsWhole c.args.bits in
    subst P (sym z)
    (whole_below c.args.bits n (omega arith) (omega arith) small (ap magnitude (sym e) ∙ c.in_ok-whole.ensures.number.1))
