use Rattle.std.proofs.Common.{◌<◌, ◌≤◌, ◌^◌, length, sym, ◌∙◌, arith}
use Rattle.std.proofs.Math.Nat.{pow-le-pow_right}
use Rattle.byteorder.specs.Numbers.{little_from-lt}
use Rattle.storage_lines.proofs.NumberLemmas.{number_of-little}
use Rattle.storage_lines.proofs.numbers.number_of.Goals as goal

below : (c : goal.After-read_uint) → c.read_uint.result < 256 ^ length c.args.bytes.now
below c = rw c.read_uint.ensures (little_from-lt 0 (length c.args.bytes.now) c.args.bytes.now (λ k. omega (arith, c.type_inv.bytes k)))

pub overflow_cast-result : goal.overflow_cast-result
overflow_cast-result c =
    let h = below c in
    let most : 256 ^ length c.args.bytes.now ≤ 256 ^ 4 = pow-le-pow_right (omega arith) c.requires.1 in
    omega arith

pub returns-clause-value : goal.returns-clause-value
returns-clause-value c = c.read_uint.ensures ∙ sym (number_of-little c.args.bytes.now)

pub returns-clause-bound : goal.returns-clause-bound
returns-clause-bound c = below c
