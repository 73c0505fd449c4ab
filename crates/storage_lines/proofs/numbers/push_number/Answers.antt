use Rattle.std.proofs.Common.{arith}
use Rattle.std.proofs.lemmas.Grind.{common_steps}
use Rattle.byteorder.specs.Numbers.{length-bytes_low_first}
use Rattle.storage_lines.proofs.NumberLemmas.{bytes_of-little}
use Rattle.storage_lines.proofs.numbers.push_number.Goals as goal

pub returns-clause-items : goal.returns-clause-items
returns-clause-items g c =
    let e = bytes_of-little c.args.width c.args.number in
    let l = length-bytes_low_first 0 c.args.width c.args.number in
    grind (arith, common_steps, e, l)
