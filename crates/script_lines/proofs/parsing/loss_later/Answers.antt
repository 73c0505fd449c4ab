use Rattle.std.proofs.Common.{arith}
use Rattle.script_lines.proofs.Texts.{loss_parts}
use Rattle.script_lines.proofs.parsing.loss_later.Goals as goal

pub returns-then-how-lt48-clause-none : goal.returns-then-how-lt48-clause-none
returns-then-how-lt48-clause-none c = λ k h is.
    let parts = loss_parts k h c.args.how c.args.digits.now is in
    let how = parts.1 in
    let low = c.if-how-lt48.true in
    omega (arith, how, low)

pub returns-then-how-clause-none : goal.returns-then-how-clause-none
returns-then-how-clause-none c = λ k h is.
    let parts = loss_parts k h c.args.how c.args.digits.now is in
    let how = parts.1 in
    let fits = is.how_fits in
    let high = c.if-how.true in
    omega (arith, how, fits, high)

pub returns-in-None-clause-none : goal.returns-in-None-clause-none
returns-in-None-clause-none c = λ k h is. c.in-None.ensures.none k (loss_parts k h c.args.how c.args.digits.now is).0 is.some is.few
