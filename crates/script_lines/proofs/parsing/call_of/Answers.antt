use Rattle.script_lines.proofs.Texts.{too_big}
use Rattle.script_lines.proofs.parsing.call_of.Goals as goal

pub returns-then-value-gt-LAST_CALL-clause-none : goal.returns-then-value-gt-LAST_CALL-clause-none
returns-then-value-gt-LAST_CALL-clause-none c = λ n numeral some few.
    let low = c.if-digit-lt48.false in
    let high = c.if-digit-gt57.false in
    let big = c.if-value-gt-LAST_CALL.true in
    too_big c.args.digits.now c.loop-digit.digit-index c.loop-digit.value c.from-next.result n c.loop-digit-test.true c.loop-digit.invariant.value low high
    c.from-next.ensures big numeral.is few
