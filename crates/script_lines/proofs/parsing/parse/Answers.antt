use Rattle.std.proofs.Common.{List, ℕ, refl, subst}
use Rattle.script_lines.specs.Script.{SpellsLossLater}
use Rattle.script_lines.proofs.Texts.{is_loss, text_parts}
use Rattle.script_lines.proofs.parsing.parse.Goals as goal

pub returns-in-None-clause-none : goal.returns-in-None-clause-none
returns-in-None-clause-none c = λ l spells.
    let none = c.in-None.ensures.none in
    let part = is_loss l c.args.text.now c.if-text-eq108.true spells in
    let some = c.if-len-lt4.false in
    let whole = text_parts c.args.text.now _ refl some c.if-text-eq108.true c.if-text-ne32.false c.if-text-len-ne32.false in
    none part.0 part.1 (subst (λ (t : List ℕ). SpellsLossLater part.0 part.1 t) whole part.2)
