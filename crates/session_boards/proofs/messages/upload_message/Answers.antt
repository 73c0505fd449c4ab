use Rattle.std.proofs.Common.{rules, ◌+◌, ◌-◌, ℕ, pos, w32, ◌∙◌, arith, ap}
use Rattle.std.specs.Int.RustNames.{FitsSigned}
use Rattle.std.proofs.lemmas.Int.{to_z-of_z}
use Rattle.session_boards.specs.Session.{Gives}
use Rattle.session_boards.proofs.Turns.{item_at, item_says}
use Rattle.session_boards.proofs.messages.upload_message.Goals as goal

pub returns : goal.returns
returns c =
    let round = c.args.round in
    let seq : ℕ = c.args.step - 1 in
    let some = c.if-step-eq0.false in
    let x_fits : FitsSigned w32 c.signed.result = search rules in
    let y_fits : FitsSigned w32 c.signed-2.result = search rules in (
      Gives round seq,
      item_at round c.args.step (omega (arith, some)) c.requires,
      item_says round seq c.from-3.result c.pattern_of.result _ _
          (to_z-of_z w32 c.signed.result x_fits ∙ c.signed.ensures ∙ ap (λ (n : ℕ). pos (473977420 + n)) c.from.ensures)
          (to_z-of_z w32 c.signed-2.result y_fits ∙ c.signed-2.ensures ∙ ap (λ (n : ℕ). pos (85455970 + n)) c.from-2.ensures)
          c.pattern_of.ensures c.from-3.ensures,
    )
