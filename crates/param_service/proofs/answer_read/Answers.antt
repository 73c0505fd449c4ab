use Rattle.std.proofs.Common.{◌≡◌, ℕ, List, [], ◌∷◌, ◌++◌, sym, ◌∙◌, ap, subst, rules, Option, Some, option_map}
use Rattle.std.specs.Int.{w16}
use Rattle.std.specs.Int.RustNames.{FitsSigned}
use Rattle.std.proofs.lemmas.Int.{to_z-of_z}
use Rattle.mav_messages.specs.declared.messages.To.TheVariants.{Station}
use Rattle.mav_messages.specs.declared.messages.Reply.{Reply}
use Rattle.param_service.specs.Requests.{Show, row_asked_for}
use Rattle.param_service.specs.Service.{did, show}
use Rattle.param_service.specs.Replies.{AreRepliesOf}
use Rattle.param_service.proofs.Showing.{shows}
use Rattle.param_service.proofs.answer_read.Goals as goal

pub returns-in-Some : goal.returns-in-Some
returns-in-Some c = λ allowed next_rows.
    let fits : FitsSigned w16 c.args.index = search rules in
    let at_index = to_z-of_z w16 c.args.index fits in
    let v = c.row_value-value.ensures in
    let one : AreRepliesOf (show (Station c.args.station) c.args.current.now c.in-Some.row) (c.reply.result ∷ []) = shows _ _ _ v.0 _ _ v.1 v.2 c.reply.ensures in
    let items : c.push.new.self.items ≡ c.reply.result ∷ [] = c.push.ensures.items ∙ ap (λ (l : List Reply). l ++ c.reply.result ∷ []) c.requires.replies in
    let named : Some c.in-Some.row ≡ row_asked_for c.args.index c.args.name.now = simp at_index at c.in-Some.ensures.row in
    subst (λ (l : List Reply). AreRepliesOf (did c.args.current.now allowed next_rows c.args.station (option_map Show (row_asked_for c.args.index c.args.name.now))).shown l) (sym items)
    (subst (λ (o : Option ℕ). AreRepliesOf (did c.args.current.now allowed next_rows c.args.station (option_map Show o)).shown (c.reply.result ∷ [])) named one)
