use Rattle.std.proofs.Common.{◌≡◌, ℕ, List, [], ◌∷◌, ◌++◌, refl, sym, ◌∙◌, ap, subst, Option, Some}
use Rattle.storage_lines.specs.declared.lines.LineWrite.{LineWrite}
use Rattle.storage_lines.specs.Lines.{after}
use Rattle.mav_messages.specs.declared.messages.To.TheVariants.{All}
use Rattle.mav_messages.specs.declared.messages.Reply.{Reply}
use Rattle.param_records.specs.Values.{params_of}
use Rattle.param_records.proofs.SetLemmas.{is_some}
use Rattle.param_service.specs.Requests.{Request, Set, IsNumberFor, IsSetting}
use Rattle.param_service.specs.Budget.{allowed_writes}
use Rattle.param_service.specs.Service.{set_writes, show}
use Rattle.param_service.specs.Replies.{AreRepliesOf}
use Rattle.param_service.specs.Setting.{IsSet}
use Rattle.param_service.proofs.Showing.{there, shows}
use Rattle.param_service.proofs.Changing.{from_some}
use Rattle.param_service.proofs.answer_set.Goals as goal

pub returns-in-Some-clause-answered : goal.returns-in-Some-clause-answered
returns-in-Some-clause-answered c =
    let index = c.in-Some.row in
    let bytes = c.args.current.now in
    let allowed = c.args.allowed in
    let row = there index c.in-Some.ensures.inside in
    let set : IsSet bytes allowed row.0 index c.args.bits c.set_row-value.new.batch.items c.set_row-value.result = is_some _ (λ r. IsSet bytes allowed r index c.args.bits c.set_row-value.new.batch.items c.set_row-value.result) row.0 row.1 c.set_row-value.ensures.value in
    let number = set.number in
    let asked : Option Request = Some (Set index number) in
    let lines = allowed_writes allowed (set_writes bytes index number) in
    let same = set.shown ∙ ap (λ (w : List LineWrite). params_of (after bytes w) row.0) set.written in
    let one : AreRepliesOf (show All (after bytes lines) index) (c.reply.result ∷ []) = shows All (after bytes lines) index row.0 c.set_row-value.result c.reply.result row.1 same c.reply.ensures in
    let items : c.push.new.self.items ≡ c.reply.result ∷ [] = c.push.ensures.items ∙ ap (λ (l : List Reply). l ++ c.reply.result ∷ []) c.requires.replies in (
      asked,
      subst (λ (o : Option ℕ). IsSetting o c.args.bits asked) c.in-Some.ensures.row (number, from_some _ (λ r. IsNumberFor r c.args.bits number) row.0 row.1 set.meant, refl),
      λ next_rows. record { state = refl; lines = set.written; shown = subst (λ (l : List Reply). AreRepliesOf (show All (after bytes lines) index) l) (sym items) one },
    )
