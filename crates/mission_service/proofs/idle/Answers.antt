use Rattle.std.proofs.Common.{List, [], ◌++◌, ◌∙◌, ap, subst, append_assoc}
use Rattle.mav_messages.specs.declared.messages.Reply.{Reply}
use Rattle.mission_service.specs.Uploads.{Missions, kinds}
use Rattle.mission_service.specs.Service.{all_reminded}
use Rattle.mission_service.specs.Replies.{AreRepliesOf}
use Rattle.mission_service.proofs.Telling.{two_told}
use Rattle.mission_service.proofs.idle.Goals as goal

pub returns-clause-told : goal.returns-clause-told
returns-clause-told c =
    let first = c.remind.ensures.told [] in
    let second = c.remind-2.ensures.told c.state.inside.kept.items in
    let items = second.1 ∙ ap (λ (l : List Reply). l ++ second.0) first.1 ∙ append_assoc c.args.replies.now.items first.0 second.0 in (
      first.0 ++ second.0,
      items,
      subst (λ (x : Missions). AreRepliesOf c.args.station (all_reminded c.args.station kinds x) (first.0 ++ second.0)) c.state.view_is (two_told c.args.station _ _ first.0 second.0 first.2 second.2),
    )
