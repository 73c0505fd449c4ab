use Rattle.std.proofs.Common.{[], sym, ◌∙◌, ap, subst}
use Rattle.mission_records.specs.declared.reading.TheConstants.{CAPACITY}
use Rattle.mission_service.specs.declared.uploads.Uploads.{Uploads}
use Rattle.mission_service.specs.Uploads.{Missions, Mission, uploads_of, with_uploads}
use Rattle.mission_service.specs.Requests.{ForMission}
use Rattle.mission_service.specs.Service.{taken, given_to}
use Rattle.mission_service.specs.Steps.Inside.{from_seen, upload_seen, uploads_seen, IsOpenRight}
use Rattle.mission_service.proofs.Taking.{took_some}
use Rattle.mission_service.proofs.items.give_command.Goals as goal

pub invariant_of-state : goal.invariant_of-state
invariant_of-state c =
    let right = subst (λ (u : Uploads). IsOpenRight CAPACITY u) c.in-Ok.ensures.open_is c.state.invariant.mission_right in record {
      mission_right = c.after_item-state-inside.ensures.right CAPACITY right.1;
      fence_right = c.state.invariant.fence_right;
      all_kept = c.state.invariant.all_kept;
    }

pub returns-in-Ok-take_command-clause-given : goal.returns-in-Ok-take_command-clause-given
returns-in-Ok-take_command-clause-given c =
    let b = c.args.current.now in
    let allowed = c.args.allowed in
    let m : Missions = c.args.state.now in
    let from = from_seen c.args.asker.now in
    let given = ForMission c.args.given in
    let u = upload_seen [] c.in-Ok.upload in
    let now = uploads_seen [] c.after_item-state-inside.result in
    let seen = ap (λ (x : Missions). given_to b allowed m from Mission c.args.seq given (uploads_of Mission x)) (sym c.state.view_is) in
    let next = c.in-Ok.ensures.takes b allowed m Mission given [] in
    let view = ap (λ (x : Missions). with_uploads Mission x now) c.state.view_is in
    took_some m from Mission u (taken b allowed u given) c.take_command.new.batch.items [] now c.told_after.result _ _ (seen ∙ next)
    c.in-Ok-take_command.ensures.taken (c.after_item-state-inside.ensures.seen [] []) c.told_after.ensures view
