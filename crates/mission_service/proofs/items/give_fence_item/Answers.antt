use Rattle.std.proofs.Common.{◌≡◌, ℕ, ◌+◌, length, sym, ◌∙◌, ap, subst}
use Rattle.mission_service.specs.declared.uploads.Uploads.{Uploads}
use Rattle.mission_service.specs.Uploads.{Missions, Fence, uploads_of, with_uploads}
use Rattle.mission_service.specs.Requests.{ForFence}
use Rattle.mission_service.specs.Service.{fence_capacity, taken, given_to}
use Rattle.mission_service.specs.Steps.Inside.{from_seen, upload_seen, uploads_seen, IsOpenRight, AreKept}
use Rattle.mission_service.proofs.Taking.{took_some}
use Rattle.mission_service.proofs.items.give_fence_item.Goals as goal

pub invariant_of-state : goal.invariant_of-state
invariant_of-state c =
    let u = c.in-Ok.upload in
    let right = subst (λ (x : Uploads). IsOpenRight fence_capacity x) c.in-Ok.ensures.open_is c.state.invariant.fence_right in
    let kept : length c.state.inside.kept.items ≡ u.expected = subst (λ (x : Uploads). AreKept x c.state.inside.kept.items) c.in-Ok.ensures.open_is c.state.invariant.all_kept in record {
      mission_right = c.state.invariant.mission_right;
      fence_right = c.after_item-state-inside.ensures.right fence_capacity right.1;
      all_kept = c.after_item-state-inside.ensures.kept c.take_fence_item.new.kept.items (λ h. c.in-Ok-take_fence_item.ensures.kept h ∙ ap (λ (n : ℕ). n + 1) kept);
    }

pub returns-in-Ok-take_fence_item-clause-given : goal.returns-in-Ok-take_fence_item-clause-given
returns-in-Ok-take_fence_item-clause-given c =
    let b = c.args.current.now in
    let allowed = c.args.allowed in
    let m : Missions = c.args.state.now in
    let from = from_seen c.args.asker.now in
    let given = ForFence c.args.given in
    let old = c.state.inside.kept.items in
    let new = c.take_fence_item.new.kept.items in
    let u = upload_seen old c.in-Ok.upload in
    let now = uploads_seen new c.after_item-state-inside.result in
    let seen = ap (λ (x : Missions). given_to b allowed m from Fence c.args.seq given (uploads_of Fence x)) (sym c.state.view_is) in
    let next = c.in-Ok.ensures.takes b allowed m Fence given old in
    let view = ap (λ (x : Missions). with_uploads Fence x now) c.state.view_is in
    took_some m from Fence u (taken b allowed u given) c.take_fence_item.new.batch.items new now c.told_after.result _ _ (seen ∙ next)
    c.in-Ok-take_fence_item.ensures.taken (c.after_item-state-inside.ensures.seen old new) c.told_after.ensures view
