use Rattle.std.proofs.Common.{◌≡◌, Bool, List, [], ◌∷◌, ◌++◌, refl, sym, ◌∙◌, ap, subst}
use Rattle.mav_messages.specs.declared.messages.Reply.{Reply}
use Rattle.mav_messages.specs.declared.messages.To.TheVariants.{Station}
use Rattle.vehicle_core.specs.Vehicle.{Alive, Told}
use Rattle.vehicle_core.specs.Acts.{Beat, Did, did}
use Rattle.vehicle_core.specs.Replies.{AreRepliesOf, Tells}
use Rattle.vehicle_core.specs.CoreState.{CoreState}
use Rattle.vehicle_core.proofs.Machine.{did-no_beat, beats}
use Rattle.vehicle_core.proofs.Core.idle.Goals as goal

pub returns-else-heard-clause-next : goal.returns-else-heard-clause-next
returns-else-heard-clause-next c = λ budget. sym (ap (λ (d : Did). d.vehicle) (did-no_beat budget c.args.self.now.vehicle c.args.station (sym c.heard.ensures ∙ c.if-heard.false)))

pub returns-else-heard-clause-told : goal.returns-else-heard-clause-told
returns-else-heard-clause-told c = λ budget.
    let none : List Told = [] in
    subst (λ (d : Did). AreRepliesOf d.told c.args.replies.now.items) (sym (did-no_beat budget c.args.self.now.vehicle c.args.station (sym c.heard.ensures ∙ c.if-heard.false)))
    (subst (λ (l : List Reply). AreRepliesOf none l) (sym c.requires.replies) tt)

pub returns-then-heard-clause-next : goal.returns-then-heard-clause-next
returns-then-heard-clause-next c = λ budget.
    let s = c.self.inside in
    let first : Reply = record { to = Station c.args.station; message = c.heartbeat.result } in
    let all = beats budget s.stations s.parameters.next_rows s.missions c.idle.new.state s.armed c.args.self.now.vehicle c.args.station first c.idle.ensures.told.0 (ap (λ (x : CoreState). x.vehicle) c.self.view_is) (sym c.heard.ensures ∙ c.if-heard.true) c.idle.ensures.next refl (subst (λ (b : Bool). Tells (Alive b) c.heartbeat.result) c.armed.ensures c.heartbeat.ensures) c.idle.ensures.told.2 in
    all.state

pub returns-then-heard-clause-told : goal.returns-then-heard-clause-told
returns-then-heard-clause-told c = λ budget.
    let s = c.self.inside in
    let first : Reply = record { to = Station c.args.station; message = c.heartbeat.result } in
    let more = c.idle.ensures.told.0 in
    let all = beats budget s.stations s.parameters.next_rows s.missions c.idle.new.state s.armed c.args.self.now.vehicle c.args.station first more (ap (λ (x : CoreState). x.vehicle) c.self.view_is) (sym c.heard.ensures ∙ c.if-heard.true) c.idle.ensures.next refl (subst (λ (b : Bool). Tells (Alive b) c.heartbeat.result) c.armed.ensures c.heartbeat.ensures) c.idle.ensures.told.2 in
    let start : c.push.new.self.items ≡ first ∷ [] = c.push.ensures.items ∙ ap (λ (l : List Reply). l ++ first ∷ []) c.requires.replies in
    let items : c.idle.new.replies.items ≡ first ∷ more = c.idle.ensures.told.1 ∙ ap (λ (l : List Reply). l ++ more) start in
    subst (λ (l : List Reply). AreRepliesOf (did budget [] c.args.self.now.vehicle (Beat c.args.station)).told l) (sym items) all.told
