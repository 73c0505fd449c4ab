use Rattle.std.proofs.Common.{List, [], sym, ◌∙◌, ap, subst}
use Rattle.mav_messages.specs.declared.messages.Reply.{Reply}
use Rattle.vehicle_core.specs.Vehicle.{Told}
use Rattle.vehicle_core.specs.Acts.{Did}
use Rattle.vehicle_core.specs.Replies.{AreRepliesOf}
use Rattle.vehicle_core.specs.CoreState.{CoreState}
use Rattle.param_service.specs.State.{State}
use Rattle.vehicle_core.proofs.Machine.{did-no_stream, streams}
use Rattle.vehicle_core.proofs.Core.stream.Goals as goal

pub returns-clause-next : goal.returns-clause-next
returns-clause-next c = λ budget.
    let all = streams budget c.args.current.now c.self.inside.stations c.self.inside.parameters.next_rows c.stream.new.state.next_rows c.self.inside.missions c.self.inside.armed c.args.self.now.vehicle c.args.station c.stream.new.replies.items (ap (λ (x : CoreState). x.vehicle) c.self.view_is) (sym c.heard.ensures ∙ c.if-not-heard.false) (ap (λ (x : State). x.next_rows) c.stream.ensures.next) c.stream.ensures.shown in
    all.state

pub returns-clause-told : goal.returns-clause-told
returns-clause-told c = λ budget.
    let all = streams budget c.args.current.now c.self.inside.stations c.self.inside.parameters.next_rows c.stream.new.state.next_rows c.self.inside.missions c.self.inside.armed c.args.self.now.vehicle c.args.station c.stream.new.replies.items (ap (λ (x : CoreState). x.vehicle) c.self.view_is) (sym c.heard.ensures ∙ c.if-not-heard.false) (ap (λ (x : State). x.next_rows) c.stream.ensures.next) c.stream.ensures.shown in
    all.told

pub returns-then-not-heard-clause-next : goal.returns-then-not-heard-clause-next
returns-then-not-heard-clause-next c = λ budget. sym (ap (λ (d : Did). d.vehicle) (did-no_stream budget c.args.current.now c.args.self.now.vehicle c.args.station (sym c.heard.ensures ∙ c.if-not-heard.true)))

pub returns-then-not-heard-clause-told : goal.returns-then-not-heard-clause-told
returns-then-not-heard-clause-told c = λ budget.
    let none : List Told = [] in
    subst (λ (d : Did). AreRepliesOf d.told c.args.replies.now.items) (sym (did-no_stream budget c.args.current.now c.args.self.now.vehicle c.args.station (sym c.heard.ensures ∙ c.if-not-heard.true)))
    (subst (λ (l : List Reply). AreRepliesOf none l) (sym c.requires.replies) tt)
