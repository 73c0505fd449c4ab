use Rattle.std.proofs.Common.{refl, sym, ◌∙◌, ap, Option, Some, None, option_map}
use Rattle.param_service.specs.Requests as parameters
use Rattle.mission_service.specs.Requests as missions
use Rattle.mission_service.specs.Replies.{target_of}
use Rattle.vehicle_core.specs.Vehicle.{orders_for}
use Rattle.vehicle_core.specs.CoreState.{CoreState}
use Rattle.vehicle_core.proofs.Machine.{said, obeyed}
use Rattle.vehicle_core.proofs.Core.message.Goals as goal

pub returns-in-Some-clause-answered : goal.returns-in-Some-clause-answered
returns-in-Some-clause-answered c =
    let s = c.self.inside in
    let sender = target_of c.args.from in
    let command = c.in-Some.command in
    let is = sym c.command_of.ensures.command ∙ c.in-Some.is in
    let request : Option parameters.Request = None in
    let asking : Option missions.Asking = None in (
      Some (orders_for sender command),
      (request, c.in-Some.ensures.parameters refl, asking, c.in-Some.ensures.missions refl, sym (ap (option_map (orders_for sender)) is)),
      obeyed c.args.budget c.args.current.now s.stations s.parameters.next_rows s.missions s.armed c.args.self.now.vehicle c.args.from.station c.args.v2 sender command c.obey.new.self.vehicle c.args.batch.now.items c.obey.new.replies.items c.obey.result (ap (λ (x : CoreState). x.vehicle) c.self.view_is) c.requires.batch c.obey.ensures.answered,
    )

pub returns-clause-answered : goal.returns-clause-answered
returns-clause-answered c =
    let s = c.self.inside in
    let found = c.serve.ensures.answered in (
      found.0,
      found.1,
      said c.args.budget c.args.current.now s.stations s.parameters.next_rows s.missions s.armed c.args.self.now.vehicle c.args.from.station c.args.v2 found.0 c.serve.new.self.vehicle c.count.new.self.vehicle c.serve.new.batch.items c.serve.new.replies.items _ (ap (λ (x : CoreState). x.vehicle) c.self.view_is) found.2 (ap (λ (x : CoreState). x.vehicle) c.count.ensures),
    )
