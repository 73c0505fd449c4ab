use Rattle.std.proofs.Common.{ap, sym, ◌∙◌, Option, None, option_map}
use Rattle.param_service.specs.Requests as parameters
use Rattle.mission_service.specs.Requests as missions
use Rattle.mission_service.specs.Replies.{target_of}
use Rattle.vehicle_core.specs.Vehicle.{Parameters, Missions}
use Rattle.vehicle_core.specs.CoreState.{CoreState}
use Rattle.vehicle_core.proofs.Machine.{served_by_parameters, served_by_missions, one_of-none, no_command}
use Rattle.vehicle_core.proofs.Core.serve.Goals as goal

pub returns-then-asks_parameters-clause-answered : goal.returns-then-asks_parameters-clause-answered
returns-then-asks_parameters-clause-answered c =
    let found = c.answer.ensures.answered in
    let s = c.self.inside in
    let sender = target_of c.args.from in
    let none : Option missions.Asking = None in (
      option_map Parameters found.0,
      (found.0, found.1, none, c.asks_parameters.ensures.missions c.if-asks_parameters.true, sym (no_command sender c.args.message.now (option_map Parameters found.0) None c.requires.order ∙ one_of-none (option_map Parameters found.0))),
      served_by_parameters c.args.budget c.args.current.now c.allowed-allowed.result s.stations s.parameters.next_rows c.answer.new.state.next_rows s.missions s.armed c.args.self.now.vehicle c.args.from.station found.0 c.answer.new.batch.items c.answer.new.replies.items (ap (λ (x : CoreState). x.vehicle) c.self.view_is) c.allowed-allowed.ensures found.2,
    )

pub returns-else-asks_parameters-clause-answered : goal.returns-else-asks_parameters-clause-answered
returns-else-asks_parameters-clause-answered c =
    let a = c.answer-else-asks_parameters in
    let found = a.ensures.answered in
    let s = c.self.inside in
    let sender = target_of c.args.from in
    let none : Option parameters.Request = None in (
      option_map (Missions sender) found.0,
      (none, c.asks_parameters.ensures.parameters c.if-asks_parameters.false, found.0, found.1, sym (no_command sender c.args.message.now None (option_map (Missions sender) found.0) c.requires.order)),
      served_by_missions c.args.budget c.args.current.now c.allowed-allowed.result s.stations s.parameters.next_rows s.missions a.new.state s.armed c.args.self.now.vehicle c.args.from.station sender found.0 a.new.batch.items a.new.replies.items (ap (λ (x : CoreState). x.vehicle) c.self.view_is) c.allowed-allowed.ensures found.2,
    )
