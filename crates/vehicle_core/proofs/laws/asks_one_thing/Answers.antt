use Rattle.std.proofs.Common.{Option, option_map, refl, sym, ◌∙◌, ap₂}
use Rattle.param_service.specs.Requests.{Request}
use Rattle.mission_service.specs.Requests.{Asking}
use Rattle.vehicle_core.specs.Orders.{vehicle_command_of}
use Rattle.vehicle_core.specs.Vehicle.{Parameters, Missions, orders_for, one_of}
use Rattle.vehicle_core.proofs.laws.asks_one_thing.Goals as goal

pub returns-clause-asks : goal.returns-clause-asks
returns-clause-asks c = λ sender message.
    let request = c.asks_one_thing.ensures.asks message in
    let asking = c.asks_one_thing-2.ensures.some message in
    (one_of (option_map Parameters request.0) (one_of (option_map (Missions sender) asking.0) (option_map (orders_for sender) (vehicle_command_of message))), (request.0, request.1, asking.0, asking.1, refl))

pub returns-clause-one : goal.returns-clause-one
returns-clause-one c = λ sender message a b p q.
    p.4
    ∙ ap₂ (λ (r : Option Request) (m : Option Asking). one_of (option_map Parameters r) (one_of (option_map (Missions sender) m) (option_map (orders_for sender) (vehicle_command_of message)))) (c.asks_one_thing.ensures.one message p.0 q.0 p.1 q.1) (c.asks_one_thing-2.ensures.only message p.2 q.2 p.3 q.3)
    ∙ sym q.4
