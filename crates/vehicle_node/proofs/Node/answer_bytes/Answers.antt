use Rattle.std.proofs.Common.{Bool, inr, subst}
use Rattle.mission_service.specs.declared.uploads.Target.{Target}
use Rattle.vehicle_core.specs.Vehicle.{Asks}
use Rattle.vehicle_core.specs.Acts.{heard_as, Said}
use Rattle.vehicle_runs.proofs.Senders.{of_heading}
use Rattle.vehicle_node.specs.Steps.Answering.{ActDone}
use Rattle.vehicle_node.proofs.Node.answer_bytes.Goals as goal

pub returns-clause-done : goal.returns-clause-done
returns-clause-done g c =
    let a = c.answer_message.ensures.done in
    inr (
      a.0,
      record { message = c.in-Some.message; is = c.in-Some.ensures.cases; fits = c.in-Some.ensures.fits; asks = subst (λ (sender : Target). Asks sender c.in-Some.message a.0) (of_heading c.args.bytes.now c.heading_of-heading.result c.heading_of-heading.ensures) a.1 },
      subst (λ (v2 : Bool). ActDone g.B.Board c.args.self.now c.args.board.now (Said c.args.station (heard_as v2 a.0)) c.answer_message.result c.answer_message.new.self c.answer_message.new.board) c.heading_of-heading.ensures.v2 a.2,
    )
