use Rattle.std.proofs.Common.{Bool, inr, subst}
use Rattle.mission_service.specs.declared.uploads.Target.{Target}
use Rattle.vehicle_core.specs.Vehicle.{Asks}
use Rattle.vehicle_core.specs.Acts.{heard_as, Said}
use Rattle.vehicle_runs.proofs.Senders.{of_frame}
use Rattle.vehicle_node.specs.Steps.Answering.{ActDone}
use Rattle.vehicle_node.proofs.Node.answer_frame.Goals as goal

pub returns-clause-done : goal.returns-clause-done
returns-clause-done g c = λ bytes read.
    let a = c.answer_message.ensures.done in
    inr (
      a.0,
      record { message = c.in-Some.message; is = c.in-Some.ensures.bytes bytes read; fits = c.in-Some.ensures.fits; asks = subst (λ (sender : Target). Asks sender c.in-Some.message a.0) (of_frame bytes c.args.frame.now read) a.1 },
      subst (λ (v2 : Bool). ActDone g.B.Board c.args.self.now c.args.board.now (Said c.args.station (heard_as v2 a.0)) c.answer_message.result c.answer_message.new.self c.answer_message.new.board) read.v2 a.2,
    )
