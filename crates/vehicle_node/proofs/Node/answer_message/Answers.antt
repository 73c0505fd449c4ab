use Rattle.std.proofs.Common.{◌≡◌, ℕ, List, Ok, ap, refl, sym, subst, ◌∙◌}
use Rattle.std.specs.Prelude.{◌&&◌}
use Rattle.block_store.specs.Store as store
use Rattle.dirty_lines.specs.Lines.{Lines, current_of}
use Rattle.vehicle_core.specs.Vehicle.{is_armed}
use Rattle.vehicle_core.specs.Acts.{heard_as, Said, Did, did}
use Rattle.vehicle_core.specs.Replies.{AreRepliesOf}
use Rattle.vehicle_runs.specs.Frames.{deliveries}
use Rattle.vehicle_node.specs.Standing.{Node}
use Rattle.vehicle_node.specs.Steps.Answering.{ActDone}
use Rattle.vehicle_node.specs.Steps.Inside.{view_of}
use Rattle.vehicle_node.proofs.ActAnswers.{act_of}
use Rattle.vehicle_node.proofs.Fitting.{message_room, fits_act, both_armed, not_armed, both_flags, indexed_inside, answered_index}
use Rattle.vehicle_node.proofs.Passing.{error_passed}
use Rattle.vehicle_node.proofs.StationsTold.{act_told, replies_inside}
use Rattle.vehicle_node.proofs.Node.answer_message.Goals as goal
use Rattle.vehicle_node.proofs.Node.answer_message.Goals.{then-was_armed, else-was_armed}

pub answer-requires-clause-stations : goal.answer-requires-clause-stations
answer-requires-clause-stations g c =
    let s = c.self.inside in
    let a = c.message-need.ensures.answered in
    let act = Said c.args.from.station (heard_as c.args.v2 a.0) in
    replies_inside (did s.budget c.current.result.now s.core.vehicle act).told c.message-need.new.replies.items a.2.told (act_told s.budget c.current.result.now s.core.vehicle act c.requires.station)

pub answer-requires-clause-room : goal.answer-requires-clause-room
answer-requires-clause-room g c =
    let was = c.armed-was_armed.result in
    let is = c.armed-is_armed.result in
    let flag = c.if-was_armed.armed in
    let over : flag ≡ (was && is) = elim c.if-was_armed.branch [
      | then-was_armed w ↦ both_armed was is flag w.if-was_armed.true w.armed-is
      | else-was_armed w ↦ not_armed was is flag w.if-was_armed.false (w.armed-is ∙ w.if-was_armed.false)
    ] in
    message_room g.B.Board c.args.board.now c.self.inside c.args.self.now flag c.message-need.new.self c.message-need.new.batch.items c.message-need.result c.self.view_is c.requires.fits c.message-need.ensures.within
    (over ∙ both_flags was is (is_armed c.self.inside.core.vehicle) (is_armed c.message-need.new.self.vehicle) c.armed-was_armed.ensures c.armed-is_armed.ensures)

pub message-need-requires-clause-index : goal.message-need-requires-clause-index
message-need-requires-clause-index g c = indexed_inside c.self.inside c.args.self.now c.current.result.now c.self.view_is c.current.ensures.bytes c.requires.fits.index

pub refresh-requires : goal.refresh-requires
refresh-requires g c = λ given.
    let s = c.self.inside in
    let core = c.message-need.new.self in
    let a = c.message-need.ensures.answered in
    let told = (did s.budget c.current.result.now s.core.vehicle (Said c.args.from.station (heard_as c.args.v2 a.0))).told in
    let writes = c.message-need.new.batch.items in
    answered_index g.B.Board c.message-need.result c.if-was_armed.armed writes (deliveries core.vehicle told) (view_of (record s { core = core })) c.args.board.now c.answer.new.self c.answer.new.board
    (c.in_ok-answer.ensures.done told a.2.told).done c.current.result.now c.current.ensures.bytes c.in_ok-answer.ensures.index (c.message-need.ensures.index given)

pub returns-in_err-answer-clause-done : goal.returns-in_err-answer-clause-done
returns-in_err-answer-clause-done g c =
    let s = c.self.inside in
    let a = c.message-need.ensures.answered in
    let act = Said c.args.from.station (heard_as c.args.v2 a.0) in
    let now = current_of s.lines in
    let same : did s.budget c.current.result.now s.core.vehicle act ≡ did s.budget now s.core.vehicle act = ap (λ (l : List ℕ). did s.budget l s.core.vehicle act) c.current.ensures.bytes in
    let are : AreRepliesOf (did s.budget now s.core.vehicle act).told c.message-need.new.replies.items = subst (λ (d : Did). AreRepliesOf d.told c.message-need.new.replies.items) same a.2.told in
    let next = a.2.state ∙ ap (λ (d : Did). d.vehicle) same in
    let was = c.armed-was_armed.result in
    let is = c.armed-is_armed.result in
    let flag = c.if-was_armed.armed in
    let over : flag ≡ (was && is) = elim c.if-was_armed.branch [
      | then-was_armed w ↦ both_armed was is flag w.if-was_armed.true w.armed-is
      | else-was_armed w ↦ not_armed was is flag w.if-was_armed.false (w.armed-is ∙ w.if-was_armed.false)
    ] in (
      a.0,
      a.1,
      error_passed c.from_residual.result c.in_err-answer.field-0.0 (λ r. ActDone g.B.Board c.args.self.now c.args.board.now act r c.answer.new.self c.answer.new.board) c.from_residual.ensures.1
          (act_of g.B.Board s c.args.self.now act c.message-need.new.self c.message-need.result flag c.message-need.new.batch.items c.args.board.now _ c.answer.new.self c.answer.new.self c.answer.new.board c.self.view_is
          next (a.2.needed ∙ ap (λ (d : Did). d.need) same)
          (over ∙ both_flags was is (is_armed s.core.vehicle) (is_armed (did s.budget now s.core.vehicle act).vehicle) c.armed-was_armed.ensures (c.armed-is_armed.ensures ∙ ap is_armed next))
          (a.2.lines ∙ ap (λ (d : Did). d.writes) same) (c.in_err-answer.ensures.done (did s.budget now s.core.vehicle act).told are) refl),
    )

pub returns-clause-done : goal.returns-clause-done
returns-clause-done g c =
    let s = c.self.inside in
    let a = c.message-need.ensures.answered in
    let act = Said c.args.from.station (heard_as c.args.v2 a.0) in
    let now = current_of s.lines in
    let same : did s.budget c.current.result.now s.core.vehicle act ≡ did s.budget now s.core.vehicle act = ap (λ (l : List ℕ). did s.budget l s.core.vehicle act) c.current.ensures.bytes in
    let are : AreRepliesOf (did s.budget now s.core.vehicle act).told c.message-need.new.replies.items = subst (λ (d : Did). AreRepliesOf d.told c.message-need.new.replies.items) same a.2.told in
    let next = a.2.state ∙ ap (λ (d : Did). d.vehicle) same in
    let was = c.armed-was_armed.result in
    let is = c.armed-is_armed.result in
    let flag = c.if-was_armed.armed in
    let over : flag ≡ (was && is) = elim c.if-was_armed.branch [
      | then-was_armed w ↦ both_armed was is flag w.if-was_armed.true w.armed-is
      | else-was_armed w ↦ not_armed was is flag w.if-was_armed.false (w.armed-is ∙ w.if-was_armed.false)
    ] in (
      a.0,
      a.1,
      act_of g.B.Board s c.args.self.now act c.message-need.new.self c.message-need.result flag c.message-need.new.batch.items c.args.board.now (Ok tt) c.answer.new.self c.refresh.new.self c.answer.new.board c.self.view_is
          next (a.2.needed ∙ ap (λ (d : Did). d.need) same)
          (over ∙ both_flags was is (is_armed s.core.vehicle) (is_armed (did s.budget now s.core.vehicle act).vehicle) c.armed-was_armed.ensures (c.armed-is_armed.ensures ∙ ap is_armed next))
          (a.2.lines ∙ ap (λ (d : Did). d.writes) same) (c.in_ok-answer.ensures.done (did s.budget now s.core.vehicle act).told are) c.refresh.ensures.same,
    )

pub returns-clause-fits : goal.returns-clause-fits
returns-clause-fits g c =
    let d = returns-clause-done g c in
    let fits = subst (λ (l : Lines). store.Fits g.B.Board c.answer.new.board l.store) (sym (ap (λ (n : Node). n.lines) c.refresh.ensures.same)) c.in_ok-answer.ensures.fits in
    fits_act g.B.Board c.args.board.now c.answer.new.board c.args.self.now (Said c.args.from.station (heard_as c.args.v2 d.0)) (Ok tt) c.refresh.new.self c.requires.fits d.2 fits c.refresh.ensures.index c.in_ok-answer.ensures.keeps.geometry
