use Rattle.std.proofs.Common.{[], ap, refl, sym, subst, ◌∙◌}
use Rattle.dirty_lines.specs.Lines.{current_of}
use Rattle.param_tree.specs.Rows.{vehicle_rows}
use Rattle.param_index.specs.Places.{Places, IsIndexOf}
use Rattle.vehicle_core.specs.declared.orders.Need.TheVariants.{Nothing}
use Rattle.vehicle_core.specs.Vehicle.{is_armed}
use Rattle.vehicle_core.specs.Acts.{Beat, Did, did}
use Rattle.vehicle_core.specs.Replies.{AreRepliesOf}
use Rattle.vehicle_runs.specs.Frames.{deliveries}
use Rattle.vehicle_runs.proofs.Orders.{did_arms, did_needs}
use Rattle.vehicle_node.specs.Steps.Inside.{view_of}
use Rattle.vehicle_node.proofs.ActAnswers.{act_of}
use Rattle.vehicle_node.proofs.Fitting.{fits_act, quiet_room, quiet_over, quiet_index, indexed_inside}
use Rattle.vehicle_node.proofs.StationsTold.{act_told, replies_inside, beat_writes, beat_anywhere}
use Rattle.vehicle_node.proofs.Node.beat.Goals as goal

pub answer-requires-clause-stations : goal.answer-requires-clause-stations
answer-requires-clause-stations g c =
    let s = c.self.inside in
    replies_inside (did s.budget [] s.core.vehicle (Beat c.args.station)).told c.idle.new.replies.items (c.idle.ensures.told s.budget) (act_told s.budget [] s.core.vehicle (Beat c.args.station) c.requires.station)

pub answer-requires-clause-room : goal.answer-requires-clause-room
answer-requires-clause-room g c =
    let s = c.self.inside in
    quiet_room g.B.Board c.args.board.now s c.args.self.now c.armed-armed.result c.idle.new.self c.new.result.items c.self.view_is c.requires.fits c.armed-armed.ensures
    (ap is_armed (c.idle.ensures.next s.budget) ∙ did_arms s.budget [] s.core.vehicle (Beat c.args.station)) c.new.ensures

pub returns-clause-done : goal.returns-clause-done
returns-clause-done g c =
    let s = c.self.inside in
    let act = Beat c.args.station in
    let bytes = current_of s.lines in
    let same = beat_anywhere s.budget bytes s.core.vehicle c.args.station in
    let next = c.idle.ensures.next s.budget ∙ ap (λ (d : Did). d.vehicle) same in
    let are : AreRepliesOf (did s.budget bytes s.core.vehicle act).told c.idle.new.replies.items = subst (λ (d : Did). AreRepliesOf d.told c.idle.new.replies.items) same (c.idle.ensures.told s.budget) in
    act_of g.B.Board s c.args.self.now act c.idle.new.self _ c.armed-armed.result c.new.result.items c.args.board.now c.answer.result c.answer.new.self c.answer.new.self c.answer.new.board c.self.view_is
    next (sym (did_needs s.budget bytes s.core.vehicle act)) (c.armed-armed.ensures ∙ ap is_armed next ∙ quiet_over (is_armed s.core.vehicle) (is_armed (did s.budget bytes s.core.vehicle act).vehicle) (did_arms s.budget bytes s.core.vehicle act))
    (c.new.ensures ∙ sym (beat_writes s.budget bytes s.core.vehicle c.args.station)) (c.answer.ensures.done (did s.budget bytes s.core.vehicle act).told are) refl

pub returns-clause-fits : goal.returns-clause-fits
returns-clause-fits g c =
    let s = c.self.inside in
    let told = (did s.budget [] s.core.vehicle (Beat c.args.station)).told in
    let are = c.idle.ensures.told s.budget in
    fits_act g.B.Board c.args.board.now c.answer.new.board c.args.self.now (Beat c.args.station) c.answer.result c.answer.new.self c.requires.fits (returns-clause-done g c) c.answer.ensures.fits
    (quiet_index g.B.Board Nothing c.armed-armed.result c.new.result.items (deliveries c.idle.new.self.vehicle told) (view_of (record s { core = c.idle.new.self })) c.args.board.now c.answer.new.self c.answer.new.board c.answer.result
    (c.answer.ensures.done told are) c.new.ensures c.answer.ensures.index (subst (λ (i : Places). IsIndexOf vehicle_rows (current_of s.lines) i) (sym c.idle.ensures.index) (indexed_inside s c.args.self.now (current_of s.lines) c.self.view_is refl c.requires.fits.index)))
    c.answer.ensures.keeps.geometry
