use Rattle.std.proofs.Common.{◌+◌, ◌⊎◌, inl, inr, ◌∙◌, ap, sym, refl}
use Rattle.flash_traits.specs.Budget.{budget_of}
use Rattle.dirty_lines.specs.Lines.{Lines}
use Rattle.dirty_lines.specs.Losses.{IsWornForNext}
use Rattle.storage_cli.specs.Steps.Guard.{WearsSince}
use Rattle.storage_cli.specs.Steps.Progress.{WasArmedSince}
use Rattle.storage_cli.specs.Steps.Stops.{stop_of, IsEventStop, OnWorn}
use Rattle.storage_cli.proofs.Calls.{finishes_none, finishes_more, finishes_end, progress_lost, losses_at, armed_later, wears_later}
use Rattle.storage_cli.proofs.Causes.{on_err, on_stop, caused, cause_later, node_cause, event_stop, worn_stop}
use Rattle.storage_cli.proofs.serving.serve_events.Goals as goal

pub loop-events-init : goal.loop-events-init
loop-events-init g c = record {
  finishes = finishes_none g.B.Board c.args.node.now.budget c.args.node.now c.args.board.now;
  fits = c.requires.fits;
  geometry = refl;
  budget = refl;
  alone = λ alone. alone;
  faults = refl;
}

pub returns-in_err-turn-clause-losses : goal.returns-in_err-turn-clause-losses
returns-in_err-turn-clause-losses g c =
    let i = c.loop-events.invariant.finishes in
    on_err c.from_residual.result _ (λ b e f m runs. progress_lost g.B.Board c.args.node.now.budget c.args.node.now c.args.board.now c.loop-events.node c.loop-events.board c.event.new.self c.event.new.board i.events i.frames i.progress b e f m runs
    (losses_at g.B.Board c.args.node.now.budget c.loop-events.node.budget c.loop-events.invariant.budget c.loop-events.node c.loop-events.board c.event.new.board (λ k. k) c.in_err-turn.ensures.losses))

pub returns-in_err-turn-clause-stops : goal.returns-in_err-turn-clause-stops
returns-in_err-turn-clause-stops g c =
    let e = c.in_err-turn.ensures in
    on_stop c.from_residual.result (stop_of c.in_err-turn.field-0.0) c.from_residual.ensures.1 IsEventStop (event_stop c.in_err-turn.field-0.0 e.never_memory e.never_foreign)

pub returns-in_err-turn-clause-worn : goal.returns-in_err-turn-clause-worn
returns-in_err-turn-clause-worn g c =
    on_stop c.from_residual.result (stop_of c.in_err-turn.field-0.0) c.from_residual.ensures.1 (λ why. OnWorn why _) (worn_stop c.in_err-turn.field-0.0 _ _ (λ count worn. (worn.1, worn.2)) c.in_err-turn.ensures.worn)

pub returns-in_err-turn-clause-worn_next : goal.returns-in_err-turn-clause-worn_next
returns-in_err-turn-clause-worn_next g c = λ alone.
    let i = c.loop-events.invariant.finishes in
    let next = c.in_err-turn.ensures.worn_next in
    on_stop c.from_residual.result (stop_of c.in_err-turn.field-0.0) c.from_residual.ensures.1
    (λ why. OnWorn why (((lines : Lines) × IsWornForNext g.B.Board c.event.new.board lines) ⊎ WasArmedSince g.B.Board c.args.node.now c.args.board.now c.event.new.board))
    (worn_stop c.in_err-turn.field-0.0 _ _ (λ count worn. elim (worn (c.loop-events.invariant.alone alone)) [
      | inl lacks ↦ inl (c.event.new.self.lines, lacks)
      | inr armed ↦ inr (armed_later g.B.Board c.args.node.now.budget c.args.node.now c.args.board.now c.loop-events.node c.loop-events.board c.event.new.self c.event.new.board i.events i.frames i.progress armed)
    ]) next)

pub returns-in_err-turn-clause-worn_lines : goal.returns-in_err-turn-clause-worn_lines
returns-in_err-turn-clause-worn_lines g c =
    let i = c.loop-events.invariant.finishes in
    on_stop c.from_residual.result (stop_of c.in_err-turn.field-0.0) c.from_residual.ensures.1 (λ why. OnWorn why (WearsSince g.B.Board c.args.node.now c.args.board.now c.event.new.board))
    (worn_stop c.in_err-turn.field-0.0 _ _ (λ n wears.
    wears_later g.B.Board c.args.node.now.budget c.args.node.now c.args.board.now c.loop-events.node c.loop-events.board c.event.new.self c.event.new.board i.events i.frames i.progress c.loop-events.invariant.budget wears)
    c.in_err-turn.ensures.worn_lines)

pub returns-in_err-turn-clause-cause : goal.returns-in_err-turn-clause-cause
returns-in_err-turn-clause-cause g c =
    let e = c.in_err-turn.field-0.0 in
    let before = g.B.Board.faults c.args.board.now in
    let mid = g.B.Board.faults c.loop-events.board in
    let now = g.B.Board.faults c.event.new.board in
    caused c.from_residual.result (stop_of e) c.from_residual.ensures.1 before now (cause_later (stop_of e) before mid now c.loop-events.invariant.faults (node_cause e mid now c.in_err-turn.ensures.counts))

pub returns-in-End-clause-cause : goal.returns-in-End-clause-cause
returns-in-End-clause-cause g c = c.in_ok-turn.ensures.counts ∙ c.loop-events.invariant.faults

pub returns-in-End-clause-finished : goal.returns-in-End-clause-finished
returns-in-End-clause-finished g c =
    finishes_end g.B.Board c.args.node.now.budget c.args.node.now c.args.board.now c.loop-events.node c.loop-events.board c.event.new.self c.event.new.board c.loop-events.events
    c.loop-events.invariant.finishes c.in_ok-turn.turn c.in_ok-turn.ensures.finished c.in_ok-turn.ensures.told (losses_at g.B.Board c.args.node.now.budget c.loop-events.node.budget c.loop-events.invariant.budget c.loop-events.node c.loop-events.board c.event.new.board (λ k. k + 1) c.in_ok-turn.ensures.losses) c.args.turns c.in-End.is

pub loop-events-preserved : goal.loop-events-preserved
loop-events-preserved g c = record {
  finishes = finishes_more g.B.Board c.args.node.now.budget c.args.node.now c.args.board.now c.loop-events.node c.loop-events.board c.event.new.self c.event.new.board c.loop-events.events
      c.loop-events.invariant.finishes c.in_ok-turn.turn c.in_ok-turn.ensures.finished c.in_ok-turn.ensures.told (losses_at g.B.Board c.args.node.now.budget c.loop-events.node.budget c.loop-events.invariant.budget c.loop-events.node c.loop-events.board c.event.new.board (λ k. k + 1) c.in_ok-turn.ensures.losses) c.in-More.is;
  fits = c.in_ok-turn.ensures.fits;
  geometry = c.in_ok-turn.ensures.geometry ∙ c.loop-events.invariant.geometry;
  budget = c.in_ok-turn.ensures.fits.budget ∙ ap budget_of c.in_ok-turn.ensures.geometry ∙ sym c.loop-events.invariant.fits.budget ∙ c.loop-events.invariant.budget;
  alone = λ alone. c.in_ok-turn.ensures.alone (c.loop-events.invariant.alone alone);
  faults = c.in_ok-turn.ensures.counts ∙ c.loop-events.invariant.faults;
}
