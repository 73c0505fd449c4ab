use Rattle.std.proofs.Common.{◌≡◌, ◌≤◌, ◌∙◌, ap, arith, inl, inr, refl, subst, ◌+◌, [], length, ℕ, Result}
use Rattle.flash_traits.specs.Budget.{budget_of}
use Rattle.flash_traits.specs.Calls.{Passes}
use Rattle.flash_traits.specs.declared.board.Fault.{Fault}
use Rattle.storage_cli.specs.declared.stop.Served.{Served}
use Rattle.storage_cli.specs.declared.stop.Stop.{Stop}
use Rattle.storage_cli.specs.Serving.{HasToVoid}
use Rattle.storage_cli.specs.Steps.Guard.{WearsFrom}
use Rattle.storage_cli.specs.Steps.Progress.{IsSafe}
use Rattle.storage_cli.specs.Steps.Stops.{stop_of, IsFirst, IsServeStop, IsDone, OnForeign, OnMemory, OnWorn, StopsEarly, StopsWorn}
use Rattle.storage_cli.proofs.Causes.{never_both, is_first, opens_early, opens_worn, not_done, on_stop, on_result, caused, node_cause, cause_later, event_stop, serve_event, serve_stop, event_memory, event_first, event_foreign, memory_stop, foreign_stop, worn_stop, worn_map, stopped_by}
use Rattle.storage_cli.proofs.Serves.{open_lost, open_then, open_closed, completes_end, completes_turns, finished_at, void_opened, void_served, wears_opened, wears_served, wears_closed}
use Rattle.storage_cli.proofs.Calls.{losses_at}
use Rattle.storage_cli.proofs.serving.serve_image.Goals as goal

pub returns-in_err-node-clause-losses : goal.returns-in_err-node-clause-losses
returns-in_err-node-clause-losses g c = λ b stands. open_lost g.B.Board (budget_of (g.B.Board.sector_bytes c.args.board.now)) b c.args.board.now c.open.new.board (c.in_err-node.ensures.losses b stands)

pub returns-in_err-node-clause-foreign : goal.returns-in_err-node-clause-foreign
returns-in_err-node-clause-foreign g c = λ told.
    let words = g.B.Board.words c.args.board.now in
    on_stop c.from_residual.result (stop_of c.in_err-node.field-0.0) c.from_residual.ensures.1 (IsFirst words)
    (is_first c.in_err-node.field-0.0 (g.B.Board.tells c.open.new.board) words c.in_err-node.ensures.foreign told)

pub returns-in_err-node-clause-foreign_where : goal.returns-in_err-node-clause-foreign_where
returns-in_err-node-clause-foreign_where g c = λ told place bad.
    let e = c.in_err-node.ensures in
    on_result c.from_residual.result (stop_of c.in_err-node.field-0.0) c.from_residual.ensures.1 (λ r. StopsEarly r)
    (opens_early (g.B.Board.words c.args.board.now) (g.B.Board.tells c.open.new.board) c.in_err-node.field-0.0 ((e.left_alone told place bad).read) e.worn_image told place bad)

pub returns-in_err-node-clause-worn_where : goal.returns-in_err-node-clause-worn_where
returns-in_err-node-clause-worn_where g c = λ told used.
    let e = c.in_err-node.ensures in
    on_result c.from_residual.result (stop_of c.in_err-node.field-0.0) c.from_residual.ensures.1 (λ r. StopsWorn r)
    (opens_worn (g.B.Board.words c.args.board.now) (g.B.Board.tells c.open.new.board) c.in_err-node.field-0.0 e.fault e.foreign told used)

pub returns-in_err-node-clause-worn : goal.returns-in_err-node-clause-worn
returns-in_err-node-clause-worn g c =
    on_stop c.from_residual.result (stop_of c.in_err-node.field-0.0) c.from_residual.ensures.1 (λ why. OnWorn why _) (worn_stop c.in_err-node.field-0.0 _ _ (λ count worn. (worn.1, worn.2)) c.in_err-node.ensures.worn)

pub returns-in_err-node-clause-worn_only : goal.returns-in_err-node-clause-worn_only
returns-in_err-node-clause-worn_only g c =
    on_stop c.from_residual.result (stop_of c.in_err-node.field-0.0) c.from_residual.ensures.1
    (λ why. OnWorn why (g.B.Board.has_lists c.args.board.now [] [] → HasToVoid g.B.Board (g.B.Board.words c.args.board.now) c.open.new.board))
    (worn_stop c.in_err-node.field-0.0 _ _ (λ count void begun. void_opened g.B.Board (g.B.Board.words c.args.board.now) c.open.new.board void) c.in_err-node.ensures.worn_where)

pub returns-in_err-node-clause-foreign_idle : goal.returns-in_err-node-clause-foreign_idle
returns-in_err-node-clause-foreign_idle g c =
    on_stop c.from_residual.result (stop_of c.in_err-node.field-0.0) c.from_residual.ensures.1 (λ why. OnForeign why _) (foreign_stop c.in_err-node.field-0.0 _ c.in_err-node.ensures.foreign_idle)

pub returns-in_err-node-clause-memory : goal.returns-in_err-node-clause-memory
returns-in_err-node-clause-memory g c =
    on_stop c.from_residual.result (stop_of c.in_err-node.field-0.0) c.from_residual.ensures.1 (λ why. OnMemory why _) (memory_stop c.in_err-node.field-0.0 _ c.in_err-node.ensures.memory)

pub returns-in_err-node-clause-stops : goal.returns-in_err-node-clause-stops
returns-in_err-node-clause-stops g c =
    on_stop c.from_residual.result (stop_of c.in_err-node.field-0.0) c.from_residual.ensures.1 IsServeStop (serve_stop c.in_err-node.field-0.0)

pub returns-in_err-node-clause-cause : goal.returns-in_err-node-clause-cause
returns-in_err-node-clause-cause g c =
    let before = g.B.Board.faults c.args.board.now in
    caused c.from_residual.result (stop_of c.in_err-node.field-0.0) c.from_residual.ensures.1 before (g.B.Board.faults c.open.new.board)
    (node_cause c.in_err-node.field-0.0 before (g.B.Board.faults c.open.new.board) c.in_err-node.ensures.counts)

pub returns-in_err-end-clause-losses : goal.returns-in_err-end-clause-losses
returns-in_err-end-clause-losses g c = λ b stands.
    let o = c.in_ok-node.ensures in
    let budget = budget_of (g.B.Board.sector_bytes c.args.board.now) in
    let same : c.in_ok-node.node.budget ≡ budget = o.fits.budget ∙ ap budget_of o.geometry in
    open_then g.B.Board budget b c.args.board.now c.open.new.board (o.losses b stands) o.here c.serve_events.new.board
    (subst (λ (n : ℕ). Passes g.B.Board c.open.new.board c.serve_events.new.board (IsSafe n b [] []) (IsSafe n b [] [])) same (c.in_err-end.ensures.losses b [] [] 0 (λ t. o.stands t b (stands (o.told t)))))

pub returns-in_err-end-clause-completes : goal.returns-in_err-end-clause-completes
returns-in_err-end-clause-completes g c = λ done.
    absurd (not_done c.in_err-end.field-0.0 c.in_err-end.ensures.stops (subst (λ (r : Result Served Stop). IsDone r) (stopped_by c.from_residual-in_err-end.result c.in_err-end.field-0.0 c.from_residual-in_err-end.ensures.1) done))

pub returns-in_err-end-clause-foreign : goal.returns-in_err-end-clause-foreign
returns-in_err-end-clause-foreign g c = λ told.
    let words = g.B.Board.words c.args.board.now in
    on_stop c.from_residual-in_err-end.result c.in_err-end.field-0.0 c.from_residual-in_err-end.ensures.1 (IsFirst words) (event_first c.in_err-end.field-0.0 words c.in_err-end.ensures.stops)

pub returns-in_err-end-clause-worn : goal.returns-in_err-end-clause-worn
returns-in_err-end-clause-worn g c = on_stop c.from_residual-in_err-end.result c.in_err-end.field-0.0 c.from_residual-in_err-end.ensures.1 (λ why. OnWorn why _) c.in_err-end.ensures.worn

pub returns-in_err-end-clause-worn_only : goal.returns-in_err-end-clause-worn_only
returns-in_err-end-clause-worn_only g c =
    let o = c.in_ok-node.ensures in
    on_stop c.from_residual-in_err-end.result c.in_err-end.field-0.0 c.from_residual-in_err-end.ensures.1
    (λ why. OnWorn why (g.B.Board.has_lists c.args.board.now [] [] → HasToVoid g.B.Board (g.B.Board.words c.args.board.now) c.serve_events.new.board))
    (worn_map c.in_err-end.field-0.0 _ _ (λ next begun. void_served g.B.Board (g.B.Board.words c.args.board.now) c.in_ok-node.node c.open.new.board c.serve_events.new.board c.in_err-end.ensures.told o.not_foreign o.stands (o.lists [] [] begun) o.unarmed next)
    (c.in_err-end.ensures.worn_next o.alone))

pub returns-in_err-end-clause-worn_where : goal.returns-in_err-end-clause-worn_where
returns-in_err-end-clause-worn_where g c = λ told used.
    absurd (c.in_ok-node.ensures.used_up (c.serve_events.ensures.told told) used.reading used.reads used.due used.count)

pub returns-in_err-end-clause-foreign_idle : goal.returns-in_err-end-clause-foreign_idle
returns-in_err-end-clause-foreign_idle g c =
    on_stop c.from_residual-in_err-end.result c.in_err-end.field-0.0 c.from_residual-in_err-end.ensures.1 (λ why. OnForeign why _) (event_foreign c.in_err-end.field-0.0 _ c.in_err-end.ensures.stops)

pub returns-in_err-end-clause-memory : goal.returns-in_err-end-clause-memory
returns-in_err-end-clause-memory g c =
    on_stop c.from_residual-in_err-end.result c.in_err-end.field-0.0 c.from_residual-in_err-end.ensures.1 (λ why. OnMemory why _) (event_memory c.in_err-end.field-0.0 _ c.in_err-end.ensures.stops)

pub returns-in_err-end-clause-stops : goal.returns-in_err-end-clause-stops
returns-in_err-end-clause-stops g c = on_stop c.from_residual-in_err-end.result c.in_err-end.field-0.0 c.from_residual-in_err-end.ensures.1 IsServeStop (serve_event c.in_err-end.field-0.0 c.in_err-end.ensures.stops)

pub returns-in_err-end-clause-cause : goal.returns-in_err-end-clause-cause
returns-in_err-end-clause-cause g c =
    let before = g.B.Board.faults c.args.board.now in
    let mid = g.B.Board.faults c.open.new.board in
    let now = g.B.Board.faults c.serve_events.new.board in
    caused c.from_residual-in_err-end.result c.in_err-end.field-0.0 c.from_residual-in_err-end.ensures.1 before now
    (cause_later c.in_err-end.field-0.0 before mid now c.in_ok-node.ensures.counts c.in_err-end.ensures.cause)

pub returns-in_err-end-clause-foreign_where : goal.returns-in_err-end-clause-foreign_where
returns-in_err-end-clause-foreign_where g c = λ told place bad.
    absurd (never_both (g.B.Board.words c.args.board.now) place (c.in_ok-node.ensures.not_foreign (c.serve_events.ensures.told told)) bad)

pub returns-in_err-close-clause-losses : goal.returns-in_err-close-clause-losses
returns-in_err-close-clause-losses g c = λ b stands.
    let o = c.in_ok-node.ensures in
    let budget = budget_of (g.B.Board.sector_bytes c.args.board.now) in
    let same : c.in_ok-node.node.budget ≡ budget = o.fits.budget ∙ ap budget_of o.geometry in
    let p = finished_at g.B.Board c.in_ok-node.node.budget budget same c.in_ok-node.node c.open.new.board c.serve_events.new.node c.serve_events.new.board c.args.turns c.in_ok-end.end c.in_ok-end.ensures.finished in
    let begins = λ (t : g.B.Board.tells c.open.new.board). o.stands t b (stands (o.told t)) in
    open_closed g.B.Board budget b c.args.board.now c.open.new.board (o.losses b stands) o.here c.serve_events.new.board c.close.new.board p.events p.frames (0 + length p.events)
    (p.progress.losses b [] [] 0 begins) (losses_at g.B.Board budget c.serve_events.new.node.budget (c.in_ok-end.ensures.budget ∙ same) c.serve_events.new.node c.serve_events.new.board c.close.new.board (λ k. k) c.close.ensures.losses b p.events p.frames (0 + length p.events) (λ t. p.progress.stands b [] [] 0 (begins (p.progress.told t))))

pub returns-in_err-close-clause-completes : goal.returns-in_err-close-clause-completes
returns-in_err-close-clause-completes g c = λ done.
    absurd (not_done (stop_of c.in_err-close.field-0.0) (event_stop c.in_err-close.field-0.0 c.in_err-close.ensures.never_memory c.in_err-close.ensures.never_foreign)
    (subst (λ (r : Result Served Stop). IsDone r) (stopped_by c.from_residual-in_err-close.result (stop_of c.in_err-close.field-0.0) c.from_residual-in_err-close.ensures.1) done))

pub returns-in_err-close-clause-foreign : goal.returns-in_err-close-clause-foreign
returns-in_err-close-clause-foreign g c = λ told.
    let words = g.B.Board.words c.args.board.now in
    on_stop c.from_residual-in_err-close.result (stop_of c.in_err-close.field-0.0) c.from_residual-in_err-close.ensures.1 (IsFirst words) (event_first (stop_of c.in_err-close.field-0.0) words (event_stop c.in_err-close.field-0.0 c.in_err-close.ensures.never_memory c.in_err-close.ensures.never_foreign))

pub returns-in_err-close-clause-worn : goal.returns-in_err-close-clause-worn
returns-in_err-close-clause-worn g c =
    on_stop c.from_residual-in_err-close.result (stop_of c.in_err-close.field-0.0) c.from_residual-in_err-close.ensures.1 (λ why. OnWorn why _) (worn_stop c.in_err-close.field-0.0 _ _ (λ count worn. (worn.1, worn.2)) c.in_err-close.ensures.worn)

pub returns-in_err-close-clause-worn_only : goal.returns-in_err-close-clause-worn_only
returns-in_err-close-clause-worn_only g c =
    on_stop c.from_residual-in_err-close.result (stop_of c.in_err-close.field-0.0) c.from_residual-in_err-close.ensures.1
    (λ why. OnWorn why (g.B.Board.has_lists c.args.board.now [] [] → HasToVoid g.B.Board (g.B.Board.words c.args.board.now) c.close.new.board))
    (worn_stop c.in_err-close.field-0.0 _ _ (λ count next begun. inr (inl (next (c.in_ok-end.ensures.alone c.in_ok-node.ensures.alone)))) c.in_err-close.ensures.worn_next)

pub returns-in_err-close-clause-worn_where : goal.returns-in_err-close-clause-worn_where
returns-in_err-close-clause-worn_where g c = λ told used.
    absurd (c.in_ok-node.ensures.used_up (c.in_ok-end.ensures.told (c.close.ensures.told told)) used.reading used.reads used.due used.count)

pub returns-in_err-close-clause-foreign_idle : goal.returns-in_err-close-clause-foreign_idle
returns-in_err-close-clause-foreign_idle g c =
    on_stop c.from_residual-in_err-close.result (stop_of c.in_err-close.field-0.0) c.from_residual-in_err-close.ensures.1 (λ why. OnForeign why _) (event_foreign (stop_of c.in_err-close.field-0.0) _ (event_stop c.in_err-close.field-0.0 c.in_err-close.ensures.never_memory c.in_err-close.ensures.never_foreign))

pub returns-in_err-close-clause-memory : goal.returns-in_err-close-clause-memory
returns-in_err-close-clause-memory g c =
    on_stop c.from_residual-in_err-close.result (stop_of c.in_err-close.field-0.0) c.from_residual-in_err-close.ensures.1 (λ why. OnMemory why _) (event_memory (stop_of c.in_err-close.field-0.0) _ (event_stop c.in_err-close.field-0.0 c.in_err-close.ensures.never_memory c.in_err-close.ensures.never_foreign))

pub returns-in_err-close-clause-stops : goal.returns-in_err-close-clause-stops
returns-in_err-close-clause-stops g c = on_stop c.from_residual-in_err-close.result (stop_of c.in_err-close.field-0.0) c.from_residual-in_err-close.ensures.1 IsServeStop (serve_stop c.in_err-close.field-0.0)

pub returns-in_err-close-clause-cause : goal.returns-in_err-close-clause-cause
returns-in_err-close-clause-cause g c =
    let before = g.B.Board.faults c.args.board.now in
    let mid = g.B.Board.faults c.serve_events.new.board in
    let now = g.B.Board.faults c.close.new.board in
    let e = c.in_err-close.field-0.0 in
    caused c.from_residual-in_err-close.result (stop_of e) c.from_residual-in_err-close.ensures.1 before now
    (cause_later (stop_of e) before mid now (c.in_ok-end.ensures.cause ∙ c.in_ok-node.ensures.counts) (node_cause e mid now c.in_err-close.ensures.counts))

pub returns-in_err-close-clause-foreign_where : goal.returns-in_err-close-clause-foreign_where
returns-in_err-close-clause-foreign_where g c = λ told place bad.
    absurd (never_both (g.B.Board.words c.args.board.now) place (c.in_ok-node.ensures.not_foreign (c.in_ok-end.ensures.told (c.close.ensures.told told))) bad)

pub returns-in-Some-clause-losses : goal.returns-in-Some-clause-losses
returns-in-Some-clause-losses g c = λ b stands.
    let o = c.in_ok-node.ensures in
    let budget = budget_of (g.B.Board.sector_bytes c.args.board.now) in
    let same : c.in_ok-node.node.budget ≡ budget = o.fits.budget ∙ ap budget_of o.geometry in
    let p = finished_at g.B.Board c.in_ok-node.node.budget budget same c.in_ok-node.node c.open.new.board c.serve_events.new.node c.serve_events.new.board c.args.turns c.in_ok-end.end c.in_ok-end.ensures.finished in
    let begins = λ (t : g.B.Board.tells c.open.new.board). o.stands t b (stands (o.told t)) in
    open_closed g.B.Board budget b c.args.board.now c.open.new.board (o.losses b stands) o.here c.serve_events.new.board c.close.new.board p.events p.frames (0 + length p.events)
    (p.progress.losses b [] [] 0 begins) (losses_at g.B.Board budget c.serve_events.new.node.budget (c.in_ok-end.ensures.budget ∙ same) c.serve_events.new.node c.serve_events.new.board c.close.new.board (λ k. k) c.close.ensures.losses b p.events p.frames (0 + length p.events) (λ t. p.progress.stands b [] [] 0 (begins (p.progress.told t))))

pub returns-in-Some-clause-completes : goal.returns-in-Some-clause-completes
returns-in-Some-clause-completes g c = λ _.
    let o = c.in_ok-node.ensures in
    let budget = budget_of (g.B.Board.sector_bytes c.args.board.now) in
    let same : c.in_ok-node.node.budget ≡ budget = o.fits.budget ∙ ap budget_of o.geometry in
    completes_end g.B.Board budget c.args.board.now c.open.new.board c.serve_events.new.board c.close.new.board c.in_ok-node.node c.serve_events.new.node c.args.turns (c.in_ok-end.ensures.budget ∙ same)
    c.in_ok-close.ensures.told o.lists o.stands o.not_foreign o.unarmed o.unworn c.in_ok-close.ensures.lists c.in_ok-close.ensures.done c.in_ok-close.ensures.unworn c.in_ok-end.end
    (finished_at g.B.Board c.in_ok-node.node.budget budget same c.in_ok-node.node c.open.new.board c.serve_events.new.node c.serve_events.new.board c.args.turns c.in_ok-end.end c.in_ok-end.ensures.finished)
    c.in-Some.events c.frames-frames.result c.issued-lines.result c.in-Some.is c.frames-frames.ensures c.issued-lines.ensures

pub returns-in-Some-clause-foreign_where : goal.returns-in-Some-clause-foreign_where
returns-in-Some-clause-foreign_where g c = λ told place bad.
    never_both (g.B.Board.words c.args.board.now) place (c.in_ok-node.ensures.not_foreign (c.in_ok-end.ensures.told (c.in_ok-close.ensures.told told))) bad

pub returns-in-None-clause-losses : goal.returns-in-None-clause-losses
returns-in-None-clause-losses g c = λ b stands.
    let o = c.in_ok-node.ensures in
    let budget = budget_of (g.B.Board.sector_bytes c.args.board.now) in
    let same : c.in_ok-node.node.budget ≡ budget = o.fits.budget ∙ ap budget_of o.geometry in
    let p = finished_at g.B.Board c.in_ok-node.node.budget budget same c.in_ok-node.node c.open.new.board c.serve_events.new.node c.serve_events.new.board c.args.turns c.in_ok-end.end c.in_ok-end.ensures.finished in
    let begins = λ (t : g.B.Board.tells c.open.new.board). o.stands t b (stands (o.told t)) in
    open_closed g.B.Board budget b c.args.board.now c.open.new.board (o.losses b stands) o.here c.serve_events.new.board c.close.new.board p.events p.frames (0 + length p.events)
    (p.progress.losses b [] [] 0 begins) (losses_at g.B.Board budget c.serve_events.new.node.budget (c.in_ok-end.ensures.budget ∙ same) c.serve_events.new.node c.serve_events.new.board c.close.new.board (λ k. k) c.close.ensures.losses b p.events p.frames (0 + length p.events) (λ t. p.progress.stands b [] [] 0 (begins (p.progress.told t))))

pub returns-in-None-clause-completes : goal.returns-in-None-clause-completes
returns-in-None-clause-completes g c = λ _.
    let o = c.in_ok-node.ensures in
    let budget = budget_of (g.B.Board.sector_bytes c.args.board.now) in
    let same : c.in_ok-node.node.budget ≡ budget = o.fits.budget ∙ ap budget_of o.geometry in
    completes_turns g.B.Board budget c.args.board.now c.open.new.board c.serve_events.new.board c.close.new.board c.in_ok-node.node c.serve_events.new.node c.args.turns (c.in_ok-end.ensures.budget ∙ same)
    c.in_ok-close.ensures.told o.lists o.stands o.not_foreign o.unarmed o.unworn c.in_ok-close.ensures.lists c.in_ok-close.ensures.done c.in_ok-close.ensures.unworn c.in_ok-end.end
    (finished_at g.B.Board c.in_ok-node.node.budget budget same c.in_ok-node.node c.open.new.board c.serve_events.new.node c.serve_events.new.board c.args.turns c.in_ok-end.end c.in_ok-end.ensures.finished)
    c.in-None.is

pub returns-in-None-clause-foreign_where : goal.returns-in-None-clause-foreign_where
returns-in-None-clause-foreign_where g c = λ told place bad.
    never_both (g.B.Board.words c.args.board.now) place (c.in_ok-node.ensures.not_foreign (c.in_ok-end.ensures.told (c.in_ok-close.ensures.told told))) bad

pub returns-in_err-node-clause-left_alone : goal.returns-in_err-node-clause-left_alone
returns-in_err-node-clause-left_alone g c = λ told place bad.
    let left = c.in_err-node.ensures.left_alone told place bad in record { moment = left.moment; words = left.words }

pub returns-in_err-end-clause-left_alone : goal.returns-in_err-end-clause-left_alone
returns-in_err-end-clause-left_alone g c = λ told place bad.
    absurd (never_both (g.B.Board.words c.args.board.now) place (c.in_ok-node.ensures.not_foreign (c.serve_events.ensures.told told)) bad)

pub returns-in_err-close-clause-left_alone : goal.returns-in_err-close-clause-left_alone
returns-in_err-close-clause-left_alone g c = λ told place bad.
    absurd (never_both (g.B.Board.words c.args.board.now) place (c.in_ok-node.ensures.not_foreign (c.in_ok-end.ensures.told (c.close.ensures.told told))) bad)

pub returns-in-Some-clause-left_alone : goal.returns-in-Some-clause-left_alone
returns-in-Some-clause-left_alone g c = λ told place bad.
    absurd (never_both (g.B.Board.words c.args.board.now) place (c.in_ok-node.ensures.not_foreign (c.in_ok-end.ensures.told (c.in_ok-close.ensures.told told))) bad)

pub returns-in-None-clause-left_alone : goal.returns-in-None-clause-left_alone
returns-in-None-clause-left_alone g c = λ told place bad.
    absurd (never_both (g.B.Board.words c.args.board.now) place (c.in_ok-node.ensures.not_foreign (c.in_ok-end.ensures.told (c.in_ok-close.ensures.told told))) bad)

pub returns-in_err-node-clause-worn_lines : goal.returns-in_err-node-clause-worn_lines
returns-in_err-node-clause-worn_lines g c =
    let words = g.B.Board.words c.args.board.now in
    let budget = budget_of (g.B.Board.sector_bytes c.args.board.now) in
    on_stop c.from_residual.result (stop_of c.in_err-node.field-0.0) c.from_residual.ensures.1
    (λ why. OnWorn why (WearsFrom g.B.Board budget words (g.B.Board.has_lists c.args.board.now [] []) c.open.new.board))
    (worn_stop c.in_err-node.field-0.0 _ _ (λ n wears. wears_opened g.B.Board budget words c.args.board.now c.open.new.board c.in_err-node.ensures.lists wears) c.in_err-node.ensures.worn_lines)

pub returns-in_err-end-clause-worn_lines : goal.returns-in_err-end-clause-worn_lines
returns-in_err-end-clause-worn_lines g c =
    let o = c.in_ok-node.ensures in
    let words = g.B.Board.words c.args.board.now in
    let budget = budget_of (g.B.Board.sector_bytes c.args.board.now) in
    on_stop c.from_residual-in_err-end.result c.in_err-end.field-0.0 c.from_residual-in_err-end.ensures.1
    (λ why. OnWorn why (WearsFrom g.B.Board budget words (g.B.Board.has_lists c.args.board.now [] []) c.serve_events.new.board))
    (worn_map c.in_err-end.field-0.0 _ _ (λ wears.
    wears_served g.B.Board budget words c.args.board.now c.open.new.board c.in_ok-node.node o.lists o.within (o.fits.budget ∙ ap budget_of o.geometry) c.serve_events.new.board c.in_err-end.ensures.told wears)
    c.in_err-end.ensures.worn_lines)

pub returns-in_err-close-clause-worn_lines : goal.returns-in_err-close-clause-worn_lines
returns-in_err-close-clause-worn_lines g c =
    let o = c.in_ok-node.ensures in
    let words = g.B.Board.words c.args.board.now in
    let budget = budget_of (g.B.Board.sector_bytes c.args.board.now) in
    let same : c.in_ok-node.node.budget ≡ budget = o.fits.budget ∙ ap budget_of o.geometry in
    on_stop c.from_residual-in_err-close.result (stop_of c.in_err-close.field-0.0) c.from_residual-in_err-close.ensures.1
    (λ why. OnWorn why (WearsFrom g.B.Board budget words (g.B.Board.has_lists c.args.board.now [] []) c.close.new.board))
    (worn_stop c.in_err-close.field-0.0 _ _ (λ n wears.
    wears_closed g.B.Board budget words c.args.board.now c.open.new.board c.in_ok-node.node o.lists o.within c.serve_events.new.board c.close.new.board c.serve_events.new.node c.args.turns c.in_ok-end.end
    (finished_at g.B.Board c.in_ok-node.node.budget budget same c.in_ok-node.node c.open.new.board c.serve_events.new.node c.serve_events.new.board c.args.turns c.in_ok-end.end c.in_ok-end.ensures.finished)
    (c.in_ok-end.ensures.budget ∙ same) c.in_err-close.ensures.told c.in_err-close.ensures.lists wears) c.in_err-close.ensures.worn_lines)

pub returns-in-Some-clause-cause : goal.returns-in-Some-clause-cause
returns-in-Some-clause-cause g c = c.in_ok-close.ensures.counts ∙ c.in_ok-end.ensures.cause ∙ c.in_ok-node.ensures.counts

pub returns-in-None-clause-cause : goal.returns-in-None-clause-cause
returns-in-None-clause-cause g c = c.in_ok-close.ensures.counts ∙ c.in_ok-end.ensures.cause ∙ c.in_ok-node.ensures.counts
