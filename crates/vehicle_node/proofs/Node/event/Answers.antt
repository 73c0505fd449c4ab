use Rattle.std.proofs.Common.{◌⊎◌, inl, inr, ◌+◌, arith}
use Rattle.flash_traits.specs.Losses.{received}
use Rattle.dirty_lines.specs.Losses.{IsWornForNext}
use Rattle.vehicle_runs.specs.Safe.{SafeSince}
use Rattle.vehicle_node.specs.Standing.{Finished, IsAloneUnlessArmed, WasArmed, armed_in}
use Rattle.vehicle_node.specs.Guard.{WearsIn}
use Rattle.vehicle_node.specs.Refusals.{OnWorn}
use Rattle.vehicle_node.specs.Steps.Calls.{IsWornWhere}
use Rattle.vehicle_node.specs.Steps.Hearing.{ArmedTaking, WearingTaking}
use Rattle.vehicle_node.proofs.Fitting.{fits_kept, fits_room, fits_flushed, flag_is}
use Rattle.vehicle_node.proofs.Finishing.{received_in_range, failed_leaves, taken_leaves, flushed_leaves, leaves_safe, leaves_rising, done_losses, event_finished, alone_at_end, flushed_worn, was_armed, wears_in, passes_err, cut_none, cut_some}
use Rattle.vehicle_node.proofs.UsedUp.{event_waits, stays_armed}
use Rattle.vehicle_node.proofs.Passing.{on_err, error_at, worn_more, lists_then}
use Rattle.vehicle_node.proofs.Node.event.Goals as goal

pub returns-in-Err-clause-losses : goal.returns-in-Err-clause-losses
returns-in-Err-clause-losses g c = leaves_safe g.B.Board g.met.B.Board.reads c.args.self.now c.args.board.now c.recv.new.self
    (failed_leaves g.B.Board g.met.B.Board.reads c.args.self.now c.args.board.now c.requires.fits.store c.recv.new.self c.in-Err.ensures.time)

pub returns-in-Err-clause-guard : goal.returns-in-Err-clause-guard
returns-in-Err-clause-guard g c = leaves_rising g.B.Board g.met.B.Board.reads c.args.self.now c.args.board.now c.recv.new.self
    (failed_leaves g.B.Board g.met.B.Board.reads c.args.self.now c.args.board.now c.requires.fits.store c.recv.new.self c.in-Err.ensures.time)

pub returns-in-Err-clause-cut_lists : goal.returns-in-Err-clause-cut_lists
returns-in-Err-clause-cut_lists g c = cut_none g.B.Board c.args.board.now c.recv.new.self c.in-Err.ensures.lists

pub returns-in_err-answer_event-clause-losses : goal.returns-in_err-answer_event-clause-losses
returns-in_err-answer_event-clause-losses g c = λ b events sent m stands.
    let got = received c.in-Ok.event c.recv.new.into in
    let in_range = received_in_range c.in-Ok.event c.recv.new.into c.in-Ok.ensures.bounds in
    passes_err g.B.Board c.args.board.now c.answer_event.new.board c.from_residual.result (SafeSince c.args.self.now.budget b events sent m) (SafeSince c.args.self.now.budget b events sent (m + 1)) c.from_residual.ensures.0
    (leaves_safe g.B.Board g.met.B.Board.reads c.args.self.now c.args.board.now c.answer_event.new.board
    (taken_leaves g.B.Board g.met.B.Board.reads c.args.self.now c.args.board.now c.requires.fits.store c.frames_are_read.ensures got in_range c.recv.new.self c.in-Ok.ensures.time
    c.answer_event.result c.answer_event.new.self c.answer_event.new.board c.answer_event.ensures.done) b events sent m stands)

pub returns-in_err-answer_event-clause-guard : goal.returns-in_err-answer_event-clause-guard
returns-in_err-answer_event-clause-guard g c =
    let got = received c.in-Ok.event c.recv.new.into in
    let in_range = received_in_range c.in-Ok.event c.recv.new.into c.in-Ok.ensures.bounds in
    leaves_rising g.B.Board g.met.B.Board.reads c.args.self.now c.args.board.now c.answer_event.new.board
    (taken_leaves g.B.Board g.met.B.Board.reads c.args.self.now c.args.board.now c.requires.fits.store c.frames_are_read.ensures got in_range c.recv.new.self c.in-Ok.ensures.time
    c.answer_event.result c.answer_event.new.self c.answer_event.new.board c.answer_event.ensures.done)

pub returns-in_err-answer_event-clause-cut_lists : goal.returns-in_err-answer_event-clause-cut_lists
returns-in_err-answer_event-clause-cut_lists g c =
    let got = received c.in-Ok.event c.recv.new.into in
    on_err c.from_residual.result _ (cut_some g.B.Board got c.args.board.now c.recv.new.self c.answer_event.new.board c.in-Ok.ensures.lists c.answer_event.ensures.done.lists)

pub returns-in_err-flush-clause-losses : goal.returns-in_err-flush-clause-losses
returns-in_err-flush-clause-losses g c = λ b events sent m stands.
    let got = received c.in-Ok.event c.recv.new.into in
    let in_range = received_in_range c.in-Ok.event c.recv.new.into c.in-Ok.ensures.bounds in
    passes_err g.B.Board c.args.board.now c.flush.new.board c.from_residual-in_err-flush.result (SafeSince c.args.self.now.budget b events sent m) (SafeSince c.args.self.now.budget b events sent (m + 1)) c.from_residual-in_err-flush.ensures.0
    (leaves_safe g.B.Board g.met.B.Board.reads c.args.self.now c.args.board.now c.flush.new.board
    (flushed_leaves g.B.Board g.met.B.Board.reads c.args.self.now c.args.board.now c.requires.fits.store c.frames_are_read.ensures got in_range c.recv.new.self c.in-Ok.ensures.time
    c.answer_event.new.self c.answer_event.new.board c.in_ok-answer_event.ensures.done _ c.armed-armed.result c.flush.result c.flush.new.self c.flush.new.board c.flush.ensures.done) b events sent m stands)

pub returns-in_err-flush-clause-guard : goal.returns-in_err-flush-clause-guard
returns-in_err-flush-clause-guard g c =
    let got = received c.in-Ok.event c.recv.new.into in
    let in_range = received_in_range c.in-Ok.event c.recv.new.into c.in-Ok.ensures.bounds in
    leaves_rising g.B.Board g.met.B.Board.reads c.args.self.now c.args.board.now c.flush.new.board
    (flushed_leaves g.B.Board g.met.B.Board.reads c.args.self.now c.args.board.now c.requires.fits.store c.frames_are_read.ensures got in_range c.recv.new.self c.in-Ok.ensures.time
    c.answer_event.new.self c.answer_event.new.board c.in_ok-answer_event.ensures.done _ c.armed-armed.result c.flush.result c.flush.new.self c.flush.new.board c.flush.ensures.done)

pub returns-in_err-flush-clause-cut_lists : goal.returns-in_err-flush-clause-cut_lists
returns-in_err-flush-clause-cut_lists g c =
    let got = received c.in-Ok.event c.recv.new.into in
    let last = c.flush.new.board in
    on_err c.from_residual-in_err-flush.result _ (cut_some g.B.Board got c.args.board.now c.recv.new.self last c.in-Ok.ensures.lists
    (lists_then g.B.Board c.recv.new.self c.answer_event.new.board last c.in_ok-answer_event.ensures.done.lists c.flush.ensures.done.lists))

pub returns-clause-losses : goal.returns-clause-losses
returns-clause-losses g c =
    let got = received c.in-Ok.event c.recv.new.into in
    let in_range = received_in_range c.in-Ok.event c.recv.new.into c.in-Ok.ensures.bounds in
    done_losses g.B.Board g.met.B.Board.reads c.args.self.now c.args.board.now c.requires.fits.store c.frames_are_read.ensures got in_range c.recv.new.self c.in-Ok.ensures.time
    c.answer_event.new.self c.answer_event.new.board c.in_ok-answer_event.ensures.done 8 c.armed-armed.result (omega arith) c.flush.new.self c.flush.new.board c.in_ok-flush.ensures.done c.in_ok-flush.ensures.fits

pub returns-clause-guard : goal.returns-clause-guard
returns-clause-guard g c =
    let got = received c.in-Ok.event c.recv.new.into in
    let in_range = received_in_range c.in-Ok.event c.recv.new.into c.in-Ok.ensures.bounds in
    leaves_rising g.B.Board g.met.B.Board.reads c.args.self.now c.args.board.now c.flush.new.board
    (flushed_leaves g.B.Board g.met.B.Board.reads c.args.self.now c.args.board.now c.requires.fits.store c.frames_are_read.ensures got in_range c.recv.new.self c.in-Ok.ensures.time
    c.answer_event.new.self c.answer_event.new.board c.in_ok-answer_event.ensures.done _ c.armed-armed.result c.flush.result c.flush.new.self c.flush.new.board c.flush.ensures.done)

pub returns-clause-finished : goal.returns-clause-finished
returns-clause-finished g c =
    let got = received c.in-Ok.event c.recv.new.into in
    let in_range = received_in_range c.in-Ok.event c.recv.new.into c.in-Ok.ensures.bounds in
    event_finished g.B.Board g.met.B.Board.reads c.args.self.now c.args.board.now c.requires.fits.store c.frames_are_read.ensures got in_range c.recv.new.self c.in-Ok.ensures.time
    c.answer_event.new.self c.answer_event.new.board c.in_ok-answer_event.ensures.done 8 c.armed-armed.result (omega arith) c.flush.new.self c.flush.new.board c.in_ok-flush.ensures.done (omega arith) (flag_is c.self.inside c.answer_event.new.self c.armed-armed.result c.self.view_is c.armed-armed.ensures)
    c.in-Ok.ensures.lists c.recv.ensures.moment c.turn_of.result (c.turn_of.ensures c.recv.new.into)

pub answer_event-requires-clause-fits : goal.answer_event-requires-clause-fits
answer_event-requires-clause-fits g c = fits_kept g.B.Board c.args.board.now c.recv.new.self c.args.self.now c.recv.ensures.words c.requires.fits

pub flush-requires-clause-fits : goal.flush-requires-clause-fits
flush-requires-clause-fits g c = c.in_ok-answer_event.ensures.fits.store

pub flush-requires-clause-room : goal.flush-requires-clause-room
flush-requires-clause-room g c =
    fits_room g.B.Board c.answer_event.new.board c.answer_event.new.self c.armed-armed.result c.in_ok-answer_event.ensures.fits (flag_is c.self.inside c.answer_event.new.self c.armed-armed.result c.self.view_is c.armed-armed.ensures)

pub returns-clause-fits : goal.returns-clause-fits
returns-clause-fits g c =
    fits_flushed g.B.Board c.answer_event.new.board c.flush.new.board _ c.armed-armed.result c.answer_event.new.self c.flush.new.self c.in_ok-answer_event.ensures.fits
    (flag_is c.self.inside c.answer_event.new.self c.armed-armed.result c.self.view_is c.armed-armed.ensures) c.in_ok-flush.ensures.done c.in_ok-flush.ensures.fits c.in_ok-flush.ensures.keeps.geometry

pub returns-clause-alone : goal.returns-clause-alone
returns-clause-alone g c =
    let got = received c.in-Ok.event c.recv.new.into in
    let in_range = received_in_range c.in-Ok.event c.recv.new.into c.in-Ok.ensures.bounds in
    alone_at_end g.B.Board g.met.B.Board.reads c.args.self.now c.args.board.now c.requires.fits.store c.frames_are_read.ensures got in_range c.recv.new.self c.in-Ok.ensures.time
    c.answer_event.new.self c.answer_event.new.board c.in_ok-answer_event.ensures.done 8 c.armed-armed.result (flag_is c.self.inside c.answer_event.new.self c.armed-armed.result c.self.view_is c.armed-armed.ensures)
    c.flush.new.self c.flush.new.board c.in_ok-flush.ensures.done

pub returns-in_err-answer_event-clause-worn_next : goal.returns-in_err-answer_event-clause-worn_next
returns-in_err-answer_event-clause-worn_next g c =
    let b = g.B.Board in
    let old = c.args.self.now in
    let got = received c.in-Ok.event c.recv.new.into in
    let last = c.answer_event.new.board in
    let e = c.in_err-answer_event.field-0.0 in
    let next : Type 0 = IsAloneUnlessArmed old → IsWornForNext b last c.answer_event.new.self.lines ⊎ WasArmed b old c.args.board.now last in
    error_at c.from_residual.result e (λ e. OnWorn e (λ n. next)) c.from_residual.ensures.1
    (worn_more e (IsWornWhere b old (ArmedTaking got old) (WearingTaking got old) c.answer_event.new.self last) next
    (λ w unless. elim (w.next unless) [
      | inl lacks ↦ inl lacks
      | inr x ↦ inr (was_armed b old got c.args.board.now c.recv.new.self last c.in-Ok.ensures.lists c.in_err-answer_event.ensures.done.lists x)
    ]) c.in_err-answer_event.ensures.done.stopped)

pub returns-in_err-answer_event-clause-worn_lines : goal.returns-in_err-answer_event-clause-worn_lines
returns-in_err-answer_event-clause-worn_lines g c =
    let b = g.B.Board in
    let old = c.args.self.now in
    let got = received c.in-Ok.event c.recv.new.into in
    let last = c.answer_event.new.board in
    let e = c.in_err-answer_event.field-0.0 in
    error_at c.from_residual.result e (λ e. OnWorn e (λ n. WearsIn b old c.args.board.now last)) c.from_residual.ensures.1
    (worn_more e (IsWornWhere b old (ArmedTaking got old) (WearingTaking got old) c.answer_event.new.self last) (WearsIn b old c.args.board.now last)
    (λ w. wears_in b old got c.args.board.now c.recv.new.self last c.in-Ok.ensures.lists c.in_err-answer_event.ensures.done.lists w.lines) c.in_err-answer_event.ensures.done.stopped)

pub returns-in_err-flush-clause-worn_next : goal.returns-in_err-flush-clause-worn_next
returns-in_err-flush-clause-worn_next g c =
    let b = g.B.Board in
    let old = c.args.self.now in
    let got = received c.in-Ok.event c.recv.new.into in
    let in_range = received_in_range c.in-Ok.event c.recv.new.into c.in-Ok.ensures.bounds in
    let last = c.flush.new.board in
    let e = c.in_err-flush.field-0.0 in
    let P : Type 0 = WasArmed b old c.args.board.now last in
    let next : Type 0 = IsAloneUnlessArmed old → IsWornForNext b last c.flush.new.self.lines ⊎ P in
    error_at c.from_residual-in_err-flush.result e (λ e. OnWorn e (λ n. next)) c.from_residual-in_err-flush.ensures.1
    (worn_more e (IsWornWhere b old P (WearingTaking got old) c.flush.new.self last) next (λ w. w.next)
    (flushed_worn b g.met.B.Board.reads old c.args.board.now c.requires.fits.store c.frames_are_read.ensures got in_range c.recv.new.self c.in-Ok.ensures.time
    c.answer_event.new.self c.answer_event.new.board c.in_ok-answer_event.ensures.done P c.armed-armed.result
    (flag_is c.self.inside c.answer_event.new.self c.armed-armed.result c.self.view_is c.armed-armed.ensures) c.flush.new.self last e c.in_err-flush.ensures.done.stopped))

pub returns-in_err-flush-clause-worn_lines : goal.returns-in_err-flush-clause-worn_lines
returns-in_err-flush-clause-worn_lines g c =
    let b = g.B.Board in
    let old = c.args.self.now in
    let got = received c.in-Ok.event c.recv.new.into in
    let in_range = received_in_range c.in-Ok.event c.recv.new.into c.in-Ok.ensures.bounds in
    let last = c.flush.new.board in
    let e = c.in_err-flush.field-0.0 in
    let P : Type 0 = WasArmed b old c.args.board.now last in
    error_at c.from_residual-in_err-flush.result e (λ e. OnWorn e (λ n. WearsIn b old c.args.board.now last)) c.from_residual-in_err-flush.ensures.1
    (worn_more e (IsWornWhere b old P (WearingTaking got old) c.flush.new.self last) (WearsIn b old c.args.board.now last)
    (λ w. wears_in b old got c.args.board.now c.recv.new.self last c.in-Ok.ensures.lists
    (lists_then b c.recv.new.self c.answer_event.new.board last c.in_ok-answer_event.ensures.done.lists c.flush.ensures.done.lists) w.lines)
    (flushed_worn b g.met.B.Board.reads old c.args.board.now c.requires.fits.store c.frames_are_read.ensures got in_range c.recv.new.self c.in-Ok.ensures.time
    c.answer_event.new.self c.answer_event.new.board c.in_ok-answer_event.ensures.done P c.armed-armed.result
    (flag_is c.self.inside c.answer_event.new.self c.armed-armed.result c.self.view_is c.armed-armed.ensures) c.flush.new.self last e c.in_err-flush.ensures.done.stopped))

pub returns-clause-used_up : goal.returns-clause-used_up
returns-clause-used_up g c = λ not waits full.
    let old = c.args.self.now in
    let f : Finished g.B.Board old c.args.board.now c.flush.new.self c.flush.new.board c.turn_of.result = returns-clause-finished g c in
    event_waits (armed_in old) f.acts f.issued old.lines c.flush.new.self.lines f.unworn not full waits

pub returns-clause-used_up_spilled : goal.returns-clause-used_up_spilled
returns-clause-used_up_spilled g c = λ armed spilled full.
    let old = c.args.self.now in
    let f : Finished g.B.Board old c.args.board.now c.flush.new.self c.flush.new.board c.turn_of.result = returns-clause-finished g c in
    stays_armed old c.flush.new.self f.acts f.issued f.unworn (returns-clause-alone g c) armed spilled full
