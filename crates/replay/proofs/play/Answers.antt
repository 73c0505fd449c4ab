use Rattle.std.proofs.Common.{[], ◌++◌, ◌+◌, ◌∙◌, refl, length, ap, arith}
use Rattle.std.proofs.lemmas.Result.{err_from_is_err_and}
use Rattle.script_board.specs.Taking.{events_of}
use Rattle.replay.proofs.Steps.{adds_none, adds_then, goes_on_none, goes_on_then, breaks_then}
use Rattle.replay.specs.Breaks.{counted_at, input_counted, output_counted}
use Rattle.replay.proofs.Causes.{ok_otherwise, err_otherwise}
use Rattle.replay.proofs.Uses.{no_cut-append, no_end-append, end-append, waits_then, few_none, few_then, breaks_off_then, end_uses, more_uses}
use Rattle.replay.proofs.play.Goals as goal

pub events-init : goal.events-init
events-init g c = record {
  holds = c.requires.holds;
  fits = c.requires.fits;
  told = λ told. told;
  plays = λ told. ([], [], adds_none (g.P.Player.took c.args.player.now) (g.P.Player.printed c.args.player.now), goes_on_none c.args.node.now, refl, tt, tt, omega arith, few_none _);
  remaining = omega arith;
  unfailed = λ none. none;
  input_counts = refl;
  output_counts = refl;
}

pub returns-in_err-event-clause-plays : goal.returns-in_err-event-clause-plays
returns-in_err-event-clause-plays g c =
    let passed = err_from_is_err_and c.from_residual.result c.from_residual.ensures.1 in
    rw (passed.1, passed.2) (λ told.
    let i = c.events.invariant.plays (c.in_err-event.ensures.told told) in
    let e = c.in_err-event.ensures.plays told in (
      i.0 ++ e.0,
      i.1 ++ e.1,
      length (events_of i.0) + e.2,
      adds_then _ _ _ _ _ _ i.0 e.0 i.1 e.1 i.2 e.3,
      breaks_then g.P.Player.arming c.in_err-event.field-0.0 _ _ i.0 e.0 i.1 e.1 e.2 _ i.3 e.4,
      breaks_off_then i.0 e.0 e.2 _ _ _ i.5 i.6 i.7 c.in_err-event.field-0.0 e.5,
      few_then i.0 e.0 _ _ i.7 i.8 e.6,
    ))

pub returns-in-End-clause-plays : goal.returns-in-End-clause-plays
returns-in-End-clause-plays g c = λ told.
    let i = c.events.invariant.plays (c.in_ok-event.ensures.told told) in
    let e = c.in_ok-event.ensures.plays told in
    let uses = end_uses c.in_ok-event.field-0 e.0 e.2 _ _ c.in-End.is e.5 in (
      i.0 ++ e.0,
      i.1 ++ e.1,
      0,
      adds_then _ _ _ _ _ _ i.0 e.0 i.1 e.1 i.2 e.3,
      (goes_on_then _ _ _ i.0 e.0 i.1 e.1 i.3 e.4.0, e.4.1 ∙ i.4),
      (no_cut-append i.0 e.0 i.5 uses.0, end-append i.0 e.0 i.6 uses.1, uses.2),
      few_then i.0 e.0 _ _ i.7 i.8 e.6,
    )

pub events-preserved : goal.events-preserved
events-preserved g c = record {
  holds = c.in_ok-event.ensures.holds;
  fits = c.in_ok-event.ensures.fits;
  told = λ told. c.events.invariant.told (c.in_ok-event.ensures.told told);
  plays = λ told.
      let i = c.events.invariant.plays (c.in_ok-event.ensures.told told) in
      let e = c.in_ok-event.ensures.plays told in
      let uses = more_uses c.in_ok-event.field-0 e.0 e.2 _ _ c.in-More.is e.5 in (
        i.0 ++ e.0,
        i.1 ++ e.1,
        adds_then _ _ _ _ _ _ i.0 e.0 i.1 e.1 i.2 e.3,
        goes_on_then _ _ _ i.0 e.0 i.1 e.1 i.3 e.4.0,
        e.4.1 ∙ i.4,
        no_cut-append i.0 e.0 i.5 uses.0,
        no_end-append i.0 e.0 i.6 uses.1,
        waits_then i.0 e.0 _ _ _ i.7 uses.2,
        few_then i.0 e.0 _ _ i.7 i.8 e.6,
      );
  remaining = omega (arith, c.events.invariant.remaining, c.in_ok-event.ensures.remaining);
  unfailed = λ none. c.in_ok-event.ensures.unfailed (c.events.invariant.unfailed none) (ok_otherwise _);
  input_counts = c.in_ok-event.ensures.input_counts ∙ c.events.invariant.input_counts;
  output_counts = c.in_ok-event.ensures.output_counts ∙ c.events.invariant.output_counts;
}

pub returns-in_err-event-clause-unfailed : goal.returns-in_err-event-clause-unfailed
returns-in_err-event-clause-unfailed g c =
    let passed = err_from_is_err_and c.from_residual.result c.from_residual.ensures.1 in
    rw (passed.1, passed.2) (λ none other. c.in_err-event.ensures.unfailed (c.events.invariant.unfailed none) (err_otherwise c.in_err-event.field-0.0 other))

pub returns-in_err-event-clause-input_counts : goal.returns-in_err-event-clause-input_counts
returns-in_err-event-clause-input_counts g c =
    let passed = err_from_is_err_and c.from_residual.result c.from_residual.ensures.1 in
    rw (passed.1, passed.2) (c.in_err-event.ensures.input_counts ∙ ap (counted_at input_counted c.in_err-event.field-0.0) c.events.invariant.input_counts)

pub returns-in_err-event-clause-output_counts : goal.returns-in_err-event-clause-output_counts
returns-in_err-event-clause-output_counts g c =
    let passed = err_from_is_err_and c.from_residual.result c.from_residual.ensures.1 in
    rw (passed.1, passed.2) (c.in_err-event.ensures.output_counts ∙ ap (counted_at output_counted c.in_err-event.field-0.0) c.events.invariant.output_counts)

pub returns-in-End-clause-unfailed : goal.returns-in-End-clause-unfailed
returns-in-End-clause-unfailed g c = λ none other. c.in_ok-event.ensures.unfailed (c.events.invariant.unfailed none) (ok_otherwise _)

pub returns-in-End-clause-input_counts : goal.returns-in-End-clause-input_counts
returns-in-End-clause-input_counts g c = c.in_ok-event.ensures.input_counts ∙ c.events.invariant.input_counts

pub returns-in-End-clause-output_counts : goal.returns-in-End-clause-output_counts
returns-in-End-clause-output_counts g c = c.in_ok-event.ensures.output_counts ∙ c.events.invariant.output_counts
