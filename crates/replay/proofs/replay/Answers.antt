use Rattle.std.proofs.Common.{ℕ, List, [], ◌++◌, refl, sym, ◌∙◌, ap, subst, append-nil}
use Rattle.sector_image.specs.FirstBad.{Place, FirstBad}
use Rattle.sector_image.specs.Stands.{Stands}
use Rattle.sector_image.proofs.ImageLaws.{never_both}
use Rattle.script_board.specs.Printing.{frame_lines, loss_line}
use Rattle.replay.specs.Breaks.{OnForeign, input_counted, output_counted}
use Rattle.replay.specs.Histories.{Ended}
use Rattle.replay.specs.declared.Break.TheVariants.{Lost, Stopped}
use Rattle.replay.proofs.Causes.{stopped_by, foreign_map, lost_counts, stopped_counts, ok_otherwise, lost_otherwise, stopped_otherwise}
use Rattle.replay.proofs.Steps.{next_none, next_then, next_quiet, breaks_from_by}
use Rattle.replay.proofs.Uses.{breaks_by}
use Rattle.replay.proofs.Histories.{printed_then, ended_none, ended_more, replayed, cut_short, stands_safe}
use Rattle.replay.proofs.replay.Goals as goal

pub runs-init : goal.runs-init
runs-init g c =
    let p = g.P.Player in
    let w = p.words c.args.player.now in
    record {
      holds = c.requires.holds;
      told = λ told. told;
      ended = λ told b stands. (
        [],
        [],
        next_none (p.took c.args.player.now),
        sym (append-nil (p.printed c.args.player.now)),
        subst (λ (n : ℕ). Ended p.arming w [] [] n w) (sym c.requires.none_waits) (ended_none p.arming w),
        (b, stands),
      );
      unfailed = λ none. none;
      input_counts = refl;
      output_counts = refl;
    }

pub returns-in-Ok-clause-replayed : goal.returns-in-Ok-clause-replayed
returns-in-Ok-clause-replayed g c = λ told b stands.
    let p = g.P.Player in
    let i = c.runs.invariant.ended (c.in-Ok.ensures.told told) b stands in
    let r = c.in-Ok.ensures.ends told in (
      i.0 ++ r.0,
      i.1 ++ frame_lines r.1,
      next_then (p.took c.args.player.now) (p.took c.runs.player) (p.took c.run_once.new.player) i.0 r.0 i.2 r.3.lines_are,
      printed_then _ _ _ i.1 (frame_lines r.1) i.3 r.3.printed_are,
      replayed p.arming _ _ _ i.0 i.1 _ 0 i.4 r.0 r.1 i.5.0 i.5.1 (r.4 i.5.0 i.5.1) r.5.0 r.5.1 r.6,
    )

pub returns-in-Err-Stopped-clause-cut_short : goal.returns-in-Err-Stopped-clause-cut_short
returns-in-Err-Stopped-clause-cut_short g c = λ other told b stands.
    let p = g.P.Player in
    let i = c.runs.invariant.ended (c.in-Err-Stopped.ensures.told told) b stands in
    let r = c.in-Err-Stopped.ensures.ends told in (
      i.0 ++ r.0,
      i.1 ++ frame_lines r.1,
      next_then (p.took c.args.player.now) (p.took c.runs.player) (p.took c.run_once.new.player) i.0 r.0 i.2 r.3.lines_are,
      printed_then _ _ _ i.1 (frame_lines r.1) i.3 r.3.printed_are,
      cut_short p.arming _ _ _ i.0 i.1 _ _ i.4 r.0 r.1 i.5.0 i.5.1 c.in-Err-Stopped.stop r.2 (breaks_by _ (Stopped c.in-Err-Stopped.stop) r.0 r.2 _ _ c.in-Err-Stopped.field-0-is r.5) r.6
          (breaks_from_by p.arming _ (Stopped c.in-Err-Stopped.stop) _ _ _ r.2 _ c.in-Err-Stopped.field-0-is r.4),
    )

pub returns-in-Err-Stopped-clause-foreign : goal.returns-in-Err-Stopped-clause-foreign
returns-in-Err-Stopped-clause-foreign g c =
    let p = g.P.Player in
    let found : Place → Type 0 = λ place. p.told c.run_once.new.player → FirstBad (p.words c.runs.player) place in
    let never : Place → Type 0 = λ place. p.told c.run_once.new.player → (b : List ℕ) → Stands (p.words c.args.player.now) b → ⊥ in
    foreign_map {P = found} {Q = never} c.in-Err-Stopped.stop
    (λ place bad told b stands.
    let i = c.runs.invariant.ended (c.in-Err-Stopped.ensures.told told) b stands in
    never_both _ i.5.1.0 place i.5.1.1 (bad told))
    (stopped_by (OnForeign found) _ c.in-Err-Stopped.stop c.in-Err-Stopped.field-0-is c.in-Err-Stopped.ensures.foreign)

pub runs-preserved : goal.runs-preserved
runs-preserved g c =
    let p = g.P.Player in
    let before = c.runs.invariant in
    let run = c.in-Err-Lost.ensures in
    let loss = c.in-Ok-print_loss.ensures in
    record {
      holds = loss.holds;
      told = λ told. before.told (run.told (loss.told told));
      ended = λ told b stands.
          let told_then = loss.told told in
          let i = before.ended (run.told told_then) b stands in
          let r = run.ends told_then in
          let uses = breaks_by _ Lost r.0 r.2 _ _ c.in-Err-Lost.field-0-is r.5 in
          let broke = breaks_from_by p.arming _ Lost _ _ _ r.2 _ c.in-Err-Lost.field-0-is r.4 in (
            i.0 ++ r.0,
            i.1 ++ (frame_lines r.1 ++ loss_line),
            next_quiet (p.took c.args.player.now) (p.took c.run_once.new.player) (p.took c.print_loss.new.self) (i.0 ++ r.0) (next_then (p.took c.args.player.now) (p.took c.runs.player) (p.took c.run_once.new.player) i.0 r.0 i.2 r.3.lines_are) (loss.took told),
            printed_then _ _ _ i.1 (frame_lines r.1 ++ loss_line) i.3 (printed_then _ _ _ (frame_lines r.1) loss_line r.3.printed_are (loss.printed told)),
            subst (λ (n : ℕ). Ended p.arming (p.words c.args.player.now) (i.0 ++ r.0) (i.1 ++ (frame_lines r.1 ++ loss_line)) n (p.words c.print_loss.new.self)) (sym loss.waiting)
                (subst (Ended p.arming (p.words c.args.player.now) (i.0 ++ r.0) (i.1 ++ (frame_lines r.1 ++ loss_line)) (p.waiting c.run_once.new.player)) (sym loss.words)
                (ended_more p.arming _ _ _ i.0 i.1 _ _ i.4 r.0 r.1 i.5.0 i.5.1 r.2 uses r.6 broke)),
            stands_safe p.arming i.5.0 _ _ r.2 _ (p.words c.print_loss.new.self) (broke.safe i.5.0 i.5.1) loss.words,
          );
      unfailed = λ none. loss.unfailed (run.unfailed (before.unfailed none) (lost_otherwise _ c.in-Err-Lost.field-0-is));
      input_counts = loss.input_counts ∙ lost_counts input_counted _ _ _ c.in-Err-Lost.field-0-is run.input_counts ∙ before.input_counts;
      output_counts = loss.output ∙ lost_counts output_counted _ _ _ c.in-Err-Lost.field-0-is run.output_counts ∙ before.output_counts;
    }

pub returns-in-Ok-clause-unfailed : goal.returns-in-Ok-clause-unfailed
returns-in-Ok-clause-unfailed g c = λ none other. c.in-Ok.ensures.unfailed (c.runs.invariant.unfailed none) (ok_otherwise _)

pub returns-in-Err-Stopped-clause-unfailed : goal.returns-in-Err-Stopped-clause-unfailed
returns-in-Err-Stopped-clause-unfailed g c = λ none other. c.in-Err-Stopped.ensures.unfailed (c.runs.invariant.unfailed none) (stopped_otherwise _ c.in-Err-Stopped.stop c.in-Err-Stopped.field-0-is other)

pub returns-in-Ok-clause-input_counts : goal.returns-in-Ok-clause-input_counts
returns-in-Ok-clause-input_counts g c = c.in-Ok.ensures.input_counts ∙ c.runs.invariant.input_counts

pub returns-in-Err-Stopped-clause-input_counts : goal.returns-in-Err-Stopped-clause-input_counts
returns-in-Err-Stopped-clause-input_counts g c =
    stopped_counts input_counted _ c.in-Err-Stopped.stop _ _ c.in-Err-Stopped.field-0-is c.in-Err-Stopped.ensures.input_counts ∙ ap (input_counted c.in-Err-Stopped.stop) c.runs.invariant.input_counts

pub returns-in-Ok-clause-output_counts : goal.returns-in-Ok-clause-output_counts
returns-in-Ok-clause-output_counts g c = c.in-Ok.ensures.output_counts ∙ c.runs.invariant.output_counts

pub returns-in-Err-Stopped-clause-output_counts : goal.returns-in-Err-Stopped-clause-output_counts
returns-in-Err-Stopped-clause-output_counts g c =
    stopped_counts output_counted _ c.in-Err-Stopped.stop _ _ c.in-Err-Stopped.field-0-is c.in-Err-Stopped.ensures.output_counts ∙ ap (output_counted c.in-Err-Stopped.stop) c.runs.invariant.output_counts
