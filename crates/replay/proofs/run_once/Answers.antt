use Rattle.std.proofs.Common.{◌+◌, [], ◌∙◌, ℕ, length, ap, subst, arith}
use Rattle.std.proofs.lemmas.Result.{err_from_is_err_and}
use Rattle.script_board.specs.Hearing.{FewWait}
use Rattle.script_board.specs.Taking.{events_of}
use Rattle.replay.specs.Breaks.{counted_at, after_break, input_counted, output_counted}
use Rattle.replay.specs.Playing.{BreaksFrom, BreaksSo}
use Rattle.replay.proofs.Causes.{ok_otherwise, err_otherwise}
use Rattle.replay.proofs.Steps.{adds_then, adds_quiet, breaks_from}
use Rattle.replay.proofs.Uses.{few_none, open_breaks_off, close_uses}
use Rattle.replay.proofs.Histories.{closed}
use Rattle.replay.proofs.run_once.Goals as goal

pub returns-in_err-node-clause-ends : goal.returns-in_err-node-clause-ends
returns-in_err-node-clause-ends g c =
    let o = c.in_err-node.ensures in
    let passed = err_from_is_err_and c.from_residual.result c.from_residual.ensures.1 in
    rw (passed.1, passed.2) (λ told. ([], [], 0, o.adds told, o.ends told, open_breaks_off c.in_err-node.field-0.0 _ _ o.uses o.refused, few_none _))

pub returns-in_err-play-clause-ends : goal.returns-in_err-play-clause-ends
returns-in_err-play-clause-ends g c =
    let o = c.in_ok-node.ensures in
    let passed = err_from_is_err_and c.from_residual-in_err-play.result c.from_residual-in_err-play.ensures.1 in
    rw (passed.1, passed.2) (λ told.
    let p = c.in_err-play.ensures.plays told in
    let o_told = c.in_err-play.ensures.told told in (
      p.0,
      p.1,
      p.2,
      adds_then _ _ _ _ _ _ [] p.0 [] p.1 (o.adds o_told) p.3,
      subst (λ (n : ℕ). BreaksFrom g.P.Player.arming c.in_err-play.field-0.0 (g.P.Player.words c.args.player.now) (events_of p.0) p.1 n (g.P.Player.words c.play.new.player)) (omega arith)
          (breaks_from g.P.Player.arming c.in_err-play.field-0.0 (g.P.Player.words c.args.player.now) _ [] (events_of p.0) [] p.1 0 p.2 (g.P.Player.words c.play.new.player) (o.ends o_told).stands (o.ends o_told).within p.4),
      subst (λ (n : ℕ). BreaksSo c.in_err-play.field-0.0 p.0 p.2 n (g.P.Player.waiting c.play.new.player)) o.uses p.5,
      subst (λ (n : ℕ). FewWait n p.0) o.uses p.6,
    ))

pub returns-clause-ends : goal.returns-clause-ends
returns-clause-ends g c = λ told.
    let o = c.in_ok-node.ensures in
    let q = c.close.ensures in
    let p_told = q.told told in
    let p = c.in_ok-play.ensures.plays p_told in
    let o_told = c.in_ok-play.ensures.told p_told in (
      p.0,
      p.1,
      length (events_of p.0),
      adds_quiet _ _ _ _ _ _ p.0 p.1 (adds_then _ _ _ _ _ _ [] p.0 [] p.1 (o.adds o_told) p.3) (q.adds told),
      closed g.P.Player.arming c.close.result c.play.new.node (g.P.Player.words c.args.player.now) (g.P.Player.words c.close.new.self) p.0 p.1 (0 + length (events_of p.0)) (length (events_of p.0)) (omega arith)
          (λ b began. p.4.0.stands b [] [] 0 ((o.ends o_told).stands b began)) (λ count b row began. p.4.0.within count b [] [] 0 ((o.ends o_told).within count b row began))
          (p.4.1 ∙ (o.ends o_told).same_budget) (q.ends told),
      close_uses c.close.result p.0 _ _ _ p.5.0 p.5.1 p.5.2 q.uses q.refused,
      subst (λ (n : ℕ). FewWait n p.0) o.uses p.6,
    )

pub returns-in_err-node-clause-unfailed : goal.returns-in_err-node-clause-unfailed
returns-in_err-node-clause-unfailed g c =
    let passed = err_from_is_err_and c.from_residual.result c.from_residual.ensures.1 in
    rw (passed.1, passed.2) (λ none other. c.in_err-node.ensures.unfailed none (err_otherwise c.in_err-node.field-0.0 other))

pub returns-in_err-node-clause-input_counts : goal.returns-in_err-node-clause-input_counts
returns-in_err-node-clause-input_counts g c =
    let passed = err_from_is_err_and c.from_residual.result c.from_residual.ensures.1 in
    rw (passed.1, passed.2) c.in_err-node.ensures.input_counts

pub returns-in_err-node-clause-output_counts : goal.returns-in_err-node-clause-output_counts
returns-in_err-node-clause-output_counts g c =
    let passed = err_from_is_err_and c.from_residual.result c.from_residual.ensures.1 in
    rw (passed.1, passed.2) c.in_err-node.ensures.output_counts

pub returns-in_err-play-clause-unfailed : goal.returns-in_err-play-clause-unfailed
returns-in_err-play-clause-unfailed g c =
    let passed = err_from_is_err_and c.from_residual-in_err-play.result c.from_residual-in_err-play.ensures.1 in
    rw (passed.1, passed.2) (λ none other. c.in_err-play.ensures.unfailed (c.in_ok-node.ensures.unfailed none (ok_otherwise _)) (err_otherwise c.in_err-play.field-0.0 other))

pub returns-in_err-play-clause-input_counts : goal.returns-in_err-play-clause-input_counts
returns-in_err-play-clause-input_counts g c =
    let passed = err_from_is_err_and c.from_residual-in_err-play.result c.from_residual-in_err-play.ensures.1 in
    rw (passed.1, passed.2) (c.in_err-play.ensures.input_counts ∙ ap (counted_at input_counted c.in_err-play.field-0.0) c.in_ok-node.ensures.input_counts)

pub returns-in_err-play-clause-output_counts : goal.returns-in_err-play-clause-output_counts
returns-in_err-play-clause-output_counts g c =
    let passed = err_from_is_err_and c.from_residual-in_err-play.result c.from_residual-in_err-play.ensures.1 in
    rw (passed.1, passed.2) (c.in_err-play.ensures.output_counts ∙ ap (counted_at output_counted c.in_err-play.field-0.0) c.in_ok-node.ensures.output_counts)

pub returns-clause-unfailed : goal.returns-clause-unfailed
returns-clause-unfailed g c = λ none other. c.close.ensures.unfailed (c.in_ok-play.ensures.unfailed (c.in_ok-node.ensures.unfailed none (ok_otherwise _)) (ok_otherwise _)) other

pub returns-clause-input_counts : goal.returns-clause-input_counts
returns-clause-input_counts g c = c.close.ensures.input_counts ∙ ap (after_break input_counted c.close.result) (c.in_ok-play.ensures.input_counts ∙ c.in_ok-node.ensures.input_counts)

pub returns-clause-output_counts : goal.returns-clause-output_counts
returns-clause-output_counts g c = c.close.ensures.output_counts ∙ ap (after_break output_counted c.close.result) (c.in_ok-play.ensures.output_counts ∙ c.in_ok-node.ensures.output_counts)
