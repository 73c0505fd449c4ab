use Rattle.std.proofs.Common.{◌<◌, length, arith}
use Rattle.flash_traits.specs.declared.board.Region.TheVariants.{Guard}
use Rattle.flash_traits.proofs.Moments.{first_words, by_err}
use Rattle.guard_row.specs.Steps.{Counts, CountMayLeave}
use Rattle.guard_row.proofs.StepLemmas.{step_counts, step_may}
use Rattle.guard_row.proofs.row.step.Goals as goal

pub returns-clause-losses : goal.returns-clause-losses
returns-clause-losses g c =
    let inside : g.B.Board.tells c.args.board.now → c.args.count < length (g.B.Board.words c.args.board.now).guard =
    λ told. omega (arith, g.met.B.Board.shape c.args.board.now told c.requires.attached Guard, c.requires.left) in
    first_words g.B.Board g.met.B.Board.reads (CountMayLeave c.args.count) (Counts c.args.count) c.in_ok-program_halfword.ensures.changes
    (λ told o may. step_may c.args.count (g.B.Board.words c.args.board.now) o (inside told) may)
    (λ told o did. step_counts c.args.count (g.B.Board.words c.args.board.now) o (inside told) did)

pub returns-in_err-program_halfword-clause-losses : goal.returns-in_err-program_halfword-clause-losses
returns-in_err-program_halfword-clause-losses g c =
    let inside : g.B.Board.tells c.args.board.now → c.args.count < length (g.B.Board.words c.args.board.now).guard =
    λ told. omega (arith, g.met.B.Board.shape c.args.board.now told c.requires.attached Guard, c.requires.left) in
    first_words g.B.Board g.met.B.Board.reads (CountMayLeave c.args.count) _ c.in_err-program_halfword.ensures.changes
    (λ told o may. step_may c.args.count (g.B.Board.words c.args.board.now) o (inside told) may)
    (λ told o may. by_err _ _ _ _ _ c.from_residual.ensures.0 (step_may c.args.count (g.B.Board.words c.args.board.now) o (inside told) may))
