use Rattle.std.proofs.Common.{inl, inr, refl, arith}
use Rattle.storage_cli.proofs.Completeness.{format_complete}
use Rattle.storage_cli.proofs.Outcomes.{attached, board_same, board_stopped, faults_none, faults_stopped, format_others, format_stopped, prints_none, prints_stopped}
use Rattle.storage_cli.proofs.commands.run_format.Goals as goal

pub returns-in-Ok-clause-ends : goal.returns-in-Ok-clause-ends
returns-in-Ok-clause-ends g c = record {
  faults = faults_none 0 _ _ (inl refl);
  output = λ e. absurd (omega (arith, e));
  told = board_same 0 _ _ c.in-Ok.ensures.cause;
  printed = inr (λ e. omega (arith, e), refl);
  lines = prints_none 0 _ (inl refl);
}

pub returns-in-Err-clause-known : goal.returns-in-Err-clause-known
returns-in-Err-clause-known g c = format_stopped c.print_stop.result.0 c.in-Err.stop c.in-Err.ensures.stops c.print_stop.ensures.status

pub returns-in-Err-clause-no_others : goal.returns-in-Err-clause-no_others
returns-in-Err-clause-no_others g c = format_others c.print_stop.result.0 c.in-Err.stop c.in-Err.ensures.stops c.print_stop.ensures.status

pub returns-in-Err-clause-ends : goal.returns-in-Err-clause-ends
returns-in-Err-clause-ends g c = record {
  faults = faults_stopped c.print_stop.result.0 c.in-Err.stop c.print_stop.ensures.status (g.B.Board.faults c.args.board.now) (g.B.Board.faults c.format.new.board) c.in-Err.ensures.cause;
  output = c.print_stop.ensures.output;
  told = board_stopped c.print_stop.result.0 c.in-Err.stop c.print_stop.ensures.status _ _ c.in-Err.ensures.cause;
  printed = c.print_stop.ensures.counts;
  lines = prints_stopped c.print_stop.result.0 c.in-Err.stop c.print_stop.ensures.status _ c.print_stop.ensures.line;
}

pub returns-in-Err-clause-complete : goal.returns-in-Err-clause-complete
returns-in-Err-clause-complete g c = λ nothing.
    let ends = returns-in-Err-clause-ends g c in
    format_complete c.print_stop.result.0 _ _ _ _ nothing ends.output ends.faults (returns-in-Err-clause-known g c)

pub returns-in-Err-clause-size : goal.returns-in-Err-clause-size
returns-in-Err-clause-size g c = λ past.
    c.in-Err.ensures.size (attached (Unit {0}) c.print_stop.result.0 (g.B.Board.faults c.args.board.now) (g.B.Board.faults c.format.new.board) c.in-Err.stop c.print_stop.ensures.status c.in-Err.ensures.cause past)

pub returns-in-Err-clause-no_link : goal.returns-in-Err-clause-no_link
returns-in-Err-clause-no_link g c = λ past.
    c.in-Err.ensures.no_link (attached (Unit {0}) c.print_stop.result.0 (g.B.Board.faults c.args.board.now) (g.B.Board.faults c.format.new.board) c.in-Err.stop c.print_stop.ensures.status c.in-Err.ensures.cause past)
