use Rattle.std.proofs.Common.{◌∙◌, ap, sym, subst, refl, inl, inr, ℕ, List, ◌++◌, arith, true≢false}
use Rattle.flash_traits.specs.Causes.{Rose}
use Rattle.storage_cli.specs.Texts.{PrintedLine}
use Rattle.storage_cli.specs.Steps.Stops.{line_of_stop}
use Rattle.storage_cli.specs.Statuses.{IsCutShort, ToldOutput}
use Rattle.storage_cli.specs.declared.printing.Printed.{Printed}
use Rattle.storage_cli.proofs.Completeness.{none_named, text_complete}
use Rattle.storage_cli.proofs.Outcomes.{attached, board_same, board_stopped, output_rose, faults_none, faults_stopped, foreign_named, not_done, prints_none, prints_stopped}
use Rattle.storage_cli.proofs.TextEndings.{dump_stopped, output_at, prefix_at_10, never_0, printed_gives, text_done, text_stopped, whole_at_0}
use Rattle.storage_cli.proofs.commands.run_text.Goals as goal

pub returns-in-Ok-clause-known : goal.returns-in-Ok-clause-known
returns-in-Ok-clause-known g c = text_done c.status_of_printed.result c.args.text (printed_gives c.status_of_printed.result c.in-Ok.printed c.status_of_printed.ensures)

pub returns-in-Ok-clause-ends : goal.returns-in-Ok-clause-ends
returns-in-Ok-clause-ends g c =
    let gives = printed_gives c.status_of_printed.result c.in-Ok.printed c.status_of_printed.ensures in
    let counts = output_at c.status_of_printed.result c.in-Ok.printed _ _ c.status_of_printed.ensures c.in-Ok.ensures.output in
    record {
      faults = faults_none c.status_of_printed.result (g.B.Board.faults c.args.board.now) (g.B.Board.faults c.print_text.new.board) gives;
      output = output_rose c.status_of_printed.result _ _ counts;
      told = board_same c.status_of_printed.result _ _ c.in-Ok.ensures.cause;
      printed = counts;
      lines = prints_none c.status_of_printed.result _ gives;
    }

pub returns-in-Ok-clause-complete : goal.returns-in-Ok-clause-complete
returns-in-Ok-clause-complete g c = λ nothing has.
    let ends = returns-in-Ok-clause-ends g c in
    text_complete c.status_of_printed.result _ _ _ _ nothing ends.output ends.faults c.args.text (returns-in-Ok-clause-known g c)
    (λ is e. not_done c.status_of_printed.result 3 (printed_gives c.status_of_printed.result c.in-Ok.printed c.status_of_printed.ensures) (λ z. omega (arith, z)) (λ z. omega (arith, z)) e)

pub returns-in-Ok-clause-cut_short : goal.returns-in-Ok-clause-cut_short
returns-in-Ok-clause-cut_short g c = λ failed told_out. inr (λ told. prefix_at_10 c.status_of_printed.result c.in-Ok.printed _ c.status_of_printed.ensures c.in-Ok.ensures.prefix failed told told_out)

pub returns-in-Ok-clause-foreign : goal.returns-in-Ok-clause-foreign
returns-in-Ok-clause-foreign g c = not_done c.status_of_printed.result 3 (printed_gives c.status_of_printed.result c.in-Ok.printed c.status_of_printed.ensures) (λ z. omega (arith, z)) (λ z. omega (arith, z))

pub returns-in-Ok-clause-foreign_where : goal.returns-in-Ok-clause-foreign_where
returns-in-Ok-clause-foreign_where g c = λ is past told place bad. absurd (true≢false (sym (c.in-Ok.ensures.foreign_where is told place bad)))

pub returns-in-Ok-clause-prints : goal.returns-in-Ok-clause-prints
returns-in-Ok-clause-prints g c = whole_at_0 c.status_of_printed.result c.in-Ok.printed _ c.status_of_printed.ensures c.in-Ok.ensures.whole

pub returns-in-Err-clause-known : goal.returns-in-Err-clause-known
returns-in-Err-clause-known g c = text_stopped c.print_stop.result.0 c.args.text c.in-Err.stop c.in-Err.ensures.stops c.print_stop.ensures.status

pub returns-in-Err-clause-ends : goal.returns-in-Err-clause-ends
returns-in-Err-clause-ends g c = record {
  faults = faults_stopped c.print_stop.result.0 c.in-Err.stop c.print_stop.ensures.status (g.B.Board.faults c.args.board.now) (g.B.Board.faults c.print_text.new.board) c.in-Err.ensures.cause;
  output = λ failed. subst (λ (n : ℕ). Rose n (g.K.Sink.faults c.print_stop.new.out)) (ap g.K.Sink.faults c.in-Err.ensures.quiet) (c.print_stop.ensures.output failed);
  told = board_stopped c.print_stop.result.0 c.in-Err.stop c.print_stop.ensures.status _ _ c.in-Err.ensures.cause;
  printed = subst (λ (n : ℕ). ToldOutput c.print_stop.result.0 n (g.K.Sink.faults c.print_stop.new.out)) (ap g.K.Sink.faults c.in-Err.ensures.quiet) c.print_stop.ensures.counts;
  lines = prints_stopped c.print_stop.result.0 c.in-Err.stop c.print_stop.ensures.status _
      (λ whole told. c.print_stop.ensures.line whole told ∙ ap (λ (l : List ℕ). l ++ line_of_stop c.in-Err.stop) (ap g.K.Sink.written c.in-Err.ensures.quiet));
}

pub returns-in-Err-clause-cut_short : goal.returns-in-Err-clause-cut_short
returns-in-Err-clause-cut_short g c = λ failed told.
    inl (subst (λ (l : List ℕ). IsCutShort PrintedLine l (g.K.Sink.written c.print_stop.new.out)) (ap g.K.Sink.written c.in-Err.ensures.quiet) (c.print_stop.ensures.cut failed told))

pub returns-in-Err-clause-foreign : goal.returns-in-Err-clause-foreign
returns-in-Err-clause-foreign g c =
    foreign_named c.print_stop.result.0 c.in-Err.stop c.print_stop.ensures.status _ (g.B.Board.tells c.print_text.new.board) (g.B.Board.words c.args.board.now)
    (λ whole told. c.print_stop.ensures.line whole told ∙ ap (λ (l : List ℕ). l ++ line_of_stop c.in-Err.stop) (ap g.K.Sink.written c.in-Err.ensures.quiet)) c.in-Err.ensures.foreign

pub returns-in-Err-clause-foreign_where : goal.returns-in-Err-clause-foreign_where
returns-in-Err-clause-foreign_where g c = λ is past told place bad. dump_stopped c.print_stop.result.0 c.args.text c.in-Err.stop c.in-Err.ensures.stops c.print_stop.ensures.status past.attach

pub returns-in-Err-clause-prints : goal.returns-in-Err-clause-prints
returns-in-Err-clause-prints g c = λ done. absurd (never_0 c.print_stop.result.0 c.in-Err.stop c.print_stop.ensures.status done)

pub returns-in-Err-clause-same_words : goal.returns-in-Err-clause-same_words
returns-in-Err-clause-same_words g c = λ past.
    c.in-Err.ensures.same_words (attached Printed c.print_stop.result.0 (g.B.Board.faults c.args.board.now) (g.B.Board.faults c.print_text.new.board) c.in-Err.stop c.print_stop.ensures.status c.in-Err.ensures.cause past)

pub returns-in-Err-clause-complete : goal.returns-in-Err-clause-complete
returns-in-Err-clause-complete g c = λ nothing has.
    let ends = returns-in-Err-clause-ends g c in
    text_complete c.print_stop.result.0 _ _ _ _ nothing ends.output ends.faults c.args.text (returns-in-Err-clause-known g c)
    (λ is e. none_named (g.B.Board.tells c.print_text.new.board) (g.B.Board.words c.args.board.now) _ (has is).1.0 (has is).0 (has is).1.1 (returns-in-Err-clause-foreign g c e))
