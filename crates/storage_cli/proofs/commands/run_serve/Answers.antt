use Rattle.std.proofs.Common.{◌≡◌, ◌∙◌, ap, sym, subst, refl, arith, ℕ, List, ◌++◌}
use Rattle.flash_traits.specs.Budget.{budget_of}
use Rattle.storage_cli.specs.declared.stop.Served.{Served}
use Rattle.storage_cli.specs.Texts.{PrintedLine}
use Rattle.storage_cli.specs.Texts as texts
use Rattle.storage_cli.proofs.Outcomes.{attached, board_same, board_stopped, faults_none, faults_stopped, foreign_named, foreign_told, memory_told, not_done, prints_none, prints_stopped, serve_done, serve_stopped, stops_early, stops_worn, worn_told}
use Rattle.storage_cli.proofs.Completeness.{none_named, serve_complete}
use Rattle.storage_cli.proofs.Done.{serves_done, serves_stopped, turns_printed}
use Rattle.storage_cli.proofs.commands.run_serve.Goals as goal

pub returns-in-Ok-clause-known : goal.returns-in-Ok-clause-known
returns-in-Ok-clause-known g c = serve_done c.print.result.0 c.print.ensures.status

pub returns-in-Ok-clause-ends : goal.returns-in-Ok-clause-ends
returns-in-Ok-clause-ends g c = record {
  faults = faults_none c.print.result.0 (g.B.Board.faults c.args.board.now) (g.B.Board.faults c.serve.new.board) c.print.ensures.status;
  output = c.print.ensures.output;
  told = board_same c.print.result.0 _ _ c.in-Ok.ensures.cause;
  printed = c.print.ensures.counts;
  lines = prints_none c.print.result.0 _ c.print.ensures.status;
}

pub returns-in-Ok-clause-complete : goal.returns-in-Ok-clause-complete
returns-in-Ok-clause-complete g c = λ nothing told b stands not_worn.
    let ends = returns-in-Ok-clause-ends g c in
    serve_complete c.print.result.0 _ _ _ _ nothing ends.output ends.faults (returns-in-Ok-clause-known g c)
    (not_done c.print.result.0 3 c.print.ensures.status (λ z. omega (arith, z)) (λ z. omega (arith, z))) not_worn

pub returns-in-Ok-clause-cut_short : goal.returns-in-Ok-clause-cut_short
returns-in-Ok-clause-cut_short g c = λ failed told.
    let part = c.print.ensures.cut failed told in record {
      text = c.as_slice.result.now;
      is_text = subst (λ (l : List ℕ). PrintedLine l) (sym (c.as_slice.ensures.value ∙ c.served_line-line.ensures)) (texts.Served c.in-Ok.served.events c.in-Ok.served.frames);
      count = part.0;
      written = part.1;
    }

pub returns-in-Ok-clause-serves : goal.returns-in-Ok-clause-serves
returns-in-Ok-clause-serves g c = λ over.
    serves_done g.B.Board (budget_of (g.B.Board.sector_bytes c.serve.new.board)) c.serve.new.board (g.B.Board.words c.args.board.now) c.args.turns c.print.result.0 _ c.in-Ok.served c.print.ensures.status (c.in-Ok.ensures.completes tt)
    (λ whole told. c.print.ensures.line whole told ∙ ap (λ (l : List ℕ). g.K.Sink.written c.args.out.now ++ l) (c.as_slice.ensures.value ∙ c.served_line-line.ensures))

pub returns-in-Ok-clause-worn_only : goal.returns-in-Ok-clause-worn_only
returns-in-Ok-clause-worn_only g c = not_done c.print.result.0 7 c.print.ensures.status (λ z. omega (arith, z)) (λ z. omega (arith, z))

pub returns-in-Ok-clause-foreign_idle : goal.returns-in-Ok-clause-foreign_idle
returns-in-Ok-clause-foreign_idle g c = not_done c.print.result.0 3 c.print.ensures.status (λ z. omega (arith, z)) (λ z. omega (arith, z))

pub returns-in-Ok-clause-foreign_where : goal.returns-in-Ok-clause-foreign_where
returns-in-Ok-clause-foreign_where g c = λ past told place bad. absurd (c.in-Ok.ensures.foreign_where told place bad)

pub returns-in-Err-clause-known : goal.returns-in-Err-clause-known
returns-in-Err-clause-known g c = serve_stopped c.print_stop.result.0 c.in-Err.stop c.in-Err.ensures.stops c.print_stop.ensures.status

pub returns-in-Err-clause-ends : goal.returns-in-Err-clause-ends
returns-in-Err-clause-ends g c = record {
  faults = faults_stopped c.print_stop.result.0 c.in-Err.stop c.print_stop.ensures.status (g.B.Board.faults c.args.board.now) (g.B.Board.faults c.serve.new.board) c.in-Err.ensures.cause;
  output = c.print_stop.ensures.output;
  told = board_stopped c.print_stop.result.0 c.in-Err.stop c.print_stop.ensures.status _ _ c.in-Err.ensures.cause;
  printed = c.print_stop.ensures.counts;
  lines = prints_stopped c.print_stop.result.0 c.in-Err.stop c.print_stop.ensures.status _ c.print_stop.ensures.line;
}

pub returns-in-Err-clause-memory : goal.returns-in-Err-clause-memory
returns-in-Err-clause-memory g c = memory_told c.print_stop.result.0 c.in-Err.stop c.print_stop.ensures.status _ c.in-Err.ensures.memory

pub returns-in-Err-clause-worn : goal.returns-in-Err-clause-worn
returns-in-Err-clause-worn g c = worn_told c.print_stop.result.0 c.in-Err.stop c.print_stop.ensures.status _ c.in-Err.ensures.worn

pub returns-in-Err-clause-worn_only : goal.returns-in-Err-clause-worn_only
returns-in-Err-clause-worn_only g c = worn_told c.print_stop.result.0 c.in-Err.stop c.print_stop.ensures.status _ c.in-Err.ensures.worn_only

pub returns-in-Err-clause-foreign_idle : goal.returns-in-Err-clause-foreign_idle
returns-in-Err-clause-foreign_idle g c = foreign_told c.print_stop.result.0 c.in-Err.stop c.print_stop.ensures.status _ c.in-Err.ensures.foreign_idle

pub returns-in-Err-clause-foreign : goal.returns-in-Err-clause-foreign
returns-in-Err-clause-foreign g c =
    foreign_named c.print_stop.result.0 c.in-Err.stop c.print_stop.ensures.status _ (g.B.Board.tells c.serve.new.board) (g.B.Board.words c.args.board.now) c.print_stop.ensures.line c.in-Err.ensures.foreign

pub returns-in-Err-clause-foreign_where : goal.returns-in-Err-clause-foreign_where
returns-in-Err-clause-foreign_where g c = λ past told place bad.
    stops_early Served c.print_stop.result.0 c.in-Err.stop c.print_stop.ensures.status (c.in-Err.ensures.foreign_where told place bad) past.attach

pub returns-in-Err-clause-worn_where : goal.returns-in-Err-clause-worn_where
returns-in-Err-clause-worn_where g c = λ past told used.
    stops_worn c.print_stop.result.0 c.in-Err.stop c.print_stop.ensures.status (c.in-Err.ensures.worn_where told used) past.attach

pub returns-in-Err-clause-losses : goal.returns-in-Err-clause-losses
returns-in-Err-clause-losses g c = λ past.
    c.in-Err.ensures.losses (attached Served c.print_stop.result.0 (g.B.Board.faults c.args.board.now) (g.B.Board.faults c.serve.new.board) c.in-Err.stop c.print_stop.ensures.status c.in-Err.ensures.cause past)

pub returns-in-Ok-clause-left_alone : goal.returns-in-Ok-clause-left_alone
returns-in-Ok-clause-left_alone g c = λ past. c.in-Ok.ensures.left_alone tt

pub returns-in-Err-clause-left_alone : goal.returns-in-Err-clause-left_alone
returns-in-Err-clause-left_alone g c = λ past.
    c.in-Err.ensures.left_alone (attached Served c.print_stop.result.0 (g.B.Board.faults c.args.board.now) (g.B.Board.faults c.serve.new.board) c.in-Err.stop c.print_stop.ensures.status c.in-Err.ensures.cause past)

pub returns-in-Err-clause-serves : goal.returns-in-Err-clause-serves
returns-in-Err-clause-serves g c = λ over.
    serves_stopped g.B.Board (budget_of (g.B.Board.sector_bytes c.serve.new.board)) c.serve.new.board (g.B.Board.words c.args.board.now) c.args.turns c.print_stop.result.0 _ c.in-Err.stop c.print_stop.ensures.status c.in-Err.ensures.completes over

pub returns-in-Err-clause-turns : goal.returns-in-Err-clause-turns
returns-in-Err-clause-turns g c =
    turns_printed g.B.Board (budget_of (g.B.Board.sector_bytes c.serve.new.board)) c.serve.new.board (g.B.Board.words c.args.board.now) c.args.turns c.print_stop.result.0
    (λ line. g.K.Sink.tells_written c.print_stop.new.out → g.K.Sink.written c.print_stop.new.out ≡ g.K.Sink.written c.args.out.now ++ line) c.in-Err.stop c.print_stop.ensures.status c.in-Err.ensures.completes c.print_stop.ensures.line

pub returns-in-Err-clause-complete : goal.returns-in-Err-clause-complete
returns-in-Err-clause-complete g c = λ nothing told b stands not_worn.
    let ends = returns-in-Err-clause-ends g c in
    serve_complete c.print_stop.result.0 _ _ _ _ nothing ends.output ends.faults (returns-in-Err-clause-known g c)
    (λ e. none_named (g.B.Board.tells c.serve.new.board) (g.B.Board.words c.args.board.now) _ b told stands (returns-in-Err-clause-foreign g c e)) not_worn
