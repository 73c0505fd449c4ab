use Rattle.std.proofs.Common.{◌≡◌, ◌∙◌, ℕ, sym, subst, refl, inl, inr, Option, Some}
use Rattle.command_line.specs.Commands.{command_line_of}
use Rattle.command_line.specs.Lines.{CommandLine, gen, line_of_words}
use Rattle.command_line.specs.declared.Command.TheVariants as command
use Rattle.storage_cli.specs.Sessions.{PrintsSession, WearsOut}
use Rattle.storage_cli.specs.Statuses.{texts, Prints}
use Rattle.storage_cli.proofs.Outcomes.{board_same}
use Rattle.storage_cli.proofs.TextEndings.{cut_short_of, line_given}
use Rattle.storage_cli.proofs.commands.run.Goals as goal

pub returns-in-Ok-Some-Dump-clause-cut_short : goal.returns-in-Ok-Some-Dump-clause-cut_short
returns-in-Ok-Some-Dump-clause-cut_short g c = λ failed told_out.
    let a = c.in-Ok-Some-Dump in
    let line = line_of_words (texts c.args.words.now) in
    cut_short_of line (Some (command_line_of (command.Dump a.image))) (g.B.Board.tells c.run_text.new.board) (g.B.Board.words c.args.board.now) (g.K.Sink.written c.args.out.now) (g.K.Sink.written c.run_text.new.out)
    (line_given line a.field-0 a.field-0-0 (command.Dump a.image) a.ensures.value a.field-0-is a.field-0-0-is) (c.run_text.ensures.cut_short failed told_out)

pub returns-in-Ok-Some-Dump-clause-dump_foreign_where : goal.returns-in-Ok-Some-Dump-clause-dump_foreign_where
returns-in-Ok-Some-Dump-clause-dump_foreign_where g c = λ image is past told place bad. c.run_text.ensures.foreign_where refl past told place bad

pub returns-in-Ok-Some-Report-clause-cut_short : goal.returns-in-Ok-Some-Report-clause-cut_short
returns-in-Ok-Some-Report-clause-cut_short g c = λ failed told_out.
    let a = c.in-Ok-Some-Report in
    let line = line_of_words (texts c.args.words.now) in
    let ran = c.run_text-in-Ok-Some-Report in
    cut_short_of line (Some (command_line_of (command.Report a.image))) (g.B.Board.tells ran.new.board) (g.B.Board.words c.args.board.now) (g.K.Sink.written c.args.out.now) (g.K.Sink.written ran.new.out)
    (line_given line a.field-0 a.field-0-0 (command.Report a.image) a.ensures.value a.field-0-is a.field-0-0-is) (ran.ensures.cut_short failed told_out)

pub returns-in-Ok-Some-Dump-clause-dump_complete : goal.returns-in-Ok-Some-Dump-clause-dump_complete
returns-in-Ok-Some-Dump-clause-dump_complete g c = λ image is nothing told b stands. c.run_text.ensures.complete nothing (λ _. (told, (b, stands)))

pub returns-in-Ok-Some-Report-clause-report_complete : goal.returns-in-Ok-Some-Report-clause-report_complete
returns-in-Ok-Some-Report-clause-report_complete g c = λ image is nothing. c.run_text-in-Ok-Some-Report.ensures.complete nothing (λ e. absurd (cc))

pub returns-in-Err-clause-left_alone : goal.returns-in-Err-clause-left_alone
returns-in-Err-clause-left_alone g c = λ image port turns is past told place bad. record { moment = refl; words = refl }

-- the words say one number of rounds
gen_one : (a b : ℕ) → (let line : Option CommandLine = Some (gen a) in line ≡ Some (gen b)) → a ≡ b
gen_one a b same = cc

pub returns-in-Ok-Some-Gen-clause-generated : goal.returns-in-Ok-Some-Gen-clause-generated
returns-in-Ok-Some-Gen-clause-generated g c = λ rounds is done.
    let a = c.in-Ok-Some-Gen in
    let line = line_of_words (texts c.args.words.now) in
    let given = line_given line a.field-0 a.field-0-0 (command.Gen a.rounds) a.ensures.value a.field-0-is a.field-0-0-is in
    subst (λ (n : ℕ). PrintsSession n (Prints g.K.Sink c.args.out.now c.run_gen.new.out)) (gen_one a.rounds rounds (sym given ∙ is)) (c.run_gen.ensures.generated done)

pub returns-in-Ok-Some-Gen-clause-gen_worn : goal.returns-in-Ok-Some-Gen-clause-gen_worn
returns-in-Ok-Some-Gen-clause-gen_worn g c = λ rounds is worn.
    let a = c.in-Ok-Some-Gen in
    let line = line_of_words (texts c.args.words.now) in
    let given = line_given line a.field-0 a.field-0-0 (command.Gen a.rounds) a.ensures.value a.field-0-is a.field-0-0-is in
    subst WearsOut (gen_one a.rounds rounds (sym given ∙ is)) (c.run_gen.ensures.worn worn)

pub returns-in-Ok-Some-Replay-clause-unread : goal.returns-in-Ok-Some-Replay-clause-unread
returns-in-Ok-Some-Replay-clause-unread g c = λ other always.
    let a = c.in-Ok-Some-Replay in
    let line = line_of_words (texts c.args.words.now) in
    absurd (other a.image.now (line_given line a.field-0 a.field-0-0 (command.Replay a.image) a.ensures.value a.field-0-is a.field-0-0-is))

pub returns-in-Ok-Some-Replay-clause-lines : goal.returns-in-Ok-Some-Replay-clause-lines
returns-in-Ok-Some-Replay-clause-lines g c = λ other always.
    let a = c.in-Ok-Some-Replay in
    let line = line_of_words (texts c.args.words.now) in
    absurd (other a.image.now (line_given line a.field-0 a.field-0-0 (command.Replay a.image) a.ensures.value a.field-0-is a.field-0-0-is))

pub returns-in-Ok-Some-Replay-clause-foreign : goal.returns-in-Ok-Some-Replay-clause-foreign
returns-in-Ok-Some-Replay-clause-foreign g c = λ other is.
    let a = c.in-Ok-Some-Replay in
    let line = line_of_words (texts c.args.words.now) in
    absurd (other a.image.now (line_given line a.field-0 a.field-0-0 (command.Replay a.image) a.ensures.value a.field-0-is a.field-0-0-is))

pub returns-in-Ok-Some-Replay-clause-cut_short : goal.returns-in-Ok-Some-Replay-clause-cut_short
returns-in-Ok-Some-Replay-clause-cut_short g c = λ failed told_out.
    let a = c.in-Ok-Some-Replay in
    let line = line_of_words (texts c.args.words.now) in
    let ran = c.run_replay in
    cut_short_of line (Some (command_line_of (command.Replay a.image))) (g.B.Board.tells ran.new.board) (g.B.Board.words c.args.board.now) (g.K.Sink.written c.args.out.now) (g.K.Sink.written ran.new.out)
    (line_given line a.field-0 a.field-0-0 (command.Replay a.image) a.ensures.value a.field-0-is a.field-0-0-is) (inr (ran.ensures.cut_short failed told_out))

pub returns-in-Ok-Some-Serve-clause-told_faults : goal.returns-in-Ok-Some-Serve-clause-told_faults
returns-in-Ok-Some-Serve-clause-told_faults g c = record { board = c.run_serve.ensures.ends.told; input = inl refl; output = c.run_serve.ensures.ends.printed }

pub returns-in-Ok-Some-Format-clause-told_faults : goal.returns-in-Ok-Some-Format-clause-told_faults
returns-in-Ok-Some-Format-clause-told_faults g c = record { board = c.run_format.ensures.ends.told; input = inl refl; output = c.run_format.ensures.ends.printed }

pub returns-in-Ok-Some-Dump-clause-told_faults : goal.returns-in-Ok-Some-Dump-clause-told_faults
returns-in-Ok-Some-Dump-clause-told_faults g c = record { board = c.run_text.ensures.ends.told; input = inl refl; output = c.run_text.ensures.ends.printed }

pub returns-in-Ok-Some-Report-clause-told_faults : goal.returns-in-Ok-Some-Report-clause-told_faults
returns-in-Ok-Some-Report-clause-told_faults g c = record { board = c.run_text-in-Ok-Some-Report.ensures.ends.told; input = inl refl; output = c.run_text-in-Ok-Some-Report.ensures.ends.printed }

pub returns-in-Ok-Some-Gen-clause-told_faults : goal.returns-in-Ok-Some-Gen-clause-told_faults
returns-in-Ok-Some-Gen-clause-told_faults g c = record { board = board_same _ _ _ refl; input = inl refl; output = c.run_gen.ensures.counts }

pub returns-in-Ok-None-clause-told_faults : goal.returns-in-Ok-None-clause-told_faults
returns-in-Ok-None-clause-told_faults g c = record { board = board_same _ _ _ refl; input = inl refl; output = c.print_stop.ensures.counts }

pub returns-in-Err-clause-told_faults : goal.returns-in-Err-clause-told_faults
returns-in-Err-clause-told_faults g c = record { board = board_same _ _ _ refl; input = inl refl; output = c.print_stop-in-Err.ensures.counts }
