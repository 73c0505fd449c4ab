use Rattle.image_report.proofs.TextLaws.{report_of}
use Rattle.storage_cli.proofs.TextEndings.{cut_dump, cut_report}
use Rattle.storage_cli.proofs.printing.write_text.Goals as goal

pub returns-in-Dump-clause-prefix : goal.returns-in-Dump-clause-prefix
returns-in-Dump-clause-prefix g c =
    cut_dump (g.B.Board.tells c.dump.new.board) (g.K.Sink.tells_written c.dump.new.out) (g.B.Board.words c.args.board.now) (g.K.Sink.written c.args.out.now) (g.K.Sink.written c.dump.new.out)
    c.dump.result c.args.text c.in-Dump.is c.dump.ensures.stands c.dump.ensures.prefix

pub returns-in-Report-clause-prefix : goal.returns-in-Report-clause-prefix
returns-in-Report-clause-prefix g c =
    let W = g.B.Board.words c.args.board.now in
    cut_report (g.B.Board.tells c.report.new.board) (g.K.Sink.tells_written c.report.new.out) W (g.K.Sink.written c.args.out.now) (g.K.Sink.written c.report.new.out)
    c.report.result c.args.text c.in-Report.is
    (λ told. report_of W (g.B.Board.sector_bytes c.args.board.now) c.requires.attached (g.met.B.Board.shape c.args.board.now (c.report.ensures.reads.changes.told told) c.requires.attached))
    c.report.ensures.prefix
