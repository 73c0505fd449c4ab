use Rattle.image_report.specs.Dumps.{IsDump, dump_text}
use Rattle.image_report.proofs.Writing.{part_of_one}
use Rattle.image_report.proofs.TextLaws.{one_dump}
use Rattle.image_report.proofs.Answering.{dump_known}
use Rattle.image_report.proofs.dumping.dump.Goals as goal

pub returns-clause-text : goal.returns-clause-text
returns-clause-text g c = λ told told_out. record {
  text = dump_text c.in_ok-found.found.kept.sector_bytes c.in_ok-found.found.kept.guard c.in_ok-found.found.shape c.whole.result.now;
  is_text = dump_known g.B.Board c.args.board.now c.survey.new.board c.requires.attached (g.met.B.Board.shape c.args.board.now) c.survey.ensures.reads c.in_ok-found.found.shape c.in_ok-found.found.kept c.survey.new.images c.whole.result.now c.in_ok-found.ensures.fits c.whole.ensures.bytes c.in_ok-found.ensures.stands told;
  written = c.in_ok-write_dump.ensures.written told_out;
}

pub returns-in_err-write_dump-clause-prefix : goal.returns-in_err-write_dump-clause-prefix
returns-in_err-write_dump-clause-prefix g c = λ told told_out.
    let W = g.B.Board.words c.args.board.now in
    part_of_one (IsDump W) c.write_dump.result (g.K.Sink.written c.args.out.now) (g.K.Sink.written c.write_dump.new.out) (dump_text c.in_ok-found.found.kept.sector_bytes c.in_ok-found.found.kept.guard c.in_ok-found.found.shape c.whole.result.now) (one_dump W)
    (dump_known g.B.Board c.args.board.now c.survey.new.board c.requires.attached (g.met.B.Board.shape c.args.board.now) c.survey.ensures.reads c.in_ok-found.found.shape c.in_ok-found.found.kept c.survey.new.images c.whole.result.now c.in_ok-found.ensures.fits c.whole.ensures.bytes c.in_ok-found.ensures.stands told)
    (c.write_dump.ensures.written told_out)

pub returns-clause-prefix : goal.returns-clause-prefix
returns-clause-prefix g c = λ told told_out.
    let W = g.B.Board.words c.args.board.now in
    part_of_one (IsDump W) c.write_dump.result (g.K.Sink.written c.args.out.now) (g.K.Sink.written c.write_dump.new.out) (dump_text c.in_ok-found.found.kept.sector_bytes c.in_ok-found.found.kept.guard c.in_ok-found.found.shape c.whole.result.now) (one_dump W)
    (dump_known g.B.Board c.args.board.now c.survey.new.board c.requires.attached (g.met.B.Board.shape c.args.board.now) c.survey.ensures.reads c.in_ok-found.found.shape c.in_ok-found.found.kept c.survey.new.images c.whole.result.now c.in_ok-found.ensures.fits c.whole.ensures.bytes c.in_ok-found.ensures.stands told)
    (c.write_dump.ensures.written told_out)
