use Rattle.image_report.specs.Reports.{IsReport, report_text}
use Rattle.image_report.proofs.Writing.{part_of_one}
use Rattle.image_report.proofs.TextLaws.{one_report}
use Rattle.image_report.proofs.Answering.{report_known}
use Rattle.image_report.proofs.reporting.report.Goals as goal

pub returns-clause-text : goal.returns-clause-text
returns-clause-text g c = λ told told_out. record {
  text = report_text c.geometry-sector_bytes.result.sector_bytes c.in_ok-findings.findings;
  is_text = report_known g.B.Board c.args.board.now c.findings_of.new.board c.requires.attached (g.met.B.Board.shape c.args.board.now) c.findings_of.ensures.looks.reads c.geometry-sector_bytes.result.sector_bytes c.in_ok-findings.findings c.geometry-sector_bytes.ensures c.in_ok-findings.ensures.found told;
  written = c.in_ok-write_report.ensures.written told_out;
}

pub returns-in_err-write_report-clause-prefix : goal.returns-in_err-write_report-clause-prefix
returns-in_err-write_report-clause-prefix g c = λ told told_out.
    let W = g.B.Board.words c.args.board.now in
    part_of_one (IsReport W) c.write_report.result (g.K.Sink.written c.args.out.now) (g.K.Sink.written c.write_report.new.out) (report_text c.geometry-sector_bytes.result.sector_bytes c.in_ok-findings.findings) (one_report W)
    (report_known g.B.Board c.args.board.now c.findings_of.new.board c.requires.attached (g.met.B.Board.shape c.args.board.now) c.findings_of.ensures.looks.reads c.geometry-sector_bytes.result.sector_bytes c.in_ok-findings.findings c.geometry-sector_bytes.ensures c.in_ok-findings.ensures.found told)
    (c.write_report.ensures.written told_out)

pub returns-clause-prefix : goal.returns-clause-prefix
returns-clause-prefix g c = λ told told_out.
    let W = g.B.Board.words c.args.board.now in
    part_of_one (IsReport W) c.write_report.result (g.K.Sink.written c.args.out.now) (g.K.Sink.written c.write_report.new.out) (report_text c.geometry-sector_bytes.result.sector_bytes c.in_ok-findings.findings) (one_report W)
    (report_known g.B.Board c.args.board.now c.findings_of.new.board c.requires.attached (g.met.B.Board.shape c.args.board.now) c.findings_of.ensures.looks.reads c.geometry-sector_bytes.result.sector_bytes c.in_ok-findings.findings c.geometry-sector_bytes.ensures c.in_ok-findings.ensures.found told)
    (c.write_report.ensures.written told_out)
