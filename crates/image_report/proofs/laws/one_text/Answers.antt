use Rattle.image_report.proofs.TextLaws as laws
use Rattle.image_report.proofs.laws.one_text.Goals as goal

pub returns : goal.returns
returns c = record { one_dump = laws.one_dump; stands = laws.dump_stands; dump = laws.dump_of; one_report = laws.one_report; report = laws.report_of }
