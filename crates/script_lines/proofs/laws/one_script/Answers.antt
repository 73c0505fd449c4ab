use Rattle.script_lines.proofs.OneReading.{one_script}
use Rattle.script_lines.proofs.laws.one_script.Goals as goal

pub returns-clause-lines : goal.returns-clause-lines
returns-clause-lines c = λ lines others rest remains input is other. (one_script lines others rest remains input is other).0

pub returns-clause-rest : goal.returns-clause-rest
returns-clause-rest c = λ lines others rest remains input is other. (one_script lines others rest remains input is other).1
