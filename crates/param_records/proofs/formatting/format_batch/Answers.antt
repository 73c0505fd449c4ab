use Rattle.param_records.proofs.FormatLemmas.{formats_behind}
use Rattle.param_records.proofs.formatting.format_batch.Goals as goal

pub returns-clause-formatted : goal.returns-clause-formatted
returns-clause-formatted c = λ due. formats_behind c.args.current.now c.args.batch.now.items c.put.new.batch.items c.put-2.new.batch.items c.requires.size c.put.ensures.items c.put-2.ensures.items
