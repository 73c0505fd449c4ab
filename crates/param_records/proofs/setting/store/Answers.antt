use Rattle.std.proofs.Common.{◌∙◌}
use Rattle.storage_lines.specs.Lines.{after}
use Rattle.storage_lines.proofs.LineLemmas.{length-after}
use Rattle.param_records.proofs.SetLemmas.{well_set}
use Rattle.param_records.proofs.setting.store.Goals as goal

pub returns-clause-steps : goal.returns-clause-steps
returns-clause-steps g c =
    let old = c.args.batch.now.items in
    well_set c.write.result c.args.table.now c.args.var c.args.number (after c.args.current.now old) old c.write.new.batch.items (length-after c.args.current.now old ∙ c.requires.size) c.rules.ensures.rules c.write.ensures.ok c.write.ensures.full
