use Rattle.std.proofs.Common.{◌∙◌}
use Rattle.block_store.specs.Store.{durable_of}
use Rattle.vehicle_node.proofs.Boot.{formatting_is, current_none, issued_none}
use Rattle.vehicle_node.proofs.opening.issue_formatting.Goals as goal

pub returns-clause-issued : goal.returns-clause-issued
returns-clause-issued c =
    c.issue_step.ensures
    ∙ issued_none c.args.lines.now.store c.args.lines.now.pending c.format_batch.new.batch.items _ c.requires.nothing
    (formatting_is c.format_batch.result (durable_of c.args.lines.now.store) c.current.result.now c.new-batch.result.items c.format_batch.new.batch.items c.new-batch.ensures
    (c.current.ensures.bytes ∙ current_none c.args.lines.now c.requires.nothing) c.format_batch.ensures.due c.format_batch.ensures.writes)
