use Rattle.std.proofs.Common.{subst, sym}
use Rattle.storage_lines.specs.Lines.{after}
use Rattle.mission_records.specs.Mission.{total_writes}
use Rattle.mission_records.specs.Steps.{Clears}
use Rattle.mission_records.proofs.Setting.{appended}
use Rattle.mission_records.proofs.Totals.{clears}
use Rattle.mission_records.proofs.writing.clear.Goals as goal

pub returns-clause-steps : goal.returns-clause-steps
returns-clause-steps c formatted =
    let old = c.args.batch.now.items in
    let b = after c.args.current.now old in
    subst (Clears b) (sym (appended old c.set_total.new.batch.items (total_writes b 0) c.in-Ok.ensures.ok)) (clears b formatted)
