use Rattle.std.proofs.Common.{subst, sym}
use Rattle.storage_lines.specs.Lines.{after}
use Rattle.mission_records.specs.Mission.{begin_writes}
use Rattle.mission_records.specs.Steps.{BeginsMission}
use Rattle.mission_records.proofs.Puts.{begins}
use Rattle.mission_records.proofs.Setting.{appended, begin_items}
use Rattle.mission_records.proofs.writing.begin.Goals as goal

pub returns-clause-steps : goal.returns-clause-steps
returns-clause-steps c formatted =
    let old = c.args.batch.now.items in
    let b = after c.args.current.now old in
    let items = begin_items c.args.current.now old c.clear.new.batch.items c.put_bytes.new.batch.items c.clear.ensures.writes c.put_bytes.ensures.items in
    subst (BeginsMission b) (sym (appended old c.put_bytes.new.batch.items (begin_writes b) items)) (begins b formatted)
