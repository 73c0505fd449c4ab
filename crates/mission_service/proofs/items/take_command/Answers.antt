use Rattle.std.proofs.Common.{◌≡◌, ◌+◌, List, length, sym, subst, arith, rules, true, false}
use Rattle.storage_lines.specs.Bytes.{IsBytes}
use Rattle.storage_lines.specs.declared.lines.LineWrite.{LineWrite}
use Rattle.storage_lines.specs.Lines.{after}
use Rattle.param_records.specs.Changes.{IsFull}
use Rattle.param_records.specs.Steps.{records_in_storage}
use Rattle.mission_records.specs.Mission.{total_row, put_writes}
use Rattle.mission_service.proofs.Clearing.{from_empty}
use Rattle.mission_service.proofs.Safe.{put_safe}
use Rattle.mission_service.proofs.items.take_command.Goals as goal

pub returns-in-Ok-2-clause-safe : goal.returns-in-Ok-2-clause-safe
returns-in-Ok-2-clause-safe c =
    let b = c.args.current.now in
    let i = c.args.upload.now.expected in
    let x = c.in_ok-command.command in
    let small : IsBytes b = λ k. omega (arith, c.type_inv.current k) in
    let long : length x.content ≡ 12 = search rules in
    let room : ¬ IsFull (records_in_storage b) total_row (i + 1) = λ f.
    let before = subst (λ (o : List LineWrite). IsFull (records_in_storage (after b o)) total_row (i + 1)) (sym c.requires.batch) f in
    let both : false ≡ true = c.in-Ok-2.ensures.full.1 before in cc in
    put_safe b i x c.put.new.batch.items c.requires.size small c.requires.index long room (from_empty b (λ y. put_writes y i x) c.args.batch.now.items c.put.new.batch.items c.requires.batch c.in-Ok-2.ensures.ok)
