use Rattle.std.proofs.Common.{◌≡◌, ℕ, ◌+◌, ◌*◌, ◌++◌, List, ◌∙◌, ap, arith}
use Rattle.storage_lines.specs.declared.areas.Area.TheVariants.{Mission}
use Rattle.storage_lines.specs.Lines.{after}
use Rattle.storage_lines.specs.Pieces.{writes_of_piece}
use Rattle.param_tree.specs.Rows.{vehicle_rows}
use Rattle.param_records.proofs.SetLemmas.{on_ok}
use Rattle.mission_records.specs.Mission.{command_writes, put_writes}
use Rattle.mission_records.proofs.Setting.{piece_beside, same_places, same_full, same_end, put_items, appended, puts_here}
use Rattle.mission_records.proofs.writing.put.Goals as goal

pub set_total-result-requires-clause-stand : goal.set_total-result-requires-clause-stand
set_total-result-requires-clause-stand c =
    let b = c.args.current.now in
    let old = c.args.batch.now.items in
    let mid = c.put_bytes.new.batch.items in
    let beside = piece_beside c.place_of_command.result c.command_bytes-bytes.result b old mid c.requires.size (omega arith) c.put_bytes.ensures.items in
    same_places vehicle_rows b (after b old) (after b mid) beside.1 c.requires.stand

pub returns-then-is_err-clause-full : goal.returns-then-is_err-clause-full
returns-then-is_err-clause-full c =
    let b = c.args.current.now in
    let old = c.args.batch.now.items in
    let mid = c.put_bytes.new.batch.items in
    let beside = piece_beside c.place_of_command.result c.command_bytes-bytes.result b old mid c.requires.size (omega arith) c.put_bytes.ensures.items in
    same_full c.set_total-result.result (c.args.index + 1) (after b old) (after b mid) beside.1 c.set_total-result.ensures.full

pub returns-then-is_err-clause-end : goal.returns-then-is_err-clause-end
returns-then-is_err-clause-end c =
    let b = c.args.current.now in
    let old = c.args.batch.now.items in
    let mid = c.put_bytes.new.batch.items in
    let beside = piece_beside c.place_of_command.result c.command_bytes-bytes.result b old mid c.requires.size (omega arith) c.put_bytes.ensures.items in
    same_end c.set_total-result.result (after b old) (after b mid) beside.1 c.set_total-result.ensures.end

pub returns-else-is_err-clause-full : goal.returns-else-is_err-clause-full
returns-else-is_err-clause-full c =
    let b = c.args.current.now in
    let old = c.args.batch.now.items in
    let mid = c.put_bytes.new.batch.items in
    let beside = piece_beside c.place_of_command.result c.command_bytes-bytes.result b old mid c.requires.size (omega arith) c.put_bytes.ensures.items in
    same_full c.set_total-result.result (c.args.index + 1) (after b old) (after b mid) beside.1 c.set_total-result.ensures.full

pub returns-else-is_err-clause-steps : goal.returns-else-is_err-clause-steps
returns-else-is_err-clause-steps c =
    let b = c.args.current.now in
    let old = c.args.batch.now.items in
    let mid = c.put_bytes.new.batch.items in
    let new = c.set_total-result.new.batch.items in
    let before = after b old in
    let i = c.args.index in
    let command = c.args.command.now in
    let beside = piece_beside c.place_of_command.result c.command_bytes-bytes.result b old mid c.requires.size (omega arith) c.put_bytes.ensures.items in
    let full = same_full c.set_total-result.result (i + 1) before (after b mid) beside.1 c.set_total-result.ensures.full in
    let first : mid ≡ old ++ command_writes before i command = c.put_bytes.ensures.items
    ∙ ap (λ (k : ℕ). old ++ writes_of_piece Mission k c.command_bytes-bytes.result before) c.place_of_command.ensures
    ∙ ap (λ (bytes : List ℕ). old ++ writes_of_piece Mission (4 + 15 * i) bytes before) c.command_bytes-bytes.ensures in
    on_ok c.set_total-result.result _ _ c.set_total-result.ensures.ok (λ fine second.
    puts_here before i command _ (appended old new (put_writes before i command) (put_items b old mid new i command first second)) c.requires.index (λ f. fine (full.1 f)))

pub returns-else-is_err-clause-bytes : goal.returns-else-is_err-clause-bytes
returns-else-is_err-clause-bytes c h = c.set_total-result.ensures.bytes (c.put_bytes.ensures.bytes h)
