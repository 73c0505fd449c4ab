use Rattle.std.proofs.Common.{◌≡◌, min, sym, ◌∙◌, ap, List, Some, rules}
use Rattle.std.specs.Prelude.{slice_get}
use Rattle.param_tree.specs.declared.Var.{Var}
use Rattle.param_records.specs.declared.values.Value.{Value}
use Rattle.param_records.specs.Values.{params_of}
use Rattle.param_records.proofs.SetLemmas.{is_some}
use Rattle.mission_records.specs.declared.reading.TheConstants.{CAPACITY}
use Rattle.mission_records.specs.Mission.{total_row, count_of}
use Rattle.mission_records.proofs.Commands.{total_is}
use Rattle.mission_records.proofs.Totals.{total_there}
use Rattle.mission_records.proofs.reading.total.Goals as goal

pub returns-clause-total : goal.returns-clause-total
returns-clause-total c =
    let b = c.args.current.now in
    let there : slice_get c.vehicle_table.result 5 ≡ Some total_row = ap (λ (rows : List Var). slice_get rows 5) c.vehicle_table.ensures.rows ∙ total_there in
    let value : c.value.result ≡ params_of b total_row = is_some (slice_get c.vehicle_table.result 5) (λ (row : Var). c.value.result ≡ params_of b row) total_row there c.value.ensures in
    c.count_of.ensures.count ∙ ap (λ (v : Value). min CAPACITY (count_of v)) value ∙ sym (total_is b (c.has_version.ensures.0 (search rules)))
