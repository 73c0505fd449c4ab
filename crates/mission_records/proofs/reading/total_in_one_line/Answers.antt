use Rattle.std.proofs.Common.{◌∙◌, ap, sym, arith}
use Rattle.storage_lines.specs.Bytes.{IsBytes}
use Rattle.param_tree.specs.declared.Var.{Var}
use Rattle.param_records.specs.Steps.{place_of_row}
use Rattle.mission_records.proofs.ReadLemmas.{one_line_test, no_total}
use Rattle.mission_records.proofs.Setting.{row_is_total}
use Rattle.mission_records.proofs.reading.total_in_one_line.Goals as goal

pub returns-in-Some : goal.returns-in-Some
returns-in-Some c =
    let b = c.args.current.now in
    let row = row_is_total c.vehicle_table.result c.row-row.result c.vehicle_table.ensures.rows c.row-row.ensures.row in
    let bytes : IsBytes b = λ i. omega (arith, c.type_inv.current i) in
    one_line_test b c.in-Some.at bytes (ap (λ (r : Var). place_of_row b r) (sym row) ∙ sym c.place.ensures ∙ c.in-Some.is)

pub returns-in-None : goal.returns-in-None
returns-in-None c =
    let b = c.args.current.now in
    let row = row_is_total c.vehicle_table.result c.row-row.result c.vehicle_table.ensures.rows c.row-row.ensures.row in
    no_total b (ap (λ (r : Var). place_of_row b r) (sym row) ∙ sym c.place.ensures ∙ c.in-None.is)
