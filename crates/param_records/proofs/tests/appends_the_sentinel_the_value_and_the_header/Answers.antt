use Rattle.std.proofs.Common.{rules, ◌≡◌, List, sym, subst, arith}
use Rattle.std.specs.Prelude.{pos, slice_get, IfSome}
use Rattle.param_tree.specs.declared.Var.{Var}
use Rattle.param_tree.specs.Rows.{single_rows, basic_rows, vehicle_rows}
use Rattle.param_records.specs.Patterns.{IsInRangeOf}
use Rattle.param_records.proofs.tests.appends_the_sentinel_the_value_and_the_header.Goals as goal

-- row 3 holds 0
holds_zero : IfSome (slice_get vehicle_rows 3) (λ row. IsInRangeOf row.kind (pos 0))
unfolding vehicle_rows basic_rows single_rows
holds_zero = (omega arith, omega arith)

in_range : (rows : List Var) → rows ≡ vehicle_rows → IfSome (slice_get rows 3) (λ row. IsInRangeOf row.kind (pos 0))
in_range rows e = subst (λ (r : List Var). IfSome (slice_get r 3) (λ row. IsInRangeOf row.kind (pos 0))) (sym e) holds_zero

pub set_whole-requires : goal.set_whole-requires
set_whole-requires g c = let range = in_range c.vehicle_table.result c.vehicle_table.ensures.rows in search (rules, range)
