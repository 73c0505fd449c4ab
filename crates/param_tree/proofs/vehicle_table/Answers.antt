use Rattle.std.proofs.Common.{List, sym, subst}
use Rattle.param_tree.specs.declared.Var.{Var}
use Rattle.param_tree.specs.Rules.{IsTable}
use Rattle.param_tree.proofs.Vehicle.{vehicle_is_table}
use Rattle.param_tree.proofs.vehicle_table.Goals as goal

pub invariant_of-result : goal.invariant_of-result
invariant_of-result c = let P : List Var → Type 0 = IsTable in subst P (sym c.vehicle_rows.ensures) vehicle_is_table
