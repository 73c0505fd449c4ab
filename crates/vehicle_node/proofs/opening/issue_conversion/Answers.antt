use Rattle.std.proofs.Common.{List, sym, subst, arith}
use Rattle.std.specs.Prelude.{IfSome, slice_get}
use Rattle.param_convert.specs.declared.rules.Rule.{Rule}
use Rattle.param_convert.specs.Rules.{HasRows, vehicle_rules}
use Rattle.param_convert.proofs.VehicleRules.{step_has_rows, vehicle_rules_have_rows}
use Rattle.vehicle_node.proofs.opening.issue_conversion.Goals as goal

pub convert-requires : goal.convert-requires
convert-requires c =
    let rows = c.args.table.now in
    let has = subst (λ (l : List Rule). IfSome (slice_get l c.args.step) (HasRows rows)) (sym c.requires.rules) (step_has_rows rows vehicle_rules c.args.step c.requires.table vehicle_rules_have_rows) in
    (omega arith, (omega arith, (c.current.ensures.size, (c.requires.step, (has, c.new-batch.ensures)))))
