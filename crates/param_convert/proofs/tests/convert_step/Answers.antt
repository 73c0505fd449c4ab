use Rattle.std.proofs.Common.{arith}
use Rattle.param_convert.proofs.VehicleRules.{step_has_rows}
use Rattle.param_convert.proofs.tests.convert_step.Goals as goal

pub convert-requires : goal.convert-requires
convert-requires c =
    (omega arith, (omega arith, (omega arith, (omega arith, (step_has_rows c.vehicle_table.result c.vehicle_rules.result c.args.step c.vehicle_table.ensures.rows c.vehicle_rules.ensures.rows, c.new-batch.ensures)))))
