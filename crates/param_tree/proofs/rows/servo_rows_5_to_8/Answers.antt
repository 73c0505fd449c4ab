use Rattle.std.proofs.Common.{refl}
use Rattle.param_tree.specs.Rows.{servo_rows, each_from}
use Rattle.param_tree.proofs.rows.servo_rows_5_to_8.Goals as goal

pub returns : goal.returns
unfolding servo_rows each_from
returns c = refl
