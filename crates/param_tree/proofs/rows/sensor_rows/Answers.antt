use Rattle.std.proofs.Common.{refl}
use Rattle.param_tree.specs.Rows.{sensor_rows, compass_rows, inertial_rows}
use Rattle.param_tree.proofs.rows.sensor_rows.Goals as goal

pub returns : goal.returns
unfolding sensor_rows compass_rows inertial_rows
returns c = refl
