use Rattle.std.proofs.Common.{refl}
use Rattle.param_tree.specs.Rows.{flight_rows, battery_rows, attitude_rows, rate_rows, flight_mode_rows, each_from}
use Rattle.param_tree.proofs.rows.flight_rows.Goals as goal

pub returns : goal.returns
unfolding flight_rows battery_rows attitude_rows rate_rows flight_mode_rows each_from
returns c = refl
