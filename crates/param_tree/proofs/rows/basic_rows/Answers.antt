use Rattle.std.proofs.Common.{refl}
use Rattle.param_tree.specs.Rows.{basic_rows, single_rows, mission_rows, fence_rows, rally_rows, navigation_rows}
use Rattle.param_tree.proofs.rows.basic_rows.Goals as goal

pub returns : goal.returns
unfolding basic_rows single_rows mission_rows fence_rows rally_rows navigation_rows
returns c = refl
