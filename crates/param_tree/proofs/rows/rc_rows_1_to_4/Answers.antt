use Rattle.std.proofs.Common.{refl}
use Rattle.param_tree.specs.Rows.{rc_rows, each_from}
use Rattle.param_tree.proofs.rows.rc_rows_1_to_4.Goals as goal

pub returns : goal.returns
unfolding rc_rows each_from
returns c = refl
