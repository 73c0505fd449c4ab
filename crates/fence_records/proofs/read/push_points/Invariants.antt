use Rattle.std.proofs.Common.{◌≡◌, ◌+◌, ◌-◌, ◌*◌, ◌++◌, map, drop}
use Rattle.arrayvec.specs.ArrayVec.{array_vec_len}
use Rattle.fence_records.specs.Fence.{item, points_from}
use Rattle.fence_records.proofs.read.push_points.Given as goal

abbrev pub invariant-loop-index : goal.invariant-loop-index
invariant-loop-index l = record {
  count : array_vec_len l.items ≡ array_vec_len l.fn.items + l.index;
  kept : l.items.items ++ map (item l.command l.param1) (points_from (l.count - l.index) (drop (8 * l.index) l.bytes)) ≡ l.fn.items.items ++ map (item l.command l.param1) (points_from l.count l.bytes);
}
