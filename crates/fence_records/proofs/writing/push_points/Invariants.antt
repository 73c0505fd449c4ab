use Rattle.std.proofs.Common.{◌≡◌, ◌+◌, ◌*◌, ◌++◌, map, flat_map, drop}
use Rattle.arrayvec.specs.ArrayVec.{array_vec_len}
use Rattle.fence_records.specs.Fence.{point_bytes}
use Rattle.fence_records.specs.Lists.{point}
use Rattle.fence_records.proofs.writing.push_points.Given as goal

abbrev pub invariant-loop-index : goal.invariant-loop-index
invariant-loop-index l = record {
  count : array_vec_len l.bytes ≡ array_vec_len l.fn.bytes + 8 * l.index;
  kept : l.bytes.items ++ flat_map point_bytes (map point (drop l.index l.items)) ≡ l.fn.bytes.items ++ flat_map point_bytes (map point l.items);
}
