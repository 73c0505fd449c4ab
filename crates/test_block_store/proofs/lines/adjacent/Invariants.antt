use Rattle.std.proofs.Common.{◌≡◌, length}
use Rattle.storage_lines.specs.Bytes.{AreInside}
use Rattle.test_block_store.proofs.lines.adjacent.Given as goal

abbrev pub invariant-loop-at : goal.invariant-loop-at
invariant-loop-at l = record { inside : AreInside l.batch.items; count : length l.batch.items ≡ l.at }
