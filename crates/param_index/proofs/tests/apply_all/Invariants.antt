use Rattle.std.proofs.Common.{◌≡◌, take}
use Rattle.storage_lines.specs.Lines.{after}
use Rattle.param_index.proofs.tests.apply_all.Given as goal

abbrev pub invariant-loop-write : goal.invariant-loop-write
invariant-loop-write l = l.bytes ≡ after l.fn.bytes (take l.write-index l.writes)
