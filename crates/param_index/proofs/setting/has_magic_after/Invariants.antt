use Rattle.std.proofs.Common.{IsTrue, take}
use Rattle.std.specs.Prelude.{◌↔◌}
use Rattle.storage_lines.specs.Bytes.{HaveBytes}
use Rattle.storage_lines.specs.Lines.{after}
use Rattle.param_records.specs.Steps.{HasMagic}
use Rattle.param_index.proofs.setting.has_magic_after.Given as goal

abbrev pub invariant-loop-write : goal.invariant-loop-write
invariant-loop-write l = record {
  magic : IsTrue l.magic ↔ HasMagic (after l.current (take l.write-index l.writes));
  bytes : HaveBytes (take l.write-index l.writes);
}
