use Rattle.std.proofs.Common.{◌≡◌, take}
use Rattle.storage_lines.specs.Lines.{after, line_of}
use Rattle.storage_lines.proofs.pieces.line_now.Given as goal

abbrev pub invariant-loop-write : goal.invariant-loop-write
invariant-loop-write l = l.bytes ≡ line_of (after l.current (take l.write-index l.writes)) l.line
