use Rattle.std.proofs.Common.{◌≡◌, ◌*◌, take}
use Rattle.mav_crc.specs.Register.{crc_of}
use Rattle.mav_crc.proofs.crc.Given as goal

abbrev pub invariant-loop-i : goal.invariant-loop-i
invariant-loop-i l = l.register ≡ crc_of l.start (take (2 * l.i) l.bytes)
