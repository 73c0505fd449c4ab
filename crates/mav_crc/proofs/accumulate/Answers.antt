use Rattle.std.proofs.Common.{◌∙◌, sym, bit_xor, ◌/◌, ◌%◌}
use Rattle.mav_crc.proofs.Usual.{usual, folded, joined}
use Rattle.mav_crc.proofs.accumulate.Goals as goal

pub returns : goal.returns
returns c = joined (c.args.register / 256) (folded (bit_xor (c.args.register % 256) c.args.byte)) ∙ sym (usual c.args.register c.args.byte c.ranges.byte.fits)
