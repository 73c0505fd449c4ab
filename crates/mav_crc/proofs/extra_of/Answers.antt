use Rattle.std.proofs.Common.{ap, lit<}
use Rattle.mav_crc.specs.Register.{crc_of}
use Rattle.mav_crc.specs.Extra.{description_bytes, extra_byte}
use Rattle.mav_crc.proofs.Bytes.{crc_divides}
use Rattle.mav_crc.proofs.extra_of.Goals as goal

pub returns-clause-divided : goal.returns-clause-divided
returns-clause-divided c = record {
  crc = crc_of 0xFFFF (description_bytes c.args.description.now);
  is_crc = crc_divides 0xFFFF (description_bytes c.args.description.now) (lit< tt) c.description_crc-crc.ensures.bytes;
  folded = ap extra_byte c.description_crc-crc.ensures.after;
}
