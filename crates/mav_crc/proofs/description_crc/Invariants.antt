use Rattle.std.proofs.Common.{◌≡◌, ◌<◌, take, All}
use Rattle.mav_crc.specs.Register.{register_after, crc_of}
use Rattle.mav_crc.specs.Extra.{fields_bytes}
use Rattle.mav_crc.proofs.description_crc.Given as goal

abbrev pub invariant-loop-field : goal.invariant-loop-field
invariant-loop-field l = record {
  after : l.register ≡ crc_of (register_after (crc_of 0xFFFF l.description.name.now) 32) (fields_bytes (take l.field-index l.description.fields.now));
  bytes : All (λ b. b < 256) (fields_bytes (take l.field-index l.description.fields.now));
}
