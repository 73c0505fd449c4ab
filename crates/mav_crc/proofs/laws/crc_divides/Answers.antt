use Rattle.mav_crc.proofs.Bytes.{crc_divides}
use Rattle.mav_crc.proofs.laws.crc_divides.Goals as goal

pub returns : goal.returns
returns c = λ start bytes h f. crc_divides start bytes h f
