use Rattle.mav_crc.proofs.Uniqueness.{one_crc}
use Rattle.mav_crc.proofs.laws.one_crc.Goals as goal

pub returns : goal.returns
returns c = λ start bytes m n a b. one_crc start bytes m n a b
