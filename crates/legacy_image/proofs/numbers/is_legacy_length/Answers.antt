use Rattle.std.proofs.Common.{refl}
use Rattle.legacy_image.proofs.Readings.{is_length}
use Rattle.legacy_image.proofs.numbers.is_legacy_length.Goals as goal

pub returns-in-32768 : goal.returns-in-32768
returns-in-32768 c = (λ t. is_length c.args.bytes c.in-32768.is, λ l. refl)
