use Rattle.std.proofs.Common.{sym, subst}
use Rattle.legacy_image.specs.Legacy.{IsLegacy}
use Rattle.legacy_image.proofs.Chunks.{reads_made}
use Rattle.legacy_image.proofs.Determined.{one_bytes}
use Rattle.legacy_image.proofs.laws.round_trip.Goals as goal

pub returns : goal.returns
returns c = λ storage image n has made read.
    let back : IsLegacy image storage = reads_made storage image n has.size has.whole has.small made in
    (λ legacy. one_bytes image read storage legacy back, λ same. subst (λ l. IsLegacy image l) (sym same) back)
