-- What stands in a feed.
use Rattle.std.proofs.Common.{◌≡◌, ℕ, zero, suc, ◌<◌, List, [], ◌∷◌, Some, slice_get, arith, IsTrue}
use Rattle.std.proofs.lemmas.Bool.Decides.{nat_tests}
use Rattle.flash_board.specs.Kept.{peers_fit}
use Rattle.flash_board.specs.declared.record.Feed.{Feed}
use Rattle.flash_board.specs.declared.record.Feed.TheVariants as fed
use Rattle.arrayvec.specs.ArrayVec.{ArrayVec}

pub peer_fits : (feed : List Feed) (n peer : ℕ) (bytes : ArrayVec ℕ) → IsTrue (peers_fit feed) → slice_get feed n ≡ Some (fed.Datagram peer bytes) → peer < 8
peer_fits [] n peer bytes fit is = absurd (cc)
peer_fits (fed.Datagram p b ∷ feed) zero peer bytes fit is = grind (arith, nat_tests)
peer_fits (fed.Idle ∷ feed) zero peer bytes fit is = absurd (cc)
peer_fits (fed.End ∷ feed) zero peer bytes fit is = absurd (cc)
peer_fits (fed.Datagram p b ∷ feed) (suc n) peer bytes fit is = peer_fits feed n peer bytes (grind arith) is
peer_fits (fed.Idle ∷ feed) (suc n) peer bytes fit is = peer_fits feed n peer bytes fit is
peer_fits (fed.End ∷ feed) (suc n) peer bytes fit is = peer_fits feed n peer bytes fit is
