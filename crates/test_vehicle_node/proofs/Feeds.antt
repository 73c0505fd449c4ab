-- The peers of a feed.
use Rattle.std.proofs.Common.{List, [], ◌∷◌, ◌++◌, arith, IsTrue}
use Rattle.std.proofs.lemmas.Bool.Decides.{nat_tests}
use Rattle.flash_board.specs.Kept.{peers_fit}
use Rattle.flash_board.specs.declared.record.Feed.{Feed}
use Rattle.flash_board.specs.declared.record.Feed.TheVariants as fed

pub peers_fit_append : (feed more : List Feed) → IsTrue (peers_fit feed) → IsTrue (peers_fit more) → IsTrue (peers_fit (feed ++ more))
peers_fit_append [] more fit fits = fits
peers_fit_append (fed.Datagram p b ∷ feed) more fit fits =
    let rest : IsTrue (peers_fit (feed ++ more)) = peers_fit_append feed more (grind (arith, nat_tests)) fits in
    grind (arith, nat_tests)
peers_fit_append (fed.Idle ∷ feed) more fit fits = peers_fit_append feed more fit fits
peers_fit_append (fed.End ∷ feed) more fit fits = peers_fit_append feed more fit fits
