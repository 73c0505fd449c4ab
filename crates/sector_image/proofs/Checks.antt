-- The checks of an image, each inside the one before it.
use Rattle.std.specs.Prelude.{◌≡◌, ◌⊎◌, ℕ, ◌%◌, List, length, IsFalse, IsTrue}
use Rattle.std.proofs.Common.{inl, inr}
use Rattle.flash_traits.specs.Words.{Words, halfwords_in}
use Rattle.flash_traits.specs.declared.board.Region.{Region}
use Rattle.flash_traits.specs.declared.board.Region.TheVariants.{Guard}
use Rattle.flash_traits.specs.declared.board.Mark.{Mark}
use Rattle.flash_traits.specs.declared.board.Mark.TheVariants.{InUse}
use Rattle.guard_row.specs.Row as guard_row
use Rattle.sector_log.specs.Entries.{Entry}
use Rattle.sector_log.specs.Sector.{IsSector, HasHead, BadHead, BadLog}
use Rattle.flash_traits.specs.Marks.{mark_word}
use Rattle.sector_image.specs.Stands.{home_mark, beside, only_in_use, room_kept}
use Rattle.guard_row.specs.Home.{first_of, second_of}
use Rattle.sector_image.specs.FirstBad.{Place, At, FirstBad, GuardRow, HomeHead, OtherHead, HomeLog, OtherLog, NoRoom, OnlyHead, OnlyLog}

abbrev pub BadRoom : Region → List ℕ → Mark → List Entry → Place → Type 0
BadRoom s other n home p = (entries : List Entry) × IsSector other n entries
    × IsFalse (room_kept n (length other) home entries)
    × At s (λ at word. (at ≡ 0) × (word ≡ mark_word n)) p

abbrev pub BadOtherLog : Region → List ℕ → Mark → List Entry → Place → Type 0
BadOtherLog s other n home p = At s (BadLog other) p ⊎ BadRoom s other n home p

abbrev pub BadHomeLog : Region → Region → List ℕ → List ℕ → Mark → Mark → Place → Type 0
BadHomeLog r s home other m n p = At r (BadLog home) p
    ⊎ ((entries : List Entry) × IsSector home m entries × BadOtherLog s other n entries p)

abbrev pub BadOtherHead : Region → Region → List ℕ → List ℕ → Mark → Place → Type 0
BadOtherHead r s home other m p = At s (BadHead (beside m) other) p
    ⊎ ((n : Mark) × IsTrue (beside m n) × HasHead other n × BadHomeLog r s home other m n p)

abbrev pub BadHomeHead : Region → Region → List ℕ → List ℕ → Place → Type 0
BadHomeHead r s home other p = At r (BadHead home_mark home) p
    ⊎ ((m : Mark) × IsTrue (home_mark m) × HasHead home m × BadOtherHead r s home other m p)

abbrev pub BadBoth : Words → ℕ → Place → Type 0
BadBoth w count p = BadHomeHead (first_of count) (second_of count) (halfwords_in w (first_of count))
    (halfwords_in w (second_of count)) p

abbrev pub BadOne : Words → ℕ → Place → Type 0
BadOne w count p =
    At (first_of count) (BadHead only_in_use (halfwords_in w (first_of count))) p
    ⊎ (HasHead (halfwords_in w (first_of count)) InUse
    × At (first_of count) (BadLog (halfwords_in w (first_of count))) p)

abbrev pub BadSectors : Words → ℕ → Place → Type 0
BadSectors w count p = ((count % 2 ≡ 0) × BadBoth w count p) ⊎ ((count % 2 ≡ 1) × BadOne w count p)

abbrev pub BadInside : Words → Place → Type 0
BadInside w p = At Guard (guard_row.FirstBad w.guard) p
    ⊎ ((count : ℕ) × guard_row.IsGuardRow w.guard count × BadSectors w count p)

pub inside_of : (w : Words) (p : Place) → FirstBad w p → BadInside w p
inside_of w p (GuardRow bad) = inl bad
inside_of w p (HomeHead count guard even bad) = inr (count, guard, inl (even, inl bad))
inside_of w p (OtherHead count home guard even may head bad) = inr (count, guard, inl (even, inr (home, may, head, inl bad)))
inside_of w p (HomeLog count home other heads bad) =
    inr (count, heads.guard, inl (heads.even, inr (home, heads.home_may, heads.first, inr (other, heads.other_may, heads.second, inl bad))))
inside_of w p (OtherLog count home other entries heads sector bad) =
    inr (count, heads.guard, inl (heads.even, inr (home, heads.home_may, heads.first, inr (other, heads.other_may, heads.second, inr (entries, sector, inl bad)))))
inside_of w p (NoRoom count home other entries others heads first second fails bad) =
    inr (count, heads.guard, inl (heads.even, inr (home, heads.home_may, heads.first, inr (other, heads.other_may, heads.second, inr (entries, first, inr (others, second, fails, bad))))))
inside_of w p (OnlyHead count guard odd bad) = inr (count, guard, inr (odd, inl bad))
inside_of w p (OnlyLog count guard odd head bad) = inr (count, guard, inr (odd, inr (head, bad)))
