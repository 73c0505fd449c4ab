-- The first foreign word of words that are no image.
use Rattle.std.specs.Prelude.{◌≡◌, ℕ, ◌%◌, List, length, IsFalse, IsTrue}
use Rattle.flash_traits.specs.Words.{Words, halfwords_in}
use Rattle.flash_traits.specs.declared.board.Region.{Region}
use Rattle.flash_traits.specs.declared.board.Region.TheVariants.{Guard}
use Rattle.flash_traits.specs.declared.board.Mark.{Mark}
use Rattle.flash_traits.specs.declared.board.Mark.TheVariants.{InUse}
use Rattle.guard_row.specs.Row as guard_row
use Rattle.guard_row.specs.Row.{IsGuardRow}
use Rattle.sector_log.specs.Entries.{Entry}
use Rattle.sector_log.specs.Sector.{IsSector, HasHead, BadHead, BadLog}
use Rattle.flash_traits.specs.Marks.{mark_word}
use Rattle.sector_image.specs.Stands.{home_mark, beside, only_in_use, room_kept}
use Rattle.guard_row.specs.Home.{first_of, second_of}

-- a halfword of the image, with where it stands
pub record Place : Type 0 where
  pub region : Region
  pub at : ℕ
  pub word : ℕ

abbrev pub foreign_place : Region → ℕ → ℕ → Place
foreign_place region at word = record { region = region; at = at; word = word }

-- a check fails at a place of this region
abbrev pub At : Region → (ℕ → ℕ → Type 0) → Place → Type 0
At region fails p = (p.region ≡ region) × fails p.at p.word

-- the sector that the count names first, home or the one that isn't void, and the other one
abbrev pub first_sector : Words → ℕ → List ℕ
first_sector w count = halfwords_in w (first_of count)

abbrev pub second_sector : Words → ℕ → List ℕ
second_sector w count = halfwords_in w (second_of count)

-- the count is even, and both sectors have heads that may stand there
pub record AreHeads (w : Words) (count : ℕ) (m n : Mark) : Type 0 where
  pub guard : IsGuardRow w.guard count
  pub even : count % 2 ≡ 0
  pub home_may : IsTrue (home_mark m)
  pub other_may : IsTrue (beside m n)
  pub first : HasHead (first_sector w count) m
  pub second : HasHead (second_sector w count) n

-- The first foreign word is where a check fails. The checks are made in this order, each where
-- those before it passed: the guard row; where its count is even, home's head, the other's head,
-- home's log, the other's log and at last the room rule, which fails at the other's mark; where it
-- is odd, the head of the sector that isn't void, and its log.
pub data FirstBad (w : Words) (p : Place) : Type 0 where
  GuardRow : At Guard (guard_row.FirstBad w.guard) p → FirstBad w p
  HomeHead : (count : ℕ) → IsGuardRow w.guard count → count % 2 ≡ 0
      → At (first_of count) (BadHead home_mark (first_sector w count)) p → FirstBad w p
  OtherHead : (count : ℕ) (home : Mark) → IsGuardRow w.guard count → count % 2 ≡ 0
      → IsTrue (home_mark home) → HasHead (first_sector w count) home
      → At (second_of count) (BadHead (beside home) (second_sector w count)) p → FirstBad w p
  HomeLog : (count : ℕ) (home other : Mark) → AreHeads w count home other
      → At (first_of count) (BadLog (first_sector w count)) p → FirstBad w p
  OtherLog : (count : ℕ) (home other : Mark) (entries : List Entry) → AreHeads w count home other
      → IsSector (first_sector w count) home entries
      → At (second_of count) (BadLog (second_sector w count)) p → FirstBad w p
  NoRoom : (count : ℕ) (home other : Mark) (entries others : List Entry)
      → AreHeads w count home other → IsSector (first_sector w count) home entries
      → IsSector (second_sector w count) other others
      → IsFalse (room_kept other (length (second_sector w count)) entries others)
      → At (second_of count) (λ at word. (at ≡ 0) × (word ≡ mark_word other)) p → FirstBad w p
  OnlyHead : (count : ℕ) → IsGuardRow w.guard count → count % 2 ≡ 1
      → At (first_of count) (BadHead only_in_use (first_sector w count)) p → FirstBad w p
  OnlyLog : (count : ℕ) → IsGuardRow w.guard count → count % 2 ≡ 1
      → HasHead (first_sector w count) InUse
      → At (first_of count) (BadLog (first_sector w count)) p → FirstBad w p
