-- What a survey knows of words that are told, as far as it has come.
use Rattle.std.specs.Prelude.{ℕ, List}
use Rattle.flash_traits.specs.Words.{Words, halfwords_in}
use Rattle.flash_traits.specs.declared.board.Mark.{Mark}
use Rattle.sector_log.specs.declared.log.Log.{Log}
use Rattle.sector_log.specs.Entries.{Entry}
use Rattle.sector_log.specs.Sector.{IsSector}
use Rattle.sector_log.specs.Bytes.{IsValue}
use Rattle.sector_log.specs.Log.{IsLogOf}
use Rattle.sector_image.specs.FirstBad.{AreHeads}
use Rattle.guard_row.specs.Home.{first_of, second_of}

-- both sectors are of the grammar, and these are their logs and the bytes of each alone
pub record AreLogs (w : Words) (count : ℕ) (m n : Mark) (home other : Log)
    (whole upper : List ℕ) : Type 0 where
  pub home_entries : List Entry
  pub other_entries : List Entry
  pub heads : AreHeads w count m n
  pub first : IsSector (halfwords_in w (first_of count)) m home_entries
  pub second : IsSector (halfwords_in w (second_of count)) n other_entries
  pub home_log : IsLogOf home (first_of count) m home_entries
  pub other_log : IsLogOf other (second_of count) n other_entries
  pub home_value : IsValue home_entries whole
  pub other_value : IsValue other_entries upper
