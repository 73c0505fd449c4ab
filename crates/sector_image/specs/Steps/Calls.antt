-- What every private call of a survey says, whatever else it does.
use Rattle.std.specs.Prelude.{◌≡◌, ℕ, ◌≤◌, List, length, Result, IfOk, OnOk, IfErr}
use Rattle.flash_traits.specs.declared.board.Board.{Ghosts}
use Rattle.flash_traits.specs.declared.board.Fault.TheVariants.{Read}
use Rattle.flash_traits.specs.declared.numbers.TheConstants.{GUARD_HALFWORDS}
use Rattle.flash_traits.specs.Words.{IsSectorSize}
use Rattle.flash_traits.specs.Calls.{OnlyReads}
use Rattle.flash_traits.specs.Causes.{counts_after, told_by}
use Rattle.sector_log.specs.Storage.{storage_bytes}
use Rattle.sector_image.specs.declared.kept.Survey.{Survey}
use Rattle.sector_image.specs.declared.kept.SurveyError.{SurveyError}
use Rattle.sector_image.specs.Images.{both_bytes}
use Rattle.sector_image.specs.Stands.{Stands}
use Rattle.sector_image.specs.FirstBad.{Place}
use Rattle.sector_image.specs.Fits.{FitsShape}
use Rattle.sector_image.specs.Refusals.{OnForeign, OnSurveyFault, fault_in}

-- What every step that surveys an image is given: an attached board, a count that a guard row may
-- have, and room for two lists of the storage's bytes.
pub record CanSurvey (sector_bytes guard : ℕ) (whole upper : List ℕ) : Type 0 where
  pub attached : IsSectorSize sector_bytes
  pub most : guard ≤ GUARD_HALFWORDS
  pub whole_size : length whole ≡ storage_bytes
  pub upper_size : length upper ≡ storage_bytes

-- The call only reads. It fails only where a read failed, which is counted, or it names a foreign
-- word: where the board tells its words, `bad` holds of that word's place.
pub record ReadsOrRefuses {B T : Type 0} (g : Ghosts B) (bad : Place → Type 0) (old : B)
    (result : Result T SurveyError) (new : B) : Type 0 where
  pub reads : OnlyReads g old new
  pub foreign : IfErr result (λ e. OnForeign e (λ place. g.tells new → bad place))
  pub fault : IfErr result (λ e. OnSurveyFault e (λ kind. kind ≡ Read))
  pub counts : g.faults new ≡ counts_after (told_by fault_in result) (g.faults old)

-- Where the call finds an image, its state fits the board and the bytes in memory, and where the
-- board tells its words, they stand for those of the image.
pub record FindsImage {B : Type 0} (g : Ghosts B) (old : B) (result : Result Survey SurveyError)
    (new : B) (whole upper : List ℕ) : Type 0 where
  pub fits : IfOk result
      (λ survey. FitsShape survey.shape g new survey.kept (both_bytes whole upper))
  pub stands : OnOk result (g.tells new → Stands (g.words old) whole)
