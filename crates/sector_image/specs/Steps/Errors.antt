-- What becomes of the errors of the guard row and of a sector's log.
use Rattle.flash_traits.specs.declared.board.Region.{Region}
use Rattle.flash_traits.specs.declared.board.Region.TheVariants.{Guard}
use Rattle.flash_traits.specs.declared.board.LogError.{LogError}
use Rattle.flash_traits.specs.declared.board.LogError.TheVariants as log_error
use Rattle.guard_row.specs.declared.row.GuardError.{GuardError}
use Rattle.guard_row.specs.declared.row.GuardError.TheVariants as guard_error
use Rattle.sector_image.specs.declared.kept.SurveyError.{SurveyError}
use Rattle.sector_image.specs.declared.kept.SurveyError.TheVariants as survey_error

-- why there is no survey where the guard row has no count
abbrev pub error_of_guard : GuardError → SurveyError
error_of_guard (guard_error.Fault kind) = survey_error.Fault kind
error_of_guard (guard_error.Word offset word) = survey_error.Foreign Guard offset word

-- why there is no survey where this sector's head or log can't be read
abbrev pub error_of_log : Region → LogError → SurveyError
error_of_log region (log_error.Fault kind) = survey_error.Fault kind
error_of_log region (log_error.Word offset word) = survey_error.Foreign region offset word
