-- What the refusals of a survey say.
use Rattle.std.specs.Prelude.{Option, Some, None}
use Rattle.flash_traits.specs.declared.board.Fault.{Fault}
use Rattle.sector_image.specs.FirstBad.{Place, foreign_place}
use Rattle.sector_image.specs.declared.kept.SurveyError.{SurveyError}
use Rattle.sector_image.specs.declared.kept.SurveyError.TheVariants as survey

-- what holds where a survey names a foreign word, of its place
abbrev pub OnForeign : SurveyError → (Place → Type 0) → Type 0
OnForeign (survey.Fault kind) P = Unit {0}
OnForeign (survey.Foreign region offset word) P = P (foreign_place region offset word)

abbrev pub OnSurveyFault : SurveyError → (Fault → Type 0) → Type 0
OnSurveyFault (survey.Fault kind) P = P kind
OnSurveyFault (survey.Foreign region offset word) P = Unit {0}

-- the fault that an error is, or none
abbrev pub fault_in : SurveyError → Option Fault
fault_in (survey.Fault kind) = Some kind
fault_in (survey.Foreign region offset word) = None
