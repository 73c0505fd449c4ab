-- The refusals of the calls below, as those of a text.
use Rattle.sector_image.specs.declared.kept.SurveyError.{SurveyError}
use Rattle.sector_image.specs.declared.kept.SurveyError.TheVariants as survey
use Rattle.image_report.specs.declared.errors.ReportError.{ReportError}
use Rattle.image_report.specs.declared.errors.ReportError.TheVariants as errors

-- what a survey that was refused tells
abbrev pub error_of_survey : SurveyError → ReportError
error_of_survey (survey.Fault kind) = errors.Fault kind
error_of_survey (survey.Foreign region offset word) = errors.Foreign region offset word
