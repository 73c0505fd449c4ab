-- How a command ends that prints a text of an image.
use Rattle.std.specs.Prelude.{ℕ, List, Result, Ok, Err}
use Rattle.flash_traits.specs.Counts.{raised}
use Rattle.flash_traits.specs.Words.{Words}
use Rattle.image_report.specs.declared.errors.ReportError.{ReportError}
use Rattle.image_report.specs.declared.errors.ReportError.TheVariants as errors
use Rattle.image_report.specs.Dumps.{IsDump}
use Rattle.image_report.specs.Reports.{IsReport}
use Rattle.storage_cli.specs.declared.stop.Stop.{Stop}
use Rattle.storage_cli.specs.declared.stop.Stop.TheVariants as stop
use Rattle.storage_cli.specs.declared.printing.ImageText.{ImageText}
use Rattle.storage_cli.specs.declared.printing.ImageText.TheVariants as image_text
use Rattle.storage_cli.specs.declared.printing.Printed.{Printed}
use Rattle.storage_cli.specs.declared.printing.Printed.TheVariants as printed
use Rattle.storage_cli.specs.declared.status.TheConstants.{DONE, OUTPUT_FAILED}
use Rattle.storage_cli.specs.Steps.Stops.{stop_of_fault}
use Rattle.storage_cli.specs.Statuses.{IsDumpStatus, IsReportStatus}

-- this text of the words
abbrev pub IsTextOf : ImageText → Words → List ℕ → Type 0
IsTextOf image_text.Dump words = IsDump words
IsTextOf image_text.Report words = IsReport words

-- the text is one of words in one of the four states, and refuses all others
abbrev pub IsRefusing : ImageText → Type 0
IsRefusing image_text.Dump = Unit {0}
IsRefusing image_text.Report = ⊥

-- the statuses of its command
abbrev pub IsTextStatus : ImageText → ℕ → Type 0
IsTextStatus image_text.Dump n = IsDumpStatus n
IsTextStatus image_text.Report n = IsReportStatus n

-- why its command may stop: want of memory, a failed read, a failed attach, or for a dump a foreign
-- halfword
abbrev pub IsTextStop : ImageText → Stop → Type 0
IsTextStop text stop.Memory = Unit {0}
IsTextStop text stop.Read = Unit {0}
IsTextStop text stop.Attach = Unit {0}
IsTextStop text (stop.Foreign foreign) = IsRefusing text
IsTextStop text _ = ⊥

-- what holds where the whole text was printed
abbrev pub OnWhole : Printed → Type 0 → Type 0
OnWhole printed.Whole P = P
OnWhole printed.Prefix P = Unit {0}

-- what holds where the output failed after a prefix
abbrev pub OnPrefix : Printed → Type 0 → Type 0
OnPrefix printed.Whole P = Unit {0}
OnPrefix printed.Prefix P = P

-- the sink's count of faults where a text was printed so far
abbrev pub sink_count_at : Printed → ℕ → ℕ
sink_count_at printed.Whole before = before
sink_count_at printed.Prefix before = raised before

-- the status where a text was printed so far
abbrev pub status_of_printed : Printed → ℕ
status_of_printed printed.Whole = DONE
status_of_printed printed.Prefix = OUTPUT_FAILED

-- how a command ends where its text isn't printed as a whole
abbrev pub ending_of : ReportError → Result Printed Stop
ending_of errors.Memory = Err stop.Memory
ending_of (errors.Fault kind) = Err (stop_of_fault kind)
ending_of (errors.Foreign region offset word) =
    Err (stop.Foreign (record { region = region; offset = offset; word = word }))
ending_of errors.Output = Ok printed.Prefix
