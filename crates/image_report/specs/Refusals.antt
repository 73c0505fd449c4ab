-- What the answers of the calls say.
use Rattle.std.specs.Prelude.{ℕ, Option, Some, None, Result, Ok, Err}
use Rattle.flash_traits.specs.Counts.{raised}
use Rattle.flash_traits.specs.declared.board.Fault.{Fault}
use Rattle.sector_image.specs.FirstBad.{Place, foreign_place}
use Rattle.image_report.specs.declared.errors.ReportError.{ReportError}
use Rattle.image_report.specs.declared.errors.ReportError.TheVariants as errors

-- what holds where a foreign word is named, of its place
abbrev pub OnForeign : ReportError → (Place → Type 0) → Type 0
OnForeign (errors.Foreign region offset word) P = P (foreign_place region offset word)
OnForeign _ P = Unit {0}

-- what holds where a call of the board failed, of its kind
abbrev pub OnFault : ReportError → (Fault → Type 0) → Type 0
OnFault (errors.Fault kind) P = P kind
OnFault _ P = Unit {0}

-- what holds where the sink failed
abbrev pub OnOutput : ReportError → Type 0 → Type 0
OnOutput errors.Output P = P
OnOutput _ P = Unit {0}

-- what holds where there was no memory
abbrev pub OnMemory : ReportError → Type 0 → Type 0
OnMemory errors.Memory P = P
OnMemory _ P = Unit {0}

-- what holds of every refusal but that of the sink
abbrev pub BeforeOutput : ReportError → Type 0 → Type 0
BeforeOutput errors.Output P = Unit {0}
BeforeOutput _ P = P

-- what holds once the image was read: at Ok, and where the sink failed
abbrev pub OnceRead : {T : Type 0} → Result T ReportError → Type 0 → Type 0
OnceRead (Ok done) P = P
OnceRead (Err e) P = OnOutput e P

-- the fault of the board that an error is, or none
abbrev pub fault_in : ReportError → Option Fault
fault_in errors.Memory = None
fault_in (errors.Fault kind) = Some kind
fault_in (errors.Foreign region offset word) = None
fault_in errors.Output = None

-- a sink's count of faults after an error: one higher where the sink failed
abbrev pub sink_count_at : ReportError → ℕ → ℕ
sink_count_at errors.Memory before = before
sink_count_at (errors.Fault kind) before = before
sink_count_at (errors.Foreign region offset word) before = before
sink_count_at errors.Output before = raised before

-- the same after a call
abbrev pub sink_count_after : {T : Type 0} → Result T ReportError → ℕ → ℕ
sink_count_after (Ok done) before = before
sink_count_after (Err e) before = sink_count_at e before
