-- Facts for one cause of a `GuardError`.
use Rattle.std.specs.Prelude.{ℕ, Option, Some, None}
use Rattle.flash_traits.specs.declared.board.Fault.{Fault}
use Rattle.guard_row.specs.declared.row.GuardError.{GuardError}
use Rattle.guard_row.specs.declared.row.GuardError.TheVariants as errors

-- what holds where the cause is a word, of its place and the word
abbrev pub OnWord : GuardError → (ℕ → ℕ → Type 0) → Type 0
OnWord (errors.Fault kind) P = Unit {0}
OnWord (errors.Word offset word) P = P offset word

-- what holds where the cause is a fault of this kind
abbrev pub OnFault : GuardError → (Fault → Type 0) → Type 0
OnFault (errors.Fault kind) P = P kind
OnFault (errors.Word offset word) P = Unit {0}

-- the fault that an error is, or none
abbrev pub fault_in : GuardError → Option Fault
fault_in (errors.Fault kind) = Some kind
fault_in (errors.Word offset word) = None
