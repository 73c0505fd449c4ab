-- What the refusals say.
use Rattle.std.specs.Prelude.{◌≡◌, ℕ, Option, Some, None, Result, IfOk, IfErr}
use Rattle.flash_traits.specs.declared.board.Board.{Ghosts}
use Rattle.flash_traits.specs.declared.board.Fault.{Fault}
use Rattle.flash_traits.specs.declared.board.Fault.TheVariants.{Read}
use Rattle.sector_image.specs.FirstBad.{Place, foreign_place}
use Rattle.vehicle_node.specs.declared.NodeError.{NodeError}
use Rattle.vehicle_node.specs.declared.NodeError.TheVariants as node_error

-- what holds where memory is wanting
abbrev pub OnMemory : NodeError → Type 0 → Type 0
OnMemory node_error.Memory P = P
OnMemory (node_error.Fault kind) P = Unit {0}
OnMemory (node_error.Foreign region offset word) P = Unit {0}
OnMemory (node_error.Worn count) P = Unit {0}

-- what holds where a call of the board failed, of its kind
abbrev pub OnFault : NodeError → (Fault → Type 0) → Type 0
OnFault node_error.Memory P = Unit {0}
OnFault (node_error.Fault kind) P = P kind
OnFault (node_error.Foreign region offset word) P = Unit {0}
OnFault (node_error.Worn count) P = Unit {0}

-- what holds where the words are no image, of the first foreign word
abbrev pub OnForeign : NodeError → (Place → Type 0) → Type 0
OnForeign node_error.Memory P = Unit {0}
OnForeign (node_error.Fault kind) P = Unit {0}
OnForeign (node_error.Foreign region offset word) P = P (foreign_place region offset word)
OnForeign (node_error.Worn count) P = Unit {0}

-- what holds where the guard row is used up, of its count
abbrev pub OnWorn : NodeError → (ℕ → Type 0) → Type 0
OnWorn node_error.Memory P = Unit {0}
OnWorn (node_error.Fault kind) P = Unit {0}
OnWorn (node_error.Foreign region offset word) P = Unit {0}
OnWorn (node_error.Worn count) P = P count

-- Moment and words are as they were, nothing is opened, and a fault is one of reading.
pub record LeavesAlone {B T : Type 0} (g : Ghosts B) (old new : B) (result : Result T NodeError)
    : Type 0 where
  pub moment : g.moment new ≡ g.moment old
  pub words : g.words new ≡ g.words old
  pub refused : IfOk result (λ answer. ⊥)
  pub read : IfErr result (λ e. OnFault e (λ kind. kind ≡ Read))

-- the fault that an error is, or none
abbrev pub fault_in : NodeError → Option Fault
fault_in node_error.Memory = None
fault_in (node_error.Fault kind) = Some kind
fault_in (node_error.Foreign region offset word) = None
fault_in (node_error.Worn count) = None
