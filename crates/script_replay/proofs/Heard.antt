-- What was heard in a call, by its mark.
use Rattle.std.proofs.Common.{◌≡◌, inl, inr, ℕ, ◌≤◌, Bool, true, false, List, [], ◌∷◌, length, Option, Some, None, Result, Ok, Err, OnOk, refl, sym, ◌∙◌, subst}
use Rattle.flash_traits.specs.Losses.{Received}
use Rattle.flash_traits.specs.declared.board.Event.{Event}
use Rattle.vehicle_node.specs.declared.NodeError.{NodeError}
use Rattle.vehicle_node.specs.declared.NodeError.TheVariants.{Memory, Fault as Failing, Foreign, Worn}
use Rattle.vehicle_node.specs.declared.Turn.{Turn}
use Rattle.script_lines.specs.Script.{ScriptLine}
use Rattle.script_board.specs.Hearing.{IsUnheard}
use Rattle.script_board.specs.declared.board.ScriptMark.{ScriptMark}
use Rattle.script_board.specs.declared.board.ScriptMark.TheVariants.{Lost, Refused, Input, Output}
use Rattle.script_board.proofs.Hearing.{length-heard}
use Rattle.script_replay.specs.Steps.Answers.{ended}
use Rattle.script_replay.specs.Calls.{HasHeard, WaitsBy, events_heard}
use Rattle.script_replay.proofs.Uses.{CameBy}

empty : (e : Received) → [] ≡ e ∷ [] → ⊥
empty e is = cc

closed : false ≡ true → ⊥
closed is = cc

not_lost : (line : ℕ) → Some Lost ≡ Some (Refused line) → ⊥
not_lost line is = cc

not_input : (line : ℕ) → Some Input ≡ Some (Refused line) → ⊥
not_input line is = cc

same_line : (a b : ℕ) → Some (Refused a) ≡ Some (Refused b) → b ≡ a
same_line a b is = cc

pub waits_refused : (m : Option ScriptMark) (line would now : ℕ) → m ≡ Some (Refused line) → WaitsBy m would now → ⊥
waits_refused m line would now is waits = subst (λ (n : Option ScriptMark). WaitsBy n would now) is waits

module _ (buffer : List ℕ) (m : Option ScriptMark) (before now was here : ℕ) (refused : Type 0) (next : ℕ) (lines : List ScriptLine) where
  -- a call that has no room for a reception takes no line, where it received nothing
  pub quiet : (heard : Option Event) (room : Bool) → [] ≡ events_heard heard buffer → room ≡ false → HasHeard room heard buffer m before now was here next refused lines → (lines ≡ []) × WaitsBy m before now
  quiet None room none shut (inl only) = only
  quiet None room none shut (inr (has_room, un, waits)) = absurd (closed (sym shut ∙ has_room))
  quiet (Some heard) room none shut hears = absurd (empty _ none)

  refused_by : (line : ℕ) → m ≡ Some (Refused line) → IsUnheard None m 0 lines was here next refused → (line ≡ next) × refused
  refused_by line is (inl (front, lines_are, losses, mark, still)) = absurd (not_lost line (sym mark ∙ is))
  refused_by line is (inr (inl (losses, fault, mark))) = absurd (not_input line (sym (mark refl) ∙ is))
  refused_by line is (inr (inr (losses, refusal, mark, still))) = (same_line next line (sym mark ∙ is), refusal)

  pub refused_so : (heard : Option Event) (room : Bool) (line : ℕ) → HasHeard room heard buffer m before now was here next refused lines → m ≡ Some (Refused line) → (line ≡ next) × refused
  refused_so None room line (inl only) is = absurd (waits_refused m line before now is only.1)
  refused_so None room line (inr (has_room, un, waits)) is = refused_by line is un
  refused_so (Some heard) room line hears is = absurd (waits_refused m line _ now is hears.1)

  some_by : (heard : Option Event) (room : Bool) (turn : Turn) → HasHeard room heard buffer m before now was here next refused lines → CameBy (Ok turn) (events_heard heard buffer) → 1 ≤ length lines
  some_by None room turn hears came = absurd (empty came.0 came.1)
  some_by (Some heard) room turn hears came = length-heard heard buffer lines hears.0

-- an event that came took a line at least
module _ (buffer : List ℕ) (before now was here : ℕ) (refused : Type 0) (next : ℕ) (lines : List ScriptLine) where
  pub some_lines : (m : Option ScriptMark) (a : Result Turn NodeError) (heard : Option Event) (room : Bool) → HasHeard room heard buffer m before now was here next refused lines
      → CameBy a (events_heard heard buffer) → OnOk (ended m a) (1 ≤ length lines)
  some_lines (Some Lost) a heard room hears came = tt
  some_lines (Some (Refused line)) a heard room hears came = tt
  some_lines (Some Input) a heard room hears came = tt
  some_lines (Some Output) a heard room hears came = tt
  some_lines None (Ok turn) heard room hears came = some_by buffer None before now was here refused next lines heard room turn hears came
  some_lines None (Err Memory) heard room hears came = tt
  some_lines None (Err (Failing kind)) heard room hears came = tt
  some_lines None (Err (Foreign region offset word)) heard room hears came = tt
  some_lines None (Err (Worn count)) heard room hears came = tt
