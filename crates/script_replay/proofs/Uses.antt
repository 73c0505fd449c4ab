-- What an event did with the lines of the script and with the waiting losses.
use Rattle.std.proofs.Common.{◌≡◌, ◌≢◌, ◌↔◌, inl, inr, ℕ, ◌+◌, List, [], ◌∷◌, ◌++◌, length, true, Option, Some, None, Result, Ok, Err, refl, sym, ◌∙◌, ap, subst, arith}
use Rattle.flash_traits.specs.Losses as link
use Rattle.flash_traits.specs.Losses.{Received, received}
use Rattle.flash_traits.specs.declared.board.Event.{Event}
use Rattle.flash_traits.specs.declared.board.Event.TheVariants as event
use Rattle.vehicle_node.specs.declared.NodeError.{NodeError}
use Rattle.vehicle_node.specs.declared.NodeError.TheVariants.{Memory, Fault as Failing, Foreign, Worn}
use Rattle.vehicle_node.specs.declared.Turn.{Turn}
use Rattle.vehicle_node.specs.declared.Turn.TheVariants as turn
use Rattle.script_lines.specs.Script.{ScriptLine, LossNow}
use Rattle.script_board.specs.Hearing.{loses, AreLosses, IsEventHeard, IsUnheard, waiting_behind}
use Rattle.script_board.specs.declared.board.ScriptMark.{ScriptMark}
use Rattle.script_board.specs.declared.board.ScriptMark.TheVariants.{Lost, Refused, Input, Output}
use Rattle.script_board.proofs.Hearing.{no_events-losses, no_loss_now-losses, no_end-losses, no_events-lost, no_end-lost, no_loss_now-heard, no_end-heard, ends-heard}
use Rattle.replay.specs.Playing.{TurnUses}
use Rattle.script_replay.specs.Steps.Answers.{ended}
use Rattle.script_replay.specs.Calls.{HasHeard, WaitsBy, events_heard}
use Rattle.script_replay.proofs.Ended.{finished_by}

-- the node's answer tells whether the event was the end
abbrev pub CameBy : Result Turn NodeError → List Received → Type 0
CameBy (Ok answer) events = (came : Received) × (events ≡ came ∷ []) × ((answer ≡ turn.End) ↔ (came ≡ link.End))
CameBy (Err e) events = Unit {0}

empty : (e : Received) → [] ≡ e ∷ [] → ⊥
empty e is = cc

head : (x y : Received) → x ∷ [] ≡ y ∷ [] → x ≡ y
head x y is = cc

not_end : turn.More ≡ turn.End → ⊥
not_end is = cc

idle_end : link.Idle ≡ link.End → ⊥
idle_end is = cc

datagram_end : (peer : ℕ) (bytes : List ℕ) → link.Datagram peer bytes ≡ link.End → ⊥
datagram_end peer bytes is = cc

module _ (buffer : List ℕ) (lines : List ScriptLine) (before now : ℕ) where
  -- where nothing was received
  nothing : (m : Option ScriptMark) (e : NodeError) → lines ≡ [] → WaitsBy m before now → TurnUses (ended m (Err e)) lines 0 before now
  nothing m e none waits = subst (λ (l : List ScriptLine). TurnUses (ended m (Err e)) l 0 before now) (sym none) (by m e waits)
    where
      by : (m : Option ScriptMark) (e : NodeError) → WaitsBy m before now → TurnUses (ended m (Err e)) [] 0 before now
      by (Some Lost) e waits = (tt, inr (tt, omega (arith, waits)))
      by (Some (Refused line)) e waits = absurd waits
      by (Some Input) e waits = absurd waits
      by (Some Output) e waits = (tt, tt, tt)
      by None Memory waits = (tt, tt, tt)
      by None (Failing kind) waits = (tt, tt, tt)
      by None (Foreign region offset word) waits = (tt, tt, tt)
      by None (Worn count) waits = (tt, tt, tt)

  -- a line `x` was the last one taken
  cut : (m : Option ScriptMark) (e : NodeError) → m ≡ Some Lost → (front : List ScriptLine) → lines ≡ front ++ LossNow ∷ [] → AreLosses front → now ≡ before + loses lines
      → TurnUses (ended m (Err e)) lines 0 before now
  cut m e mark front is losses waits = subst (λ (n : Option ScriptMark). TurnUses (ended n (Err e)) lines 0 before now) (sym mark) (
    no_end-lost front lines is losses,
    inl ((front, is, no_loss_now-losses front losses, sym (ap length (no_events-lost front lines is losses))), waits),
  )

  -- the source failed
  unread : (m : Option ScriptMark) (e : NodeError) → m ≡ Some Input → AreLosses lines → TurnUses (ended m (Err e)) lines 0 before now
  unread m e mark losses = subst (λ (n : Option ScriptMark). TurnUses (ended n (Err e)) lines 0 before now) (sym mark) (
    no_loss_now-losses lines losses,
    sym (ap length (no_events-losses lines losses)),
    tt,
  )

  -- the next line is refused
  refuses : (m : Option ScriptMark) (e : NodeError) (line : ℕ) → m ≡ Some (Refused line) → AreLosses lines → now ≡ before + loses lines → TurnUses (ended m (Err e)) lines 0 before now
  refuses m e line mark losses waits = subst (λ (n : Option ScriptMark). TurnUses (ended n (Err e)) lines 0 before now) (sym mark) (
    no_loss_now-losses lines losses,
    sym (ap length (no_events-losses lines losses)),
    (no_end-losses lines losses, waits),
  )

  unheard : (m : Option ScriptMark) (e : NodeError) (was here : ℕ) (refused : Type 0) (next : ℕ) → IsUnheard None m 0 lines was here next refused → now ≡ before + loses lines
      → TurnUses (ended m (Err e)) lines 0 before now
  unheard m e was here refused next (inl (front, is, losses, mark, still)) waits = cut m e mark front is losses waits
  unheard m e was here refused next (inr (inl (losses, fault, mark))) waits = unread m e (mark refl) losses
  unheard m e was here refused next (inr (inr (losses, refusal, mark, still))) waits = refuses m e next mark losses waits

  -- an event that isn't the end was heard, or the end
  module _ (heard : Event) (is : IsEventHeard heard buffer lines) where
    more : (a : Result Turn NodeError) → received heard buffer ≢ link.End → (m : Option ScriptMark) → WaitsBy m (before + loses lines) now → CameBy a (received heard buffer ∷ [])
        → TurnUses (ended m a) lines (finished_by a) before now
    more a other (Some Lost) waits came = (no_end-heard heard buffer lines is other, inr (no_loss_now-heard heard buffer lines is, waits))
    more a other (Some (Refused line)) waits came = absurd waits
    more a other (Some Input) waits came = absurd waits
    more a other (Some Output) waits came = (no_loss_now-heard heard buffer lines is, tt, tt)
    more (Ok turn.More) other None waits came = (no_loss_now-heard heard buffer lines is, no_end-heard heard buffer lines is other, waits)
    more (Ok turn.End) other None waits came = absurd (other (head _ _ came.1 ∙ came.2.0 refl))
    more (Err Memory) other None waits came = (no_loss_now-heard heard buffer lines is, tt, tt)
    more (Err (Failing kind)) other None waits came = (no_loss_now-heard heard buffer lines is, tt, tt)
    more (Err (Foreign region offset word)) other None waits came = (no_loss_now-heard heard buffer lines is, tt, tt)
    more (Err (Worn count)) other None waits came = (no_loss_now-heard heard buffer lines is, tt, tt)

  ended_so : IsEventHeard event.End buffer lines → (a : Result Turn NodeError) (m : Option ScriptMark) → WaitsBy m 0 now → CameBy a (link.End ∷ []) → TurnUses (ended m a) lines (finished_by a) before now
  ended_so is a (Some Lost) waits came = absurd (omega (arith, waits))
  ended_so is a (Some (Refused line)) waits came = absurd waits
  ended_so is a (Some Input) waits came = absurd waits
  ended_so is a (Some Output) waits came = (no_loss_now-heard event.End buffer lines is, tt, tt)
  ended_so is (Ok turn.More) None waits came = absurd (not_end (came.2.1 (sym (head _ _ came.1))))
  ended_so is (Ok turn.End) None waits came = (no_loss_now-heard event.End buffer lines is, ends-heard buffer lines is, waits)
  ended_so is (Err Memory) None waits came = (no_loss_now-heard event.End buffer lines is, tt, tt)
  ended_so is (Err (Failing kind)) None waits came = (no_loss_now-heard event.End buffer lines is, tt, tt)
  ended_so is (Err (Foreign region offset word)) None waits came = (no_loss_now-heard event.End buffer lines is, tt, tt)
  ended_so is (Err (Worn count)) None waits came = (no_loss_now-heard event.End buffer lines is, tt, tt)

  by_event : (heard : Event) (a : Result Turn NodeError) (m : Option ScriptMark) → IsEventHeard heard buffer lines → WaitsBy m (waiting_behind (Ok heard) before lines) now → CameBy a (received heard buffer ∷ [])
      → TurnUses (ended m a) lines (finished_by a) before now
  by_event (event.Datagram peer len) a m is waits came = more (event.Datagram peer len) is a (datagram_end _ _) m waits came
  by_event event.Idle a m is waits came = more event.Idle is a idle_end m waits came
  by_event event.End a m is waits came = ended_so is a m waits came

  pub turn_uses : (heard : Option Event) (a : Result Turn NodeError) (m : Option ScriptMark) (was here : ℕ) (refused : Type 0) (next : ℕ) → HasHeard true heard buffer m before now was here next refused lines
      → CameBy a (events_heard heard buffer) → TurnUses (ended m a) lines (finished_by a) before now
  turn_uses None (Ok answer) m was here refused next hears came = absurd (empty came.0 came.1)
  turn_uses None (Err e) m was here refused next (inl (none, waits)) came = nothing m e none waits
  turn_uses None (Err e) m was here refused next (inr (room, un, waits)) came = unheard m e was here refused next un waits
  turn_uses (Some heard) a m was here refused next hears came = by_event heard a m hears.0 hears.1 came
