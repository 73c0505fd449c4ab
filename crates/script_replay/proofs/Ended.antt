-- How a call ended, by the mark and by the node's answer.
use Rattle.std.proofs.Common.{◌≡◌, ◌≢◌, ℕ, ◌+◌, List, [], ◌++◌, Option, Some, None, Result, Ok, Err, IfOk, IfErr, refl, sym, ◌∙◌, ap, arith, ◌⊎◌, inl, inr}
use Rattle.flash_traits.specs.Words.{Words}
use Rattle.flash_traits.specs.Causes.{counts_by_kind, counts_after, raised_at, told_by}
use Rattle.flash_traits.specs.Counts.{raised}
use Rattle.flash_traits.specs.Losses.{Received, SentFrame}
use Rattle.flash_traits.specs.declared.board.Fault.{Fault}
use Rattle.flash_traits.specs.declared.board.Fault.TheVariants.{Attach, Read, Flash, Recv, Send}
use Rattle.sector_image.specs.FirstBad.{Place}
use Rattle.sector_image.specs.Stands.{Stands}
use Rattle.vehicle_runs.specs.Safe.{Safe}
use Rattle.vehicle_runs.specs.Guard.{MayWear}
use Rattle.vehicle_node.specs.Refusals as refusals
use Rattle.vehicle_node.specs.Standing.{Node, StandsForRun, StaysWithin}
use Rattle.guard_row.specs.Row.{IsGuardRow}
use Rattle.vehicle_node.specs.declared.NodeError.{NodeError}
use Rattle.vehicle_node.specs.declared.NodeError.TheVariants.{Memory, Fault as Failing, Foreign, Worn}
use Rattle.vehicle_node.specs.declared.Turn.{Turn}
use Rattle.script_board.specs.declared.board.ScriptMark.{ScriptMark}
use Rattle.script_board.specs.declared.board.ScriptMark.TheVariants.{Lost, Refused, Input, Output}
use Rattle.replay.specs.Breaks.{OnStopped, OnForeign, OnWorn, OnRefused, after_break, input_counted, output_counted}
use Rattle.replay.specs.Guard.{Rises}
use Rattle.replay.specs.Playing.{Opens, OpenEnds, CloseEnds, EventEnds, GoesOn, QuietUses}
use Rattle.replay.specs.declared.Break.{Break}
use Rattle.replay.specs.declared.Break.TheVariants.{Stopped}
use Rattle.replay.specs.declared.Stop.TheVariants as stops
use Rattle.script_replay.specs.Steps.Answers.{ended}
use Rattle.script_replay.specs.Calls.{WaitsBy}
use Rattle.script_replay.specs.Held.{input_marked, output_marked}

-- a count that rose isn't 0
not_none : (before now : ℕ) → now ≡ 0 → now ≡ raised before → ⊥
not_none before now none rose = omega (arith, none, rose)

-- where no call failed but attaches, an answer is no fault
module _ (Kinds : Fault → Type 0) (other : (kind : Fault) → Kinds kind → kind ≢ Attach) (a r p v s : ℕ) (none : (r ≡ 0) × (p ≡ 0) × (v ≡ 0) × (s ≡ 0)) (before : Fault → ℕ) where
  never : (kind : Fault) → Kinds kind → counts_by_kind a r p v s ≡ counts_after (Some kind) before → ⊥
  never Attach is counts = other Attach is refl
  never Read is counts = not_none (before Read) r none.0 (ap (λ (f : Fault → ℕ). f Read) counts)
  never Flash is counts = not_none (before Flash) p none.1 (ap (λ (f : Fault → ℕ). f Flash) counts)
  never Recv is counts = not_none (before Recv) v none.2 (ap (λ (f : Fault → ℕ). f Recv) counts)
  never Send is counts = not_none (before Send) s none.3 (ap (λ (f : Fault → ℕ). f Send) counts)

  pub no_fault : (T : Type 0) (x : Result T NodeError) → counts_by_kind a r p v s ≡ counts_after (told_by refusals.fault_in x) before → IfErr x (λ e. refusals.OnFault e Kinds) → IfErr x (λ e. refusals.OnFault e (λ kind. ⊥))
  no_fault T (Ok value) counts why = tt
  no_fault T (Err Memory) counts why = tt
  no_fault T (Err (Failing kind)) counts why = never kind why counts
  no_fault T (Err (Foreign region offset word)) counts why = tt
  no_fault T (Err (Worn count)) counts why = tt

-- a read, a program and an erase are no attach
pub no_attach : (kind : Fault) → (kind ≡ Read) ⊎ (kind ≡ Flash) → kind ≢ Attach
no_attach kind (inl read) attach = let other : Read ≡ Attach = sym read ∙ attach in cc
no_attach kind (inr flash) attach = let other : Flash ≡ Attach = sym flash ∙ attach in cc

pub no_attach_of_four : (kind : Fault) → (kind ≡ Read) ⊎ ((kind ≡ Flash) ⊎ ((kind ≡ Recv) ⊎ (kind ≡ Send))) → kind ≢ Attach
no_attach_of_four kind (inl read) attach = let other : Read ≡ Attach = sym read ∙ attach in cc
no_attach_of_four kind (inr (inl flash)) attach = let other : Flash ≡ Attach = sym flash ∙ attach in cc
no_attach_of_four kind (inr (inr (inl recv))) attach = let other : Recv ≡ Attach = sym recv ∙ attach in cc
no_attach_of_four kind (inr (inr (inr send))) attach = let other : Send ≡ Attach = sym send ∙ attach in cc

-- counts of which none ever rises tell no fault
pub never_raised : (kind : Fault) → (λ (k : Fault). 0) ≡ raised_at kind (λ (k : Fault). 0) → ⊥
never_raised Attach counts = not_none 0 0 refl (ap (λ (f : Fault → ℕ). f Attach) counts)
never_raised Read counts = not_none 0 0 refl (ap (λ (f : Fault → ℕ). f Read) counts)
never_raised Flash counts = not_none 0 0 refl (ap (λ (f : Fault → ℕ). f Flash) counts)
never_raised Recv counts = not_none 0 0 refl (ap (λ (f : Fault → ℕ). f Recv) counts)
never_raised Send counts = not_none 0 0 refl (ap (λ (f : Fault → ℕ). f Send) counts)

module _ {T : Type 0} where
  -- what holds where the node answers, also where its answer isn't taken
  pub on_ok : (P : T → Type 0) (m : Option ScriptMark) (a : Result T NodeError) → IfOk a P → IfOk (ended m a) P
  on_ok P (Some Lost) a is = tt
  on_ok P (Some (Refused line)) a is = tt
  on_ok P (Some Input) a is = tt
  on_ok P (Some Output) a is = tt
  on_ok P None (Ok v) is = is
  on_ok P None (Err Memory) is = tt
  on_ok P None (Err (Failing kind)) is = tt
  on_ok P None (Err (Foreign region offset word)) is = tt
  on_ok P None (Err (Worn count)) is = tt

  -- the causes of a stop
  pub on_foreign : (P Q : Place → Type 0) → ((p : Place) → Q p → P p) → (m : Option ScriptMark) (a : Result T NodeError) → IfErr a (λ e. refusals.OnForeign e Q) → IfErr (ended m a) (OnStopped (OnForeign P))
  on_foreign P Q so (Some Lost) a why = tt
  on_foreign P Q so (Some (Refused line)) a why = tt
  on_foreign P Q so (Some Input) a why = tt
  on_foreign P Q so (Some Output) a why = tt
  on_foreign P Q so None (Ok v) why = tt
  on_foreign P Q so None (Err Memory) why = tt
  on_foreign P Q so None (Err (Failing kind)) why = tt
  on_foreign P Q so None (Err (Foreign region offset word)) why = so _ why
  on_foreign P Q so None (Err (Worn count)) why = tt

  pub on_worn : (P Q : ℕ → Type 0) → ((count : ℕ) → Q count → P count) → (m : Option ScriptMark) (a : Result T NodeError) → IfErr a (λ e. refusals.OnWorn e Q) → IfErr (ended m a) (OnStopped (OnWorn P))
  on_worn P Q so (Some Lost) a why = tt
  on_worn P Q so (Some (Refused line)) a why = tt
  on_worn P Q so (Some Input) a why = tt
  on_worn P Q so (Some Output) a why = tt
  on_worn P Q so None (Ok v) why = tt
  on_worn P Q so None (Err Memory) why = tt
  on_worn P Q so None (Err (Failing kind)) why = tt
  on_worn P Q so None (Err (Foreign region offset word)) why = tt
  on_worn P Q so None (Err (Worn count)) why = so count why

  pub on_refused : (P : ℕ → Type 0) (m : Option ScriptMark) (a : Result T NodeError) → ((line : ℕ) → m ≡ Some (Refused line) → P line) → IfErr (ended m a) (OnStopped (OnRefused P))
  on_refused P (Some Lost) a why = tt
  on_refused P (Some (Refused line)) a why = why line refl
  on_refused P (Some Input) a why = tt
  on_refused P (Some Output) a why = tt
  on_refused P None (Ok v) why = tt
  on_refused P None (Err Memory) why = tt
  on_refused P None (Err (Failing kind)) why = tt
  on_refused P None (Err (Foreign region offset word)) why = tt
  on_refused P None (Err (Worn count)) why = tt

  -- the counts of the source and of the sink
  pub ended_input : (m : Option ScriptMark) (a : Result T NodeError) (before : ℕ) → input_marked m before ≡ after_break input_counted (ended m a) before
  ended_input (Some Lost) a before = refl
  ended_input (Some (Refused line)) a before = refl
  ended_input (Some Input) a before = refl
  ended_input (Some Output) a before = refl
  ended_input None (Ok v) before = refl
  ended_input None (Err Memory) before = refl
  ended_input None (Err (Failing kind)) before = refl
  ended_input None (Err (Foreign region offset word)) before = refl
  ended_input None (Err (Worn count)) before = refl

  pub ended_output : (m : Option ScriptMark) (a : Result T NodeError) (before : ℕ) → output_marked m before ≡ after_break output_counted (ended m a) before
  ended_output (Some Lost) a before = refl
  ended_output (Some (Refused line)) a before = refl
  ended_output (Some Input) a before = refl
  ended_output (Some Output) a before = refl
  ended_output None (Ok v) before = refl
  ended_output None (Err Memory) before = refl
  ended_output None (Err (Failing kind)) before = refl
  ended_output None (Err (Foreign region offset word)) before = refl
  ended_output None (Err (Worn count)) before = refl

  -- a mark of the sink is told by the result
  pub no_output : (r : Result T Break) (m : Option ScriptMark) (a : Result T NodeError) → r ≡ ended m a → r ≢ Err (Stopped stops.Output) → m ≢ Some Output
  no_output r m a is other mark = other (is ∙ ap (λ (n : Option ScriptMark). ended n a) mark)

  -- the losses that wait behind a call that took no line
  pub quiet_uses : (m : Option ScriptMark) (a : Result T NodeError) (before now : ℕ) → WaitsBy m before now → QuietUses (ended m a) before now
  quiet_uses (Some Lost) a before now waits = waits
  quiet_uses (Some (Refused line)) a before now waits = absurd waits
  quiet_uses (Some Input) a before now waits = absurd waits
  quiet_uses (Some Output) a before now waits = waits
  quiet_uses None (Ok v) before now waits = waits
  quiet_uses None (Err Memory) before now waits = waits
  quiet_uses None (Err (Failing kind)) before now waits = waits
  quiet_uses None (Err (Foreign region offset word)) before now waits = waits
  quiet_uses None (Err (Worn count)) before now waits = waits

-- one event is finished where the node answers, also where its answer isn't taken
abbrev pub finished_by : Result Turn NodeError → ℕ
finished_by (Ok turn) = 1
finished_by (Err e) = 0

-- how an opening, an event and a close end
module _ (budget : ℕ) (before now : Words) where
  pub open_ends : (r : Result Node Break) → IfOk r (Opens budget before)
      → ((b : List ℕ) → Stands before b → Safe budget b [] [] 0 now)
      → ((count : ℕ) (b : List ℕ) → IsGuardRow before.guard count → Stands before b → Rises budget count b [] now)
      → IfErr r (OnStopped (OnWorn (λ full. (count : ℕ) (b : List ℕ) → IsGuardRow before.guard count → Stands before b → MayWear budget count b [])))
      → OpenEnds budget r before now
  open_ends (Ok node) opened safe rises worn = opened
  open_ends (Err how) opened safe rises worn = record { safe = safe; rises = rises; worn = worn }

module _ (budget : ℕ) (old : Node) (events : List Received) where
  -- the run that the node stood for issues lines enough to wear the guard row
  abbrev pub Wears : Type 0
  Wears = (count : ℕ) (b : List ℕ) (e : List Received) (f : List SentFrame) (m : ℕ) → StaysWithin count old b e f m → MayWear budget count b (e ++ events)

  module _ (frames : List SentFrame) (finished : ℕ) (words : Words)
      (safe : (b : List ℕ) (e : List Received) (f : List SentFrame) (m : ℕ) → StandsForRun old b e f m → Safe budget b (e ++ events) (f ++ frames) (m + finished) words)
      (rises : (count : ℕ) (b : List ℕ) (e : List Received) (f : List SentFrame) (m : ℕ) → StaysWithin count old b e f m → Rises budget count b (e ++ events) words) where
    pub event_ends : (new : Node) (r : Result Turn Break) → IfOk r (λ turn. GoesOn old new events frames × (new.budget ≡ old.budget)) → IfErr r (OnStopped (OnWorn (λ full. Wears)))
        → EventEnds budget r old new events frames finished words
    event_ends new (Ok turn) goes worn = goes
    event_ends new (Err how) goes worn = record { safe = safe; rises = rises; worn = worn }

module _ (budget : ℕ) (node : Node) (now : Words) where
  pub close_ends : (r : Result (Unit {0}) Break) → IfOk r (λ t. CloseEnds {T = Unit {0}} budget (Ok tt) node now)
      → ((b : List ℕ) (e : List Received) (f : List SentFrame) (m : ℕ) → StandsForRun node b e f m → Safe budget b (e ++ []) (f ++ []) (m + 0) now)
      → ((count : ℕ) (b : List ℕ) (e : List Received) (f : List SentFrame) (m : ℕ) → StaysWithin count node b e f m → Rises budget count b (e ++ []) now)
      → IfErr r (OnStopped (OnWorn (λ full. Wears budget node []))) → CloseEnds budget r node now
  close_ends (Ok t) closed safe rises worn = closed
  close_ends (Err how) closed safe rises worn = record { safe = safe; rises = rises; worn = worn }
