-- What a reception heard, and what follows for the lines that it took.
use Rattle.std.proofs.Common.{◌≡◌, ◌≢◌, inl, inr, ℕ, ◌≤◌, List, [], ◌∷◌, ◌++◌, length, Option, Result, Ok, Err, refl, sym, ◌∙◌, ap, subst, arith, append_assoc, append-nil, length-append}
use Rattle.std.specs.Prelude.{MatchResult}
use Rattle.flash_traits.specs.Losses as link
use Rattle.flash_traits.specs.Losses.{Received, received}
use Rattle.flash_traits.specs.declared.board.Event.{Event}
use Rattle.flash_traits.specs.declared.board.Event.TheVariants as event
use Rattle.flash_traits.specs.declared.board.Failed.{Failed}
use Rattle.script_lines.specs.Script.{ScriptLine, Datagram, Idle, LossNow, LossLater, End, HasNoEnd}
use Rattle.script_board.specs.Taking.{events_in, events_of}
use Rattle.script_board.specs.Hearing.{loses_in, HasNoLossNow, EndsWithEnd, AreLosses, IsEventHeard, IsUnheard}
use Rattle.script_board.specs.declared.board.ScriptMark.{ScriptMark}

no_loss : (n : ℕ) → n ≡ 0 → n ≡ 1 → ⊥
no_loss n zero one = omega (arith, zero, one)

loss_events : (l : ScriptLine) → loses_in l ≡ 1 → events_in l ≡ []
loss_events (Datagram station bytes) is = absurd (no_loss 0 refl is)
loss_events Idle is = absurd (no_loss 0 refl is)
loss_events LossNow is = refl
loss_events (LossLater call how) is = refl
loss_events End is = absurd (no_loss 0 refl is)

loss_later : (l : ScriptLine) → loses_in l ≡ 1 → l ≢ LossNow
loss_later l is now = no_loss (loses_in l) (ap loses_in now) is

loss_no_end : (l : ScriptLine) → loses_in l ≡ 1 → l ≢ End
loss_no_end l is end = no_loss (loses_in l) (ap loses_in end) is

pub AreLosses-append : (a b : List ScriptLine) → AreLosses a → AreLosses b → AreLosses (a ++ b)
AreLosses-append [] b x y = y
AreLosses-append (l ∷ a) b x y = (x.0, AreLosses-append a b x.1 y)

pub events-append : (a b : List ScriptLine) → events_of (a ++ b) ≡ events_of a ++ events_of b
events-append [] b = refl
events-append (l ∷ a) b = ap (λ (e : List Received). events_in l ++ e) (events-append a b) ∙ sym (append_assoc (events_in l) (events_of a) (events_of b))

-- losses at later calls are no events, no losses now, and no end
pub no_events-losses : (lines : List ScriptLine) → AreLosses lines → events_of lines ≡ []
no_events-losses [] x = refl
no_events-losses (l ∷ a) x = ap (λ (e : List Received). e ++ events_of a) (loss_events l x.0) ∙ no_events-losses a x.1

pub no_loss_now-losses : (lines : List ScriptLine) → AreLosses lines → HasNoLossNow lines
no_loss_now-losses [] x = tt
no_loss_now-losses (l ∷ a) x = (loss_later l x.0, no_loss_now-losses a x.1)

pub no_end-losses : (lines : List ScriptLine) → AreLosses lines → HasNoEnd lines
no_end-losses [] x = tt
no_end-losses (l ∷ a) x = (loss_no_end l x.0, no_end-losses a x.1)

-- one line after such losses
event_last : (a : List ScriptLine) (l : ScriptLine) → AreLosses a → events_of (a ++ l ∷ []) ≡ events_in l
event_last a l x = events-append a (l ∷ []) ∙ ap (λ (e : List Received). e ++ (events_in l ++ [])) (no_events-losses a x) ∙ append-nil (events_in l)

no_loss_then : (a : List ScriptLine) (l : ScriptLine) → AreLosses a → l ≢ LossNow → HasNoLossNow (a ++ l ∷ [])
no_loss_then [] l x other = (other, tt)
no_loss_then (m ∷ a) l x other = (loss_later m x.0, no_loss_then a l x.1 other)

no_end_then : (a : List ScriptLine) (l : ScriptLine) → AreLosses a → l ≢ End → HasNoEnd (a ++ l ∷ [])
no_end_then [] l x other = (other, tt)
no_end_then (m ∷ a) l x other = (loss_no_end m x.0, no_end_then a l x.1 other)

-- a reception that heard an event
module _ (event : Event) (buffer : List ℕ) (lines : List ScriptLine) where
  pub events-heard : IsEventHeard event buffer lines → events_of lines ≡ received event buffer ∷ []
  events-heard h = ap events_of h.2 ∙ event_last h.0 h.1 h.3 ∙ h.4

  pub no_loss_now-heard : IsEventHeard event buffer lines → HasNoLossNow lines
  no_loss_now-heard h = subst HasNoLossNow (sym h.2) (no_loss_then h.0 h.1 h.3 (λ now. absurd (silent (sym h.4 ∙ ap events_in now))))
    where
      silent : received event buffer ∷ [] ≡ [] → ⊥
      silent is = cc

  pub no_end-heard : IsEventHeard event buffer lines → received event buffer ≢ link.End → HasNoEnd lines
  no_end-heard h other = subst HasNoEnd (sym h.2) (no_end_then h.0 h.1 h.3 (λ end. other (same (sym h.4 ∙ ap events_in end))))
    where
      same : received event buffer ∷ [] ≡ link.End ∷ [] → received event buffer ≡ link.End
      same is = cc

  pub length-heard : IsEventHeard event buffer lines → 1 ≤ length lines
  length-heard h = let long = ap length h.2 ∙ length-append h.0 (h.1 ∷ []) in omega (arith, long)

ends_in : (l : ScriptLine) → events_in l ≡ link.End ∷ [] → l ≡ End
ends_in (Datagram station bytes) is = absurd (cc)
ends_in Idle is = absurd (cc)
ends_in LossNow is = absurd (cc)
ends_in (LossLater call how) is = absurd (cc)
ends_in End is = refl

-- the end was heard
pub ends-heard : (buffer : List ℕ) (lines : List ScriptLine) → IsEventHeard event.End buffer lines → EndsWithEnd lines
ends-heard buffer lines h = (h.0, h.2 ∙ ap (λ (l : ScriptLine). h.0 ++ l ∷ []) (ends_in h.1 h.4), no_end-losses h.0 h.3)

-- a line `x` after such losses
module _ (front lines : List ScriptLine) (ends : lines ≡ front ++ LossNow ∷ []) (losses : AreLosses front) where
  pub no_events-lost : events_of lines ≡ []
  no_events-lost = ap events_of ends ∙ event_last front LossNow losses

  pub no_end-lost : HasNoEnd lines
  no_end-lost = subst HasNoEnd (sym ends) (no_end_then front LossNow losses (λ is. other is))
    where
      other : LossNow ≡ End → ⊥
      other is = cc

  pub length-lost : 1 ≤ length lines
  length-lost = let long = ap length ends ∙ length-append front (LossNow ∷ []) in omega (arith, long)

-- a reception that heard no event
module _ (mark_before mark_now : Option ScriptMark) (failures : ℕ) (lines : List ScriptLine) (faults_before faults_now line : ℕ) (refused : Type 0) where
  pub no_events-unheard : IsUnheard mark_before mark_now failures lines faults_before faults_now line refused → events_of lines ≡ []
  no_events-unheard (inl (front, ends, losses, mark, still)) = no_events-lost front lines ends losses
  no_events-unheard (inr (inl (losses, fault, mark))) = no_events-losses lines losses
  no_events-unheard (inr (inr (losses, refusal, mark, still))) = no_events-losses lines losses

  pub no_end-unheard : IsUnheard mark_before mark_now failures lines faults_before faults_now line refused → HasNoEnd lines
  no_end-unheard (inl (front, ends, losses, mark, still)) = no_end-lost front lines ends losses
  no_end-unheard (inr (inl (losses, fault, mark))) = no_end-losses lines losses
  no_end-unheard (inr (inr (losses, refusal, mark, still))) = no_end-losses lines losses

  -- the events of a reception's lines
  pub events-result : (r : Result Event Failed) (buffer : List ℕ)
      → MatchResult r (λ event. IsEventHeard event buffer lines) (λ failed. IsUnheard mark_before mark_now failures lines faults_before faults_now line refused)
      → MatchResult r (λ event. events_of lines ≡ received event buffer ∷ []) (λ failed. events_of lines ≡ [])
  events-result (Ok event) buffer heard = events-heard event buffer lines heard
  events-result (Err failed) buffer unheard = no_events-unheard unheard
