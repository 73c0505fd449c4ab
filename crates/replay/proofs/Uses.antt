-- What calls do with the lines and with the waiting losses, one after another.
use Rattle.std.proofs.Common.{◌≡◌, ℕ, ◌+◌, List, [], ◌∷◌, ◌++◌, Result, Ok, Err, IfErr, inl, inr, length, refl, sym, ◌∙◌, ap, subst, arith, append_assoc}
use Rattle.script_lines.specs.Script.{ScriptLine, LossNow, End, HasNoEnd}
use Rattle.script_board.specs.Hearing.{loses, FewWait, HasNoLossNow, EndsWithEnd}
use Rattle.script_board.specs.Taking.{events_of}
use Rattle.vehicle_node.specs.Standing.{Node}
use Rattle.vehicle_node.specs.declared.Turn.{Turn}
use Rattle.vehicle_node.specs.declared.Turn.TheVariants as turn
use Rattle.replay.specs.Breaks.{OnStopped, OnRefused}
use Rattle.replay.specs.Playing.{Falls, BreaksSo, TurnUses, PlayUses, QuietUses}
use Rattle.replay.specs.declared.Break.{Break}
use Rattle.replay.specs.declared.Break.TheVariants.{Lost, Stopped}
use Rattle.replay.proofs.Causes.{refused_map, between_map, between_all}
use Rattle.replay.proofs.Steps.{events_length}

pub loses-append : (a b : List ScriptLine) → loses (a ++ b) ≡ loses a + loses b
loses-append [] b = omega arith
loses-append (l ∷ a) b = let rest = loses-append a b in omega (arith, rest)

pub no_cut-append : (a b : List ScriptLine) → HasNoLossNow a → HasNoLossNow b → HasNoLossNow (a ++ b)
no_cut-append [] b none other = other
no_cut-append (l ∷ a) b none other = (none.0, no_cut-append a b none.1 other)

pub no_end-append : (a b : List ScriptLine) → HasNoEnd a → HasNoEnd b → HasNoEnd (a ++ b)
no_end-append [] b none other = other
no_end-append (l ∷ a) b none other = (none.0, no_end-append a b none.1 other)

pub end-append : (a b : List ScriptLine) → HasNoEnd a → EndsWithEnd b → EndsWithEnd (a ++ b)
end-append a b none ends = (a ++ ends.0, ap (λ (l : List ScriptLine). a ++ l) ends.1 ∙ sym (append_assoc a ends.0 (End ∷ [])), no_end-append a ends.0 none ends.2)

pub waits_then : (a b : List ScriptLine) (u v w : ℕ) → v ≡ u + loses a → w ≡ v + loses b → w ≡ u + loses (a ++ b)
waits_then a b u v w first second = omega (arith, first, second, loses-append a b)

pub few_none : (u : ℕ) → FewWait u []
few_none u few = omega (arith, few)

pub few_then : (a b : List ScriptLine) (u v : ℕ) → v ≡ u + loses a → FewWait u a → FewWait v b → FewWait u (a ++ b)
few_then a b u v is first second few = let now = first few in let later = second (omega (arith, is, now)) in omega (arith, is, later, loses-append a b)

-- lines before those of a call that broke off
module _ (a b : List ScriptLine) (n u v w : ℕ) (no_cut : HasNoLossNow a) (no_end : HasNoEnd a) (first : v ≡ u + loses a) where
  falls_then : Falls b n v w → Falls (a ++ b) (length (events_of a) + n) u w
  falls_then (inl cut) = inl (
    (
      a ++ cut.0.0,
      ap (λ (l : List ScriptLine). a ++ l) cut.0.1 ∙ sym (append_assoc a cut.0.0 (LossNow ∷ [])),
      no_cut-append a cut.0.0 no_cut cut.0.2,
      let here = cut.0.3 in omega (arith, here, events_length a b),
    ),
    let second = cut.1 in omega (arith, first, second, loses-append a b),
  )
  falls_then (inr call) = inr (no_cut-append a b no_cut call.0, let second = call.1 in omega (arith, first, second, loses-append a b))

  pub breaks_off_then : (how : Break) → BreaksSo how b n v w → BreaksSo how (a ++ b) (length (events_of a) + n) u w
  breaks_off_then Lost uses = (no_end-append a b no_end uses.0, falls_then uses.1)
  breaks_off_then (Stopped why) uses = (
    no_cut-append a b no_cut uses.0,
    between_map why (λ all. omega (arith, all, events_length a b)) uses.1,
    refused_map why (λ line is. (no_end-append a b no_end is.0, waits_then a b u v w first is.1)) uses.2,
  )

-- what became of them, by how it broke off
pub breaks_by : (how why : Break) (lines : List ScriptLine) (n u v : ℕ) → how ≡ why → BreaksSo how lines n u v → BreaksSo why lines n u v
breaks_by how why lines n u v is uses = subst (λ (h : Break). BreaksSo h lines n u v) is uses

-- what an event does, by its turn
pub end_uses : (t : Turn) (lines : List ScriptLine) (n u v : ℕ) → t ≡ turn.End → TurnUses (Ok t) lines n u v → HasNoLossNow lines × EndsWithEnd lines × (v ≡ 0)
end_uses t lines n u v is uses = subst (λ (s : Turn). TurnUses (Ok s) lines n u v) is uses

pub more_uses : (t : Turn) (lines : List ScriptLine) (n u v : ℕ) → t ≡ turn.More → TurnUses (Ok t) lines n u v → HasNoLossNow lines × HasNoEnd lines × (v ≡ u + loses lines)
more_uses t lines n u v is uses = subst (λ (s : Turn). TurnUses (Ok s) lines n u v) is uses

-- an opening that broke off
pub open_breaks_off : (how : Break) (u w : ℕ) → QuietUses {T = Node} (Err how) u w → OnStopped (OnRefused (λ line. ⊥)) how → BreaksSo how [] 0 u w
open_breaks_off Lost u w uses never = (tt, inr (tt, omega (arith, uses)))
open_breaks_off (Stopped why) u w uses never = (tt, between_all why refl, refused_map why (λ line no. absurd no) never)

-- a close after the end
pub close_uses : {T : Type 0} (r : Result T Break) (lines : List ScriptLine) (u v w : ℕ) → HasNoLossNow lines → EndsWithEnd lines → v ≡ 0 → QuietUses r v w → IfErr r (OnStopped (OnRefused (λ line. ⊥)))
    → PlayUses r lines (length (events_of lines)) u w
close_uses (Ok t) lines u v w none ends zero uses never = (none, ends, uses ∙ zero)
close_uses (Err Lost) lines u v w none ends zero uses never = absurd (omega (arith, zero, uses))
close_uses (Err (Stopped why)) lines u v w none ends zero uses never = (none, between_all why refl, refused_map why (λ line no. absurd no) never)
