-- What a node does whose guard row is used up.
use Rattle.std.proofs.Common.{◌≡◌, inl, inr, Bool, true, false, List, [], ◌∷◌, length, refl, sym, ap, subst, arith, Option, Some, None}
use Rattle.std.specs.Prelude.{IsTrue}
use Rattle.std.specs.Option.{option_map_or}
use Rattle.std.proofs.lemmas.Bool.{cases_Bool, both_ways}
use Rattle.flash_traits.specs.declared.numbers.TheConstants.{GUARD_HALFWORDS}
use Rattle.storage_lines.specs.declared.lines.LineWrite.{LineWrite}
use Rattle.block_store.specs.Store.{StoreState, Alone, Spilled, Spent, Store, guard_of, guard_in, is_spilled, in_one_sector, in_both_sectors}
use Rattle.dirty_lines.specs.Lines.{Lines}
use Rattle.dirty_lines.specs.Entries.{CutIntoEntries, joined}
use Rattle.dirty_lines.specs.Losses.{NextVoids}
use Rattle.dirty_lines.specs.Wearing.{NoneWears}
use Rattle.dirty_lines.proofs.Wearing.{entries_full, entries_spilled, entries_room, entries_alone, entries_next, next_none, next_more, cut_once}
use Rattle.vehicle_core.specs.declared.orders.Need.TheVariants.{Nothing, FlushAll}
use Rattle.vehicle_core.specs.declared.orders.Order.{Order}
use Rattle.vehicle_core.specs.declared.orders.Order.TheVariants.{Flush, Arm, Disarm, Deny, Refuse}
use Rattle.vehicle_core.specs.Orders.{need_of}
use Rattle.vehicle_core.specs.Acts.{Act}
use Rattle.vehicle_runs.specs.Arming.{order_heard, armed_by, is_armed_after, is_armed_after_all}
use Rattle.vehicle_node.specs.Standing.{Node, IsAloneUnlessArmed, armed_in}
use Rattle.vehicle_node.specs.Wearing.{LineStep, Issue, Put, Compact, Compacts, AreSteps, ActsUnworn, EventUnworn, PendingVoids}

-- The guard row is used up.
abbrev pub IsFull : Lines → Type 0
IsFull lines = guard_of lines.store ≡ GUARD_HALFWORDS

-- a store with a guard count at the end of the row isn't spent
one_or_both : (state : StoreState) → guard_in state ≡ GUARD_HALFWORDS → (IsTrue (in_both_sectors state) → ⊥) → IsTrue (in_one_sector state)
one_or_both (Alone kept) full never = refl
one_or_both (Spilled kept) full never = absurd (never refl)
one_or_both Spent full never = absurd (omega (arith, full))

-- then nothing is left to compact
compacts_idle : (old new : Lines) → IsFull old → Compacts old new → new ≡ old
compacts_idle old new full c = c.idle (one_or_both old.store.state full (λ spilled. c.unworn spilled full))

-- the guard count stays
steps_full : (armed : Bool) (steps : List LineStep) (old new : Lines) → AreSteps armed steps old new → IsFull old → IsFull new
steps_full armed [] old new done full = subst IsFull (sym done) full
steps_full armed (Issue writes ∷ steps) old new done full = steps_full armed steps done.0 new done.2 (subst IsFull (sym done.1) full)
steps_full armed (Put entries ∷ steps) old new done full = steps_full armed steps done.0 new done.2 (entries_full armed entries old.store done.0.store done.1.1 full)
steps_full armed (Compact ∷ steps) old new done full = steps_full armed steps done.0 new done.2 (subst IsFull (sym (compacts_idle old done.0 full done.1.1)) full)

acts_full : (armed : Bool) (acts : List Act) (writes : List LineWrite) (old new : Lines) → ActsUnworn armed acts writes old new → IsFull old → IsFull new
acts_full armed [] writes old new acted full = subst IsFull (sym acted.1) full
acts_full armed (act ∷ acts) writes old new acted full =
    acts_full (is_armed_after armed act) acts acted.1 acted.2 new acted.5 (steps_full _ acted.4.unworn.steps old acted.2 acted.4.unworn.done full)

-- a spilled store stays spilled
abbrev pub IsSpilled : Lines → Type 0
IsSpilled lines = IsTrue (is_spilled lines.store)

steps_spilled : (armed : Bool) (steps : List LineStep) (old new : Lines) → AreSteps armed steps old new → IsFull old → IsSpilled old → IsSpilled new
steps_spilled armed [] old new done full spilled = subst IsSpilled (sym done) spilled
steps_spilled armed (Issue writes ∷ steps) old new done full spilled = steps_spilled armed steps done.0 new done.2 (subst IsFull (sym done.1) full) (subst IsSpilled (sym done.1) spilled)
steps_spilled armed (Put entries ∷ steps) old new done full spilled =
    steps_spilled armed steps done.0 new done.2 (entries_full armed entries old.store done.0.store done.1.1 full) (entries_spilled armed entries old.store done.0.store done.1.1 full spilled)
steps_spilled armed (Compact ∷ steps) old new done full spilled = absurd (done.1.1.unworn spilled full)

acts_spilled : (armed : Bool) (acts : List Act) (writes : List LineWrite) (old new : Lines) → ActsUnworn armed acts writes old new → IsFull old → IsSpilled old → IsSpilled new
acts_spilled armed [] writes old new acted full spilled = subst IsSpilled (sym acted.1) spilled
acts_spilled armed (act ∷ acts) writes old new acted full spilled =
    acts_spilled (is_armed_after armed act) acts acted.1 acted.2 new acted.5 (steps_full _ acted.4.unworn.steps old acted.2 acted.4.unworn.done full)
    (steps_spilled _ acted.4.unworn.steps old acted.2 acted.4.unworn.done full spilled)

pub event_spilled : (armed : Bool) (acts : List Act) (writes : List LineWrite) (old new : Lines) → EventUnworn armed acts writes old new → IsFull old → IsSpilled old → IsSpilled new
event_spilled armed acts writes old new e full spilled =
    entries_spilled (is_armed_after_all armed acts) e.entries e.mid.store new.store e.last (acts_full armed acts writes old e.mid e.acted full) (acts_spilled armed acts writes old e.mid e.acted full spilled)

not_both : (state : StoreState) → IsTrue (in_one_sector state) → IsTrue (in_both_sectors state) → ⊥
not_both (Alone kept) one both = cc
not_both (Spilled kept) one both = cc
not_both Spent one both = cc

-- so the vehicle stays armed
pub stays_armed : (old new : Node) (acts : List Act) (writes : List LineWrite) → EventUnworn (armed_in old) acts writes old.lines new.lines → (IsAloneUnlessArmed old → IsAloneUnlessArmed new)
    → armed_in old ≡ true → IsSpilled old.lines → IsFull old.lines → armed_in new ≡ true
stays_armed old new acts writes e alone armed spilled full =
    let still = event_spilled (armed_in old) acts writes old.lines new.lines e full spilled in
    elim (cases_Bool (armed_in new)) [
      | inl is ↦ is
      | inr off ↦ absurd (not_both new.lines.store.state (alone (λ not. absurd (both_ways (armed_in old) not armed)) off) still)
    ]

-- where a sector is to be voided for the next entry, nothing is put
abbrev pub Waits : Lines → Type 0
Waits lines = NextVoids false lines.store lines.pending

nothing_put : (armed : Bool) (entries : List (List LineWrite)) (old new : Lines) → CutIntoEntries entries new.pending old.pending → NoneWears armed entries old.store new.store → entries ≡ [] → (new.store ≡ old.store) × (old.pending ≡ new.pending)
nothing_put armed [] old new cut each none = (each, cut)
nothing_put armed (x ∷ xs) old new cut each none = absurd (cc)

still_waits : (old new : Lines) → (new.store ≡ old.store) × (old.pending ≡ new.pending) → Waits old → Waits new
still_waits old new same waits = subst (λ (s : Store). NextVoids false s new.pending) (sym same.0) (subst (λ (l : List LineWrite). NextVoids false old.store l) same.1 waits)

steps_wait : (steps : List LineStep) (old new : Lines) → AreSteps false steps old new → IsFull old → Waits old → Waits new
steps_wait [] old new done full waits = subst Waits (sym done) waits
steps_wait (Issue writes ∷ steps) old new done full waits =
    steps_wait steps done.0 new done.2 (subst IsFull (sym done.1) full) (subst Waits (sym done.1) (next_more false old.store old.pending writes waits))
steps_wait (Put entries ∷ steps) old new done full waits =
    steps_wait steps done.0 new done.2 (entries_full false entries old.store done.0.store done.1.1 full)
    (still_waits old done.0 (nothing_put false entries old done.0 done.1.0 done.1.1 (entries_next false entries old.store done.0.store old.pending done.0.pending done.1.1 done.1.0 full waits)) waits)
steps_wait (Compact ∷ steps) old new done full waits =
    let same = compacts_idle old done.0 full done.1.1 in
    steps_wait steps done.0 new done.2 (subst IsFull (sym same) full) (subst Waits (sym same) waits)

-- who isn't armed and is after an act was ordered to arm
arm_needs : (order : Option Order) → option_map_or (armed_by false) order false ≡ true → option_map_or need_of order Nothing ≡ FlushAll
arm_needs None is = absurd (cc)
arm_needs (Some Flush) is = absurd (cc)
arm_needs (Some Arm) is = refl
arm_needs (Some Disarm) is = absurd (cc)
arm_needs (Some Deny) is = absurd (cc)
arm_needs (Some Refuse) is = absurd (cc)

acts_wait : (armed : Bool) (acts : List Act) (writes : List LineWrite) (old new : Lines) → armed ≡ false → ActsUnworn armed acts writes old new → IsFull old → Waits old → (is_armed_after_all armed acts ≡ false) × Waits new
acts_wait armed [] writes old new not acted full waits = (not, subst Waits (sym acted.1) waits)
acts_wait true (act ∷ acts) writes old new not acted full waits = absurd (cc)
acts_wait false (act ∷ acts) writes old new not acted full waits =
    let after = steps_wait acted.4.unworn.steps old acted.2 acted.4.unworn.done full waits in
    elim (cases_Bool (is_armed_after false act)) [
      | inl arms ↦ absurd (next_none false acted.2.store acted.2.pending after (acted.4.whole (arm_needs (order_heard act) arms)))
      | inr stays ↦ acts_wait (is_armed_after false act) acts acted.1 acted.2 new stays acted.5 (steps_full false acted.4.unworn.steps old acted.2 acted.4.unworn.done full) after
    ]

-- so the flush at the end can't have been done
pub event_waits : (armed : Bool) (acts : List Act) (writes : List LineWrite) (old new : Lines) → EventUnworn armed acts writes old new → armed ≡ false → IsFull old → Waits old → ⊥
event_waits armed acts writes old new e not full waits =
    let after = acts_wait armed acts writes old e.mid not e.acted full waits in
    let each : NoneWears false e.entries e.mid.store new.store = subst (λ (b : Bool). NoneWears b e.entries e.mid.store new.store) after.0 e.last in
    let none = entries_next false e.entries e.mid.store new.store e.mid.pending new.pending each e.cut (acts_full armed acts writes old e.mid e.acted full) after.1 in
    let left : Waits new = still_waits e.mid new (nothing_put false e.entries e.mid new e.cut each none) after.1 in
    elim e.fewest.enough [
      | inl eight ↦ omega (arith, eight, ap (λ (l : List (List LineWrite)). length (joined l)) none)
      | inr empty ↦ next_none false new.store new.pending left empty
    ]

-- nor can all have been put that is pending
pub all_fits : (armed : Bool) (lines : Lines) (entries : List (List LineWrite)) (last : Store) → CutIntoEntries entries [] lines.pending → NoneWears armed entries lines.store last → armed ≡ false → IsFull lines → PendingVoids lines → ⊥
all_fits armed lines entries last cut each not full voids =
    let same = cut_once entries voids.entries lines.pending cut voids.cut in
    let free : NoneWears false voids.entries lines.store last = subst (λ (l : List (List LineWrite)). NoneWears false l lines.store last) same (subst (λ (b : Bool). NoneWears b entries lines.store last) not each) in
    elim voids.lacks [
      | inl spilled ↦ not_both lines.store.state (entries_alone voids.entries lines.store last free full spilled.0) spilled.1
      | inr fewer ↦ omega (arith, fewer, entries_room voids.entries lines.store last free full)
    ]
