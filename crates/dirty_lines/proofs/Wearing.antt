-- Entries of which none wears the guard row, where it is used up from the first on.
use Rattle.std.proofs.Common.{◌≡◌, inl, inr, ℕ, ◌+◌, ◌<◌, ◌≤◌, List, [], ◌∷◌, ◌++◌, length, drop, Bool, true, false, refl, sym, ◌∙◌, ap, subst, arith, append_assoc, append-nil, length-append, ltb-true, if◌then◌else◌}
use Rattle.std.specs.Prelude.{IsTrue, IsFalse}
use Rattle.std.proofs.Math.Nat.{eq-or-lt_of_le}
use Rattle.std.proofs.Math.Seq.{drop-append_seam}
use Rattle.std.proofs.lemmas.Bool.{lt-ltb}
use Rattle.std.proofs.lemmas.Bool.Decides.{eqb_tells}
use Rattle.flash_traits.specs.declared.numbers.TheConstants.{GUARD_HALFWORDS}
use Rattle.storage_lines.specs.declared.lines.LineWrite.{LineWrite}
use Rattle.sector_image.specs.Fits as fits
use Rattle.block_store.specs.Store.{StoreState, Alone, Spilled, Spent, Store, Ascend, guard_of, room_of, is_alone, is_spilled, in_one_sector, in_both_sectors, entry_bytes, lacks_in, lacks_room}
use Rattle.dirty_lines.specs.Entries.{IsLongest, CutIntoEntries, flash_bytes}
use Rattle.dirty_lines.specs.Losses.{NextVoids}
use Rattle.dirty_lines.specs.Wearing.{NoneWears}
use Rattle.dirty_lines.proofs.RunLemmas.{ascend_more, one_next}
use Rattle.dirty_lines.proofs.Puts.{voids_this}

raise_none : (armed lacks : Bool) → ((armed ≡ false) × IsTrue lacks → ⊥) → (if armed then 0 else (if lacks then 2 else 0)) ≤ 0
raise_none true lacks never = omega arith
raise_none false true never = absurd (never (refl, refl))
raise_none false false never = omega arith

-- the guard count stays
pub entries_full : (armed : Bool) (xs : List (List LineWrite)) (old new : Store) → NoneWears armed xs old new → guard_of old ≡ GUARD_HALFWORDS → guard_of new ≡ GUARD_HALFWORDS
entries_full armed [] old new each full = ap guard_of each ∙ full
entries_full armed (x ∷ xs) old new each full =
    entries_full armed xs each.1 new each.3 (omega (arith, each.2.guard, raise_none armed (lacks_room old x) (λ voids. each.0 voids full), full))

lacks_spilled : (state : StoreState) (size : ℕ) → IsTrue (in_both_sectors state) → IsTrue (lacks_in state size)
lacks_spilled (Alone kept) size is = absurd (cc)
lacks_spilled (Spilled kept) size is = refl
lacks_spilled Spent size is = refl

-- a spilled store stays spilled
pub entries_spilled : (armed : Bool) (xs : List (List LineWrite)) (old new : Store) → NoneWears armed xs old new → guard_of old ≡ GUARD_HALFWORDS → IsTrue (is_spilled old) → IsTrue (is_spilled new)
entries_spilled armed [] old new each full spilled = subst (λ (s : Store). IsTrue (is_spilled s)) (sym each) spilled
entries_spilled true (x ∷ xs) old new each full spilled =
    entries_spilled true xs each.1 new each.3 (entries_full true (x ∷ []) old each.1 (each.0, each.1, each.2, refl) full) (each.2.spills refl (lacks_spilled old.state (entry_bytes x) spilled))
entries_spilled false (x ∷ xs) old new each full spilled = absurd (each.0 (refl, lacks_spilled old.state (entry_bytes x) spilled) full)

not_lacking : (lacks : Bool) → (IsTrue lacks → ⊥) → IsFalse lacks
not_lacking true never = absurd (never refl)
not_lacking false never = refl

alone_with : (state : StoreState) (size : ℕ) → IsFalse (lacks_in state size) → IsTrue (in_one_sector state)
alone_with (Alone kept) size has = refl
alone_with (Spilled kept) size has = absurd (cc)
alone_with Spent size has = absurd (cc)

-- home has room for all of them together, and where there is one, it has all bytes
pub entries_room : (xs : List (List LineWrite)) (old new : Store) → NoneWears false xs old new → guard_of old ≡ GUARD_HALFWORDS → flash_bytes xs ≤ room_of old
entries_room [] old new each full = omega arith
entries_room (x ∷ xs) old new each full =
    let has = not_lacking (lacks_room old x) (λ lacks. each.0 (refl, lacks) full) in
    omega (arith, each.2.room has, entries_room xs each.1 new each.3 (entries_full false (x ∷ []) old each.1 (each.0, each.1, each.2, refl) full))

pub entries_alone : (xs : List (List LineWrite)) (old new : Store) → NoneWears false xs old new → guard_of old ≡ GUARD_HALFWORDS → 0 < length xs → IsTrue (is_alone old)
entries_alone [] old new each full some = absurd (omega arith)
entries_alone (x ∷ xs) old new each full some = alone_with old.state (entry_bytes x) (not_lacking (lacks_room old x) (λ lacks. each.0 (refl, lacks) full))

-- where a sector is to be voided for the next entry, none is put
pub entries_next : (armed : Bool) (xs : List (List LineWrite)) (old new : Store) (pending rest : List LineWrite) → NoneWears armed xs old new → CutIntoEntries xs rest pending
    → guard_of old ≡ GUARD_HALFWORDS → NextVoids armed old pending → xs ≡ []
entries_next armed [] old new pending rest each cut full next = refl
entries_next armed (x ∷ xs) old new pending rest each cut full next = absurd (each.0 (voids_this armed old pending x cut.0 cut.1 cut.2 next) full)

pub next_none : (armed : Bool) (store : Store) (pending : List LineWrite) → NextVoids armed store pending → pending ≡ [] → ⊥
next_none armed store pending next none = omega (arith, ap length next.next, ap length none, length-append next.entry next.behind, next.longest.some)

-- a run that may go on with the lines after it
pub record Longer (entry pending : List LineWrite) : Type 0 where
  pub longer : List LineWrite
  pub behind : List LineWrite
  pub whole : pending ≡ longer ++ behind
  pub longest : IsLongest longer behind
  pub grown : length entry ≤ length longer

grow : (first : ℕ) (entry writes : List LineWrite) → Ascend first entry → 1 ≤ length entry → length entry ≤ 8 → Longer entry (entry ++ writes)
grow first entry [] ascend some most = record {
  longer = entry;
  behind = [];
  whole = refl;
  longest = record { first = first; ascend = ascend; some = some; most = most; longest = λ lt. tt };
  grown = omega arith;
}
grow first entry (w ∷ writes) ascend some most = elim (eq-or-lt_of_le most) [
  | inl full ↦ record {
    longer = entry;
    behind = w ∷ writes;
    whole = refl;
    longest = record { first = first; ascend = ascend; some = some; most = most; longest = λ lt. absurd (omega (arith, lt, full)) };
    grown = omega arith;
  }
  | inr fewer ↦ elim (eqb_tells w.line (first + length entry)) [
    | inl same ↦
        let size : length (entry ++ w ∷ []) ≡ length entry + 1 = length-append entry (w ∷ []) in
        let more = grow first (entry ++ w ∷ []) writes (ascend_more first entry w ascend same.1) (omega (arith, size)) (omega (arith, size, fewer)) in
        record {
          longer = more.longer;
          behind = more.behind;
          whole = sym (append_assoc entry (w ∷ []) writes) ∙ more.whole;
          longest = more.longest;
          grown = omega (arith, size, more.grown);
        }
    | inr other ↦ record {
      longer = entry;
      behind = w ∷ writes;
      whole = refl;
      longest = record { first = first; ascend = ascend; some = some; most = most; longest = λ lt. other.1 };
      grown = omega arith;
    }
  ]
]

longer_next : (entry behind writes : List LineWrite) → IsLongest entry behind → Longer entry ((entry ++ behind) ++ writes)
longer_next entry [] writes longest = subst (λ (l : List LineWrite). Longer entry (l ++ writes)) (sym (append-nil entry)) (grow longest.first entry writes longest.ascend longest.some longest.most)
longer_next entry (w ∷ behind) writes longest = record {
  longer = entry;
  behind = w ∷ (behind ++ writes);
  whole = append_assoc entry (w ∷ behind) writes;
  longest = record { first = longest.first; ascend = longest.ascend; some = longest.some; most = longest.most; longest = longest.longest };
  grown = omega arith;
}

lacks_more : (state : StoreState) (size more : ℕ) → size ≤ more → IsTrue (lacks_in state size) → IsTrue (lacks_in state more)
lacks_more (Alone kept) size more le lacks = lt-ltb (fits.free_of kept) more (omega (arith, le, ltb-true (fits.free_of kept) size lacks))
lacks_more (Spilled kept) size more le lacks = refl
lacks_more Spent size more le lacks = refl

-- more lines after those that are pending
pub next_more : (armed : Bool) (store : Store) (pending writes : List LineWrite) → NextVoids armed store pending → NextVoids armed store (pending ++ writes)
next_more armed store pending writes next =
    let more = longer_next next.entry next.behind writes next.longest in
    record {
      entry = more.longer;
      behind = more.behind;
      next = ap (λ (l : List LineWrite). l ++ writes) next.next ∙ more.whole;
      longest = more.longest;
      voids = (next.voids.0, lacks_more store.state (entry_bytes next.entry) (entry_bytes more.longer) (omega (arith, more.grown)) next.voids.1);
    }

-- all pending lines are cut into entries in one way
same_behind : (pending e b f d : List LineWrite) → pending ≡ e ++ b → pending ≡ f ++ d → e ≡ f → b ≡ d
same_behind pending e b f d first second same =
    sym (drop-append_seam e b) ∙ ap (λ (l : List LineWrite). drop (length e) l) (sym first ∙ second) ∙ ap (λ (l : List LineWrite). drop (length l) (f ++ d)) same ∙ drop-append_seam f d

none_begins : (entry behind : List LineWrite) → [] ≡ entry ++ behind → IsLongest entry behind → ⊥
none_begins entry behind whole longest = omega (arith, ap length whole, length-append entry behind, longest.some)

pub cut_once : (xs ys : List (List LineWrite)) (pending : List LineWrite) → CutIntoEntries xs [] pending → CutIntoEntries ys [] pending → xs ≡ ys
cut_once [] [] pending first second = refl
cut_once [] (y ∷ ys) pending first second = absurd (none_begins y second.0 (sym first ∙ second.1) second.2)
cut_once (x ∷ xs) [] pending first second = absurd (none_begins x first.0 (sym second ∙ first.1) first.2)
cut_once (x ∷ xs) (y ∷ ys) pending first second =
    let same : x ≡ y = one_next pending x first.0 y second.0 first.1 first.2 second.1 second.2 in
    let rest : xs ≡ ys = cut_once xs ys first.0 first.3 (subst (λ (l : List LineWrite). CutIntoEntries ys [] l) (sym (same_behind pending x first.0 y second.0 first.1 second.1 same)) second.3) in
    ap (λ (l : List LineWrite). l ∷ xs) same ∙ ap (λ (l : List (List LineWrite)). y ∷ l) rest
