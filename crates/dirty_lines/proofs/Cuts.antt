-- Entries put one behind the other.
use Rattle.std.proofs.Common.{◌≡◌, ℕ, suc, ◌+◌, ◌-◌, ◌<◌, ◌≤◌, List, [], ◌∷◌, ◌++◌, length, take, inl, inr, Bool, refl, sym, ◌∙◌, ap, subst, arith, length-append, append-nil, append_assoc}
use Rattle.std.specs.Prelude.{IsFalse}
use Rattle.std.proofs.Math.Nat.{eq-or-lt_of_le}
use Rattle.std.proofs.lemmas.List.{take-append-le, take_all}
use Rattle.std.proofs.lemmas.Grind.{flat_map-append}
use Rattle.storage_lines.specs.declared.lines.LineWrite.{LineWrite}
use Rattle.storage_lines.specs.Lines.{after}
use Rattle.storage_lines.proofs.LineLemmas.{after-append}
use Rattle.block_store.specs.Store.{Store, durable_of, guard_of, guard_ahead, free_of, spare_of, is_spent}
use Rattle.dirty_lines.specs.Lines.{Lines}
use Rattle.dirty_lines.specs.Entries.{CutIntoEntries, joined, flash_bytes, Wrote}
use Rattle.dirty_lines.specs.Wearing.{NoneWears}
use Rattle.dirty_lines.specs.Steps.Flushing.{IsHeld}

pub cut_then : (xs ys : List (List LineWrite)) (rest mid pending : List LineWrite) → CutIntoEntries xs mid pending → CutIntoEntries ys rest mid → CutIntoEntries (xs ++ ys) rest pending
cut_then [] ys rest mid pending first second = subst (λ (l : List LineWrite). CutIntoEntries ys rest l) (sym first) second
cut_then (x ∷ xs) ys rest mid pending first second = (first.0, first.1, first.2, cut_then xs ys rest mid first.0 first.3 second)

pub joined-append : (xs ys : List (List LineWrite)) → joined (xs ++ ys) ≡ joined xs ++ joined ys
joined-append xs ys = flat_map-append (λ (entry : List LineWrite). entry) xs ys

pub joined_one : (entry : List LineWrite) → joined (entry ∷ []) ≡ entry
joined_one entry = append-nil entry

pub length-joined : (xs ys : List (List LineWrite)) → length (joined (xs ++ ys)) ≡ length (joined xs) + length (joined ys)
length-joined xs ys = ap (λ (l : List LineWrite). length l) (joined-append xs ys) ∙ length-append (joined xs) (joined ys)

pub flash_bytes-append : (xs ys : List (List LineWrite)) → flash_bytes (xs ++ ys) ≡ flash_bytes xs + flash_bytes ys
flash_bytes-append [] ys = omega arith
flash_bytes-append (x ∷ xs) ys = omega (arith, flash_bytes-append xs ys)

pub after-joined : (b : List ℕ) (xs ys : List (List LineWrite)) → after b (joined (xs ++ ys)) ≡ after (after b (joined xs)) (joined ys)
after-joined b xs ys = ap (λ (l : List LineWrite). after b l) (joined-append xs ys) ∙ after-append b (joined xs) (joined ys)

-- Without the last entry there are fewer than n lines.
pub fewest_more : (n : ℕ) (xs : List (List LineWrite)) (entry : List LineWrite) → ((k : ℕ) → k < length xs → length (joined (take k xs)) < n) → length (joined xs) < n
    → (k : ℕ) → k < length (xs ++ entry ∷ []) → length (joined (take k (xs ++ entry ∷ []))) < n
fewest_more n xs entry fewest here k lt =
    let inside : k ≤ length xs = omega (arith, length-append xs (entry ∷ []), lt) in
    let kept : take k (xs ++ entry ∷ []) ≡ take k xs = take-append-le k xs (entry ∷ []) inside in
    subst (λ (l : List (List LineWrite)). length (joined l) < n) (sym kept) (elim (eq-or-lt_of_le inside) [
      | inl all ↦ subst (λ (l : List (List LineWrite)). length (joined l) < n) (sym (take_all k xs (omega (arith, all)))) here
      | inr less ↦ fewest k less
    ])

-- what is put and what is left are the pending lines
pub joined_rest : (entries : List (List LineWrite)) (rest pending : List LineWrite) → CutIntoEntries entries rest pending → joined entries ++ rest ≡ pending
joined_rest [] rest pending cut = sym cut
joined_rest (entry ∷ entries) rest pending cut =
    append_assoc entry (joined entries) rest ∙ ap (λ (l : List LineWrite). entry ++ l) (joined_rest entries rest cut.0 cut.3) ∙ sym cut.1

-- the fewest entries that hold n lines have at most seven more
pub few_joined : (entries : List (List LineWrite)) (rest pending : List LineWrite) (n : ℕ) → CutIntoEntries entries rest pending
    → ((k : ℕ) → k < length entries → length (joined (take k entries)) < n) → length (joined entries) < n + 8
few_joined [] rest pending n cut fewest = omega arith
few_joined (entry ∷ []) rest pending n cut fewest =
    let some : 0 < n = fewest 0 (omega arith) in
    omega (arith, cut.2.most, length-append entry [])
few_joined (entry ∷ next ∷ entries) rest pending n cut fewest =
    let one : length (joined (take 1 (entry ∷ next ∷ entries))) < n = fewest 1 (omega arith) in
    let here : length entry < n = omega (arith, one, length-append entry []) in
    let behind : length (joined (next ∷ entries)) < (n - length entry) + 8 =
    few_joined (next ∷ entries) rest cut.0 (n - length entry) cut.3
    (λ k lt. let more : length (joined (take (suc k) (entry ∷ next ∷ entries))) < n = fewest (suc k) (omega arith) in
    omega (arith, more, length-append entry (joined (take k (next ∷ entries))))) in
    omega (arith, behind, length-append entry (joined (next ∷ entries)))

pub few_left : (entries : List (List LineWrite)) (rest pending : List LineWrite) (n : ℕ) → CutIntoEntries entries rest pending
    → ((k : ℕ) → k < length entries → length (joined (take k entries)) < n) → length pending < length rest + n + 8
few_left entries rest pending n cut fewest = omega (
  arith,
  few_joined entries rest pending n cut fewest,
  ap (λ (l : List LineWrite). length l) (joined_rest entries rest pending cut),
  length-append (joined entries) rest,
)

-- each entry has a line at least
pub entries_few : (entries : List (List LineWrite)) (rest pending : List LineWrite) → CutIntoEntries entries rest pending → length entries + length rest ≤ length pending
entries_few [] rest pending cut = omega (arith, ap (λ (l : List LineWrite). length l) cut)
entries_few (entry ∷ entries) rest pending cut = omega (
  arith,
  cut.2.some,
  ap (λ (l : List LineWrite). length l) cut.1,
  length-append entry cut.0,
  entries_few entries rest cut.0 cut.3,
)

-- no line was put, and so no entry
pub no_entries : (entries : List (List LineWrite)) (rest pending : List LineWrite) → CutIntoEntries entries rest pending → rest ≡ pending → length entries ≡ 0
no_entries [] rest pending cut same = refl
no_entries (entry ∷ entries) rest pending cut same = absurd (omega (
  arith,
  cut.2.some,
  ap (λ (l : List LineWrite). length l) (joined_rest (entry ∷ entries) rest pending cut),
  length-append (joined (entry ∷ entries)) rest,
  length-append entry (joined entries),
  ap (λ (l : List LineWrite). length l) same,
))

-- more entries of which none wears the guard row
pub none_then : (armed : Bool) (xs ys : List (List LineWrite)) (old mid new : Store) → NoneWears armed xs old mid → NoneWears armed ys mid new → NoneWears armed (xs ++ ys) old new
none_then armed [] ys old mid new first second = subst (λ (s : Store). NoneWears armed ys s new) first second
none_then armed (x ∷ xs) ys old mid new first second = (first.0, first.1, first.2, none_then armed xs ys first.1 mid new first.3 second)

-- what was put, and more
pub wrote_then : (xs ys : List (List LineWrite)) (armed : Bool) (old mid new : Lines) → Wrote xs armed old mid → Wrote ys armed mid new → IsFalse (is_spent mid.store)
    → guard_of old.store ≤ guard_of mid.store → guard_of mid.store ≤ guard_of new.store → Wrote (xs ++ ys) armed old new
wrote_then xs ys armed old mid new first second fit up more = record {
  cut = cut_then xs ys new.pending mid.pending old.pending first.cut second.cut;
  durable = second.durable ∙ ap (λ (b : List ℕ). after b (joined ys)) first.durable ∙ sym (after-joined (durable_of old.store) xs ys);
  free = λ whole same. omega (arith, second.free whole (omega (arith, same, up, more)), first.free fit (omega (arith, same, up, more)), flash_bytes-append xs ys);
  guard = λ whole. omega (arith, second.guard whole, first.guard fit, length-append xs ys);
  ahead = λ whole. omega (arith, second.ahead whole, first.ahead fit, length-append xs ys);
  spare = λ whole is. omega (arith, second.spare whole is, first.spare fit is, length-joined xs ys);
  each = λ whole. none_then armed xs ys old.store mid.store new.store (first.each fit) (second.each whole);
}

-- what was put, and then a refusal
pub wrote_held : (xs : List (List LineWrite)) (armed : Bool) (old mid new : Lines) → Wrote xs armed old mid → IsHeld mid new → IsFalse (is_spent mid.store) → Wrote xs armed old new
wrote_held xs armed old mid new first held fit = record {
  cut = subst (λ (l : List LineWrite). CutIntoEntries xs l old.pending) (sym held.pending) first.cut;
  durable = held.durable ∙ first.durable;
  free = λ whole same. let is = held.same whole in omega (arith, first.free fit (ap guard_of (sym is) ∙ same), ap free_of is);
  guard = λ whole. let is = held.same whole in omega (arith, first.guard fit, ap guard_of is);
  ahead = λ whole. let is = held.same whole in omega (arith, first.ahead fit, ap guard_ahead is);
  spare = λ whole armed_is. let is = held.same whole in omega (arith, first.spare fit armed_is, ap spare_of is);
  each = λ whole. subst (λ (s : Store). NoneWears armed xs old.store s) (sym (held.same whole)) (first.each fit);
}

pub wrote_none : (armed : Bool) (lines : Lines) → Wrote [] armed lines lines
wrote_none armed lines = record {
  cut = refl;
  durable = refl;
  free = λ whole same. omega arith;
  guard = λ whole. omega arith;
  ahead = λ whole. omega arith;
  spare = λ whole is. omega arith;
  each = λ whole. refl;
}
