-- How pending lines become entries of the log.
use Rattle.std.specs.Prelude.{◌≡◌, ◌≢◌, ◌⊎◌, ◌<◌, ◌≤◌, ℕ, ◌+◌, ◌*◌, List, [], ◌∷◌, ◌++◌, length, take, Bool, true, IsFalse}
use Rattle.std.specs.List.{flat_map}
use Rattle.flash_traits.specs.Budget.{line_bytes}
use Rattle.storage_lines.specs.declared.lines.LineWrite.{LineWrite}
use Rattle.storage_lines.specs.Lines.{after}
use Rattle.block_store.specs.Store.{Ascend, durable_of, entry_bytes, guard_of, guard_ahead, free_of, spare_of, is_spent}
use Rattle.dirty_lines.specs.Lines.{Lines}
use Rattle.dirty_lines.specs.Wearing.{NoneWears}

-- the first of these lines, if there is one, doesn't have this number
abbrev pub DoesNotBegin : ℕ → List LineWrite → Type 0
DoesNotBegin line [] = Unit {0}
DoesNotBegin line (write ∷ writes) = write.line ≢ line

-- The longest run in front of the rest: one to eight lines whose numbers ascend by one, and where
-- they are fewer than eight the rest doesn't go on with the next number.
pub record IsLongest (entry rest : List LineWrite) : Type 0 where
  pub first : ℕ
  pub ascend : Ascend first entry
  pub some : 1 ≤ length entry
  pub most : length entry ≤ 8
  pub longest : length entry < 8 → DoesNotBegin (first + length entry) rest

-- the first entry of the pending lines
pub record IsNext (entry pending : List LineWrite) : Type 0 where
  pub behind : List LineWrite
  pub whole : pending ≡ entry ++ behind
  pub longest : IsLongest entry behind

-- the pending lines are these entries, from the oldest line on, and then the rest; each entry is
-- the longest run where it begins
abbrev pub CutIntoEntries : List (List LineWrite) → List LineWrite → List LineWrite → Type 0
CutIntoEntries [] rest pending = pending ≡ rest
CutIntoEntries (entry ∷ entries) rest pending =
    (behind : List LineWrite) × (pending ≡ entry ++ behind) × IsLongest entry behind
    × CutIntoEntries entries rest behind

-- the lines of entries, in order
abbrev pub joined : List (List LineWrite) → List LineWrite
joined entries = flat_map (λ entry. entry) entries

-- the bytes of flash that entries take
abbrev pub flash_bytes : List (List LineWrite) → ℕ
flash_bytes [] = 0
flash_bytes (entry ∷ entries) = entry_bytes entry + flash_bytes entries

-- the fewest entries that hold n lines, or all where the pending lines are fewer
pub record IsFewest (n : ℕ) (entries : List (List LineWrite)) (rest : List LineWrite) : Type 0 where
  pub enough : n ≤ length (joined entries) ⊎ rest ≡ []
  pub fewest : (k : ℕ) → k < length entries → length (joined (take k entries)) < n

-- These entries were put, and nothing else. As long as the store isn't spent, the free bytes of
-- both sectors fall by just what the entries take where there was no switch, the guard count rises
-- by at most two for each entry, and while armed the spare bytes fall by at most ten for each line;
-- and none of the entries had a sector to be voided where the guard row was used up.
pub record Wrote (entries : List (List LineWrite)) (armed : Bool) (old new : Lines) : Type 0 where
  pub cut : CutIntoEntries entries new.pending old.pending
  pub durable : durable_of new.store ≡ after (durable_of old.store) (joined entries)
  pub free : IsFalse (is_spent new.store) → guard_of new.store ≡ guard_of old.store
      → free_of new.store + flash_bytes entries ≡ free_of old.store
  pub guard : IsFalse (is_spent new.store)
      → guard_of new.store ≤ guard_of old.store + 2 * length entries
  pub ahead : IsFalse (is_spent new.store)
      → guard_ahead new.store ≤ guard_ahead old.store + 2 * length entries
  pub spare : IsFalse (is_spent new.store) → armed ≡ true
      → spare_of old.store ≤ spare_of new.store + line_bytes * length (joined entries)
  pub each : IsFalse (is_spent new.store) → NoneWears armed entries old.store new.store
