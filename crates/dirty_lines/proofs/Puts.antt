-- What puts of entries do to the words, and what losses inside them leave.
use Rattle.std.proofs.Common.{◌≡◌, ◌⊎◌, inl, inr, ℕ, ◌+◌, ◌-◌, ◌*◌, ◌<◌, ◌≤◌, List, [], ◌∷◌, ◌++◌, length, Bool, true, false, refl, sym, ◌∙◌, ap, subst, arith, length-append, ltb-true, ltb-false, nat_lt, if◌then◌else◌}
use Rattle.std.specs.Prelude.{IsTrue, IsFalse, Result, Ok, Err, IsErr, OnOk, OnErr}
use Rattle.flash_traits.specs.declared.numbers.TheConstants.{GUARD_HALFWORDS}
use Rattle.flash_traits.specs.Budget.{line_bytes}
use Rattle.flash_traits.specs.Words.{Words}
use Rattle.flash_traits.specs.Losses.{Outcome, ByResult}
use Rattle.flash_traits.specs.Calls.{Changes, ErasesNothing}
use Rattle.flash_traits.specs.Counts.{raised_by}
use Rattle.flash_traits.specs.declared.board.Board.{Ghosts}
use Rattle.flash_traits.specs.declared.board.Fault.{Fault}
use Rattle.flash_traits.proofs.Moments.{chained_words, first_words, started_words, chained_erases_nothing}
use Rattle.storage_lines.specs.declared.lines.LineWrite.{LineWrite}
use Rattle.storage_lines.specs.Lines.{after}
use Rattle.sector_image.specs.Stands.{Stands}
use Rattle.sector_image.specs.Losses.{RaisesGuard}
use Rattle.sector_image.specs.Fits as fits
use Rattle.sector_image.specs.Images.{Bytes}
use Rattle.sector_image.proofs.ImageLaws.{one_value}
use Rattle.sector_image.proofs.Standing.{raises_none, raises_then}
use Rattle.block_store.specs.Store.{StoreState, Alone, Spilled, Spent, Store, Fits, FitsState, durable_of, guard_of, guard_ahead, free_of, free_in, spare_of, room_of, switch_leaves, room_in, home_free, home_free_in, is_alone, is_spilled, is_spent, in_one_sector, in_both_sectors, has_failed, entry_bytes, lacks_in, lacks_room, Voids, raise}
use Rattle.block_store.specs.Refusals.{OnWorn, IsWornWith}
use Rattle.block_store.specs.declared.PutError.{PutError}
use Rattle.block_store.specs.declared.PutError.TheVariants as put_error
use Rattle.block_store.proofs.StoreLaws.{fits_stands, fits_whole}
use Rattle.block_store.specs.Losses.{PutsLines, MayPutLines}
use Rattle.dirty_lines.specs.Lines.{Lines, lines_of}
use Rattle.dirty_lines.specs.Entries.{IsLongest, CutIntoEntries, joined}
use Rattle.dirty_lines.specs.Losses.{PutsFirst, MayPutFirst, MayPutNext, NextExceeds, NextVoids, IsWornForNext}
use Rattle.dirty_lines.specs.Steps.Flushing.{HasPutEntries, HasLeft, Refuses}
use Rattle.dirty_lines.proofs.RunLemmas.{one_next}
use Rattle.dirty_lines.proofs.Cuts.{entries_few, cut_then, joined_one, length-joined, after-joined, fewest_more, wrote_then, wrote_none}

-- guard counts
pub raises_more : (m n : ℕ) (a b : List ℕ) → m ≤ n → RaisesGuard m a b → RaisesGuard n a b
raises_more m n a b le raised = λ c is. let d = raised c is in (d.0, d.1, d.2, omega (arith, d.3, le))

raise_of : (armed lacks : Bool) → (if armed then 0 else (if lacks then 2 else 0)) ≤ 2
raise_of true lacks = omega arith
raise_of false true = omega arith
raise_of false false = omega arith

pub raise_most : (armed : Bool) (store : Store) (entry : List LineWrite) → raise armed store entry ≤ 2
raise_most armed store entry = raise_of armed (lacks_room store entry)

raise_fits : (armed lacks : Bool) → IsFalse lacks → (if armed then 0 else (if lacks then 2 else 0)) ≤ 0
raise_fits true lacks has = omega arith
raise_fits false true has = absurd (cc)
raise_fits false false has = omega arith

-- where there was room, it falls by what is taken
room_put : {B : Type 0} (g : Ghosts B) (a b : B) (s t : StoreState) (old new : Bytes) (size : ℕ) → FitsState g a s old → FitsState g b t new → g.sector_bytes b ≡ g.sector_bytes a → IsFalse (lacks_in s size)
    → IsTrue (in_one_sector t) → free_in t + size ≡ free_in s → room_in t new + size ≡ room_in s old
room_put g a b (Alone kept) (Alone next) old new size was now geometry has alone free = omega (arith, was.0.home.size, now.0.home.size, geometry, free)
room_put g a b (Alone kept) (Spilled next) old new size was now geometry has alone free = absurd (cc)
room_put g a b (Alone kept) Spent old new size was now geometry has alone free = absurd now
room_put g a b (Spilled kept) t old new size was now geometry has alone free = absurd (cc)
room_put g a b Spent t old new size was now geometry has alone free = absurd was

-- a put that is refused
pub may_put_next : (pending entry behind : List LineWrite) (most : ℕ) (bytes : List ℕ) (w v : Words) → pending ≡ entry ++ behind → IsLongest entry behind → most ≤ 2 → Stands w bytes
    → MayPutLines most entry w v → MayPutNext pending pending w v
may_put_next pending entry behind most bytes w v whole longest le was may = elim (may.bytes bytes was) [
  | inl same ↦ inl (record {
    entries = [];
    cut = refl;
    bytes = λ b is. subst (λ (l : List ℕ). Stands v l) (one_value w bytes b was is) same;
    guard = raises_more most 2 w.guard v.guard le may.guard;
  })
  | inr put ↦ inr (record {
    entry = entry;
    behind = behind;
    next = whole;
    longest = longest;
    puts = record {
      entries = entry ∷ [];
      cut = (behind, whole, longest, refl);
      bytes = λ b is. subst (λ (l : List LineWrite). Stands v (after b l)) (sym (joined_one entry)) (subst (λ (l : List ℕ). Stands v (after l entry)) (one_value w bytes b was is) put);
      guard = raises_more most 2 w.guard v.guard le may.guard;
    };
  })
]

-- the guard count rose by at most two for each pending line
within_of : (more : ℕ) (pending rest : List LineWrite) (w v : Words) (puts : PutsFirst more pending rest w v) → more ≤ 2 * length rest → RaisesGuard (2 * length pending) w.guard v.guard
within_of more pending rest w v puts le = raises_more (2 * length puts.entries + more) (2 * length pending) w.guard v.guard (omega (arith, le, entries_few puts.entries rest pending puts.cut)) puts.guard

done_first : (pending rest : List LineWrite) (w v : Words) → PutsFirst 0 pending rest w v → MayPutFirst pending w v
done_first pending rest w v puts = record {
  rest = rest;
  puts = record {
    entries = puts.entries;
    cut = puts.cut;
    bytes = puts.bytes;
    guard = raises_more (2 * length puts.entries + 0) (2 * length puts.entries + 2) w.guard v.guard (omega arith) puts.guard;
  };
  within = within_of 0 pending rest w v puts (omega arith);
}

pub next_first : (pending rest : List LineWrite) (w v : Words) → 0 < length rest → MayPutNext pending rest w v → MayPutFirst pending w v
next_first pending rest w v some (inl puts) = record { rest = rest; puts = puts; within = within_of 2 pending rest w v puts (omega (arith, some)) }
next_first pending rest w v some (inr one) = done_first pending one.behind w v one.puts

-- a loss inside one put
pub may_put_first : (pending entry behind : List LineWrite) (most : ℕ) (bytes : List ℕ) (w v : Words) → pending ≡ entry ++ behind → IsLongest entry behind → most ≤ 2 → Stands w bytes
    → MayPutLines most entry w v → MayPutFirst pending w v
may_put_first pending entry behind most bytes w v whole longest le was may =
    let some : 0 < length pending = omega (arith, ap (λ (l : List LineWrite). length l) whole, length-append entry behind, longest.some) in
    next_first pending pending w v some (may_put_next pending entry behind most bytes w v whole longest le was may)

-- one was put, so the first one wasn't refused
first_taken : (armed : Bool) (old mid : Lines) (xs : List (List LineWrite)) → (length xs ≡ 0 → mid ≡ old) → (0 < length xs → Refuses armed old → ⊥) → (Refuses armed mid → ⊥) → Refuses armed old → ⊥
first_taken armed old mid [] still fitted taken refuses = taken (subst (λ (l : Lines). Refuses armed l) (sym (still refl)) refuses)
first_taken armed old mid (x ∷ xs) still fitted taken refuses = fitted (omega arith) refuses

-- the next entry is the one that is put
pub exceeds_this : (room : ℕ) (pending entry behind : List LineWrite) → pending ≡ entry ++ behind → IsLongest entry behind → NextExceeds room pending → room < entry_bytes entry
exceeds_this room pending entry behind whole longest next = subst (λ (l : List LineWrite). room < entry_bytes l) (one_next pending next.entry next.behind entry behind next.next next.longest whole longest) next.exceeds

pub voids_this : (armed : Bool) (store : Store) (pending entry behind : List LineWrite) → pending ≡ entry ++ behind → IsLongest entry behind → NextVoids armed store pending → Voids armed store entry
voids_this armed store pending entry behind whole longest next = subst (λ (l : List LineWrite). Voids armed store l) (one_next pending next.entry next.behind entry behind next.next next.longest whole longest) next.voids

-- an entry that was put isn't refused
pub not_refused : (armed : Bool) (store : Store) (pending entry behind : List LineWrite) → pending ≡ entry ++ behind → IsLongest entry behind
    → (armed ≡ true → IsTrue (is_spilled store) → room_of store < entry_bytes entry → ⊥)
    → (Voids armed store entry → guard_of store ≡ GUARD_HALFWORDS → ⊥) → Refuses armed (lines_of store pending) → ⊥
not_refused armed store pending entry behind whole longest too_large used_up (inl is) = too_large is.0 is.1 (exceeds_this (room_of store) pending entry behind whole longest is.2)
not_refused armed store pending entry behind whole longest too_large used_up (inr is) = used_up (voids_this armed store pending entry behind whole longest is.0) is.1

-- one put
pub puts_one : (entry : List LineWrite) (most : ℕ) (w v : Words) → most ≤ 2 → PutsLines most entry w v → PutsLines 2 (joined (entry ∷ [])) w v
puts_one entry most w v le puts = record {
  bytes = λ b is. subst (λ (l : List LineWrite). Stands v (after b l)) (sym (joined_one entry)) (puts.bytes b is);
  guard = raises_more most 2 w.guard v.guard le puts.guard;
}

-- the puts of a flush so far, and then more, or a loss inside one more, or one more that is refused
first_then : (more : ℕ) (xs : List (List LineWrite)) (pending mid rest : List LineWrite) (u v w : Words) → CutIntoEntries xs mid pending → PutsLines (2 * length xs) (joined xs) u v
    → PutsFirst more mid rest v w → PutsFirst more pending rest u w
first_then more xs pending mid rest u v w cut first puts =
    let ys = puts.entries in
    record {
      entries = xs ++ ys;
      cut = cut_then xs ys rest mid pending cut puts.cut;
      bytes = λ b is. subst (λ (l : List ℕ). Stands w l) (sym (after-joined b xs ys)) (puts.bytes (after b (joined xs)) (first.bytes b is));
      guard = raises_more (2 * length xs + (2 * length ys + more)) (2 * length (xs ++ ys) + more) u.guard w.guard (omega (arith, length-append xs ys))
          (raises_then (2 * length xs) (2 * length ys + more) u.guard v.guard w.guard first.guard puts.guard);
    }

pub may_then : (xs : List (List LineWrite)) (pending mid : List LineWrite) (u v w : Words) → CutIntoEntries xs mid pending → PutsLines (2 * length xs) (joined xs) u v → MayPutFirst mid v w → MayPutFirst pending u w
may_then xs pending mid u v w cut first may = record {
  rest = may.rest;
  puts = first_then 2 xs pending mid may.rest u v w cut first may.puts;
  within = raises_more (2 * length xs + 2 * length mid) (2 * length pending) u.guard w.guard (omega (arith, entries_few xs mid pending cut))
      (raises_then (2 * length xs) (2 * length mid) u.guard v.guard w.guard first.guard may.within);
}

pub next_then : (xs : List (List LineWrite)) (pending mid : List LineWrite) (u v w : Words) → CutIntoEntries xs mid pending → PutsLines (2 * length xs) (joined xs) u v → MayPutNext mid mid v w → MayPutNext pending mid u w
next_then xs pending mid u v w cut first (inl puts) = inl (first_then 2 xs pending mid mid u v w cut first puts)
next_then xs pending mid u v w cut first (inr one) =
    inr (record { entry = one.entry; behind = one.behind; next = one.next; longest = one.longest; puts = first_then 0 xs pending mid one.behind u v w cut first one.puts })

pub puts_then : (xs ys : List (List LineWrite)) (u v w : Words) → PutsLines (2 * length xs) (joined xs) u v → PutsLines (2 * length ys) (joined ys) v w → PutsLines (2 * length (xs ++ ys)) (joined (xs ++ ys)) u w
puts_then xs ys u v w first second = record {
  bytes = λ b is. subst (λ (l : List ℕ). Stands w l) (sym (after-joined b xs ys)) (second.bytes (after b (joined xs)) (first.bytes b is));
  guard = raises_more (2 * length xs + 2 * length ys) (2 * length (xs ++ ys)) u.guard w.guard (omega (arith, length-append xs ys))
      (raises_then (2 * length xs) (2 * length ys) u.guard v.guard w.guard first.guard second.guard);
}

pub puts_first : (xs : List (List LineWrite)) (pending rest : List LineWrite) (u v : Words) → CutIntoEntries xs rest pending → PutsLines (2 * length xs) (joined xs) u v → PutsFirst 0 pending rest u v
puts_first xs pending rest u v cut puts = record { entries = xs; cut = cut; bytes = puts.bytes; guard = raises_more (2 * length xs) (2 * length xs + 0) u.guard v.guard (omega arith) puts.guard }

-- a put that isn't armed leaves one sector alone
settled_then : (armed : Bool) (xs ys : List (List LineWrite)) (mid new : Store) → (armed ≡ false → 0 < length xs → IsTrue (is_alone mid)) → (armed ≡ false → IsTrue (is_alone mid) → IsTrue (is_alone new))
    → (armed ≡ false → 0 < length ys → IsTrue (is_alone new)) → armed ≡ false → 0 < length (xs ++ ys) → IsTrue (is_alone new)
settled_then armed xs [] mid new first keeps second is some = keeps is (first is (omega (arith, some, length-append xs [])))
settled_then armed xs (y ∷ ys) mid new first keeps second is some = second is (omega arith)

pub then_raised : (start mid last m n all : ℕ) → all ≡ m + n → mid ≤ raised_by m start → last ≤ raised_by n mid → last ≤ raised_by all start
then_raised start mid last m n all is first second = omega (arith, is, first, second)

below_test : (m n : ℕ) (b : Bool) → nat_lt m n ≡ b → (m < n → ⊥) → n ≤ m
below_test m n true e never = absurd (never (ltb-true m n e))
below_test m n false e never = ltb-false m n e

-- what isn't below is at least as much
not_below : (m n : ℕ) → (m < n → ⊥) → n ≤ m
not_below m n never = below_test m n (nat_lt m n) refl never

module _ {B : Type 0} (g : Ghosts B) (reads : (b : B) (o : Outcome) → g.now b o → g.tells b × (o.words ≡ g.words b)) where
  -- a put that is refused
  pub changes_refused : {a b : B} (store : Store) (pending entry behind : List LineWrite) (most : ℕ) → Fits g a store → pending ≡ entry ++ behind → IsLongest entry behind → most ≤ 2
      → Changes g a b (MayPutLines most entry) (MayPutLines most entry) → Changes g a b (MayPutFirst pending) (MayPutNext pending pending)
  changes_refused {a} {b} store pending entry behind most fits whole longest le changes = first_words g reads (MayPutFirst pending) (MayPutNext pending pending) changes
      (λ t v is. may_put_first pending entry behind most (durable_of store) (g.words a) v whole longest le (fits_stands g a store fits t) is)
      (λ t v is. may_put_next pending entry behind most (durable_of store) (g.words a) v whole longest le (fits_stands g a store fits t) is)

  -- one that is done
  pub changes_put : {a b : B} (store : Store) (pending entry behind : List LineWrite) (most : ℕ) → Fits g a store → pending ≡ entry ++ behind → IsLongest entry behind → most ≤ 2
      → Changes g a b (MayPutLines most entry) (PutsLines most entry) → Changes g a b (MayPutFirst pending) (PutsLines 2 (joined (entry ∷ [])))
  changes_put {a} {b} store pending entry behind most fits whole longest le changes =
      first_words g reads (MayPutFirst pending) (PutsLines 2 (joined (entry ∷ []))) changes
      (λ t v is. may_put_first pending entry behind most (durable_of store) (g.words a) v whole longest le (fits_stands g a store fits t) is)
      (λ t v is. puts_one entry most (g.words a) v le is)

  -- one more
  pub changes_then : {a b c : B} (xs ys : List (List LineWrite)) (pending mid : List LineWrite) → CutIntoEntries xs mid pending
      → Changes g a b (MayPutFirst pending) (PutsLines (2 * length xs) (joined xs)) → Changes g b c (MayPutFirst mid) (PutsLines (2 * length ys) (joined ys))
      → Changes g a c (MayPutFirst pending) (PutsLines (2 * length (xs ++ ys)) (joined (xs ++ ys)))
  changes_then {a} xs ys pending mid cut first second =
      chained_words g reads (MayPutFirst pending) (PutsLines (2 * length (xs ++ ys)) (joined (xs ++ ys))) first second
      (λ t o is. is) (λ t m o was is. may_then xs pending mid (g.words a) m o cut was is) (λ t m o was is. puts_then xs ys (g.words a) m o was is)

  -- one that is refused
  pub changes_stop : {a b c : B} (xs : List (List LineWrite)) (pending mid : List LineWrite) → CutIntoEntries xs mid pending
      → Changes g a b (MayPutFirst pending) (PutsLines (2 * length xs) (joined xs)) → Changes g b c (MayPutFirst mid) (MayPutNext mid mid)
      → Changes g a c (MayPutFirst pending) (MayPutNext pending mid)
  changes_stop {a} xs pending mid cut first second =
      chained_words g reads (MayPutFirst pending) (MayPutNext pending mid) first second
      (λ t o is. is) (λ t m o was is. may_then xs pending mid (g.words a) m o cut was is) (λ t m o was is. next_then xs pending mid (g.words a) m o cut was is)

  -- the end
  pub changes_first : {a b : B} (xs : List (List LineWrite)) (pending rest : List LineWrite) → CutIntoEntries xs rest pending
      → Changes g a b (MayPutFirst pending) (PutsLines (2 * length xs) (joined xs)) → Changes g a b (MayPutFirst pending) (PutsFirst 0 pending rest)
  changes_first {a} xs pending rest cut changes = first_words g reads (MayPutFirst pending) (PutsFirst 0 pending rest) changes (λ t o is. is) (λ t o is. puts_first xs pending rest (g.words a) o cut is)

  -- what was put so far, and more
  pub put_then : {a b c : B} (xs ys : List (List LineWrite)) (armed : Bool) (old mid new : Lines) → HasPutEntries g armed xs old mid a b → HasPutEntries g armed ys mid new b c → HasPutEntries g armed (xs ++ ys) old new a c
  put_then {a} {b} {c} xs ys armed old mid new first second = record {
    wrote = wrote_then xs ys armed old mid new first.wrote second.wrote (fits_whole g b mid.store first.fits) first.rises second.rises;
    fits = second.fits;
    rises = omega (arith, first.rises, second.rises);
    alone = λ is was. second.alone is (first.alone is was);
    settled = settled_then armed xs ys mid.store new.store first.settled second.alone second.settled;
    changes = changes_then xs ys old.pending mid.pending first.wrote.cut first.changes second.changes;
    erases = λ is. chained_erases_nothing g (first.erases is) (second.erases is);
    erased = then_raised (g.moment a).erases (g.moment b).erases (g.moment c).erases (length xs) (length ys) (length (xs ++ ys)) (length-append xs ys) first.erased second.erased;
    counts = second.counts ∙ first.counts;
  }

  pub put_none : (a : B) (armed : Bool) (lines : Lines) → Fits g a lines.store → HasPutEntries g armed [] lines lines a a
  put_none a armed lines fits = record {
    wrote = wrote_none armed lines;
    fits = fits;
    rises = omega arith;
    alone = λ is was. was;
    settled = λ is some. absurd (omega (arith, some));
    changes = started_words g reads a (MayPutFirst lines.pending) (PutsLines 0 []) (λ t. record { bytes = λ b is. is; guard = raises_none 0 (g.words a).guard (g.words a).guard refl });
    erases = λ is. record { erases = refl };
    erased = omega arith;
    counts = refl;
  }

  -- an entry that is put
  pub one_put : {a b : B} (armed : Bool) (entry behind items rest : List LineWrite) (store next : Store)
      → Fits g a store → items ≡ entry ++ behind → IsLongest entry behind → rest ≡ behind → Fits g b next
      → durable_of next ≡ after (durable_of store) entry → (armed ≡ false → IsTrue (is_alone next)) → guard_of next ≡ guard_of store + raise armed store entry
      → guard_ahead next ≤ guard_ahead store + 2 → (guard_of next ≡ guard_of store → free_of next + entry_bytes entry ≡ free_of store)
      → (armed ≡ true → spare_of store ≤ spare_of next + line_bytes * length entry)
      → (IsFalse (lacks_room store entry) → IsTrue (is_alone next)) → (armed ≡ true → IsTrue (lacks_room store entry) → IsTrue (is_spilled next))
      → (Voids armed store entry → guard_of store ≡ GUARD_HALFWORDS → ⊥)
      → (armed ≡ false → IsTrue (lacks_room store entry) → switch_leaves store ≤ room_of next + entry_bytes entry)
      → (armed ≡ true → IsTrue (is_spilled store) → room_of store < entry_bytes entry → ⊥)
      → Changes g a b (MayPutLines (raise armed store entry) entry) (PutsLines (raise armed store entry) entry)
      → (raise armed store entry ≡ 0 → ErasesNothing g a b) → (g.moment b).erases ≤ raised_by 1 (g.moment a).erases → g.faults b ≡ g.faults a
      → HasPutEntries g armed (entry ∷ []) (lines_of store items) (lines_of next rest) a b
  one_put {a} {b} armed entry behind items rest store next was whole longest rest_is fits durable alone guard ahead free spare stays spills used_up copied exceeds changes erases erased counts =
      let most : raise armed store entry ≤ 2 = raise_most armed store entry in
      let one : joined (entry ∷ []) ≡ entry = joined_one entry in
      record {
        wrote = record {
          cut = (behind, whole, longest, sym rest_is);
          durable = durable ∙ ap (λ (l : List LineWrite). after (durable_of store) l) (sym one);
          free = λ fit same. omega (arith, free same);
          guard = λ fit. omega (arith, guard, most);
          ahead = λ fit. omega (arith, ahead);
          spare = λ fit is. omega (arith, spare is, ap (λ (l : List LineWrite). length l) one);
          each = λ fit. (
            λ voids. used_up voids,
            next,
            record {
              durable = durable;
              guard = guard;
              free = free;
              room = λ has. room_put g a b store.state next.state store.bytes next.bytes (entry_bytes entry) was fits changes.geometry has (stays has)
                  (free (omega (arith, guard, raise_fits armed (lacks_room store entry) has)));
              alone = alone;
              stays = stays;
              spills = spills;
              copied = copied;
              within = λ is spilled. not_below (room_of store) (entry_bytes entry) (λ lt. exceeds is spilled lt);
            },
            refl,
          );
        };
        fits = fits;
        rises = omega (arith, guard);
        alone = λ is before. alone is;
        settled = λ is some. alone is;
        changes = changes_put store items entry behind (raise armed store entry) was whole longest most changes;
        erases = λ is. erases (ap (λ (b : Bool). raise b store entry) is);
        erased = erased;
        counts = counts;
      }

  -- the lines that are left
  pub left_first : (a : B) (armed : Bool) (n : ℕ) (lines : Lines) → Fits g a lines.store → HasLeft g armed n n lines lines a a
  left_first a armed n lines fits = record { entries = []; put = put_none a armed lines fits; rest = omega arith; still = λ none. (refl, refl); fitted = λ some. absurd (omega arith); fewest = λ k lt. absurd (omega arith) }

  pub left_more : {a b c : B} (armed : Bool) (n left lines next : ℕ) (old mid new : Lines) (entry : List LineWrite) → HasLeft g armed n left old mid a b → HasPutEntries g armed (entry ∷ []) mid new b c
      → (Refuses armed mid → ⊥) → 0 < left → lines ≡ length entry → next ≡ left - lines → HasLeft g armed n next old new a c
  left_more armed n left lines next old mid new entry first one taken some lines_is next_is = record {
    entries = first.entries ++ entry ∷ [];
    put = put_then first.entries (entry ∷ []) armed old mid new first.put one;
    rest = omega (arith, first.rest, lines_is, next_is, length-joined first.entries (entry ∷ []), ap (λ (l : List LineWrite). length l) (joined_one entry));
    still = λ none. absurd (omega (arith, none, length-append first.entries (entry ∷ [])));
    fitted = λ one_put. first_taken armed old mid first.entries (λ none. (first.still none).0) first.fitted taken;
    fewest = fewest_more n first.entries entry first.fewest (omega (arith, first.rest, some));
  }

-- what would hold at Ok
pub not_ok : {T E : Type 0} (r : Result T E) (P : Type 0) → IsErr r → OnOk r P
not_ok (Ok v) P err = absurd (cc)
not_ok (Err e) P err = tt

-- what holds whatever the answer
pub on_err : {T E : Type 0} (r : Result T E) (P : Type 0) → P → OnErr r P
on_err (Ok v) P is = tt
on_err (Err e) P is = is

pub by_refusal : {B T E : Type 0} (g : Ghosts B) {a b : B} (r : Result T E) (lost done stopped : Words → Words → Type 0) → IsErr r → Changes g a b lost stopped → Changes g a b lost (ByResult r done stopped)
by_refusal g (Ok v) lost done stopped err changes = absurd (cc)
by_refusal g (Err e) lost done stopped err changes = changes

-- any answer leaves what a loss inside may leave
pub answer_first : {T E : Type 0} (r : Result T E) (pending rest : List LineWrite) (u w : Words) → OnErr r (0 < length rest) → ByResult r (PutsFirst 0 pending rest) (MayPutNext pending rest) u w → MayPutFirst pending u w
answer_first (Ok v) pending rest u w some puts = done_first pending rest u w puts
answer_first (Err e) pending rest u w some may = next_first pending rest u w some may

-- the guard row is used up
home_lacks : (state : StoreState) (size : ℕ) → IsTrue (lacks_in state size) → IsFalse (has_failed state) → (home_free_in state < size) ⊎ IsTrue (in_both_sectors state)
home_lacks (Alone kept) size lacks fit = inl (ltb-true (fits.free_of kept) size lacks)
home_lacks (Spilled kept) size lacks fit = inr refl
home_lacks Spent size lacks fit = absurd (cc)

pub worn_for_next : {B : Type 0} (g : Ghosts B) (b : B) (armed : Bool) (store : Store) (new : Lines) (entry behind : List LineWrite) → IsFalse (is_spent store) → Voids armed store entry
    → IsWornWith g b new.store.bytes (home_free store) → new.pending ≡ entry ++ behind → IsLongest entry behind → IsWornForNext g b new ⊎ IsTrue (is_spilled store)
worn_for_next g b armed store new entry behind fit voids worn whole longest = elim (home_lacks store.state (entry_bytes entry) voids.1 fit) [
  | inl fewer ↦ inl (worn.0, worn.1, worn.2, record { entry = entry; behind = behind; next = whole; longest = longest; exceeds = omega (arith, fewer, worn.3) })
  | inr spilled ↦ inr spilled
]

not_both : (state : StoreState) → IsTrue (in_one_sector state) → IsTrue (in_both_sectors state) → ⊥
not_both (Alone kept) one both = cc
not_both (Spilled kept) one both = cc
not_both Spent one both = cc

-- either the next entry had no room at home, or the store was spilled before the first put
pub worn_stop : (W : Type 0) (armed : Bool) (xs : List (List LineWrite)) (old mid new : Lines) → (length xs ≡ 0 → mid ≡ old) → (armed ≡ false → 0 < length xs → IsTrue (is_alone mid.store)) → armed ≡ false
    → new.pending ≡ mid.pending → W ⊎ IsTrue (is_spilled mid.store) → W ⊎ (IsTrue (is_spilled old.store) × (new.pending ≡ old.pending))
worn_stop W armed xs old mid new still settled is held (inl worn) = inl worn
worn_stop W armed [] old mid new still settled is held (inr spilled) =
    inr (subst (λ (l : Lines). IsTrue (is_spilled l.store)) (still refl) spilled, held ∙ ap (λ (l : Lines). l.pending) (still refl))
worn_stop W armed (x ∷ xs) old mid new still settled is held (inr spilled) = absurd (not_both mid.store.state (settled is (omega arith)) spilled)

-- what a refusal says of a used up guard row
pub worn_both : (e : PutError) (P Q R : ℕ → Type 0) → OnWorn e P → OnWorn e Q → ((c : ℕ) → P c → Q c → R c) → OnWorn e R
worn_both (put_error.Fault kind) P Q R p q f = tt
worn_both (put_error.NoRoom room) P Q R p q f = tt
worn_both (put_error.Worn count) P Q R p q f = f count p q
