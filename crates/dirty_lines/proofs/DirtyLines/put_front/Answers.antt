use Rattle.std.proofs.Common.{◌≡◌, ◌⊎◌, ℕ, false, List, ◌∷◌, [], length, ◌∙◌, sym, ap, subst, arith, length-append, OnErr, IsTrue, rules}
use Rattle.flash_traits.specs.declared.numbers.TheConstants.{GUARD_HALFWORDS}
use Rattle.circular_buffer.specs.Buffer.{Buffer}
use Rattle.storage_lines.specs.declared.lines.LineWrite.{LineWrite}
use Rattle.storage_lines.specs.Lines.{after}
use Rattle.storage_lines.proofs.LineLemmas.{after-append, length-after}
use Rattle.block_store.specs.declared.PutError.TheVariants.{NoRoom}
use Rattle.block_store.specs.Refusals.{OnWorn, IsWorn}
use Rattle.block_store.proofs.StoreLaws.{fits_whole}
use Rattle.block_store.specs.Store.{Fits, AreOneEntry, durable_of, is_spilled, raise, room_of}
use Rattle.flash_traits.specs.Calls.{Changes}
use Rattle.dirty_lines.specs.Lines.{Lines, lines_of}
use Rattle.storage_lines.specs.Bytes.{AreInside}
use Rattle.dirty_lines.specs.Entries.{IsNext}
use Rattle.dirty_lines.specs.Losses.{MayPutFirst, MayPutNext, NextExceeds, IsWornForNext, IsWornAt}
use Rattle.dirty_lines.specs.Steps.Flushing.{HasPutEntries, Refuses}
use Rattle.dirty_lines.proofs.RunLemmas.{entry_of, rest_is, inside_right}
use Rattle.dirty_lines.proofs.Puts.{worn_both, worn_for_next, one_put, exceeds_this, not_refused, changes_refused, raise_most, on_err}
use Rattle.dirty_lines.proofs.DirtyLines.put_front.Goals as goal

pub put-requires-clause-entry : goal.put-requires-clause-entry
put-requires-clause-entry g c =
    let next = c.longest_run-entry.ensures in
    subst AreOneEntry (sym c.as_slice.ensures.value) (entry_of c.longest_run-entry.result.items next.behind c.self.inside.pending.items next.whole next.longest c.self.invariant.inside)

pub returns-in_err-put-clause-changes : goal.returns-in_err-put-clause-changes
returns-in_err-put-clause-changes g c =
    let store = c.self.inside.store in
    let entry = c.as_slice.result.now in
    let next : IsNext entry c.self.inside.pending.items = subst (λ (l : List LineWrite). IsNext l c.self.inside.pending.items) (sym c.as_slice.ensures.value) c.longest_run-entry.ensures in
    let fits : Fits g.B.Board c.args.board.now store = subst (λ (l : Lines). Fits g.B.Board c.args.board.now l.store) (sym c.self.view_is) c.requires.fits in
    subst (λ (l : Lines). OnErr c.from_residual.result (Changes g.B.Board c.args.board.now c.put.new.board (MayPutFirst l.pending) (MayPutNext l.pending l.pending))) c.self.view_is
    (on_err c.from_residual.result _
    (changes_refused g.B.Board g.met.B.Board.reads store c.self.inside.pending.items entry next.behind (raise c.args.armed store entry) fits next.whole next.longest
    (raise_most c.args.armed store entry) c.in_err-put.ensures.changes))

pub invariant_of-self-2 : goal.invariant_of-self-2
invariant_of-self-2 g c =
    let was = c.self.invariant in
    let store = c.self.inside.store in
    let items = c.self.inside.pending.items in
    let entry = c.longest_run-entry.result.items in
    let next = c.longest_run-entry.ensures in
    let durable : durable_of c.put.new.self ≡ after (durable_of store) entry = c.in_ok-put.ensures.put ∙ ap (λ (l : List LineWrite). after (durable_of store) l) c.as_slice.ensures.value in
    let rest : c.truncate_front.new.self.items ≡ next.behind =
    ap (λ (b : Buffer LineWrite). b.items) c.truncate_front.ensures ∙ rest_is items entry next.behind c.len.result c.len-2.result next.whole c.len.ensures.len c.len-2.ensures.value in
    record {
      size = ap (λ (l : List ℕ). length l) durable ∙ length-after (durable_of store) entry ∙ was.size;
      current = was.current ∙ ap (λ (l : List LineWrite). after (durable_of store) l) next.whole ∙ after-append (durable_of store) entry next.behind
          ∙ ap (λ (b : List ℕ). after b next.behind) (sym durable) ∙ ap (λ (l : List LineWrite). after (durable_of c.put.new.self) l) (sym rest);
      capacity = ap (λ (b : Buffer LineWrite). b.capacity) c.truncate_front.ensures ∙ was.capacity;
      most = omega (arith, ap (λ (l : List LineWrite). length l) rest, ap (λ (l : List LineWrite). length l) next.whole, length-append entry next.behind, was.most);
      inside = subst AreInside (sym rest) (inside_right entry next.behind (subst AreInside next.whole was.inside));
    }

pub returns-clause-put : goal.returns-clause-put
returns-clause-put g c =
    let store = c.self.inside.store in
    let items = c.self.inside.pending.items in
    let entry = c.as_slice.result.now in
    let next : IsNext entry items = subst (λ (l : List LineWrite). IsNext l items) (sym c.as_slice.ensures.value) c.longest_run-entry.ensures in
    let fits : Fits g.B.Board c.args.board.now store = subst (λ (l : Lines). Fits g.B.Board c.args.board.now l.store) (sym c.self.view_is) c.requires.fits in
    let rest : c.truncate_front.new.self.items ≡ next.behind =
    ap (λ (b : Buffer LineWrite). b.items) c.truncate_front.ensures
    ∙ rest_is items entry next.behind c.len.result c.len-2.result next.whole c.len.ensures.len (c.len-2.ensures.value ∙ ap (λ (l : List LineWrite). length l) (sym c.as_slice.ensures.value)) in
    let put = c.in_ok-put.ensures in
    let count : c.len-3.result ≡ length entry = c.len-3.ensures.value ∙ ap (λ (l : List LineWrite). length l) (sym c.as_slice.ensures.value) in (
      entry,
      count,
      omega (arith, count, next.longest.some),
      subst (λ (l : Lines). HasPutEntries g.B.Board c.args.armed (entry ∷ []) l (lines_of c.put.new.self c.truncate_front.new.self.items) c.args.board.now c.put.new.board) c.self.view_is
          (one_put g.B.Board g.met.B.Board.reads c.args.armed entry next.behind items c.truncate_front.new.self.items store c.put.new.self fits next.whole next.longest rest
          put.fits put.put put.alone put.guard put.ahead put.free put.spare put.stays put.spills (λ voids guard. put.used_up voids guard) put.copied (λ is spilled exceeds. (put.too_large is spilled exceeds).1) put.changes put.erases put.erases_once put.counts),
    )

pub returns-clause-taken : goal.returns-clause-taken
returns-clause-taken g c =
    let store = c.self.inside.store in
    let items = c.self.inside.pending.items in
    let entry = c.as_slice.result.now in
    let next : IsNext entry items = subst (λ (l : List LineWrite). IsNext l items) (sym c.as_slice.ensures.value) c.longest_run-entry.ensures in
    subst (λ (l : Lines). Refuses c.args.armed l → ⊥) c.self.view_is
    (not_refused c.args.armed store items entry next.behind next.whole next.longest
    (λ is spilled exceeds. (c.in_ok-put.ensures.too_large is spilled exceeds).1) (λ voids guard. c.in_ok-put.ensures.used_up voids guard))

pub returns-in_err-put-clause-too_large : goal.returns-in_err-put-clause-too_large
returns-in_err-put-clause-too_large g c = λ is spilled exceeds.
    let store = c.self.inside.store in
    let items = c.self.inside.pending.items in
    let entry = c.as_slice.result.now in
    let next : IsNext entry items = subst (λ (l : List LineWrite). IsNext l items) (sym c.as_slice.ensures.value) c.longest_run-entry.ensures in
    let same : c.args.self.now ≡ lines_of store items = sym c.self.view_is in
    let answer : c.in_err-put.field-0.0 ≡ NoRoom (room_of store) =
    (c.in_err-put.ensures.too_large is (subst (λ (l : Lines). IsTrue (is_spilled l.store)) same spilled)
    (exceeds_this (room_of store) items entry next.behind next.whole next.longest (subst (λ (l : Lines). NextExceeds (room_of l.store) l.pending) same exceeds))).0 in
    let told : c.in_err-put.field-0.0 ≡ NoRoom (room_of c.args.self.now.store) = answer ∙ ap (λ (l : Lines). NoRoom (room_of l.store)) c.self.view_is in
    search rules

pub returns-in_err-put-clause-worn : goal.returns-in_err-put-clause-worn
returns-in_err-put-clause-worn g c =
    let e = c.in_err-put.field-0.0 in
    let told : OnWorn e (λ count. (count ≡ GUARD_HALFWORDS) × (c.args.armed ≡ false) × IsWorn g.B.Board c.put.new.board c.put.new.self.bytes) =
    worn_both e _ _ (λ count. (count ≡ GUARD_HALFWORDS) × (c.args.armed ≡ false) × IsWorn g.B.Board c.put.new.board c.put.new.self.bytes) c.in_err-put.ensures.worn c.in_err-put.ensures.worn_copied
    (λ count worn copied. (worn.0, worn.2.0, (copied.0, copied.1, copied.2))) in
    search rules

pub returns-in_err-put-clause-worn_next : goal.returns-in_err-put-clause-worn_next
returns-in_err-put-clause-worn_next g c =
    let store = c.self.inside.store in
    let items = c.self.inside.pending.items in
    let entry = c.as_slice.result.now in
    let next : IsNext entry items = subst (λ (l : List LineWrite). IsNext l items) (sym c.as_slice.ensures.value) c.longest_run-entry.ensures in
    let fits : Fits g.B.Board c.args.board.now store = subst (λ (l : Lines). Fits g.B.Board c.args.board.now l.store) (sym c.self.view_is) c.requires.fits in
    let new : Lines = lines_of c.put.new.self items in
    let e = c.in_err-put.field-0.0 in
    let W : Type 0 = IsWornForNext g.B.Board c.put.new.board new in
    let told : OnWorn e (λ _. W ⊎ IsTrue (is_spilled c.args.self.now.store)) =
    worn_both e _ _ (λ _. W ⊎ IsTrue (is_spilled c.args.self.now.store)) c.in_err-put.ensures.worn c.in_err-put.ensures.worn_copied
    (λ count worn copied. subst (λ (l : Lines). W ⊎ IsTrue (is_spilled l.store)) c.self.view_is
    (worn_for_next g.B.Board c.put.new.board c.args.armed store new entry next.behind (fits_whole g.B.Board c.args.board.now store fits) worn.2 copied next.whole next.longest)) in
    search rules

pub returns-in_err-put-clause-worn_due : goal.returns-in_err-put-clause-worn_due
returns-in_err-put-clause-worn_due g c =
    let items = c.self.inside.pending.items in
    let entry = c.as_slice.result.now in
    let next : IsNext entry items = subst (λ (l : List LineWrite). IsNext l items) (sym c.as_slice.ensures.value) c.longest_run-entry.ensures in
    let new : Lines = lines_of c.put.new.self items in
    let e = c.in_err-put.field-0.0 in
    let told : OnWorn e (λ _. IsWornAt g.B.Board c.put.new.board c.args.armed c.args.self.now.store new) =
    worn_both e _ _ (λ _. IsWornAt g.B.Board c.put.new.board c.args.armed c.args.self.now.store new) c.in_err-put.ensures.worn c.in_err-put.ensures.worn_copied
    (λ count worn copied. subst (λ (l : Lines). IsWornAt g.B.Board c.put.new.board c.args.armed l.store new) c.self.view_is
    (record { entry = entry; behind = next.behind; next = next.whole; longest = next.longest; voids = worn.2 }, worn.1, copied)) in
    search rules
