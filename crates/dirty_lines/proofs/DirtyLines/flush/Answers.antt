use Rattle.std.proofs.Common.{◌≡◌, ◌⊎◌, ◌+◌, refl, List, length, sym, ap, subst, arith, rules}
use Rattle.std.specs.Prelude.{IsTrue}
use Rattle.flash_traits.specs.Calls.{Changes}
use Rattle.storage_lines.specs.declared.lines.LineWrite.{LineWrite}
use Rattle.block_store.specs.Store.{Store, is_spilled}
use Rattle.block_store.proofs.StoreLaws.{fits_whole}
use Rattle.dirty_lines.specs.Entries.{CutIntoEntries}
use Rattle.dirty_lines.specs.Wearing.{NoneWears}
use Rattle.block_store.specs.Refusals.{OnWorn}
use Rattle.dirty_lines.specs.Losses.{PutsFirst, MayPutFirst, MayPutNext, IsWornForNext, IsWornAt}
use Rattle.dirty_lines.proofs.Cuts.{few_left, no_entries}
use Rattle.dirty_lines.proofs.Puts.{changes_first, changes_stop, left_first, left_more, by_refusal, worn_both, worn_stop, then_raised, not_ok, on_err}
use Rattle.dirty_lines.proofs.DirtyLines.flush.Goals as goal

pub loop-left-init : goal.loop-left-init
loop-left-init g c = left_first g.B.Board g.met.B.Board.reads c.args.board.now c.args.armed c.args.n c.args.self.now c.requires.fits

pub returns-in_err-put_front-clause-changes : goal.returns-in_err-put_front-clause-changes
returns-in_err-put_front-clause-changes g c =
    let i = c.loop-left.invariant in
    let pending = c.args.self.now.pending in
    by_refusal g.B.Board c.from_residual.result (MayPutFirst pending) (PutsFirst 0 pending c.put_front.new.self.pending) (MayPutNext pending c.put_front.new.self.pending) c.from_residual.ensures.0
    (subst (λ (l : List LineWrite). Changes g.B.Board c.args.board.now c.put_front.new.board (MayPutFirst pending) (MayPutNext pending l)) (sym c.in_err-put_front.ensures.held.pending)
    (changes_stop g.B.Board g.met.B.Board.reads i.entries pending c.loop-left.self.pending i.put.wrote.cut i.put.changes c.in_err-put_front.ensures.changes))

pub returns-in_err-put_front-clause-few : goal.returns-in_err-put_front-clause-few
returns-in_err-put_front-clause-few g c =
    let i = c.loop-left.invariant in
    omega (
      arith,
      few_left i.entries c.loop-left.self.pending c.args.self.now.pending c.args.n i.put.wrote.cut i.fewest,
      ap (λ (l : List LineWrite). length l) c.in_err-put_front.ensures.held.pending,
    )

pub returns-in_err-put_front-clause-worn_next : goal.returns-in_err-put_front-clause-worn_next
returns-in_err-put_front-clause-worn_next g c =
    let i = c.loop-left.invariant in
    let old = c.args.self.now in
    let new = c.put_front.new.self in
    let W : Type 0 = IsWornForNext g.B.Board c.put_front.new.board new in
    let told : OnWorn c.in_err-put_front.field-0.0 (λ _. W ⊎ (IsTrue (is_spilled old.store) × (new.pending ≡ old.pending))) =
    worn_both c.in_err-put_front.field-0.0 _ _ (λ _. W ⊎ (IsTrue (is_spilled old.store) × (new.pending ≡ old.pending))) c.in_err-put_front.ensures.worn c.in_err-put_front.ensures.worn_next
    (λ count worn next. worn_stop W c.args.armed i.entries old c.loop-left.self new (λ none. (i.still none).0) i.put.settled worn.1 c.in_err-put_front.ensures.held.pending next) in
    search rules

pub loop-left-preserved : goal.loop-left-preserved
loop-left-preserved g c =
    let one = c.in_ok-put_front.ensures.put in
    left_more g.B.Board g.met.B.Board.reads c.args.armed c.args.n c.loop-left.left c.in_ok-put_front.field-0 c.saturating_sub-left.result c.args.self.now c.loop-left.self c.put_front.new.self one.0
    c.loop-left.invariant one.3 c.in_ok-put_front.ensures.taken c.loop-left-test.true one.1 c.saturating_sub-left.ensures

pub returns-else-not-is_empty-clause-few : goal.returns-else-not-is_empty-clause-few
returns-else-not-is_empty-clause-few g c =
    let i = c.loop-left.invariant in
    few_left i.entries c.loop-left.self.pending c.args.self.now.pending c.args.n i.put.wrote.cut i.fewest

pub returns-else-not-is_empty-clause-still : goal.returns-else-not-is_empty-clause-still
returns-else-not-is_empty-clause-still g c = λ same.
    let i = c.loop-left.invariant in
    i.still (no_entries i.entries c.loop-left.self.pending c.args.self.now.pending i.put.wrote.cut same)

pub returns-else-not-is_empty-clause-changes : goal.returns-else-not-is_empty-clause-changes
returns-else-not-is_empty-clause-changes g c =
    let i = c.loop-left.invariant in
    changes_first g.B.Board g.met.B.Board.reads i.entries c.args.self.now.pending c.loop-left.self.pending i.put.wrote.cut i.put.changes

pub returns-after-loop-left-clause-few : goal.returns-after-loop-left-clause-few
returns-after-loop-left-clause-few g c =
    let i = c.loop-left.invariant in
    few_left i.entries c.loop-left.self.pending c.args.self.now.pending c.args.n i.put.wrote.cut i.fewest

pub returns-after-loop-left-clause-still : goal.returns-after-loop-left-clause-still
returns-after-loop-left-clause-still g c = λ same.
    let i = c.loop-left.invariant in
    i.still (no_entries i.entries c.loop-left.self.pending c.args.self.now.pending i.put.wrote.cut same)

pub returns-after-loop-left-clause-changes : goal.returns-after-loop-left-clause-changes
returns-after-loop-left-clause-changes g c =
    let i = c.loop-left.invariant in
    changes_first g.B.Board g.met.B.Board.reads i.entries c.args.self.now.pending c.loop-left.self.pending i.put.wrote.cut i.put.changes

pub returns-in_err-put_front-clause-worn_due : goal.returns-in_err-put_front-clause-worn_due
returns-in_err-put_front-clause-worn_due g c =
    let i = c.loop-left.invariant in
    let old = c.args.self.now in
    let mid = c.loop-left.self in
    let new = c.put_front.new.self in
    let e = c.in_err-put_front.field-0.0 in
    let R : Type 0 = (entries : List (List LineWrite)) × (last : Store) × CutIntoEntries entries new.pending old.pending × NoneWears c.args.armed entries old.store last × IsWornAt g.B.Board c.put_front.new.board c.args.armed last new in
    let told : OnWorn e (λ _. R) =
    worn_both e _ _ (λ _. R) c.in_err-put_front.ensures.worn c.in_err-put_front.ensures.worn_due
    (λ count worn due. (
      i.entries,
      mid.store,
      subst (λ (l : List LineWrite). CutIntoEntries i.entries l old.pending) (sym c.in_err-put_front.ensures.held.pending) i.put.wrote.cut,
      i.put.wrote.each (fits_whole g.B.Board c.loop-left.board mid.store i.put.fits),
      due,
    )) in
    search rules

pub returns-in_err-put_front-clause-erased : goal.returns-in_err-put_front-clause-erased
returns-in_err-put_front-clause-erased g c =
    let i = c.loop-left.invariant in
    let more = then_raised (g.B.Board.moment c.args.board.now).erases (g.B.Board.moment c.loop-left.board).erases (g.B.Board.moment c.put_front.new.board).erases (length i.entries) 1 (length i.entries + 1) refl i.put.erased c.put_front.ensures.erased in
    let cut = subst (λ (l : List LineWrite). CutIntoEntries i.entries l c.args.self.now.pending) (sym c.in_err-put_front.ensures.held.pending) i.put.wrote.cut in
    (i.entries, cut, not_ok c.from_residual.result _ c.from_residual.ensures.0, on_err c.from_residual.result _ more)
