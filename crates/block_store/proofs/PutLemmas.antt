-- A put as a call that keeps the bytes, and one that puts an entry.
use Rattle.std.proofs.Common.{◌≡◌, inl, inr, ⊎_elim, ℕ, Bool, true, false, List, Result, Ok, Err, sym, ◌∙◌, ap, subst, arith}
use Rattle.flash_traits.specs.Words.{Words}
use Rattle.flash_traits.specs.Losses.{Outcome, ByResult}
use Rattle.flash_traits.specs.declared.board.Board.{Ghosts}
use Rattle.flash_traits.specs.Calls.{Changes}
use Rattle.flash_traits.proofs.Moments.{first_words, chained_words}
use Rattle.storage_lines.specs.declared.lines.LineWrite.{LineWrite}
use Rattle.sector_image.specs.Stands.{Stands}
use Rattle.sector_image.specs.Losses.{RaisesGuard, KeepsBytes, Puts, MayPut}
use Rattle.block_store.specs.Losses.{PutsLines, MayPutLines}
use Rattle.block_store.specs.Store.{Store, StoreState, entry_bytes, raise}
use Rattle.block_store.specs.Steps.Inside.{due_in}
use Rattle.block_store.specs.Steps.Entries.{IsEntryOf, PutsEntry, MayPutEntry}

guard_then : (most : ℕ) (a b c : List ℕ) → RaisesGuard most a b → RaisesGuard 0 b c → RaisesGuard most a c
guard_then most a b c raised same = λ n is. let d = raised n is in let e = same d.0 d.1 in (e.0, e.1, omega (arith, d.2, e.2), omega (arith, d.3, e.3))

kept_entry : (most first : ℕ) (entry : List ℕ) (u v : Words) → KeepsBytes most u v → MayPutEntry most first entry u v
kept_entry most first entry u v kept = record { bytes = λ b is. inl (kept.bytes b is); guard = kept.guard }

kept_then_may : (most first : ℕ) (entry : List ℕ) (u v w : Words) → KeepsBytes most u v → MayPut first entry v w → MayPutEntry most first entry u w
kept_then_may most first entry u v w kept may = record { bytes = λ b is. may.bytes b (kept.bytes b is); guard = guard_then most u.guard v.guard w.guard kept.guard may.guard }

kept_then_puts : (most first : ℕ) (entry : List ℕ) (u v w : Words) → KeepsBytes most u v → Puts first entry v w → PutsEntry most first entry u w
kept_then_puts most first entry u v w kept puts = record { bytes = λ b is. puts.bytes b (kept.bytes b is); guard = guard_then most u.guard v.guard w.guard kept.guard puts.guard }

lines_may : (most first : ℕ) (entry : List ℕ) (lines : List LineWrite) (u v : Words) → IsEntryOf first entry lines → MayPutEntry most first entry u v → MayPutLines most lines u v
lines_may most first entry lines u v of may = record {
  bytes = λ b is. ⊎_elim (λ (kept : _). inl kept) (λ (done : _). inr (subst (λ (l : List ℕ). Stands v l) (of.same b is.2.size) done)) (may.bytes b is);
  guard = may.guard;
}

lines_put : (most first : ℕ) (entry : List ℕ) (lines : List LineWrite) (u v : Words) → IsEntryOf first entry lines → PutsEntry most first entry u v → PutsLines most lines u v
lines_put most first entry lines u v of puts = record {
  bytes = λ b is. subst (λ (l : List ℕ). Stands v l) (of.same b is.2.size) (puts.bytes b is);
  guard = puts.guard;
}

module _ {B : Type 0} (g : Ghosts B) (reads : (b : B) (o : Outcome) → g.now b o → g.tells b × (o.words ≡ g.words b)) where
  -- a call that keeps the bytes, alone or before the entry
  pub keeps_entry : {a b : B} (most first : ℕ) (entry : List ℕ) → Changes g a b (KeepsBytes most) (KeepsBytes most) → Changes g a b (MayPutEntry most first entry) (MayPutEntry most first entry)
  keeps_entry {a} most first entry changes = first_words g reads (MayPutEntry most first entry) (MayPutEntry most first entry) changes
      (λ t o kept. kept_entry most first entry (g.words a) o kept) (λ t o kept. kept_entry most first entry (g.words a) o kept)

  pub then_may_put : {a b c : B} (most first : ℕ) (entry : List ℕ) → Changes g a b (KeepsBytes most) (KeepsBytes most) → Changes g b c (MayPut first entry) (MayPut first entry)
      → Changes g a c (MayPutEntry most first entry) (MayPutEntry most first entry)
  then_may_put {a} most first entry before put = chained_words g reads (MayPutEntry most first entry) (MayPutEntry most first entry) before put
      (λ t o kept. kept_entry most first entry (g.words a) o kept)
      (λ t m o kept may. kept_then_may most first entry (g.words a) m o kept may) (λ t m o kept may. kept_then_may most first entry (g.words a) m o kept may)

  pub then_puts : {a b c : B} (most first : ℕ) (entry : List ℕ) → Changes g a b (KeepsBytes most) (KeepsBytes most) → Changes g b c (MayPut first entry) (Puts first entry)
      → Changes g a c (MayPutEntry most first entry) (PutsEntry most first entry)
  then_puts {a} most first entry before put = chained_words g reads (MayPutEntry most first entry) (PutsEntry most first entry) before put
      (λ t o kept. kept_entry most first entry (g.words a) o kept)
      (λ t m o kept may. kept_then_may most first entry (g.words a) m o kept may) (λ t m o kept puts. kept_then_puts most first entry (g.words a) m o kept puts)

  -- the entry as lines
  pub may_put_lines : {a b : B} (most first : ℕ) (entry : List ℕ) (lines : List LineWrite) → IsEntryOf first entry lines → Changes g a b (MayPutEntry most first entry) (MayPutEntry most first entry)
      → Changes g a b (MayPutLines most lines) (MayPutLines most lines)
  may_put_lines {a} most first entry lines of changes = first_words g reads (MayPutLines most lines) (MayPutLines most lines) changes
      (λ t o may. lines_may most first entry lines (g.words a) o of may) (λ t o may. lines_may most first entry lines (g.words a) o of may)

  pub puts_lines : {a b : B} (most first : ℕ) (entry : List ℕ) (lines : List LineWrite) → IsEntryOf first entry lines → Changes g a b (MayPutEntry most first entry) (PutsEntry most first entry)
      → Changes g a b (MayPutLines most lines) (PutsLines most lines)
  puts_lines {a} most first entry lines of changes = first_words g reads (MayPutLines most lines) (PutsLines most lines) changes
      (λ t o may. lines_may most first entry lines (g.words a) o of may) (λ t o puts. lines_put most first entry lines (g.words a) o of puts)

  -- the answer of a put, at whatever board it ends
  pub err_lines : {T E : Type 0} {a b c : B} (m most first : ℕ) (entry : List ℕ) (lines : List LineWrite) (r : Result T E) (e : E) → r ≡ Err e → m ≡ most → c ≡ b → IsEntryOf first entry lines
      → Changes g a b (MayPutEntry m first entry) (ByResult r (PutsEntry m first entry) (MayPutEntry m first entry)) → Changes g a c (MayPutLines most lines) (MayPutLines most lines)
  err_lines m most first entry lines (Ok v) e is same at of changes = absurd (cc)
  err_lines {T} {E} {a} {b} {c} m most first entry lines (Err f) e is same at of changes =
      subst (λ (x : B). Changes g a x (MayPutLines most lines) (MayPutLines most lines)) (sym at)
      (subst (λ (n : ℕ). Changes g a b (MayPutLines n lines) (MayPutLines n lines)) same (may_put_lines m first entry lines of changes))

  pub ok_lines : {T E : Type 0} {a b c : B} (m most first : ℕ) (entry : List ℕ) (lines : List LineWrite) (r : Result T E) (v : T) → r ≡ Ok v → m ≡ most → c ≡ b → IsEntryOf first entry lines
      → Changes g a b (MayPutEntry m first entry) (ByResult r (PutsEntry m first entry) (MayPutEntry m first entry)) → Changes g a c (MayPutLines most lines) (PutsLines most lines)
  ok_lines m most first entry lines (Err e) v is same at of changes = absurd (cc)
  ok_lines {T} {E} {a} {b} {c} m most first entry lines (Ok u) v is same at of changes =
      subst (λ (x : B). Changes g a x (MayPutLines most lines) (PutsLines most lines)) (sym at)
      (subst (λ (n : ℕ). Changes g a b (MayPutLines n lines) (PutsLines n lines)) same (puts_lines m first entry lines of changes))

-- how much the guard count may rise
pub armed_raise : (armed : Bool) (store : Store) (lines : List LineWrite) → armed ≡ true → 0 ≡ raise armed store lines
armed_raise armed store lines is = sym (ap (λ (b : Bool). raise b store lines) is)

pub unarmed_raise : (armed : Bool) (store : Store) (state : StoreState) (m : ℕ) (lines : List LineWrite) → armed ≡ false → state ≡ store.state → m ≡ entry_bytes lines → due_in state m ≡ raise armed store lines
unarmed_raise armed store state m lines is at same =
    ap (λ (s : StoreState). due_in s m) at ∙ ap (λ (n : ℕ). due_in store.state n) same ∙ sym (ap (λ (b : Bool). raise b store lines) is)
