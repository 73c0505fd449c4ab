-- What every call keeps, over calls one after another.
use Rattle.std.proofs.Common.{◌≡◌, ◌≤◌, ◌⊎◌, inl, inr, Bool, false, ℕ, List, refl, sym, ◌∙◌, ap, subst, arith, Result, Ok, Err}
use Rattle.std.specs.Prelude.{⊤, IsTrue}
use Rattle.flash_traits.specs.declared.numbers.TheConstants.{GUARD_HALFWORDS}
use Rattle.flash_traits.specs.declared.board.Board.{Ghosts}
use Rattle.flash_traits.specs.declared.board.Fault.{Fault}
use Rattle.flash_traits.specs.declared.board.Fault.TheVariants.{Read, Flash, Send}
use Rattle.flash_traits.specs.Causes.{counts_after}
use Rattle.flash_traits.specs.Losses.{KeepsWords}
use Rattle.guard_row.specs.Row.{IsGuardRow}
use Rattle.guard_row.proofs.RowLaws.{one_count}
use Rattle.sector_image.specs.Images.{Bytes}
use Rattle.block_store.specs.Store.{StoreState, Alone, Spilled, Spent, in_one_sector, in_both_sectors, guard_of, is_spilled}
use Rattle.block_store.specs.Refusals as put
use Rattle.block_store.specs.declared.PutError.{PutError}
use Rattle.block_store.specs.declared.PutError.TheVariants as put_error
use Rattle.dirty_lines.specs.Losses.{IsWornForNext}
use Rattle.vehicle_runs.specs.Guard.{CountsUpTo}
use Rattle.vehicle_node.specs.Standing.{Node, ceiling}
use Rattle.vehicle_node.specs.Refusals.{OnFault, OnWorn, fault_in}
use Rattle.vehicle_node.specs.Steps.Answering.{IsErrorOf}
use Rattle.vehicle_node.specs.Steps.Calls.{Keeps, KeepsLines, WornAlone, OfFlash, OfAnswer}
use Rattle.vehicle_node.specs.declared.NodeError.{NodeError}
use Rattle.vehicle_node.specs.declared.NodeError.TheVariants as node_error
use Rattle.vehicle_node.proofs.Putting.{guard_le}

-- a fault of these kinds is one of more kinds
fault_wider : (e : NodeError) (P Q : Fault → Type 0) → ((k : Fault) → P k → Q k) → OnFault e P → OnFault e Q
fault_wider node_error.Memory P Q more fault = tt
fault_wider (node_error.Fault kind) P Q more fault = more kind fault
fault_wider (node_error.Foreign region offset word) P Q more fault = tt
fault_wider (node_error.Worn count) P Q more fault = tt

pub no_wear : (e : NodeError) (P : ℕ → Type 0) → OnWorn e (λ count. ⊥) → OnWorn e P
no_wear node_error.Memory P none = tt
no_wear (node_error.Fault kind) P none = tt
no_wear (node_error.Foreign region offset word) P none = tt
no_wear (node_error.Worn count) P none = absurd none

-- a row of a count that is at most so much
reached_by : (row : List ℕ) (most : ℕ) → IsGuardRow row GUARD_HALFWORDS → CountsUpTo most row → GUARD_HALFWORDS ≤ most
reached_by row most is counts = omega (arith, one_count row GUARD_HALFWORDS counts.0 is counts.1, counts.2)

not_both : (state : StoreState) → IsTrue (in_one_sector state) → IsTrue (in_both_sectors state) → ⊥
not_both (Alone kept) one both = cc
not_both (Spilled kept) one both = cc
not_both Spent one both = cc

pub flash_answers : (kind : Fault) → OfFlash kind → OfAnswer kind
flash_answers kind (inl read) = inl read
flash_answers kind (inr flash) = inr (inl flash)

module _ {B : Type 0} (g : Ghosts B) where
  words_then : (a b c : B) → KeepsWords g.sector_bytes g.tells g.words a b → KeepsWords g.sector_bytes g.tells g.words b c → KeepsWords g.sector_bytes g.tells g.words a c
  words_then a b c first second = record {
    geometry = second.geometry ∙ first.geometry;
    told = λ told. first.told (second.told told);
    content = λ told. second.content told ∙ first.content (second.told told);
  }

  pub keeps_none : (kinds : Fault → Type 0) (a : B) → Keeps g kinds a (Ok tt) a
  keeps_none kinds a = record {
    geometry = refl;
    told = λ told. told;
    never_memory = tt;
    never_foreign = tt;
    worn = tt;
    fault = tt;
    counts = refl;
  }

  -- another call after one that kept all
  pub keeps_then : (kinds more : Fault → Type 0) (a b : B) (r : Result ⊤ NodeError) (c : B) → ((k : Fault) → kinds k → more k) → Keeps g more a (Ok tt) b → Keeps g kinds b r c → Keeps g more a r c
  keeps_then kinds more a b (Ok v) c wider first second = record {
    geometry = second.geometry ∙ first.geometry;
    told = λ told. first.told (second.told told);
    never_memory = tt;
    never_foreign = tt;
    worn = tt;
    fault = tt;
    counts = second.counts ∙ first.counts;
  }
  keeps_then kinds more a b (Err e) c wider first second = record {
    geometry = second.geometry ∙ first.geometry;
    told = λ told. first.told (second.told told);
    never_memory = second.never_memory;
    never_foreign = second.never_foreign;
    worn = second.worn;
    fault = fault_wider e kinds more wider second.fault;
    counts = second.counts ∙ ap (counts_after (fault_in e)) first.counts;
  }

  -- a first call alone
  pub keeps_wider : (kinds more : Fault → Type 0) (a : B) (r : Result ⊤ NodeError) (b : B) → ((k : Fault) → kinds k → more k) → Keeps g kinds a r b → Keeps g more a r b
  keeps_wider kinds more a r b wider one = keeps_then kinds more a a r b wider (keeps_none more a) one

  -- a call that only sends
  pub keeps_sending : (kinds : Fault → Type 0) (a b : B) (r : Result ⊤ NodeError) (old new : Node) (c : B)
      → ((k : Fault) → kinds k → OfAnswer k) → Keeps g kinds a (Ok tt) b → KeepsLines g old b r new c → Keeps g OfAnswer a r c
  keeps_sending kinds a b (Ok v) old new c wider first second = record {
    geometry = second.words.geometry ∙ first.geometry;
    told = λ told. first.told (second.words.told told);
    never_memory = tt;
    never_foreign = tt;
    worn = tt;
    fault = tt;
    counts = second.counts ∙ first.counts;
  }
  keeps_sending kinds a b (Err e) old new c wider first second = record {
    geometry = second.words.geometry ∙ first.geometry;
    told = λ told. first.told (second.words.told told);
    never_memory = second.never_memory;
    never_foreign = second.never_foreign;
    worn = no_wear e _ second.never_worn;
    fault = fault_wider e (λ kind. kind ≡ Send) OfAnswer (λ k is. inr (inr is)) second.fault;
    counts = second.counts ∙ ap (counts_after (fault_in e)) first.counts;
  }

  pub lines_none : (node : Node) (a : B) → KeepsLines g node a (Ok tt) node a
  lines_none node a = record {
    lines = refl;
    index = refl;
    words = record { geometry = refl; told = λ told. told; content = λ told. refl };
    never_memory = tt;
    never_foreign = tt;
    never_worn = tt;
    fault = tt;
    counts = refl;
  }

  pub lines_then : (old : Node) (a : B) (mid : Node) (b : B) (r : Result ⊤ NodeError) (new : Node) (c : B) → KeepsLines g old a (Ok tt) mid b → KeepsLines g mid b r new c → KeepsLines g old a r new c
  lines_then old a mid b (Ok v) new c first second = record {
    lines = second.lines ∙ first.lines;
    index = second.index ∙ first.index;
    words = words_then a b c first.words second.words;
    never_memory = tt;
    never_foreign = tt;
    never_worn = tt;
    fault = tt;
    counts = second.counts ∙ first.counts;
  }
  lines_then old a mid b (Err e) new c first second = record {
    lines = second.lines ∙ first.lines;
    index = second.index ∙ first.index;
    words = words_then a b c first.words second.words;
    never_memory = second.never_memory;
    never_foreign = second.never_foreign;
    never_worn = second.never_worn;
    fault = second.fault;
    counts = second.counts ∙ ap (counts_after (fault_in e)) first.counts;
  }

  -- lines were put
  pub keeps_put : (a b : B) → g.sector_bytes b ≡ g.sector_bytes a → (g.tells b → g.tells a) → g.faults b ≡ g.faults a → Keeps g OfFlash a (Ok tt) b
  keeps_put a b geometry told counts = record {
    geometry = geometry;
    told = told;
    never_memory = tt;
    never_foreign = tt;
    worn = tt;
    fault = tt;
    counts = counts;
  }

  -- a flush or a compaction was refused
  pub keeps_refused : (a : B) (e : PutError) (error : NodeError) (b : B) → IsErrorOf e error → g.sector_bytes b ≡ g.sector_bytes a → (g.tells b → g.tells a)
      → g.faults b ≡ counts_after (put.put_fault_in e) (g.faults a)
      → put.OnFault e (λ kind. kind ≡ Read ⊎ kind ≡ Flash)
      → put.OnWorn e (λ count. (count ≡ GUARD_HALFWORDS) × (bytes : Bytes) × put.IsWorn g b bytes)
      → Keeps g OfFlash a (Err error) b
  keeps_refused a (put_error.Fault kind) error b is geometry told counts fault worn =
      subst (λ (n : NodeError). Keeps g OfFlash a (Err n) b) (sym is) (record {
        geometry = geometry;
        told = told;
        never_memory = tt;
        never_foreign = tt;
        worn = tt;
        fault = fault;
        counts = counts;
      })
  keeps_refused a (put_error.NoRoom room) error b is geometry told counts fault worn = absurd is
  keeps_refused a (put_error.Worn count) error b is geometry told counts fault worn =
      subst (λ (n : NodeError). Keeps g OfFlash a (Err n) b) (sym is) (record {
        geometry = geometry;
        told = told;
        never_memory = tt;
        never_foreign = tt;
        worn = worn;
        fault = tt;
        counts = counts;
      })

  -- the guard row that is used up has as many halfwords as it counts
  worn_row : {b : B} (bytes : Bytes) → put.IsWorn g b bytes → g.tells b → IsGuardRow (g.words b).guard GUARD_HALFWORDS
  worn_row {b} bytes worn told = subst (IsGuardRow (g.words b).guard) worn.2 (worn.1.0.2 told).reads.guard

  -- a flush found the guard row used up: home lacks room for the next entry, where the store stood alone
  pub flush_worn : (armed : Bool) (old new : Node) (b : B) (e : PutError) (error : NodeError) → IsErrorOf e error
      → put.OnWorn e (λ count. (count ≡ GUARD_HALFWORDS) × (armed ≡ false) × put.IsWorn g b new.lines.store.bytes)
      → put.OnWorn e (λ count. IsWornForNext g b new.lines ⊎ (IsTrue (is_spilled old.lines.store) × (new.lines.pending ≡ old.lines.pending)))
      → (g.tells b → CountsUpTo (ceiling old) (g.words b).guard) → WornAlone g armed (ceiling old) old new b error
  flush_worn armed old new b (put_error.Fault kind) error is worn next within = subst (λ (n : NodeError). WornAlone g armed (ceiling old) old new b n) (sym is) tt
  flush_worn armed old new b (put_error.NoRoom room) error is worn next within = absurd is
  flush_worn armed old new b (put_error.Worn count) error is worn next within =
      subst (λ (n : NodeError). WornAlone g armed (ceiling old) old new b n) (sym is) (record {
        unarmed = worn.1;
        next = λ alone. elim next [ inl room ↦ room | inr spilled ↦ absurd (not_both old.lines.store.state alone spilled.0) ];
        reached = λ told. reached_by (g.words b).guard (ceiling old) (worn_row new.lines.store.bytes worn.2 told) (within told);
      })

  -- a compaction can't, where the store stood alone
  pub compact_worn : (old new : Node) (b : B) (e : PutError) (error : NodeError) → IsErrorOf e error
      → put.OnWorn e (λ count. (count ≡ GUARD_HALFWORDS) × (guard_of old.lines.store ≡ GUARD_HALFWORDS) × IsTrue (is_spilled old.lines.store)) → WornAlone g false (ceiling old) old new b error
  compact_worn old new b (put_error.Fault kind) error is worn = subst (λ (n : NodeError). WornAlone g false (ceiling old) old new b n) (sym is) tt
  compact_worn old new b (put_error.NoRoom room) error is worn = absurd is
  compact_worn old new b (put_error.Worn count) error is worn =
      subst (λ (n : NodeError). WornAlone g false (ceiling old) old new b n) (sym is) (record {
        unarmed = refl;
        next = λ alone. absurd (not_both old.lines.store.state alone worn.2);
        reached = λ told. omega (arith, worn.1, guard_le old.lines.store.state);
      })

  flush_bytes : (armed : Bool) (b : B) (bytes : Bytes) (e : PutError) → put.OnWorn e (λ count. (count ≡ GUARD_HALFWORDS) × (armed ≡ false) × put.IsWorn g b bytes)
      → put.OnWorn e (λ count. (count ≡ GUARD_HALFWORDS) × (bytes : Bytes) × put.IsWorn g b bytes)
  flush_bytes armed b bytes (put_error.Fault kind) worn = tt
  flush_bytes armed b bytes (put_error.NoRoom room) worn = tt
  flush_bytes armed b bytes (put_error.Worn count) worn = (worn.0, bytes, worn.2)

  pub keeps_flush_refused : (a : B) (e : PutError) (error : NodeError) (b : B) (armed : Bool) (bytes : Bytes) → IsErrorOf e error → g.sector_bytes b ≡ g.sector_bytes a → (g.tells b → g.tells a)
      → g.faults b ≡ counts_after (put.put_fault_in e) (g.faults a)
      → put.OnFault e (λ kind. kind ≡ Read ⊎ kind ≡ Flash)
      → put.OnWorn e (λ count. (count ≡ GUARD_HALFWORDS) × (armed ≡ false) × put.IsWorn g b bytes)
      → Keeps g OfFlash a (Err error) b
  keeps_flush_refused a e error b armed bytes is geometry told counts fault worn =
      keeps_refused a e error b is geometry told counts fault (flush_bytes armed b bytes e worn)

  compact_bytes : (old : Node) (b : B) (bytes : Bytes) (free : ℕ) (e : PutError)
      → put.OnWorn e (λ count. (count ≡ GUARD_HALFWORDS) × (guard_of old.lines.store ≡ GUARD_HALFWORDS) × IsTrue (is_spilled old.lines.store))
      → put.OnWorn e (λ count. put.IsWornWith g b bytes free) → put.OnWorn e (λ count. (count ≡ GUARD_HALFWORDS) × (bytes : Bytes) × put.IsWorn g b bytes)
  compact_bytes old b bytes free (put_error.Fault kind) worn copied = tt
  compact_bytes old b bytes free (put_error.NoRoom room) worn copied = tt
  compact_bytes old b bytes free (put_error.Worn count) worn copied = (worn.0, bytes, (copied.0, copied.1, copied.2))

  pub keeps_compact_refused : (a : B) (e : PutError) (error : NodeError) (b : B) (old : Node) (bytes : Bytes) (free : ℕ) → IsErrorOf e error → g.sector_bytes b ≡ g.sector_bytes a → (g.tells b → g.tells a)
      → g.faults b ≡ counts_after (put.put_fault_in e) (g.faults a)
      → put.OnFault e (λ kind. kind ≡ Read ⊎ kind ≡ Flash)
      → put.OnWorn e (λ count. (count ≡ GUARD_HALFWORDS) × (guard_of old.lines.store ≡ GUARD_HALFWORDS) × IsTrue (is_spilled old.lines.store))
      → put.OnWorn e (λ count. put.IsWornWith g b bytes free)
      → Keeps g OfFlash a (Err error) b
  keeps_compact_refused a e error b old bytes free is geometry told counts fault worn copied =
      keeps_refused a e error b is geometry told counts fault (compact_bytes old b bytes free e worn copied)
