-- Pending lines put: what is left of them, and what a loss leaves.
use Rattle.std.proofs.Common.{◌≡◌, ◌⊎◌, inl, inr, ℕ, Bool, true, false, ◌+◌, ◌*◌, ◌<◌, ◌≤◌, List, [], ◌∷◌, ◌++◌, length, Result, Ok, Err, refl, sym, ◌∙◌, ap, subst, arith, append_assoc, append-nil, length-append}
use Rattle.std.specs.Prelude.{⊤, IsTrue, IsFalse, IsErrAnd, OnErr, if◌then◌else◌}
use Rattle.std.proofs.lemmas.Result.{IfErr-weaker}
use Rattle.std.proofs.lemmas.Bool.{both_ways}
use Rattle.std.proofs.lemmas.List.Sums.{fold-append}
use Rattle.flash_traits.specs.Words.{Words}
use Rattle.flash_traits.specs.declared.numbers.TheConstants.{GUARD_HALFWORDS}
use Rattle.flash_traits.specs.declared.board.Board.{Ghosts}
use Rattle.flash_traits.specs.Losses.{Outcome, OnWords, ByResult}
use Rattle.flash_traits.specs.Calls.{Changes, Passes}
use Rattle.flash_traits.proofs.Moments.{weaker, elapses_of}
use Rattle.guard_row.specs.Row.{IsGuardRow}
use Rattle.storage_lines.specs.declared.lines.LineWrite.{LineWrite}
use Rattle.storage_lines.specs.Lines.{after, put_line}
use Rattle.sector_image.specs.Losses.{RaisesGuard, KeepsBytes}
use Rattle.sector_image.specs.Images.{Bytes}
use Rattle.sector_image.specs.Stands.{Stands}
use Rattle.block_store.specs.Store.{Store, StoreState, FitsState, Alone, Spilled, Spent, in_one_sector, in_both_sectors, durable_of, guard_of, guard_ahead, guard_in, is_alone, is_spilled, is_spent, room_of, HasSpare}
use Rattle.block_store.specs.Store as store
use Rattle.block_store.specs.Refusals as put
use Rattle.block_store.specs.declared.PutError.{PutError}
use Rattle.block_store.specs.declared.PutError.TheVariants as put_error
use Rattle.block_store.proofs.StoreLaws.{fits_stands, fits_guard, fits_whole, spare_room}
use Rattle.dirty_lines.specs.Lines.{Lines, lines_of}
use Rattle.dirty_lines.specs.Entries.{joined, Wrote, IsFewest}
use Rattle.dirty_lines.specs.Losses.{PutsFirst, MayPutFirst, MayPutNext, NextExceeds}
use Rattle.dirty_lines.proofs.Cuts.{joined_rest, few_joined, entries_few}
use Rattle.dirty_lines.proofs.Puts.{answer_first}
use Rattle.vehicle_core.specs.declared.orders.Need.TheVariants.{Nothing, FlushAll}
use Rattle.vehicle_runs.specs.Guard.{CountsUpTo}
use Rattle.vehicle_runs.specs.Safe.{Adds}
use Rattle.vehicle_node.specs.Standing.{Node, IsAlone, ceiling}
use Rattle.vehicle_node.specs.Wearing.{Unworn}
use Rattle.vehicle_node.specs.Steps.Calls.{HasSent, IsWornAlone, WornAlone}
use Rattle.vehicle_node.specs.Steps.Answering.{OnlyPuts, Flushing, Flushed, FlushedAll, FlushDone, Compacted, CompactedAll, CompactDone, SettledAll, SettleDone, Issued, IssueDone}
use Rattle.vehicle_node.specs.declared.NodeError.{NodeError}
use Rattle.vehicle_node.specs.declared.TheConstants.{ROOM_FROM}
use Rattle.vehicle_node.proofs.Wearing.{unworn_none, unworn_then, unworn_put, unworn_compact, unworn_issue}
use Rattle.vehicle_node.proofs.Passing.{on_ok, worn_more, cut_call, begun, going_on, lists_kept, lists_then, sent_nothing, sent_both}

pub guard_le : (state : StoreState) → guard_in state ≤ guard_in state + (if in_both_sectors state then 2 else 0)
guard_le (Alone kept) = omega arith
guard_le (Spilled kept) = omega arith
guard_le Spent = omega arith

-- so many more than the guard count of a row are within the ceiling
within_ceiling : (node : Node) (old new : List ℕ) → IsGuardRow old (guard_of node.lines.store) → RaisesGuard (2 * length node.lines.pending) old new → CountsUpTo (ceiling node) new
within_ceiling node old new row raises =
    let x = raises (guard_of node.lines.store) row in
    (x.0, x.1, omega (arith, x.3, guard_le node.lines.store.state))

module _ {B : Type 0} (g : Ghosts B) where
  module _ (reads : (b : B) (o : Outcome) → g.now b o → g.tells b × (o.words ≡ g.words b)) where
    -- what a loss now leaves stands for the store's bytes
    pub now_stands : (b : B) (s : Store) → store.Fits g b s → (o : Outcome) → g.now b o → Stands o.words (durable_of s)
    now_stands b s fits o now = let tell = reads b o now in subst (λ (w : Words). Stands w (durable_of s)) (sym tell.1) (fits_stands g b s fits tell.0)

    pub now_guard : (b : B) (s : Store) → store.Fits g b s → (o : Outcome) → g.now b o → IsGuardRow o.words.guard (guard_of s)
    now_guard b s fits o now = let tell = reads b o now in subst (λ (w : Words). IsGuardRow w.guard (guard_of s)) (sym tell.1) (fits_guard g b s fits tell.0)

    -- nothing more is put
    pub now_within : (b : B) (node : Node) → store.Fits g b node.lines.store → (o : Outcome) → g.now b o → CountsUpTo (ceiling node) o.words.guard
    now_within b node fits o now = (guard_of node.lines.store, now_guard b node.lines.store fits o now, omega (arith, guard_le node.lines.store.state))

    module _ (a b : B) (node : Node) (fits : store.Fits g a node.lines.store) where
      put_some : (s o : Outcome) → g.now a s → OnWords (MayPutFirst node.lines.pending) s o → Flushing node s o
      put_some s o now step = record {
        events = step.events;
        frames = step.frames;
        put = joined step.words.puts.entries;
        rest = step.words.rest;
        split = joined_rest step.words.puts.entries step.words.rest node.lines.pending step.words.puts.cut;
        stands = step.words.puts.bytes (durable_of node.lines.store) (now_stands a node.lines.store fits s now);
        guard = within_ceiling node s.words.guard o.words.guard (now_guard a node.lines.store fits s now) step.words.within;
      }

      pub flush_losses : {T E : Type 0} (r : Result T E) (rest : List LineWrite) → OnErr r (0 < length rest)
          → Changes g a b (MayPutFirst node.lines.pending) (ByResult r (PutsFirst 0 node.lines.pending rest) (MayPutNext node.lines.pending rest)) → Passes g a b (Flushing node) (Flushing node)
      flush_losses r rest left changes = weaker (Flushing node) (Flushing node) (elapses_of g changes) (λ s o now step. put_some s o now step)
          (λ s o now step. put_some s o now (record { words = answer_first r node.lines.pending rest s.words o.words left step.words; events = step.events; frames = step.frames }))

  -- the same of the words that are told after it
  pub flush_within : (a b : B) (node : Node) → store.Fits g a node.lines.store → {T E : Type 0} (r : Result T E) (rest : List LineWrite) → OnErr r (0 < length rest)
      → Changes g a b (MayPutFirst node.lines.pending) (ByResult r (PutsFirst 0 node.lines.pending rest) (MayPutNext node.lines.pending rest)) → g.tells b → CountsUpTo (ceiling node) (g.words b).guard
  flush_within a b node fits r rest left changes told =
      within_ceiling node (g.words a).guard (g.words b).guard (fits_guard g a node.lines.store fits (changes.told told)) (answer_first r node.lines.pending rest (g.words a) (g.words b) left (changes.content told)).within

  -- nothing was received or sent
  pub nothing_sent : {a b : B} {lost done : Words → Words → Type 0} → Changes g a b lost done → HasSent g [] (Adds [] []) a b
  nothing_sent {a} {b} changes = record {
    lists = λ e f stood. subst (g.has_lists b e) (sym (append-nil f)) (changes.lists e f stood);
    here = λ o now.
        let at = changes.here o now in
        record {
          from = at.from;
          was = at.was;
          steps = record { events_are = at.steps.events ∙ sym (append-nil at.from.events); frames_are = at.steps.frames ∙ sym (append-nil at.from.frames) };
        };
    receptions = changes.receptions;
  }

-- what is spare once entries are put
entries_spare : (entries : List (List LineWrite)) (armed : Bool) (old new : Lines) → Wrote entries armed old new → IsFalse (is_spent new.store) → armed ≡ true → (more : ℕ)
    → HasSpare old.store (length old.pending + more) → HasSpare new.store (length new.pending + more)
entries_spare entries armed old new wrote unspent is more has =
    omega (arith, has, wrote.spare unspent is, ap length (joined_rest entries new.pending old.pending wrote.cut), length-append (joined entries) new.pending)

next_spare : (store : Store) (pending entry behind : List LineWrite) → pending ≡ entry ++ behind → HasSpare store (length pending + 0) → HasSpare store (length entry)
next_spare store pending entry behind is has = omega (arith, has, ap length is, length-append entry behind)

-- while armed the next entry always has room
pub never_full : {B : Type 0} (g : Ghosts B) (b : B) (e : PutError) (entries : List (List LineWrite)) (armed : Bool) (old new : Lines) → Wrote entries armed old new
    → (armed ≡ true → HasSpare old.store (length old.pending + 0))
    → put.OnNoRoom e (λ room. (armed ≡ true) × store.Fits g b new.store × IsTrue (is_spilled new.store) × (room ≡ room_of new.store) × NextExceeds room new.pending)
    → put.OnNoRoom e (λ room. ⊥)
never_full g b (put_error.Fault kind) entries armed old new wrote has full = tt
never_full g b (put_error.NoRoom room) entries armed old new wrote has full =
    let left = entries_spare entries armed old new wrote (fits_whole g b new.store full.1) full.0 0 (has full.0) in
    let next = full.4 in
    let some = next.longest.some in
    let room = spare_room new.store next.entry full.2 (next_spare new.store new.pending next.entry next.behind next.next left) some in
    omega (arith, room, next.exceeds, full.3)
never_full g b (put_error.Worn count) entries armed old new wrote has full = tt

pub flushed : (n : ℕ) (old new : Node) {armed : Bool} (entries : List (List LineWrite)) → Wrote entries armed old.lines new.lines → IsFewest n entries new.lines.pending
    → IsFalse (is_spent new.lines.store) → (armed ≡ false → IsAlone old → IsAlone new) → new ≡ record old { lines = new.lines } → Flushed n armed old new
flushed n old new {armed} entries wrote fewest unspent alone same = record {
  puts = record {
    budget = ap (λ (n : Node). n.budget) same;
    machine = ap (λ (n : Node). n.machine) same;
    rests = ap (λ (n : Node). n.rests) same;
    frame_count = ap (λ (n : Node). n.frames) same;
    line_count = ap (λ (n : Node). n.issued) same;
    index = ap (λ (n : Node). n.index) same;
    put = joined entries;
    split = joined_rest entries new.lines.pending old.lines.pending wrote.cut;
    durable = wrote.durable;
    ahead = omega (arith, wrote.ahead unspent, entries_few entries new.lines.pending old.lines.pending wrote.cut);
    spare = λ is more has. entries_spare entries armed old.lines new.lines wrote unspent is more has;
    alone = alone;
    unworn = unworn_put armed old.lines new.lines entries wrote.cut (wrote.each unspent);
  };
  enough = fewest.enough;
  few = few_joined entries new.lines.pending old.lines.pending n wrote.cut fewest.fewest;
  entries = entries;
  cut = wrote.cut;
  fewest = fewest;
  each = wrote.each unspent;
}

-- nothing is put
abbrev pub puts_none : (armed : Bool) (node : Node) → OnlyPuts armed node node
puts_none armed node = record {
  budget = refl;
  machine = refl;
  rests = refl;
  frame_count = refl;
  line_count = refl;
  index = refl;
  put = [];
  split = refl;
  durable = refl;
  ahead = omega arith;
  spare = λ is more has. has;
  alone = λ is alone. alone;
  unworn = unworn_none armed node.lines;
}

-- lines are put, and then others
pub puts_then : (armed : Bool) (old mid new : Node) → OnlyPuts armed old mid → OnlyPuts armed mid new → OnlyPuts armed old new
puts_then armed old mid new p q = record {
  budget = q.budget ∙ p.budget;
  machine = q.machine ∙ p.machine;
  rests = q.rests ∙ p.rests;
  frame_count = q.frame_count ∙ p.frame_count;
  line_count = q.line_count ∙ p.line_count;
  index = q.index ∙ p.index;
  put = p.put ++ q.put;
  split = append_assoc p.put q.put new.lines.pending ∙ ap (λ (l : List LineWrite). p.put ++ l) q.split ∙ p.split;
  durable = q.durable ∙ ap (λ (l : List ℕ). after l q.put) p.durable ∙ sym (fold-append put_line (durable_of old.lines.store) p.put q.put);
  ahead = omega (arith, p.ahead, q.ahead);
  spare = λ is more has. q.spare is more (p.spare is more has);
  alone = λ is alone. q.alone is (p.alone is alone);
  unworn = unworn_then armed [] [] old.lines mid.lines new.lines p.unworn q.unworn;
}

pub puts_compacted : (armed : Bool) (old new : Node) → armed ≡ false → Compacted old new → OnlyPuts armed old new
puts_compacted armed old new not c = record {
  budget = ap (λ (n : Node). n.budget) c.same;
  machine = ap (λ (n : Node). n.machine) c.same;
  rests = ap (λ (n : Node). n.rests) c.same;
  frame_count = ap (λ (n : Node). n.frames) c.same;
  line_count = ap (λ (n : Node). n.issued) c.same;
  index = ap (λ (n : Node). n.index) c.same;
  put = [];
  split = c.pending;
  durable = c.durable;
  ahead = c.ahead;
  spare = λ is more has. absurd (both_ways armed not is);
  alone = λ is alone. c.alone;
  unworn = unworn_compact armed old.lines new.lines not c.compacts;
}

pub flushed_none : (node : Node) (armed : Bool) (n : ℕ) → n ≡ 0 → Flushed n armed node node
flushed_none node armed n none = record {
  puts = puts_none armed node;
  enough = inl (omega arith);
  few = omega arith;
  entries = [];
  cut = refl;
  fewest = record { enough = inl (omega arith); fewest = λ k lt. absurd (omega arith) };
  each = refl;
}

-- a store that fits stands alone or is spilled
state_kinds : {B : Type 0} (g : Ghosts B) (b : B) (state : StoreState) (bytes : Bytes) → FitsState g b state bytes → IsTrue (in_one_sector state) ⊎ IsTrue (in_both_sectors state)
state_kinds g b (Alone kept) bytes fits = inl refl
state_kinds g b (Spilled kept) bytes fits = inr refl
state_kinds g b Spent bytes fits = absurd fits

spilled_ahead : (state : StoreState) → IsTrue (in_both_sectors state) → guard_in state + 2 ≡ guard_in state + (if in_both_sectors state then 2 else 0)
spilled_ahead (Alone kept) is = absurd (cc)
spilled_ahead (Spilled kept) is = refl
spilled_ahead Spent is = absurd (cc)

pub guard_alone : (state : StoreState) → IsTrue (in_one_sector state) → guard_in state + (if in_both_sectors state then 2 else 0) ≡ guard_in state
guard_alone (Alone kept) is = omega arith
guard_alone (Spilled kept) is = cc
guard_alone Spent is = cc

pub compacted : (old new : Node) → guard_of new.lines.store ≡ guard_ahead old.lines.store → IsAlone new → new.lines.pending ≡ old.lines.pending → durable_of new.lines.store ≡ durable_of old.lines.store
    → (IsAlone old → new.lines ≡ old.lines) → (IsTrue (is_spilled old.lines.store) → guard_of old.lines.store ≡ GUARD_HALFWORDS → ⊥)
    → new ≡ record old { lines = new.lines } → Compacted old new
compacted old new guard alone pending durable idle used_up same = record {
  same = same;
  pending = pending;
  durable = durable;
  ahead = omega (arith, guard, guard_alone new.lines.store.state alone, ap length pending);
  alone = alone;
  compacts = record { pending = pending; durable = durable; alone = alone; guard = guard; idle = idle; unworn = used_up };
}

module _ {B : Type 0} (g : Ghosts B) (reads : (b : B) (o : Outcome) → g.now b o → g.tells b × (o.words ≡ g.words b)) where
  pub flushing_none : (b : B) (node : Node) → store.Fits g b node.lines.store → Passes g b b (Flushing node) (Flushing node)
  flushing_none b node fits = begun g b (Flushing node) (λ o is. record {
    events = refl;
    frames = refl;
    put = [];
    rest = node.lines.pending;
    split = refl;
    stands = now_stands g reads b node.lines.store fits o is;
    guard = now_within g reads b node fits o is;
  })

  pub flush_none : (b : B) (node : Node) (armed : Bool) (n : ℕ) → store.Fits g b node.lines.store → n ≡ 0 → FlushDone g n armed node b (Ok tt) node b
  flush_none b node armed n fits none = record {
    losses = flushing_none b node fits;
    lists = lists_kept g b b (λ e f stood. stood);
    done = record { flushed = flushed_none node armed n none; sent = sent_nothing g b; still = λ is. record { erases = refl } };
    stopped = tt;
  }

  pub settle_none : (b : B) (node : Node) (armed : Bool) → store.Fits g b node.lines.store → SettleDone g Nothing armed node b (Ok tt) node b
  settle_none b node armed fits = record {
    losses = flushing_none b node fits;
    lists = lists_kept g b b (λ e f stood. stood);
    done = record {
      settled = record { puts = puts_none armed node; whole = λ all. absurd (cc); alone = λ all. absurd (cc); idle = λ none. refl };
      sent = sent_nothing g b;
      still = λ is. record { erases = refl };
    };
    stopped = tt;
  }

  pub issue_none : (b : B) (node : Node) (armed : Bool) (writes : List LineWrite) → store.Fits g b node.lines.store → writes ≡ [] → IssueDone g armed writes node b (Ok tt) node b
  issue_none b node armed writes fits none = record {
    losses = flushing_none b node fits;
    lists = lists_kept g b b (λ e f stood. stood);
    done = record {
      issued = record {
        budget = refl;
        machine = refl;
        rests = refl;
        put = [];
        split = sym (append-nil node.lines.pending) ∙ ap (λ (l : List LineWrite). node.lines.pending ++ l) (sym none);
        durable = refl;
        few = λ le. refl;
        frame_count = refl;
        line_count = refl;
        index = refl;
        ahead = omega arith;
        spare = λ is more has. omega (arith, has, ap length none);
        alone = λ is alone. alone;
        unworn = subst (λ (l : List LineWrite). Unworn armed l node.lines node.lines) (sym none) (unworn_none armed node.lines);
      };
      sent = sent_nothing g b;
      still = λ is. record { erases = refl };
    };
    stopped = tt;
  }

  module _ (a b : B) (node : Node) (fits : store.Fits g a node.lines.store) where
    spilled_losses : IsTrue (is_spilled node.lines.store) → Changes g a b (KeepsBytes 2) (KeepsBytes 2) → Passes g a b (Flushing node) (Flushing node)
    spilled_losses is changes = weaker (Flushing node) (Flushing node) (elapses_of g changes) kept kept
      where
        kept : (s o : Outcome) → g.now a s → OnWords (KeepsBytes 2) s o → Flushing node s o
        kept s o now step =
            let x = step.words.guard (guard_of node.lines.store) (now_guard g reads a node.lines.store fits s now) in
            record {
              events = step.events;
              frames = step.frames;
              put = [];
              rest = node.lines.pending;
              split = refl;
              stands = step.words.bytes (durable_of node.lines.store) (now_stands g reads a node.lines.store fits s now);
              guard = (x.0, x.1, omega (arith, x.3, spilled_ahead node.lines.store.state is));
            }

    -- while a store is made to stand alone, which does nothing where it does so already
    pub compact_losses : (IsTrue (is_alone node.lines.store) → b ≡ a) → Changes g a b (KeepsBytes 2) (KeepsBytes 2) → Passes g a b (Flushing node) (Flushing node)
    compact_losses idle changes = elim (state_kinds g a node.lines.store.state node.lines.store.bytes fits) [
      | inl alone ↦ subst (λ (l : B). Passes g a l (Flushing node) (Flushing node)) (sym (idle alone)) (flushing_none a node fits)
      | inr spilled ↦ spilled_losses spilled changes
    ]

  -- lines were put, and then more is
  pub flushing_later : (armed : Bool) (old mid : Node) → OnlyPuts armed old mid → (s m o : Outcome) → Adds [] [] s m → Flushing mid m o → Flushing old s o
  flushing_later armed old mid p s m o adds f = record {
    events = f.events ∙ adds.events_are ∙ append-nil s.events;
    frames = f.frames ∙ adds.frames_are ∙ append-nil s.frames;
    put = p.put ++ f.put;
    rest = f.rest;
    split = append_assoc p.put f.put f.rest ∙ ap (λ (l : List LineWrite). p.put ++ l) f.split ∙ p.split;
    stands = subst (Stands o.words) (ap (λ (l : List ℕ). after l f.put) p.durable ∙ sym (fold-append put_line (durable_of old.lines.store) p.put f.put)) f.stands;
    guard = (f.guard.0, f.guard.1, omega (arith, f.guard.2, p.ahead));
  }

-- the putting of all lines was cut short
pub settle_short : {B : Type 0} (g : Ghosts B) (n : ℕ) (armed : Bool) (old : Node) (a : B) (e : NodeError) (r : Result ⊤ NodeError) (new : Node) (b : B) → FlushDone g n armed old a (Err e) new b → IsErrAnd r (λ d. d ≡ e)
    → SettleDone g FlushAll armed old a r new b
settle_short g n armed old a e r new b f err = cut_call g (WornAlone g armed (ceiling old) old new b) (SettledAll g FlushAll armed old a new b) a b e r f err (λ s o now x. x) (λ worn. worn)

-- all lines are put while armed
pub settle_armed : {B : Type 0} (g : Ghosts B) (n : ℕ) (armed : Bool) (old : Node) (a : B) (new : Node) (b : B) → armed ≡ true → FlushDone g n armed old a (Ok tt) new b → new.lines.pending ≡ []
    → SettleDone g FlushAll armed old a (Ok tt) new b
settle_armed g n armed old a new b is f none =
    let w : FlushedAll g n armed old a new b = f.done in
    record {
      losses = f.losses;
      lists = f.lists;
      done = record {
        settled = record { puts = w.flushed.puts; whole = λ all. none; alone = λ all not. absurd (both_ways armed not is); idle = λ nothing. absurd (cc) };
        sent = w.sent;
        still = w.still;
      };
      stopped = tt;
    }

-- all lines are put, and then the store is made to stand alone
module _ {B : Type 0} (g : Ghosts B) (reads : (b : B) (o : Outcome) → g.now b o → g.tells b × (o.words ≡ g.words b)) (n : ℕ) (armed : Bool) (not : armed ≡ false)
    (old : Node) (a : B) (mid : Node) (b : B) (f : FlushDone g n armed old a (Ok tt) mid b) (none : mid.lines.pending ≡ []) where
  all_put : FlushedAll g n armed old a mid b
  all_put = f.done

  pub settle_unarmed : (r : Result ⊤ NodeError) (new : Node) (c : B) → CompactDone g mid b r new c → SettleDone g FlushAll armed old a r new c
  settle_unarmed r new c d = record {
    losses = going_on g (Flushing old) [] [] f.losses all_put.sent.here d.losses (λ s m o was is adds x. flushing_later g reads armed old mid all_put.flushed.puts s m o adds x);
    lists = lists_then g a b c f.lists d.lists;
    done = on_ok r (CompactedAll g mid b new c) (SettledAll g FlushAll armed old a new c) (λ k. record {
      settled = record {
        puts = puts_then armed old mid new all_put.flushed.puts (puts_compacted armed mid new not k.compacted);
        whole = λ all. k.compacted.pending ∙ none;
        alone = λ all is. k.compacted.alone;
        idle = λ nothing. absurd (cc);
      };
      sent = sent_both g [] [] a b c all_put.sent k.sent;
      still = λ is. absurd (both_ways armed not is);
    }) d.done;
    stopped = IfErr-weaker r (WornAlone g false (ceiling mid) mid new c) (WornAlone g armed (ceiling old) old new c)
        (λ e worn. worn_more e (IsWornAlone g false (ceiling mid) mid new c) (IsWornAlone g armed (ceiling old) old new c)
        (λ w. record { unarmed = not; next = λ alone. w.next (all_put.flushed.puts.alone not alone); reached = λ told. omega (arith, w.reached told, all_put.flushed.puts.ahead) }) worn) d.stopped;
  }

pub no_items : (writes : List LineWrite) → length writes ≡ 0 → writes ≡ []
no_items [] none = refl
no_items (w ∷ writes) none = absurd (omega arith)

-- room is made, and then lines are issued
pub issued_after : (n : ℕ) (armed : Bool) (old mid new : Node) (writes : List LineWrite) → Flushed n armed old mid → new ≡ record mid { lines = lines_of mid.lines.store (mid.lines.pending ++ writes) }
    → (length old.lines.pending ≤ ROOM_FROM → mid ≡ old) → Issued armed old writes new
issued_after n armed old mid new writes f is few = subst (Issued armed old writes) (sym is) (record {
  budget = f.puts.budget;
  machine = f.puts.machine;
  rests = f.puts.rests;
  put = f.puts.put;
  split = sym (append_assoc f.puts.put mid.lines.pending writes) ∙ ap (λ (l : List LineWrite). l ++ writes) f.puts.split;
  durable = f.puts.durable;
  few = λ le. no_items f.puts.put (omega (arith, ap length f.puts.split, length-append f.puts.put mid.lines.pending, ap (λ (n : Node). length n.lines.pending) (few le)));
  frame_count = f.puts.frame_count;
  line_count = f.puts.line_count;
  index = f.puts.index;
  ahead = omega (arith, f.puts.ahead, length-append mid.lines.pending writes);
  spare = λ armed more has. omega (arith, f.puts.spare armed (length writes + more) has, length-append mid.lines.pending writes);
  alone = f.puts.alone;
  unworn = unworn_then armed [] writes old.lines mid.lines (lines_of mid.lines.store (mid.lines.pending ++ writes)) f.puts.unworn (unworn_issue armed mid.lines writes);
})

pub issued_done : {B : Type 0} (g : Ghosts B) (n : ℕ) (armed : Bool) (old : Node) (a : B) (mid : Node) (b : B) → FlushDone g n armed old a (Ok tt) mid b → (new : Node) (writes : List LineWrite)
    → new ≡ record mid { lines = lines_of mid.lines.store (mid.lines.pending ++ writes) } → (length old.lines.pending ≤ ROOM_FROM → mid ≡ old) → IssueDone g armed writes old a (Ok tt) new b
issued_done g n armed old a mid b f new writes is few =
    let w : FlushedAll g n armed old a mid b = f.done in
    record {
      losses = f.losses;
      lists = f.lists;
      done = record { issued = issued_after n armed old mid new writes w.flushed is few; sent = w.sent; still = w.still };
      stopped = tt;
    }
