-- A node opened: the lines of boot are issued and put; and closed: all pending lines are put.
use Rattle.std.proofs.Common.{◌≡◌, ◌≢◌, inl, ℕ, ◌+◌, ◌*◌, ◌-◌, ◌^◌, ◌<◌, ◌≤◌, min, Bool, true, false, cond, List, [], ◌++◌, length, get_or, take, drop, refl, sym, ◌∙◌, ap, subst, arith, append-nil, append_assoc, Some, Result, Ok, Err}
use Rattle.std.specs.Prelude.{◌↔◌, ⊤, OnOk, IfOk, IfErr, IsErrAnd, IfSome, IsTrue, map, slice_get}
use Rattle.std.specs.Str.{bytes_eq}
use Rattle.std.proofs.lemmas.Option.{slice_get-get_or}
use Rattle.std.proofs.lemmas.Slice.Eq.{bytes_eq-Decides}
use Rattle.flash_traits.specs.Words.{Words}
use Rattle.flash_traits.specs.Budget.{budget_of}
use Rattle.flash_traits.specs.declared.board.Board.{Ghosts}
use Rattle.flash_traits.specs.declared.board.Fault.{Fault}
use Rattle.flash_traits.specs.declared.board.Fault.TheVariants.{Read}
use Rattle.flash_traits.specs.Calls.{Passes, Changes}
use Rattle.flash_traits.specs.declared.numbers.TheConstants.{GUARD_HALFWORDS}
use Rattle.flash_traits.specs.Losses.{Received, SentFrame, Outcome, After, OnWords}
use Rattle.flash_traits.proofs.Moments.{weaker, elapses_of}
use Rattle.guard_row.specs.Row.{IsGuardRow}
use Rattle.guard_row.proofs.RowLaws.{one_count}
use Rattle.storage_lines.specs.declared.areas.Area.TheVariants.{Param}
use Rattle.storage_lines.specs.declared.lines.LineWrite.{LineWrite}
use Rattle.storage_lines.specs.Areas.{logical_of}
use Rattle.storage_lines.specs.Lines.{after}
use Rattle.storage_lines.specs.Pieces.{writes_of}
use Rattle.storage_lines.proofs.LineLemmas.{after-append}
use Rattle.param_records.specs.Records.{magic}
use Rattle.param_records.specs.Changes.{formatting}
use Rattle.param_records.specs.declared.formatting.TheConstants.{FORMAT_LINES}
use Rattle.param_records.specs.declared.appending.TheConstants.{APPEND_LINES}
use Rattle.param_records.proofs.StoreLemmas.{get_drop}
use Rattle.param_convert.specs.declared.rules.Rule.{Rule}
use Rattle.param_convert.specs.Rules.{to_servo1_trim, vehicle_rules}
use Rattle.param_convert.proofs.ConvertSteps.{from_step}
use Rattle.sector_log.specs.Bytes.{value_of}
use Rattle.sector_image.specs.Stands.{Stands, Reading, Both, One, IsReadAs, entries_in, count_in, count_after}
use Rattle.sector_switch.specs.States.{HomeAfter}
use Rattle.sector_image.proofs.Values.{is_value}
use Rattle.sector_image.specs.Losses.{KeepsBytes}
use Rattle.sector_image.proofs.ImageLaws.{one_value}
use Rattle.sector_image.specs.FirstBad.{Place}
use Rattle.block_store.specs.declared.OpenError.{OpenError}
use Rattle.block_store.specs.declared.OpenError.TheVariants as open_error
use Rattle.block_store.specs.Refusals.{OnOpenFault, OnOpenForeign, OnOpenWorn, OpenLeavesAlone}
use Rattle.block_store.specs.Store.{Store, durable_of, guard_of, guard_ahead, is_alone, OnHome}
use Rattle.block_store.specs.Store as store
use Rattle.dirty_lines.specs.Lines.{Lines, lines_of, current_of}
use Rattle.dirty_lines.specs.Entries.{CutIntoEntries}
use Rattle.dirty_lines.specs.Losses.{IsWornForNext}
use Rattle.dirty_lines.specs.Wearing.{NoneWears}
use Rattle.vehicle_core.specs.Vehicle.{is_armed}
use Rattle.vehicle_runs.specs.Frames.{Machine}
use Rattle.vehicle_runs.specs.Reading.{no_rests}
use Rattle.vehicle_runs.specs.Runs.{Run, BootStep, format_step, convert_step, boot_steps, boot, run_of}
use Rattle.vehicle_runs.specs.Guard.{CountsUpTo, RisesWithin, MayWear, raised_in}
use Rattle.vehicle_runs.specs.Safe.{Safe, SafeSince, Adds}
use Rattle.vehicle_runs.proofs.RunLaws.{run_of_none, safe_by}
use Rattle.vehicle_node.specs.declared.NodeError.{NodeError}
use Rattle.vehicle_node.specs.declared.NodeError.TheVariants as node_error
use Rattle.vehicle_node.specs.Refusals.{OnFault, OnForeign, OnWorn, LeavesAlone}
use Rattle.vehicle_node.specs.Standing.{Node, Fits, HasRoomSince, IsAlone, IsAloneUnlessArmed, StandsAt, StandsForRun, StaysWithin, armed_in, counts, ceiling}
use Rattle.vehicle_node.specs.Steps.Calls.{IsWornAlone, WornAlone}
use Rattle.vehicle_node.specs.Wearing.{PendingVoids, AllUnworn, BootUnworn}
use Rattle.vehicle_node.specs.Steps.Answering.{OnlyPuts, Flushing, Flushed, FlushedAll, FlushDone}
use Rattle.vehicle_node.specs.Steps.Errors.{opens_not}
use Rattle.vehicle_node.specs.Steps.Opening.{IsBooted}
use Rattle.vehicle_node.proofs.At.{current_is}
use Rattle.vehicle_node.proofs.ActAnswers.{counts_more}
use Rattle.vehicle_node.proofs.Fitting.{puts_index}
use Rattle.vehicle_node.proofs.Events.{since_put, rises_still}
use Rattle.vehicle_node.proofs.UsedUp.{all_fits}
use Rattle.vehicle_node.proofs.Finishing.{Leaves}
use Rattle.block_store.proofs.StoreLaws.{fits_stands, fits_guard}
use Rattle.vehicle_node.proofs.Putting.{guard_alone, nothing_sent}
use Rattle.vehicle_node.proofs.Passing.{worn_more, going_on, error_at, error_passed}
use Rattle.std.proofs.lemmas.Result.{IfErr-weaker}

boot_cases : (due begins : Bool) (x : List ℕ) (writes : List LineWrite) → ((due ≡ true) ↔ (x ≢ magic)) → (begins ≡ true → x ≡ magic) → (x ≡ magic → begins ≡ true) → cond due writes [] ≡ cond begins [] writes
boot_cases true true x writes due is back = absurd (due.0 refl (is refl))
boot_cases true false x writes due is back = refl
boot_cases false true x writes due is back = refl
boot_cases false false x writes due is back = let no : false ≡ true = due.1 (λ e. let f = back e in cc) in cc

-- the formatting, where it is due
format_is : (due : Bool) (b : List ℕ) → (IsTrue due ↔ (take 4 (logical_of Param b) ≢ magic)) → cond due (writes_of b formatting) [] ≡ format_step b
format_is due b is =
    let same = bytes_eq-Decides (take 4 (logical_of Param b)) magic in
    boot_cases due (bytes_eq (take 4 (logical_of Param b)) magic) (take 4 (logical_of Param b)) (writes_of b formatting) is same.0 same.1

pub formatting_is : (due : Bool) (b now : List ℕ) (old items : List LineWrite) → old ≡ [] → now ≡ b → (IsTrue due ↔ (take 4 (logical_of Param now) ≢ magic)) → items ≡ old ++ cond due (writes_of (after now old) formatting) [] → items ≡ format_step b
formatting_is due b now old items none same is are =
    are ∙ ap (λ (l : List LineWrite). l ++ cond due (writes_of (after now l) formatting) []) none ∙ format_is due now is ∙ ap format_step same

pub current_none : (lines : Lines) → lines.pending ≡ [] → current_of lines ≡ durable_of lines.store
current_none lines none = ap (after (durable_of lines.store)) none

pub issued_none : (store : Store) (pending items writes : List LineWrite) → pending ≡ [] → items ≡ writes → lines_of store (pending ++ items) ≡ lines_of store writes
issued_none store pending items writes none are = ap (λ (l : List LineWrite). lines_of store (l ++ items)) none ∙ ap (lines_of store) are

-- The lines issued so far and those of the steps still to come are the lines of boot.
pub record Booting (lines first : Lines) (k : ℕ) : Type 0 where
  pub store : lines.store ≡ first.store
  pub whole : lines.pending ++ boot_steps (map convert_step (drop k vehicle_rules)) (after (durable_of first.store) lines.pending) ≡ boot (durable_of first.store)
  pub few : length lines.pending ≤ FORMAT_LINES + APPEND_LINES * k

-- one step more
steps_more : (b : List ℕ) (step : Rule → BootStep) (rules : List Rule) (k : ℕ) (rule : Rule) (pending now all : List LineWrite) → slice_get rules k ≡ Some rule → now ≡ pending ++ step rule (after b pending) →
    pending ++ boot_steps (map step (drop k rules)) (after b pending) ≡ all → now ++ boot_steps (map step (drop (k + 1) rules)) (after b now) ≡ all
steps_more b step rules k rule pending now all is more whole =
    let w = step rule (after b pending) in
    let rest = map step (drop (k + 1) rules) in
    ap (λ (l : List LineWrite). l ++ boot_steps rest (after b l)) more
    ∙ ap (λ (c : List ℕ). (pending ++ w) ++ boot_steps rest c) (after-append b pending w)
    ∙ append_assoc pending w (boot_steps rest (after (after b pending) w))
    ∙ sym (ap (λ (l : List Rule). pending ++ boot_steps (map step l) (after b pending)) (get_drop rules k (k + 1) rule refl is))
    ∙ whole

pub boot_begins : (lines first : Lines) → lines ≡ lines_of first.store (format_step (durable_of first.store)) → length lines.pending ≤ FORMAT_LINES → Booting lines first 0
unfolding boot
boot_begins lines first is few = record {
  store = ap (λ (l : Lines). l.store) is;
  whole = ap (λ (l : Lines). l.pending ++ boot_steps (map convert_step vehicle_rules) (after (durable_of first.store) l.pending)) is;
  few = omega arith;
}

pub boot_goes_on : (lines now first : Lines) (k : ℕ) → Booting lines first k → k < 4 → IfSome (slice_get vehicle_rules k) (λ rule. now ≡ lines_of lines.store (lines.pending ++ convert_step rule (current_of lines))) → length now.pending ≤ length lines.pending + APPEND_LINES → Booting now first (k + 1)
boot_goes_on lines now first k so within more few =
    let b = durable_of first.store in
    let rule = get_or vehicle_rules k to_servo1_trim in
    let is : slice_get vehicle_rules k ≡ Some rule = slice_get-get_or vehicle_rules k to_servo1_trim within in
    let issued : now ≡ lines_of lines.store (lines.pending ++ convert_step rule (current_of lines)) = from_step (λ r. now ≡ lines_of lines.store (lines.pending ++ convert_step r (current_of lines))) vehicle_rules k to_servo1_trim within more in
    let here : now.pending ≡ lines.pending ++ convert_step rule (after b lines.pending) =
    ap (λ (l : Lines). l.pending) issued ∙ ap (λ (s : Store). lines.pending ++ convert_step rule (after (durable_of s) lines.pending)) so.store in
    let before = so.few in
    record {
      store = ap (λ (l : Lines). l.store) issued ∙ so.store;
      whole = steps_more b convert_step vehicle_rules k rule lines.pending now.pending (boot b) is here so.whole;
      few = omega arith;
    }

pub boot_ends : (lines first : Lines) (k : ℕ) → Booting lines first k → k ≡ 4 → lines ≡ lines_of first.store (boot (durable_of first.store))
boot_ends lines first k so all =
    let b = durable_of first.store in
    let whole : lines.pending ≡ boot b =
    sym (append-nil lines.pending) ∙ sym (ap (λ (n : ℕ). lines.pending ++ boot_steps (map convert_step (drop n vehicle_rules)) (after b lines.pending)) all) ∙ so.whole in
    ap (λ (s : Store). lines_of s lines.pending) so.store ∙ ap (lines_of first.store) whole

few_lines : (top n count : ℕ) → count ≡ n → count ≤ top → count ≡ min n top
few_lines top n count is le = omega arith

-- the lines of boot are few, so their number is counted whole
pub boot_count : (count : ℕ) (lines : Lines) (store : Store) → count ≡ length lines.pending → count ≤ 2048 → lines ≡ lines_of store (boot (durable_of store)) → count ≡ counts (length (boot (durable_of store)))
boot_count count lines store is le are = few_lines (2 ^ 64 - 1) (length (boot (durable_of store))) count (is ∙ ap (λ (l : Lines). length l.pending) are) (omega arith)

pub on_foreign : (e : OpenError) (P : Place → Type 0) → OnOpenForeign e P → OnForeign (opens_not e) P
on_foreign open_error.Memory P p = tt
on_foreign (open_error.Fault kind) P p = tt
on_foreign (open_error.Foreign region offset word) P p = p
on_foreign (open_error.Worn count) P p = tt

on_fault : (e : OpenError) (P : Fault → Type 0) → OnOpenFault e P → OnFault (opens_not e) P
on_fault open_error.Memory P p = tt
on_fault (open_error.Fault kind) P p = p
on_fault (open_error.Foreign region offset word) P p = tt
on_fault (open_error.Worn count) P p = tt

-- a node whose store isn't opened leaves the words alone as the store does
pub left_alone_by : {B S T : Type 0} (g : Ghosts B) (a b : B) (e : OpenError) (r : Result T NodeError) → IsErrAnd r (λ d. d ≡ opens_not e) → (let refused : Result S OpenError = Err e in OpenLeavesAlone g a b refused) → LeavesAlone g a b r
left_alone_by g a b e r err alone =
    error_passed r (opens_not e) (λ r. LeavesAlone g a b r) err (record { moment = alone.moment; words = alone.words; refused = tt; read = on_fault e (λ kind. kind ≡ Read) alone.read })

-- a prefix of the lines of boot is put
safe_boot : (budget : ℕ) (b : List ℕ) (put rest : List LineWrite) (words : Words) → put ++ rest ≡ boot b → Stands words (after b put) → Safe budget b [] [] 0 words
safe_boot budget b put rest words split stands = record {
  acts = [];
  rests = no_rests;
  reads = (refl, refl);
  count = inl refl;
  finished = omega (arith, ap (λ (r : Run). length r.answers) (run_of_none budget b));
  at = safe_by b (run_of budget b []) 0 [] words put rest tt (split ∙ sym (ap (λ (r : Run). r.issued) (run_of_none budget b))) (omega arith) stands;
}

pub since_boot : (budget : ℕ) (b : List ℕ) (put rest : List LineWrite) (from o : Outcome) → put ++ rest ≡ boot b → Stands o.words (after b put) → o.events ≡ from.events → o.frames ≡ from.frames → SafeSince budget b [] [] 0 from o
since_boot budget b put rest from o split stands events frames = record {
  added_events = [];
  events_are = events ∙ sym (append-nil from.events);
  added_frames = [];
  frames_are = frames ∙ sym (append-nil from.frames);
  safe = safe_boot budget b put rest o.words split stands;
}

-- all lines of boot are put
pub all_put : (budget : ℕ) (lines : Lines) (node last : Node) → IsBooted budget lines node → (w : OnlyPuts false node last) → last.lines.pending ≡ [] → w.put ≡ boot (durable_of lines.store)
all_put budget lines node last booted w none = sym (append-nil w.put) ∙ ap (λ (l : List LineWrite). w.put ++ l) (sym none) ∙ w.split ∙ ap (λ (l : Lines). l.pending) booted.lines_are

abbrev pub stands_booted : (budget : ℕ) (lines : Lines) (node last : Node) → IsBooted budget lines node → OnlyPuts false node last → last.lines.pending ≡ [] → StandsForRun last (durable_of lines.store) [] [] 0
stands_booted budget lines node last booted w none = record {
  acts = [];
  reads = (refl, w.rests ∙ booted.rests);
  finished = refl;
  at = subst (λ (r : Run). StandsAt last (durable_of lines.store) r []) (sym (run_of_none last.budget (durable_of lines.store))) (record {
    machine = w.machine ∙ booted.machine;
    sent = tt;
    put = boot (durable_of lines.store);
    split = ap (λ (l : List LineWrite). boot (durable_of lines.store) ++ l) none ∙ append-nil (boot (durable_of lines.store));
    durable = w.durable ∙ ap (λ (l : Lines). after (durable_of l.store) w.put) booted.lines_are ∙ ap (after (durable_of lines.store)) (all_put budget lines node last booted w none);
    enough = omega arith;
    frame_count = w.frame_count ∙ booted.frames;
    line_count = w.line_count ∙ booted.issued;
  });
}

-- a node that was opened fits its board, and isn't armed
pub booted_fits : {B : Type 0} (g : Ghosts B) (budget : ℕ) (lines : Lines) (node last : Node) (board : B) → IsBooted budget lines node → OnlyPuts false node last → store.Fits g board last.lines.store
    → budget ≡ budget_of (g.sector_bytes board) → Fits g board last
booted_fits g budget lines node last board booted w fits is = record {
  store = fits;
  budget = w.budget ∙ booted.budget_is ∙ is;
  armed = subst (λ (m : Machine). IfSome m.vehicle.armed (HasRoomSince last)) (sym (w.machine ∙ booted.machine)) tt;
  index = puts_index false node last w booted.index;
}

pub booted_unarmed : (budget : ℕ) (lines : Lines) (node last : Node) → IsBooted budget lines node → OnlyPuts false node last → armed_in last ≡ false
booted_unarmed budget lines node last booted w = ap (λ (m : Machine). is_armed m.vehicle) (w.machine ∙ booted.machine)

-- what a loss leaves before anything was received
rises_boot : (budget count : ℕ) (b : List ℕ) (from o : Outcome) (n : ℕ) → n ≤ count + 2 + 2 * length (boot b) → o.events ≡ from.events → CountsUpTo n o.words.guard → RisesWithin budget count b [] from o
rises_boot budget count b from o n le events guard = record {
  added_events = [];
  events_are = events ∙ sym (append-nil from.events);
  acts = [];
  rests = no_rests;
  reads = (refl, refl);
  guard = subst (λ (r : Run). CountsUpTo (raised_in count r) o.words.guard) (sym (run_of_none budget b)) (counts_more n (count + 2 + 2 * length (boot b)) o.words.guard le guard);
}

module _ {B : Type 0} (g : Ghosts B) (reads : (b : B) (o : Outcome) → g.now b o → g.tells b × (o.words ≡ g.words b)) (old mid : B) (changes : Changes g old mid (KeepsBytes 2) (KeepsBytes 2))
    (budget : ℕ) (b : List ℕ) (told : g.tells old → Stands (g.words old) b) where
  -- while the store is opened
  pub open_losses : Passes g old mid (SafeSince budget b [] [] 0) (SafeSince budget b [] [] 0)
  open_losses = weaker (SafeSince budget b [] [] 0) (SafeSince budget b [] [] 0) (elapses_of g changes) kept kept
    where
      kept : (s o : Outcome) → g.now old s → OnWords (KeepsBytes 2) s o → SafeSince budget b [] [] 0 s o
      kept s o is x =
          let tell = reads old s is in
          since_boot budget b [] (boot b) s o refl (x.words.bytes b (subst (λ (w : Words). Stands w b) (sym tell.1) (told tell.0))) x.events x.frames

  open_here : (o : Outcome) → g.now mid o → After (g.now old) (Adds [] []) o
  open_here = (nothing_sent g changes).here

  module _ (lines : Lines) (stands : g.tells mid → Stands (g.words old) (durable_of lines.store)) where
    pub same_bytes : g.tells mid → durable_of lines.store ≡ b
    same_bytes tells = one_value (g.words old) (durable_of lines.store) b (stands tells) (told (changes.told tells))

    -- while the lines of boot are put
    pub boot_losses : (taken : ℕ) (node : Node) → IsBooted taken lines node → (n : ℕ) (result : Result ⊤ NodeError) (last : Node) (new : B) → FlushDone g n false node mid result last new → Passes g old new (SafeSince budget b [] [] 0) (SafeSince budget b [] [] 0)
    boot_losses taken node booted n result last new f = going_on g (SafeSince budget b [] [] 0) [] [] open_losses open_here f.losses put
      where
        put : (s m o : Outcome) → g.now old s → g.now mid m → Adds [] [] s m → Flushing node m o → SafeSince budget b [] [] 0 s o
        put s m o was is adds x =
            let same = same_bytes (reads mid m is).0 in
            since_boot budget b x.put x.rest s o
            (x.split ∙ ap (λ (l : Lines). l.pending) booted.lines_are ∙ ap boot same)
            (subst (λ (l : List ℕ). Stands o.words (after l x.put)) (ap (λ (l : Lines). durable_of l.store) booted.lines_are ∙ same) x.stands)
            (x.events ∙ adds.events_are ∙ append-nil s.events)
            (x.frames ∙ adds.frames_are ∙ append-nil s.frames)

-- the guard count at an opening
module _ {B : Type 0} (g : Ghosts B) (reads : (b : B) (o : Outcome) → g.now b o → g.tells b × (o.words ≡ g.words b)) (old mid : B) (changes : Changes g old mid (KeepsBytes 2) (KeepsBytes 2))
    (budget count : ℕ) (b : List ℕ) (told : g.tells old → IsGuardRow (g.words old).guard count × Stands (g.words old) b) where
  raised_by_two : (u w : Words) → IsGuardRow u.guard count → KeepsBytes 2 u w → CountsUpTo (count + 2) w.guard
  raised_by_two u w row keeps = let x = keeps.guard count row in (x.0, x.1, x.3)

  pub open_rises : Passes g old mid (RisesWithin budget count b []) (RisesWithin budget count b [])
  open_rises = weaker (RisesWithin budget count b []) (RisesWithin budget count b []) (elapses_of g changes) kept kept
    where
      kept : (s o : Outcome) → g.now old s → OnWords (KeepsBytes 2) s o → RisesWithin budget count b [] s o
      kept s o is x =
          let tell = reads old s is in
          rises_boot budget count b s o (count + 2) (omega arith) x.events
          (raised_by_two s.words o.words (subst (λ (w : Words). IsGuardRow w.guard count) (sym tell.1) (told tell.0).0) x.words)

  module _ (lines : Lines) (fits : store.Fits g mid lines.store) (alone : IsTrue (is_alone lines.store)) (stands : g.tells mid → Stands (g.words old) (durable_of lines.store)) (taken : ℕ) (node : Node) (booted : IsBooted taken lines node) where
    -- what the lines of boot may raise it to
    pub boot_ceiling : g.tells mid → ceiling node ≤ count + 2 + 2 * length (boot b)
    boot_ceiling tells =
        let start = told (changes.told tells) in
        let risen = raised_by_two (g.words old) (g.words mid) start.0 (changes.content tells) in
        let now : guard_of lines.store ≡ risen.0 = one_count (g.words mid).guard (guard_of lines.store) risen.0 (fits_guard g mid lines.store fits tells) risen.1 in
        let ahead : guard_ahead lines.store ≡ guard_of lines.store = guard_alone lines.store.state alone in
        let same : durable_of lines.store ≡ b = one_value (g.words old) (durable_of lines.store) b (stands tells) start.1 in
        subst (λ (l : Lines). guard_ahead l.store + 2 * length l.pending ≤ count + 2 + 2 * length (boot b)) (sym booted.lines_are)
        (omega (arith, risen.2, now, ahead, ap (λ (l : List ℕ). length (boot l)) same))

    pub boot_rises : (n : ℕ) (result : Result ⊤ NodeError) (last : Node) (new : B) → FlushDone g n false node mid result last new → Passes g old new (RisesWithin budget count b []) (RisesWithin budget count b [])
    boot_rises n result last new f =
        going_on g (RisesWithin budget count b []) [] [] open_rises (nothing_sent g changes).here f.losses
        (λ s m o was is adds x. rises_boot budget count b s o (ceiling node) (boot_ceiling (reads mid m is).0) (x.events ∙ adds.events_are ∙ append-nil s.events) x.guard)

    -- where the flush of the lines of boot finds the guard row used up
    pub boot_wears : g.tells mid → GUARD_HALFWORDS ≤ ceiling node → MayWear budget count b []
    boot_wears tells reached = record {
      acts = [];
      rests = no_rests;
      reads = (refl, refl);
      enough = subst (λ (r : Run). GUARD_HALFWORDS ≤ raised_in count r) (sym (run_of_none budget b)) (omega (arith, reached, boot_ceiling tells));
    }

    pub boot_within : (last : Node) → OnlyPuts false node last → last.lines.pending ≡ [] → g.tells mid → StaysWithin count last b [] [] 0
    boot_within last w none tells =
        let same : durable_of lines.store ≡ b = one_value (g.words old) (durable_of lines.store) b (stands tells) (told (changes.told tells)).1 in
        subst (λ (l : List ℕ). StaysWithin count last l [] [] 0) same (record {
          run = stands_booted taken lines node last booted w none;
          ahead = subst (λ (r : Run). ceiling last ≤ raised_in count r) (sym (run_of_none last.budget (durable_of lines.store)))
              (omega (arith, w.ahead, boot_ceiling tells, ap (λ (l : List ℕ). length (boot l)) same));
        })

-- all pending lines are put
pub closed : {B : Type 0} (g : Ghosts B) (armed : Bool) (node last : Node) (new : B) → OnlyPuts armed node last → last.lines.pending ≡ [] → store.Fits g new last.lines.store → g.tells new
    → (b : List ℕ) (r : Run) (sent : List SentFrame) → StandsAt node b r sent → Stands (g.words new) (after b r.issued)
closed g armed node last new w none fits tells b r sent at =
    let whole : w.put ≡ node.lines.pending = sym (append-nil w.put) ∙ ap (λ (l : List LineWrite). w.put ++ l) (sym none) ∙ w.split in
    subst (Stands (g.words new)) (w.durable ∙ ap (after (durable_of node.lines.store)) whole ∙ current_is node b r sent at) (fits_stands g new last.lines.store fits tells)

pub closed_at : {B : Type 0} (g : Ghosts B) (armed : Bool) (result : Result ⊤ NodeError) (node : Node) (board : B) (last : Node) (new : B) → FlushDone g (length node.lines.pending) armed node board result last new
    → OnOk result (last.lines.pending ≡ []) → OnOk result (store.Fits g new last.lines.store)
    → OnOk result (g.tells new → (b : List ℕ) (r : Run) (sent : List SentFrame) → StandsAt node b r sent → Stands (g.words new) (after b r.issued))
closed_at g armed (Ok v) node board last new f none fits =
    let w : FlushedAll g (length node.lines.pending) armed node board last new = f.done in
    closed g armed node last new w.flushed.puts none fits
closed_at g armed (Err e) node board last new f none fits = tt

-- and none of their entries wears the guard row
pub closed_unworn : {B : Type 0} (g : Ghosts B) (armed : Bool) (result : Result ⊤ NodeError) (node : Node) (board : B) (last : Node) (new : B) → armed ≡ armed_in node
    → FlushDone g (length node.lines.pending) armed node board result last new → OnOk result (last.lines.pending ≡ []) → OnOk result (store.Fits g new last.lines.store)
    → OnOk result (AllUnworn g (armed_in node) node.lines new)
closed_unworn g armed (Ok v) node board last new is f none fits =
    let w : FlushedAll g (length node.lines.pending) armed node board last new = f.done in
    record {
      entries = w.flushed.entries;
      cut = subst (λ (l : List LineWrite). CutIntoEntries w.flushed.entries l node.lines.pending) none w.flushed.cut;
      last = last.lines.store;
      each = subst (λ (b : Bool). NoneWears b w.flushed.entries node.lines.store last.lines.store) is w.flushed.each;
      fits = fits;
    }
closed_unworn g armed (Err e) node board last new is f none fits = tt

pub closed_fits : {B : Type 0} (g : Ghosts B) (result : Result ⊤ NodeError) (node : Node) (new : B) → OnOk result (AllUnworn g (armed_in node) node.lines new) → armed_in node ≡ false
    → PendingVoids node.lines → guard_of node.lines.store ≡ GUARD_HALFWORDS → IfOk result (λ done. ⊥)
closed_fits g (Ok v) node new w not voids full =
    let all : AllUnworn g (armed_in node) node.lines new = w in
    all_fits (armed_in node) node.lines all.entries all.last all.cut all.each not full voids
closed_fits g (Err e) node new w not voids full = tt

-- the lines of boot were put, and none of their entries wears the guard row
pub booted_unworn : (words : Words) (taken : ℕ) (lines : Lines) (node last : Node) → IsBooted taken lines node → IsTrue (is_alone lines.store) → Stands words (durable_of lines.store)
    → ((reading : Reading) → IsReadAs words reading → guard_of lines.store ≡ count_after reading) → ((reading : Reading) → IsReadAs words reading → OnHome lines.store (HomeAfter reading))
    → (n : ℕ) → Flushed n false node last → last.lines.pending ≡ [] → BootUnworn words last.lines
booted_unworn words taken lines node last booted alone stands guard home n f none = record {
  opened = lines.store;
  alone = alone;
  stands = stands;
  guard = guard;
  home = home;
  entries = f.entries;
  cut = subst (λ (l : List LineWrite). CutIntoEntries f.entries [] l) (ap (λ (l : Lines). l.pending) booted.lines_are) (subst (λ (l : List LineWrite). CutIntoEntries f.entries l node.lines.pending) none f.cut);
  each = subst (λ (s : Store). NoneWears false f.entries s last.lines.store) (ap (λ (l : Lines). l.store) booted.lines_are) f.each;
}

-- where the flush of a closing finds the guard row used up, the vehicle isn't armed
pub closed_worn : {B : Type 0} (g : Ghosts B) (armed : Bool) (node last : Node) (new : B) (r : Result ⊤ NodeError) → armed ≡ armed_in node → IfErr r (WornAlone g armed (ceiling node) node last new)
    → IfErr r (λ e. OnWorn e (λ count. IsAloneUnlessArmed node → (lines : Lines) × IsWornForNext g new lines))
closed_worn g armed node last new r is worn =
    IfErr-weaker r (WornAlone g armed (ceiling node) node last new) (λ e. OnWorn e (λ count. IsAloneUnlessArmed node → (lines : Lines) × IsWornForNext g new lines))
    (λ e worn. worn_more e (IsWornAlone g armed (ceiling node) node last new) (IsAloneUnlessArmed node → (lines : Lines) × IsWornForNext g new lines)
    (λ w unless. (last.lines, w.next (unless (sym is ∙ w.unarmed)))) worn) worn

-- and lines enough were issued
pub closed_wears : {B : Type 0} (g : Ghosts B) (armed : Bool) (node last : Node) (new : B) (r : Result ⊤ NodeError) → IfErr r (WornAlone g armed (ceiling node) node last new)
    → IfErr r (λ e. OnWorn e (λ n. g.tells new → (count : ℕ) (b : List ℕ) (events : List Received) (frames : List SentFrame) (m : ℕ) → StaysWithin count node b events frames m → MayWear node.budget count b events))
closed_wears g armed node last new r worn =
    let Wears : Type 0 = g.tells new → (count : ℕ) (b : List ℕ) (events : List Received) (frames : List SentFrame) (m : ℕ) → StaysWithin count node b events frames m → MayWear node.budget count b events in
    IfErr-weaker r (WornAlone g armed (ceiling node) node last new) (λ e. OnWorn e (λ n. Wears))
    (λ e worn. worn_more e (IsWornAlone g armed (ceiling node) node last new) Wears
    (λ w told count b events frames m within. record {
      acts = within.run.acts;
      rests = node.rests;
      reads = within.run.reads;
      enough = omega (arith, w.reached told, within.ahead);
    }) worn) worn

-- what a loss leaves while lines are put
pub flushing_leaves : (node : Node) (s o : Outcome) → Flushing node s o → Leaves node s o
flushing_leaves node s o a = record {
  since = λ b events sent m stands. since_put node b events sent m stands s o a;
  rises = λ count b events sent m within. rises_still node b events sent m within.run count within.ahead s o a.events a.guard;
}

-- words that are an image stand for bytes
pub read_stands : (w : Words) (reading : Reading) → IsReadAs w reading → (b : List ℕ) × Stands w b
read_stands w reading reads = (value_of (entries_in reading), (reading, reads, is_value (entries_in reading)))

reads_guard : (w : Words) (reading : Reading) → IsReadAs w reading → IsGuardRow w.guard (count_in reading)
reads_guard w (Both count m n home other) reads = reads.guard
reads_guard w (One count entries) reads = reads.guard

-- the guard row of an image that was read with its count at the end of the row
pub read_wears : (w : Words) (reading : Reading) → IsReadAs w reading → count_in reading ≡ GUARD_HALFWORDS → (budget count : ℕ) (b : List ℕ) → IsGuardRow w.guard count → MayWear budget count b []
read_wears w reading reads full budget count b row = record {
  acts = [];
  rests = no_rests;
  reads = (refl, refl);
  enough = omega (arith, one_count w.guard count (count_in reading) row (reads_guard w reading reads), full);
}

pub worn_at : {T : Type 0} (error : OpenError) (r : Result T NodeError) (P Q : ℕ → Type 0) → IsErrAnd r (λ d. d ≡ opens_not error) → ((count : ℕ) → P count → Q count) → OnOpenWorn error P → IfErr r (λ e. OnWorn e Q)
worn_at error r P Q err weaker given = error_at r (opens_not error) (λ e. OnWorn e Q) err (worn_of error P Q weaker given)
  where
    worn_of : (error : OpenError) (P Q : ℕ → Type 0) → ((count : ℕ) → P count → Q count) → OnOpenWorn error P → OnWorn (opens_not error) Q
    worn_of open_error.Memory P Q weaker given = tt
    worn_of (open_error.Fault kind) P Q weaker given = tt
    worn_of (open_error.Foreign region offset word) P Q weaker given = tt
    worn_of (open_error.Worn count) P Q weaker given = weaker count given

pub worn_anyway : (error : NodeError) (Q : ℕ → Type 0) → ((count : ℕ) → Q count) → OnWorn error Q
worn_anyway node_error.Memory Q all = tt
worn_anyway (node_error.Fault kind) Q all = tt
worn_anyway (node_error.Foreign region offset word) Q all = tt
worn_anyway (node_error.Worn count) Q all = all count

pub booted_alone : (budget : ℕ) (lines : Lines) (node : Node) → IsBooted budget lines node → IsTrue (is_alone lines.store) → IsAlone node
booted_alone budget lines node booted alone = subst (λ (l : Lines). IsTrue (is_alone l.store)) (sym booted.lines_are) alone
