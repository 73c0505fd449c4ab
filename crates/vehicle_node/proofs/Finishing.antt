-- One event, from its reception to the flush at its end.
use Rattle.std.proofs.Common.{◌≡◌, inl, inr, Bool, true, false, ℕ, ◌+◌, ◌*◌, ◌≤◌, List, [], ◌∷◌, ◌++◌, length, refl, sym, ◌∙◌, ap, subst, arith, append_assoc, append-nil, length-append, Result, Ok, Err, Option, Some, None}
use Rattle.std.specs.Prelude.{◌↔◌, ⊤, IsErr, option_to_list}
use Rattle.flash_traits.specs.declared.board.Board.{Ghosts}
use Rattle.flash_traits.specs.declared.numbers.TheConstants.{GUARD_HALFWORDS}
use Rattle.flash_traits.specs.declared.board.Event.{Event}
use Rattle.flash_traits.specs.declared.board.Event.TheVariants as event
use Rattle.flash_traits.specs.Calls.{Passes}
use Rattle.flash_traits.specs.Losses.{Received, received, IsEventInRange, End, Moment, after_recv, ByResult, SentFrame, Outcome, After, Unchanged, Receives, Either}
use Rattle.flash_traits.proofs.Moments.{weaker}
use Rattle.storage_lines.specs.declared.lines.LineWrite.{LineWrite}
use Rattle.block_store.specs.Store as store
use Rattle.dirty_lines.specs.Entries.{IsFewest}
use Rattle.dirty_lines.specs.Wearing.{NoneWears}
use Rattle.vehicle_core.specs.Vehicle.{is_armed}
use Rattle.vehicle_runs.specs.Frames.{Machine}
use Rattle.vehicle_runs.specs.Guard.{RisesWithin, raised_in}
use Rattle.vehicle_runs.specs.Reading.{IsEvent, no_rests}
use Rattle.vehicle_runs.specs.Runs.{Run, all_acts, run_of}
use Rattle.vehicle_runs.specs.Safe.{SafeSince, Adds}
use Rattle.vehicle_runs.specs.Laws.{FramesAreRead, IsInRange}
use Rattle.vehicle_runs.proofs.RunLaws.{run_of_push}
use Rattle.vehicle_runs.proofs.Readings.{reads_push}
use Rattle.vehicle_runs.proofs.Orders.{throughout_last}
use Rattle.vehicle_node.specs.declared.NodeError.{NodeError}
use Rattle.vehicle_node.specs.declared.Turn.{Turn}
use Rattle.vehicle_node.specs.declared.Turn.TheVariants as turn
use Rattle.vehicle_node.specs.Guard.{WearsIn}
use Rattle.vehicle_node.specs.Standing.{Node, IsAloneUnlessArmed, StandsForRun, StaysWithin, Finished, WasArmed, armed_in, ceiling}
use Rattle.vehicle_node.specs.Steps.Calls.{MaySend, IsWornAlone, WornAlone, IsWornWhere, WornWhere}
use Rattle.vehicle_node.specs.Steps.Answering.{Flushing, FlushedAll, FlushDone}
use Rattle.vehicle_node.specs.Steps.Hearing.{StandsBelow, SafeTaken, ArmedTaking, WearingTaking, TakenAll, TakeDone}
use Rattle.vehicle_node.proofs.Putting.{now_stands, now_within}
use Rattle.vehicle_node.proofs.ActAnswers.{counts_more}
use Rattle.vehicle_node.proofs.Passing.{worn_more, adds_none, going_on, ending, adds_both}
use Rattle.vehicle_node.proofs.ActsDone.{below_then}
use Rattle.vehicle_node.proofs.Events.{since_still, since_taking, received_taking, since_flushing, since_finished, stands_for_more, rises_still, rises_event}

pub received_in_range : (e : Event) (buffer : List ℕ) → IsEventInRange e → IsInRange (received e buffer)
received_in_range (event.Datagram peer len) buffer in_range = in_range.0
received_in_range event.Idle buffer in_range = tt
received_in_range event.End buffer in_range = tt

is_eight : (n : ℕ) → 8 ≤ n → n ≤ 8 → n ≡ 8
is_eight n least most = omega (arith, least, most)

-- What a loss leaves of a node inside an event or while it is closed: of whatever run it stood for.
pub record Leaves (node : Node) (from o : Outcome) : Type 0 where
  pub since : (b : List ℕ) (events : List Received) (sent : List SentFrame) (m : ℕ) → StandsForRun node b events sent m → SafeSince node.budget b events sent m from o
  pub rises : (count : ℕ) (b : List ℕ) (events : List Received) (sent : List SentFrame) (m : ℕ) → StaysWithin count node b events sent m → RisesWithin node.budget count b events from o

-- the run that a node stands for, with room for what is pending
below_any : (node : Node) (b : List ℕ) (events : List Received) (sent : List SentFrame) (m : ℕ) → (s : StandsForRun node b events sent m) → StandsBelow (ceiling node) node b (run_of node.budget b s.acts) sent
below_any node b events sent m s = record { at = s.at; ahead = omega arith }

below_start : (count : ℕ) (node : Node) (b : List ℕ) (events : List Received) (sent : List SentFrame) (m : ℕ) → (s : StaysWithin count node b events sent m) → StandsBelow (count + 2) node b (run_of node.budget b s.run.acts) sent
below_start count node b events sent m s = record { at = s.run.at; ahead = s.ahead }

-- inside the next event
taking_leaves : (node : Node) (event : Received) (s m o : Outcome) → Adds (event ∷ []) [] s m → SafeTaken event node m o → Leaves node s o
taking_leaves node event s m o adds x = record {
  since = λ b events sent k stands.
      since_taking node b events sent k stands (ceiling node) event s m o adds (x (ceiling node) b (run_of node.budget b stands.acts) sent (below_any node b events sent k stands));
  rises = λ count b events sent k within.
      let y = x (count + 2) b (run_of node.budget b within.run.acts) sent (below_start count node b events sent k within) in
      rises_event node b events sent k within.run count event y.acts y.new_rests y.reads s o (y.inside.events_are ∙ adds.events_are) y.inside.guard;
}

-- lines that were put in the event and after it
split_twice : (put more mid last pending issued : List LineWrite) → put ++ mid ≡ pending ++ issued → more ++ last ≡ mid → (put ++ more) ++ last ≡ pending ++ issued
split_twice put more mid last pending issued first second = append_assoc put more last ∙ ap (λ (l : List LineWrite). put ++ l) second ∙ first

module _ {B : Type 0} (g : Ghosts B) (reads : (b : B) (o : Outcome) → g.now b o → g.tells b × (o.words ≡ g.words b)) (old : Node) (board : B) (fits : store.Fits g board old.lines.store) where
  pub leaves_still : (o : Outcome) → g.now board o → Leaves old o o
  leaves_still o is = record {
    since = λ b events sent m stands. since_still old b events sent m stands o o (adds_none o) (now_stands g reads board old.lines.store fits o is);
    rises = λ count b events sent m within. rises_still old b events sent m within.run count within.ahead o o refl (now_within g reads board old fits o is);
  }

  -- the reception failed
  pub failed_leaves : (last : B) → Passes g board last Unchanged Unchanged → Passes g board last (Leaves old) (Leaves old)
  failed_leaves last passes = weaker (Leaves old) (Leaves old) passes still still
    where
      still : (s o : Outcome) → g.now board s → Unchanged s o → Leaves old s o
      still s o is same = subst (Leaves old s) (sym same) (leaves_still s is)

  module _ (read : FramesAreRead) (got : Received) (in_range : IsInRange got) (next : B) (passes : Passes g board next (Either Unchanged (Receives got)) (Receives got)) where
    pub got_here : (o : Outcome) → g.now next o → After (g.now board) (Adds (got ∷ []) []) o
    got_here o is =
        let s = passes.here o is in
        record {
          from = s.from;
          was = s.was;
          steps = record { events_are = ap (λ (p : Outcome). p.events) s.steps; frames_are = ap (λ (p : Outcome). p.frames) s.steps ∙ sym (append-nil s.from.frames) };
        }

    receiving : (s o : Outcome) → g.now board s → Either Unchanged (Receives got) s o → Leaves old s o
    receiving s o is step = elim step [
      | inl same ↦ subst (Leaves old s) (sym same) (leaves_still s is)
      | inr more ↦
          subst (Leaves old s) (sym more) (record {
            since = λ b events sent m stands.
                since_taking old b events sent m stands (ceiling old) got s (got_now s) (got_now s) (got_adds s)
                (received_taking old b events sent m stands read (ceiling old) got in_range (below_any old b events sent m stands) (got_now s)
                (now_stands g reads board old.lines.store fits s is) (now_within g reads board old fits s is));
            rises = λ count b events sent m within.
                let y = received_taking old b events sent m within.run read (count + 2) got in_range (below_start count old b events sent m within) (got_now s)
                (now_stands g reads board old.lines.store fits s is) (now_within g reads board old fits s is) in
                rises_event old b events sent m within.run count got y.acts y.new_rests y.reads s (got_now s) refl y.inside.guard;
          })
    ]
      where
        got_now : Outcome → Outcome
        got_now o = record { words = o.words; events = o.events ++ got ∷ []; frames = o.frames }

        got_adds : (s : Outcome) → Adds (got ∷ []) [] s (got_now s)
        got_adds s = record { events_are = refl; frames_are = sym (append-nil s.frames) }

    got_leaves : Passes g board next (Leaves old) (Adds (got ∷ []) [])
    got_leaves = ending g (Adds (got ∷ []) []) (weaker (Leaves old) (Receives got) passes (λ s o is x. receiving s o is x) (λ s o is x. x)) got_here

    pub taken_leaves : (result : Result ⊤ NodeError) (mid : Node) (between : B) → TakeDone g got old next result mid between → Passes g board between (Leaves old) (Leaves old)
    taken_leaves result mid between d =
        going_on g (Leaves old) (got ∷ []) [] got_leaves got_here d.losses (λ s m o was is adds x. taking_leaves old got s m o adds x)

    module _ (mid : Node) (between : B) (d : TakeDone g got old next (Ok tt) mid between) where
      pub all : TakenAll g got old next mid between
      all = d.done

      pub taken_here : (o : Outcome) → g.now between o → After (g.now board) (Adds (got ∷ []) all.answered.frames) o
      taken_here = adds_both g (got ∷ []) [] [] all.answered.frames got_here all.answered.sent.here

      -- while lines are put at the event's end
      flushing : (s m o : Outcome) → Adds (got ∷ []) all.answered.frames s m → Flushing mid m o → Leaves old s o
      flushing s m o adds a = record {
        since = λ b events sent k stands.
            since_flushing old b events sent k stands got all.acts mid all.answered.frames all.reads (all.answered.stands b (run_of old.budget b stands.acts) sent stands.at) s m o adds a;
        rises = λ count b events sent k within.
            let below = below_then g (count + 2) old next all.acts mid between b (run_of old.budget b within.run.acts) sent all.answered (below_start count old b events sent k within) in
            rises_event old b events sent k within.run count got all.acts mid.rests all.reads s o (a.events ∙ adds.events_are)
            (counts_more (ceiling mid) (count + 2 + 2 * length (all_acts old.budget b (run_of old.budget b within.run.acts) all.acts).issued) o.words.guard below.ahead a.guard);
      }

      pub flushed_leaves : (n : ℕ) (armed : Bool) (result : Result ⊤ NodeError) (new : Node) (last : B) → FlushDone g n armed mid between result new last → Passes g board last (Leaves old) (Leaves old)
      flushed_leaves n armed result new last f =
          going_on g (Leaves old) (got ∷ []) all.answered.frames (taken_leaves (Ok tt) mid between d) taken_here f.losses (λ s m o was is adds a. flushing s m o adds a)

      -- where the flush at the end finds the guard row used up
      pub flushed_worn : (P : Type 0) (armed : Bool) → armed ≡ armed_in mid → (new : Node) (last : B) (e : NodeError) → WornAlone g armed (ceiling mid) mid new last e → WornWhere g old P (WearingTaking got old) new last e
      flushed_worn P armed is new last e worn =
          worn_more e (IsWornAlone g armed (ceiling mid) mid new last) (IsWornWhere g old P (WearingTaking got old) new last)
          (λ w. record {
            next = λ unless. inl (w.next (all.answered.alone unless (sym is ∙ w.unarmed)));
            lines = λ told. record {
              acts = all.acts;
              new_rests = mid.rests;
              reads = all.reads;
              enough = λ limit b r sent below. omega (arith, w.reached told, (below_then g limit old next all.acts mid between b r sent all.answered below).ahead);
            };
          }) worn

      pub alone_at_end : (n : ℕ) (armed : Bool) → armed ≡ armed_in mid → (new : Node) (last : B) → FlushDone g n armed mid between (Ok tt) new last → IsAloneUnlessArmed old → IsAloneUnlessArmed new
      alone_at_end n armed is new last f unless not =
          let w : FlushedAll g n armed mid between new last = f.done in
          let same : armed_in mid ≡ false = sym (ap (λ (m : Machine). is_armed m.vehicle) w.flushed.puts.machine) ∙ not in
          w.flushed.puts.alone (is ∙ same) (all.answered.alone unless same)

      module _ (n : ℕ) (armed : Bool) (eight : 8 ≤ n) (new : Node) (last : B) (f : FlushDone g n armed mid between (Ok tt) new last) where
        w : FlushedAll g n armed mid between new last
        w = f.done

        budget_is : new.budget ≡ old.budget
        budget_is = w.flushed.puts.budget ∙ all.answered.budget

        flushed_here : (o : Outcome) → g.now last o → After (g.now board) (Adds (got ∷ []) all.answered.frames) o
        flushed_here o is =
            subst (λ (l : List SentFrame). After (g.now board) (Adds (got ∷ []) l) o) (append-nil all.answered.frames)
            (adds_both g (got ∷ []) [] all.answered.frames [] taken_here w.sent.here o is)

        abbrev done_stands : (b : List ℕ) (events : List Received) (sent : List SentFrame) (m : ℕ) → StandsForRun old b events sent m → StandsForRun new b (events ++ got ∷ []) (sent ++ all.answered.frames) (m + 1)
        done_stands b events sent m stands =
            stands_for_more old b events sent m stands got all.acts mid all.answered.frames new all.reads (all.answered.stands b (run_of old.budget b stands.acts) sent stands.at) n armed eight w.flushed budget_is

        done_within : (count : ℕ) (b : List ℕ) (events : List Received) (sent : List SentFrame) (m : ℕ) → StaysWithin count old b events sent m → StaysWithin count new b (events ++ got ∷ []) (sent ++ all.answered.frames) (m + 1)
        done_within count b events sent m s =
            let below = below_then g (count + 2) old next all.acts mid between b (run_of old.budget b s.run.acts) sent all.answered (below_start count old b events sent m s) in
            record {
              run = done_stands b events sent m s.run;
              ahead = subst (λ (k : ℕ). ceiling new ≤ raised_in count (run_of k b (s.run.acts ++ all.acts ∷ []))) (sym budget_is)
                  (subst (λ (t : Run). ceiling new ≤ raised_in count t) (sym (run_of_push old.budget b s.run.acts all.acts)) (omega (arith, below.ahead, w.flushed.puts.ahead)));
            }

        pub done_losses : store.Fits g last new.lines.store → (b : List ℕ) (events : List Received) (sent : List SentFrame) (m : ℕ) → (g.tells board → StandsForRun old b events sent m)
            → Passes g board last (SafeSince old.budget b events sent m) (SafeSince old.budget b events sent (m + 1))
        done_losses fits_last b events sent m stands =
            let S = SafeSince old.budget b events sent m in
            ending g (SafeSince old.budget b events sent (m + 1))
            (weaker S S (flushed_leaves n armed (Ok tt) new last f)
            (λ s o is x. x.since b events sent m (stands (reads board s is).0)) (λ s o is x. x.since b events sent m (stands (reads board s is).0)))
            (λ o is.
            let s = flushed_here o is in
            record {
              from = s.from;
              was = s.was;
              steps = subst (λ (k : ℕ). SafeSince k b events sent (m + 1) s.from o) budget_is
                  (since_finished new b events sent m got all.answered.frames (done_stands b events sent m (stands (reads board s.from s.was).0)) s.from o s.steps (now_stands g reads last new.lines.store fits_last o is));
            })

        -- the event is finished
        pub event_finished : n ≤ 8 → armed ≡ armed_in mid → ((e : List Received) (l : List SentFrame) → g.has_lists board e l → g.has_lists next (e ++ got ∷ []) l)
            → g.moment next ≡ after_recv (g.moment board) → (answer : Turn) → ((answer ≡ turn.End) ↔ (got ≡ End)) → Finished g old board new last answer
        event_finished most is lists moment answer end = record {
          event = got;
          frames = all.answered.frames;
          last = end;
          lists = λ e sent stood. subst (g.has_lists last (e ++ got ∷ [])) (append-nil (sent ++ all.answered.frames))
              (w.sent.lists (e ++ got ∷ []) (sent ++ all.answered.frames) (all.answered.sent.lists (e ++ got ∷ []) sent (lists e sent stood)));
          here = flushed_here;
          one_reception = w.sent.receptions ∙ all.answered.sent.receptions ∙ ap (λ (t : Moment). t.receptions) moment;
          stands = done_stands;
          acts = all.acts;
          reads = subst (IsEvent old.rests got all.acts) (sym w.flushed.puts.rests) all.reads;
          issued = all.answered.issued;
          grew = λ b r sent at. all.answered.grew b r sent at;
          counted = w.flushed.puts.line_count ∙ all.answered.counted;
          armed = ap (λ (m : Machine). is_armed m.vehicle) w.flushed.puts.machine ∙ all.answered.armed;
          still = λ throughout.
              let last_armed : armed_in mid ≡ true = all.answered.armed ∙ throughout_last (armed_in old) all.acts throughout in
              record { erases = (w.still (is ∙ last_armed)).erases ∙ (all.answered.still throughout).erases ∙ ap (λ (t : Moment). t.erases) moment };
          put = all.answered.put ++ w.flushed.puts.put;
          split = split_twice all.answered.put w.flushed.puts.put mid.lines.pending new.lines.pending old.lines.pending all.answered.issued all.answered.split w.flushed.puts.split;
          few = λ none few. omega (arith, most, w.flushed.few, ap length (all.answered.few none few), length-append all.answered.put w.flushed.puts.put);
          within = done_within;
          unworn = record {
            mid = mid.lines;
            acted = all.answered.unworn;
            entries = w.flushed.entries;
            cut = w.flushed.cut;
            fewest = subst (λ (k : ℕ). IsFewest k w.flushed.entries new.lines.pending) (is_eight n eight most) w.flushed.fewest;
            last = subst (λ (b : Bool). NoneWears b w.flushed.entries mid.lines.store new.lines.store) (is ∙ all.answered.armed) w.flushed.each;
          };
        }

-- what clauses say of losses, where the call was cut short
module _ {B : Type 0} (g : Ghosts B) (reads : (b : B) (o : Outcome) → g.now b o → g.tells b × (o.words ≡ g.words b)) (old : Node) (board last : B) (p : Passes g board last (Leaves old) (Leaves old)) where
  pub leaves_safe : (b : List ℕ) (events : List Received) (sent : List SentFrame) (m : ℕ) → (g.tells board → StandsForRun old b events sent m)
      → Passes g board last (SafeSince old.budget b events sent m) (SafeSince old.budget b events sent m)
  leaves_safe b events sent m stands =
      weaker (SafeSince old.budget b events sent m) (SafeSince old.budget b events sent m) p (λ s o is x. x.since b events sent m (stands (reads board s is).0)) (λ s o is x. x.since b events sent m (stands (reads board s is).0))

  pub leaves_rising : (count : ℕ) (b : List ℕ) (events : List Received) (sent : List SentFrame) (m : ℕ) → (g.tells board → StaysWithin count old b events sent m)
      → Passes g board last (RisesWithin old.budget count b events) (RisesWithin old.budget count b events)
  leaves_rising count b events sent m within =
      weaker (RisesWithin old.budget count b events) (RisesWithin old.budget count b events) p (λ s o is x. x.rises count b events sent m (within (reads board s is).0)) (λ s o is x. x.rises count b events sent m (within (reads board s is).0))

pub passes_err : {B T E : Type 0} (g : Ghosts B) (old new : B) (result : Result T E) (lost done : Outcome → Outcome → Type 0) → IsErr result → Passes g old new lost lost → Passes g old new lost (ByResult result done lost)
passes_err g old new (Ok v) lost done err passes = absurd (cc)
passes_err g old new (Err e) lost done err passes = passes

-- how the lists grew where an event was cut short
pub cut_none : {B : Type 0} (g : Ghosts B) (a b : B) → ((e : List Received) (f : List SentFrame) → g.has_lists a e f → g.has_lists b e f)
    → (e : List Received) (f : List SentFrame) → g.has_lists a e f → (event : Option Received) × (sent : List SentFrame) × g.has_lists b (e ++ option_to_list event) (f ++ sent)
cut_none g a b kept e f stood = (None, [], subst (λ (l : List Received). g.has_lists b l (f ++ [])) (sym (append-nil e)) (subst (g.has_lists b e) (sym (append-nil f)) (kept e f stood)))

pub cut_some : {B : Type 0} (g : Ghosts B) (got : Received) (a b c : B) → ((e : List Received) (f : List SentFrame) → g.has_lists a e f → g.has_lists b (e ++ got ∷ []) f) → MaySend g b c
    → (e : List Received) (f : List SentFrame) → g.has_lists a e f → (event : Option Received) × (sent : List SentFrame) × g.has_lists c (e ++ option_to_list event) (f ++ sent)
cut_some g got a b c lists more e f stood = let s = more (e ++ got ∷ []) f (lists e f stood) in (Some got, s.0, s.1)

-- the event in which the vehicle was armed, of those that the board received
pub was_armed : {B : Type 0} (g : Ghosts B) (old : Node) (got : Received) (a b c : B) → ((e : List Received) (f : List SentFrame) → g.has_lists a e f → g.has_lists b (e ++ got ∷ []) f) → MaySend g b c
    → ArmedTaking got old → WasArmed g old a c
was_armed g old got a b c lists more x = record {
  event = got;
  lists = λ e f stood. more (e ++ got ∷ []) f (lists e f stood);
  acts = x.acts;
  rests = x.new_rests;
  reads = x.reads;
  armed = x.armed;
}

-- the event with which lines enough were issued, of those that the board received
pub wears_in : {B : Type 0} (g : Ghosts B) (old : Node) (got : Received) (a b c : B) → ((e : List Received) (f : List SentFrame) → g.has_lists a e f → g.has_lists b (e ++ got ∷ []) f) → MaySend g b c
    → (g.tells c → WearingTaking got old) → WearsIn g old a c
wears_in g old got a b c lists more wearing = record {
  event = got;
  lists = λ e f stood. more (e ++ got ∷ []) f (lists e f stood);
  lines = λ told count bytes events sent m within.
      let x = wearing told in
      record {
        acts = within.run.acts ++ x.acts ∷ [];
        rests = x.new_rests;
        reads = reads_push events got no_rests old.rests x.new_rests within.run.acts x.acts within.run.reads x.reads;
        enough = subst (λ (r : Run). GUARD_HALFWORDS ≤ raised_in count r) (sym (run_of_push old.budget bytes within.run.acts x.acts))
            (x.enough (count + 2) bytes (run_of old.budget bytes within.run.acts) sent (below_start count old bytes events sent m within));
      };
}
