-- One event, and the flush at its end.
use Rattle.std.proofs.Common.{◌≡◌, Bool, ℕ, ◌+◌, ◌*◌, ◌≤◌, List, [], ◌∷◌, ◌++◌, length, refl, sym, ◌∙◌, ap, subst, arith, append-nil, length-append, Result, Ok, Err}
use Rattle.std.specs.Prelude.{⊤, IsErrAnd}
use Rattle.std.proofs.lemmas.Result.{IfErr-weaker}
use Rattle.std.proofs.lemmas.List.{length-set}
use Rattle.flash_traits.specs.declared.board.Board.{Ghosts}
use Rattle.flash_traits.specs.Losses.{Received, Datagram, Idle, End, SentFrame, Outcome}
use Rattle.flash_traits.proofs.Moments.{weaker}
use Rattle.sector_image.specs.Stands.{Stands}
use Rattle.block_store.specs.Store.{durable_of}
use Rattle.block_store.specs.Store as store
use Rattle.vehicle_core.specs.Acts.{Act}
use Rattle.vehicle_runs.specs.Arming.{IsArmedOnce}
use Rattle.vehicle_runs.specs.Guard.{CountsUpTo, RisesWithin, raised_in}
use Rattle.vehicle_runs.specs.Reading.{no_rests, streams, beats, IsEvent, Reads, IsHeard}
use Rattle.vehicle_runs.specs.Runs.{Run, all_acts, run_of}
use Rattle.vehicle_runs.specs.Safe.{SafeAt, Safe, SafeSince, Adds}
use Rattle.vehicle_runs.specs.Laws.{FramesAreRead, IsInRange}
use Rattle.vehicle_runs.proofs.RunLaws.{run_of_push, all_acts_floor, extends_same, extends_then, extends_more, extends_all}
use Rattle.vehicle_runs.proofs.Orders.{once_before, once_after}
use Rattle.vehicle_runs.proofs.Readings.{heard_more, heard_datagram, can_hear_more, reads_push, event_any, CanRead}
use Rattle.vehicle_node.specs.declared.NodeError.{NodeError}
use Rattle.vehicle_node.specs.Standing.{Node, StandsAt, StandsForRun, armed_in, ceiling}
use Rattle.vehicle_node.specs.Steps.Calls.{WornWhere}
use Rattle.vehicle_node.specs.Steps.Answering.{Flushed, Flushing}
use Rattle.vehicle_node.specs.Steps.Hearing.{StandsBelow, ActsAnswered, SafeHearing, ArmedHearing, WearingHearing, MayWearIn, HeardAll, HearDone, ActsDone, SafeTaking, SafeTaken, ArmedTaking, WearingTaking, TakenAll, TakeDone}
use Rattle.vehicle_node.proofs.At.{safe_put, safe_still, stands_finished, safe_between, safe_inside}
use Rattle.vehicle_node.proofs.Putting.{now_stands, now_within}
use Rattle.vehicle_node.proofs.ActAnswers.{counts_more}
use Rattle.vehicle_node.proofs.Passing.{on_ok, cut_call, begun, going_on, lists_kept, lists_then}
use Rattle.vehicle_node.proofs.ActsDone.{worn_later, wears_after, wears_more, inside_more, inside_still, inside_after, answered_none, answered_then, below_then}

-- where a prefix of a datagram was heard, the whole can be read
pub hearing_takes : FramesAreRead → (station : ℕ) (bytes : List ℕ) (node : Node) (limit : ℕ) (b : List ℕ) (r : Run) (sent : List SentFrame) (s o : Outcome) → SafeHearing station bytes node limit b r sent s o
    → SafeTaking (Datagram station bytes) node limit b r sent s o
hearing_takes read station bytes node limit b r sent s o x =
    let rests = node.rests in
    let n = node.budget in
    let more = can_hear_more read station x.first x.more rests x.mid x.said x.heard in
    let all : IsHeard station bytes rests (x.said ++ more.said) more.new = subst (λ (l : List ℕ). IsHeard station l rests (x.said ++ more.said) more.new) x.split (heard_more station x.first x.more rests x.mid more.new x.said more.said x.heard more.heard) in
    record {
      acts = (x.said ++ more.said) ++ streams;
      new_rests = more.new;
      reads = heard_datagram station bytes rests more.new (x.said ++ more.said) all;
      inside = inside_more limit b (all_acts n b r x.said) (all_acts n b r ((x.said ++ more.said) ++ streams)) r.floor sent s o
          (extends_then (all_acts n b r x.said) (all_acts n b r (x.said ++ more.said)) (all_acts n b r ((x.said ++ more.said) ++ streams)) (extends_more n b r x.said more.said) (extends_more n b r (x.said ++ more.said) streams)) x.inside;
    }

-- and where the vehicle was armed in the prefix, it was in the whole
armed_takes : FramesAreRead → (station : ℕ) (bytes : List ℕ) (node : Node) → ArmedHearing station bytes node → ArmedTaking (Datagram station bytes) node
armed_takes read station bytes node x =
    let rests = node.rests in
    let more = can_hear_more read station x.first x.more rests x.mid x.said x.heard in
    let all : IsHeard station bytes rests (x.said ++ more.said) more.new = subst (λ (l : List ℕ). IsHeard station l rests (x.said ++ more.said) more.new) x.split (heard_more station x.first x.more rests x.mid more.new x.said more.said x.heard more.heard) in
    record {
      acts = (x.said ++ more.said) ++ streams;
      new_rests = more.new;
      reads = heard_datagram station bytes rests more.new (x.said ++ more.said) all;
      armed = once_before (armed_in node) (x.said ++ more.said) streams (once_before (armed_in node) x.said more.said x.armed);
    }

-- and the whole issues no fewer lines
wearing_takes : FramesAreRead → (station : ℕ) (bytes : List ℕ) (node : Node) → WearingHearing station bytes node → WearingTaking (Datagram station bytes) node
wearing_takes read station bytes node x =
    let rests = node.rests in
    let more = can_hear_more read station x.first x.more rests x.mid x.said x.heard in
    let all : IsHeard station bytes rests (x.said ++ more.said) more.new = subst (λ (l : List ℕ). IsHeard station l rests (x.said ++ more.said) more.new) x.split (heard_more station x.first x.more rests x.mid more.new x.said more.said x.heard more.heard) in
    record {
      acts = (x.said ++ more.said) ++ streams;
      new_rests = more.new;
      reads = heard_datagram station bytes rests more.new (x.said ++ more.said) all;
      enough = wears_more node (x.said ++ more.said) streams (wears_more node x.said more.said x.enough);
    }

module _ {B : Type 0} (g : Ghosts B) where
  -- a datagram that was heard in part
  pub take_hearing : FramesAreRead → (station : ℕ) (bytes : List ℕ) (old : Node) (board : B) (e : NodeError) (result : Result ⊤ NodeError) (new : Node) (last : B) → IsErrAnd result (λ d. d ≡ e)
      → HearDone g old board station bytes (Err e) new last → TakeDone g (Datagram station bytes) old board result new last
  take_hearing read station bytes old board e result new last err d =
      cut_call g (WornWhere g old (ArmedTaking (Datagram station bytes) old) (WearingTaking (Datagram station bytes) old) new last) (TakenAll g (Datagram station bytes) old board new last) board last e result d err
      (λ s o is x limit b r sent below. hearing_takes read station bytes old limit b r sent s o (x limit b r sent below))
      (worn_later g old old (ArmedHearing station bytes old) (ArmedTaking (Datagram station bytes) old) new last e (λ unless. unless) (λ x. armed_takes read station bytes old x)
      (λ x. wearing_takes read station bytes old x))

  -- then the lists go on
  pub take_heard : FramesAreRead → (station : ℕ) (bytes : List ℕ) (old : Node) (board : B) (mid : Node) (mid_board : B) (result : Result ⊤ NodeError) (new : Node) (last : B)
      → HearDone g old board station bytes (Ok tt) mid mid_board → ActsDone g mid mid_board streams result new last → TakeDone g (Datagram station bytes) old board result new last
  take_heard read station bytes old board mid mid_board result new last first second =
      let S = SafeTaken (Datagram station bytes) old in
      let all : HeardAll g old board station bytes mid mid_board = first.done in
      let answered = all.answered in
      record {
        losses = going_on g S [] answered.frames
            (weaker S S first.losses
            (λ s o is x limit b r sent below. hearing_takes read station bytes old limit b r sent s o (x limit b r sent below))
            (λ s o is x limit b r sent below. hearing_takes read station bytes old limit b r sent s o (x limit b r sent below)))
            answered.sent.here second.losses
            (λ s m o was is adds x limit b r sent below. record {
              acts = all.said ++ streams;
              new_rests = mid.rests;
              reads = heard_datagram station bytes old.rests mid.rests all.said all.heard;
              inside = inside_after g limit old board all.said mid mid_board streams b r sent answered s m o adds
                  (x limit b (all_acts old.budget b r all.said) (sent ++ answered.frames) (below_then g limit old board all.said mid mid_board b r sent answered below));
            });
        lists = lists_then g board mid_board last first.lists second.lists;
        done = on_ok result (ActsAnswered g mid mid_board streams new last) (TakenAll g (Datagram station bytes) old board new last)
            (λ done. record {
              acts = all.said ++ streams;
              reads = heard_datagram station bytes old.rests new.rests all.said (subst (IsHeard station bytes old.rests all.said) (sym done.rests) all.heard);
              answered = answered_then g old board all.said mid mid_board streams new last answered done.answered;
            })
            second.done;
        stopped = IfErr-weaker result (WornWhere g mid (IsArmedOnce (armed_in mid) streams) (MayWearIn mid streams) new last)
            (WornWhere g old (ArmedTaking (Datagram station bytes) old) (WearingTaking (Datagram station bytes) old) new last)
            (λ e worn. worn_later g old mid (IsArmedOnce (armed_in mid) streams) (ArmedTaking (Datagram station bytes) old) new last e answered.alone
            (λ once. record {
              acts = all.said ++ streams;
              new_rests = mid.rests;
              reads = heard_datagram station bytes old.rests mid.rests all.said all.heard;
              armed = once_after (armed_in old) all.said streams (subst (λ (b : Bool). IsArmedOnce b streams) answered.armed once);
            })
            (λ wears. record {
              acts = all.said ++ streams;
              new_rests = mid.rests;
              reads = heard_datagram station bytes old.rests mid.rests all.said all.heard;
              enough = wears_after g old board all.said mid mid_board streams answered wears;
            }) worn) second.stopped;
      }

  -- an idle turn
  pub take_idle : (old : Node) (board : B) (result : Result ⊤ NodeError) (new : Node) (last : B) → ActsDone g old board (beats ++ streams) result new last → TakeDone g Idle old board result new last
  take_idle old board result new last d =
      let S = SafeTaken Idle old in
      record {
        losses = weaker S S d.losses
            (λ s o is x limit b r sent below. record { acts = beats ++ streams; new_rests = old.rests; reads = (refl, refl); inside = x limit b r sent below })
            (λ s o is x limit b r sent below. record { acts = beats ++ streams; new_rests = old.rests; reads = (refl, refl); inside = x limit b r sent below });
        lists = d.lists;
        done = on_ok result (ActsAnswered g old board (beats ++ streams) new last) (TakenAll g Idle old board new last)
            (λ done. record { acts = beats ++ streams; reads = (refl, done.rests); answered = done.answered }) d.done;
        stopped = IfErr-weaker result (WornWhere g old (IsArmedOnce (armed_in old) (beats ++ streams)) (MayWearIn old (beats ++ streams)) new last) (WornWhere g old (ArmedTaking Idle old) (WearingTaking Idle old) new last)
            (λ e worn. worn_later g old old (IsArmedOnce (armed_in old) (beats ++ streams)) (ArmedTaking Idle old) new last e (λ unless. unless)
            (λ once. record { acts = beats ++ streams; new_rests = old.rests; reads = (refl, refl); armed = once })
            (λ wears. record { acts = beats ++ streams; new_rests = old.rests; reads = (refl, refl); enough = wears }) worn) d.stopped;
      }

  -- the end
  pub take_end : (reads : (b : B) (o : Outcome) → g.now b o → g.tells b × (o.words ≡ g.words b)) (node : Node) (board : B) → store.Fits g board node.lines.store → TakeDone g End node board (Ok tt) node board
  take_end reads node board fits = record {
    losses = begun g board (SafeTaken End node) (λ s is limit b r sent below. record {
      acts = [];
      new_rests = node.rests;
      reads = (refl, refl);
      inside = inside_still node limit b r sent below s (now_stands g reads board node.lines.store fits s is) (now_within g reads board node fits s is);
    });
    lists = lists_kept g board board (λ e f stood. stood);
    done = record { acts = []; reads = (refl, refl); answered = answered_none g node board };
    stopped = tt;
  }

rests_long : (events : List Received) (old new : List (List ℕ)) (acts : List (List Act)) → Reads old events acts new → length new ≡ length old
rests_long [] old new acts a = ap length a.1
rests_long (Datagram station bytes ∷ es) old new acts a = rests_long es a.1 new a.2 a.4 ∙ ap length a.3.heard.new_is ∙ length-set old station a.3.heard.new_rest
rests_long (Idle ∷ es) old new acts a = rests_long es a.1 new a.2 a.4 ∙ ap length a.3.1
rests_long (End ∷ es) old new acts a = rests_long es a.1 new a.2 a.4 ∙ ap length a.3.1

-- what a loss leaves of the run that a node stands for
module _ (node : Node) (b : List ℕ) (events : List Received) (sent : List SentFrame) (m : ℕ) (stands : StandsForRun node b events sent m) where
  -- between two events
  pub since_still : (from o : Outcome) → Adds [] [] from o → Stands o.words (durable_of node.lines.store) → SafeSince node.budget b events sent m from o
  since_still from o adds words = record {
    added_events = [];
    events_are = adds.events_are;
    added_frames = [];
    frames_are = adds.frames_are;
    safe = subst (λ (l : List Received). Safe node.budget b l (sent ++ []) m o.words) (sym (append-nil events)) (subst (λ (l : List SentFrame). Safe node.budget b events l m o.words) (sym (append-nil sent))
        (safe_between node b events sent m stands o.words (safe_still node b (run_of node.budget b stands.acts) sent stands.at o.words words)));
  }

  pub since_put : (from o : Outcome) → Flushing node from o → SafeSince node.budget b events sent m from o
  since_put from o a = record {
    added_events = [];
    events_are = a.events ∙ sym (append-nil from.events);
    added_frames = [];
    frames_are = a.frames ∙ sym (append-nil from.frames);
    safe = subst (λ (l : List Received). Safe node.budget b l (sent ++ []) m o.words) (sym (append-nil events)) (subst (λ (l : List SentFrame). Safe node.budget b events l m o.words) (sym (append-nil sent))
        (safe_between node b events sent m stands o.words (safe_put node b (run_of node.budget b stands.acts) sent stands.at a.put a.rest o.words a.split a.stands)));
  }

  -- the guard count of what a loss leaves between two events
  pub rises_still : (count : ℕ) → ceiling node ≤ raised_in count (run_of node.budget b stands.acts) → (from o : Outcome) → o.events ≡ from.events → CountsUpTo (ceiling node) o.words.guard → RisesWithin node.budget count b events from o
  rises_still count ahead from o same guard = record {
    added_events = [];
    events_are = same ∙ sym (append-nil from.events);
    acts = stands.acts;
    rests = node.rests;
    reads = subst (λ (l : List Received). Reads no_rests l stands.acts node.rests) (sym (append-nil events)) stands.reads;
    guard = counts_more (ceiling node) (raised_in count (run_of node.budget b stands.acts)) o.words.guard ahead guard;
  }

  -- and in the next
  pub rises_event : (count : ℕ) (event : Received) (acts : List Act) (new_rests : List (List ℕ)) → IsEvent node.rests event acts new_rests → (from o : Outcome) → o.events ≡ from.events ++ event ∷ []
      → CountsUpTo (count + 2 + 2 * length (all_acts node.budget b (run_of node.budget b stands.acts) acts).issued) o.words.guard → RisesWithin node.budget count b events from o
  rises_event count event acts new_rests reads from o added guard = record {
    added_events = event ∷ [];
    events_are = added;
    acts = stands.acts ++ acts ∷ [];
    rests = new_rests;
    reads = reads_push events event no_rests node.rests new_rests stands.acts acts stands.reads reads;
    guard = subst (λ (t : Run). CountsUpTo (raised_in count t) o.words.guard) (sym (run_of_push node.budget b stands.acts acts)) guard;
  }

  -- inside the next event
  pub since_taking : (limit : ℕ) (event : Received) (from mid o : Outcome) → Adds (event ∷ []) [] from mid → SafeTaking event node limit b (run_of node.budget b stands.acts) sent mid o → SafeSince node.budget b events sent m from o
  since_taking limit event from mid o adds x = record {
    added_events = event ∷ [];
    events_are = x.inside.events_are ∙ adds.events_are;
    added_frames = x.inside.added_frames;
    frames_are = x.inside.frames_are ∙ ap (λ (l : List SentFrame). l ++ x.inside.added_frames) (adds.frames_are ∙ append-nil from.frames);
    safe = safe_inside node b events sent m stands event x.acts x.new_rests (all_acts node.budget b (run_of node.budget b stands.acts) x.acts) x.inside.added_frames o.words x.reads (extends_same (all_acts node.budget b (run_of node.budget b stands.acts) x.acts)) x.inside.safe;
  }

  -- the event was received, and nothing done yet
  pub received_taking : FramesAreRead → (limit : ℕ) (event : Received) → IsInRange event → StandsBelow limit node b (run_of node.budget b stands.acts) sent
      → (o : Outcome) → Stands o.words (durable_of node.lines.store) → CountsUpTo (ceiling node) o.words.guard → SafeTaking event node limit b (run_of node.budget b stands.acts) sent o o
  received_taking read limit event in_range below o words guard =
      let r = run_of node.budget b stands.acts in
      let can : CanRead event node.rests = event_any read event node.rests in_range (rests_long events no_rests node.rests stands.acts stands.reads) in
      record {
        acts = can.acts;
        new_rests = can.new;
        reads = can.reads;
        inside = inside_more limit b r (all_acts node.budget b r can.acts) r.floor sent o o (extends_all node.budget b r can.acts) (inside_still node limit b r sent below o words guard);
      }

  -- after the last byte, while lines are put
  pub since_flushing : (event : Received) (acts : List Act) (mid : Node) (frames : List SentFrame) → IsEvent node.rests event acts mid.rests → StandsAt mid b (all_acts node.budget b (run_of node.budget b stands.acts) acts) (sent ++ frames)
      → (from between o : Outcome) → Adds (event ∷ []) frames from between → Flushing mid between o → SafeSince node.budget b events sent m from o
  since_flushing event acts mid frames reads at from between o adds a =
      let r = run_of node.budget b stands.acts in
      record {
        added_events = event ∷ [];
        events_are = a.events ∙ adds.events_are;
        added_frames = frames;
        frames_are = a.frames ∙ adds.frames_are;
        safe = safe_inside node b events sent m stands event acts mid.rests (all_acts node.budget b r acts) frames o.words reads (extends_same (all_acts node.budget b r acts))
            (subst (λ (n : ℕ). SafeAt b (all_acts node.budget b r acts) n (sent ++ frames) o.words) (all_acts_floor node.budget b r acts)
            (safe_put mid b (all_acts node.budget b r acts) (sent ++ frames) at a.put a.rest o.words a.split a.stands));
      }

  -- the event is finished
  abbrev pub stands_for_more : (event : Received) (acts : List Act) (mid : Node) (frames : List SentFrame) (new : Node) → IsEvent node.rests event acts mid.rests
      → StandsAt mid b (all_acts node.budget b (run_of node.budget b stands.acts) acts) (sent ++ frames) → (n : ℕ) (armed : Bool) → 8 ≤ n → Flushed n armed mid new → new.budget ≡ node.budget
      → StandsForRun new b (events ++ event ∷ []) (sent ++ frames) (m + 1)
  stands_for_more event acts mid frames new reads at n armed eight w same = record {
    acts = stands.acts ++ acts ∷ [];
    reads = subst (Reads no_rests (events ++ event ∷ []) (stands.acts ++ acts ∷ [])) (sym w.puts.rests) (reads_push events event no_rests node.rests mid.rests stands.acts acts stands.reads reads);
    finished = omega (arith, stands.finished, length-append events (event ∷ []));
    at = subst (λ (k : ℕ). StandsAt new b (run_of k b (stands.acts ++ acts ∷ [])) (sent ++ frames)) (sym same)
        (subst (λ (t : Run). StandsAt new b t (sent ++ frames)) (sym (run_of_push node.budget b stands.acts acts))
        (stands_finished mid b (all_acts node.budget b (run_of node.budget b stands.acts) acts) (sent ++ frames) at n armed eight new w));
  }

-- a finished event, and what a loss then leaves
pub since_finished : (new : Node) (b : List ℕ) (events : List Received) (sent : List SentFrame) (m : ℕ) (event : Received) (frames : List SentFrame) → StandsForRun new b (events ++ event ∷ []) (sent ++ frames) (m + 1)
    → (from o : Outcome) → Adds (event ∷ []) frames from o → Stands o.words (durable_of new.lines.store) → SafeSince new.budget b events sent (m + 1) from o
since_finished new b events sent m event frames stands from o adds words = record {
  added_events = event ∷ [];
  events_are = adds.events_are;
  added_frames = frames;
  frames_are = adds.frames_are;
  safe = safe_between new b (events ++ event ∷ []) (sent ++ frames) (m + 1) stands o.words (safe_still new b (run_of new.budget b stands.acts) (sent ++ frames) stands.at o.words words);
}
