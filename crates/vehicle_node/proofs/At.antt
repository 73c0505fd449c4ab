-- From what a call leaves to what is safe in a run.
use Rattle.std.proofs.Common.{◌≡◌, ◌⊎◌, inl, inr, Bool, ℕ, ◌+◌, ◌≤◌, min, max, List, [], ◌∷◌, ◌++◌, length, take, refl, sym, ◌∙◌, ap, subst, arith, append_assoc, length-append}
use Rattle.std.proofs.lemmas.List.{take_at, take_all}
use Rattle.flash_traits.specs.Words.{Words}
use Rattle.flash_traits.specs.Losses.{Received, SentFrame, Outcome}
use Rattle.storage_lines.specs.declared.lines.LineWrite.{LineWrite}
use Rattle.storage_lines.specs.Lines.{after}
use Rattle.sector_image.specs.Stands.{Stands}
use Rattle.block_store.specs.Store.{durable_of}
use Rattle.dirty_lines.specs.Lines.{current_of}
use Rattle.vehicle_core.specs.declared.orders.Need.TheVariants.{FlushAll}
use Rattle.vehicle_core.specs.Acts.{Act, Did, did}
use Rattle.vehicle_runs.specs.Frames.{Machine, Answer, Delivery, AreFramesOf, acknowledged, deliveries, numbered, counted_all}
use Rattle.vehicle_runs.specs.Reading.{IsEvent, no_rests}
use Rattle.vehicle_runs.specs.Runs.{Run, did_in, take_act, act_done, all_acts, finish, run_of, floor_of}
use Rattle.vehicle_runs.specs.Safe.{SafeAt, Safe}
use Rattle.vehicle_runs.proofs.RunLaws.{run_of_push, floor_of_le, after-append, answers_in, Extends, extends_finish, safe_extends, safe_lower, safe_by, frames_long, all_answers, all_sent, first_answers, first_sent, frames-append}
use Rattle.vehicle_runs.proofs.Orders.{did_acknowledges}
use Rattle.vehicle_runs.proofs.Acknowledging.{acknowledged-append, acknowledged_first, acknowledged_most, none_acknowledged}
use Rattle.vehicle_runs.proofs.Readings.{reads_push, reads_long}
use Rattle.vehicle_node.specs.Standing.{Node, StandsAt, StandsForRun, counts, raised_by}
use Rattle.vehicle_node.specs.Steps.Answering.{did_at, deliveries_at, node_after, armed_over, Answered, Answering, Flushed}
use Rattle.vehicle_node.proofs.FramesSent.{frames_any, first_any}

-- a count that stands still at its end, raised in two steps
raised_twice : (top n k : ℕ) → min (min n top + k) top ≡ min (n + k) top
raised_twice top n k = omega arith

counts_more : (old new n k : ℕ) → old ≡ counts n → new ≡ raised_by k old → new ≡ counts (n + k)
counts_more old new n k before now = omega (arith, before, now)

module _ (node : Node) (b : List ℕ) (r : Run) (sent : List SentFrame) (at : StandsAt node b r sent) where
  -- what the node has put, with some lines more
  put_more : (words : Words) (put : List LineWrite) → Stands words (after (durable_of node.lines.store) put) → Stands words (after b (at.put ++ put))
  put_more words put stands = subst (Stands words) (ap (λ (l : List ℕ). after l put) at.durable ∙ sym (after-append b at.put put)) stands

  -- a prefix of the pending lines is put
  pub safe_put : (put rest : List LineWrite) (words : Words) → put ++ rest ≡ node.lines.pending → Stands words (after (durable_of node.lines.store) put) → SafeAt b r r.floor sent words
  safe_put put rest words split stands =
      safe_by b r r.floor sent words (at.put ++ put) rest (all_sent r.answers sent at.sent)
      (append_assoc at.put put rest ∙ ap (λ (l : List LineWrite). at.put ++ l) split ∙ at.split)
      (omega (arith, at.enough, length-append at.put put, ap acknowledged (all_answers r.answers sent at.sent)))
      (put_more words put stands)

  -- nothing more is put
  pub safe_still : (words : Words) → Stands words (durable_of node.lines.store) → SafeAt b r r.floor sent words
  safe_still words stands = safe_put [] node.lines.pending words refl stands

  pub current_is : current_of node.lines ≡ after b r.issued
  current_is = ap (λ (l : List ℕ). after l node.lines.pending) at.durable ∙ sym (after-append b at.put node.lines.pending) ∙ ap (after b) at.split

  -- what the node does is what the run does
  pub did_is : (act : Act) → did_at node act ≡ did_in node.budget b r act
  did_is act = ap (λ (m : Machine). did node.budget (current_of node.lines) m.vehicle act) at.machine ∙ ap (λ (l : List ℕ). did node.budget l r.machine.vehicle act) current_is

  module _ (act : Act) where
    -- the machine once the act is taken, and its deliveries
    machine_is : (node_after node act).machine ≡ (take_act node.budget b r act).machine
    machine_is =
        ap (λ (d : Did). let m : Machine = record { vehicle = d.vehicle; sequences = node.machine.sequences } in m) (did_is act)
        ∙ ap (λ (m : Machine). let n : Machine = record { vehicle = (did_in node.budget b r act).vehicle; sequences = m.sequences } in n) at.machine

    ds_are : deliveries_at node act ≡ deliveries (did_in node.budget b r act).vehicle (did_in node.budget b r act).told
    ds_are = ap (λ (d : Did). deliveries d.vehicle d.told) (did_is act)

    act_answers : numbered (length (take_act node.budget b r act).issued) (node_after node act).machine (deliveries_at node act) ≡ answers_in node.budget b r act
    act_answers =
        ap (λ (m : Machine). numbered (length (take_act node.budget b r act).issued) m (deliveries_at node act)) machine_is
        ∙ ap (λ (ds : List Delivery). numbered (length (take_act node.budget b r act).issued) (take_act node.budget b r act).machine ds) ds_are

    act_split : (put rest : List LineWrite) → put ++ rest ≡ node.lines.pending ++ (did_at node act).writes → (at.put ++ put) ++ rest ≡ r.issued ++ (did_in node.budget b r act).writes
    act_split put rest is =
        append_assoc at.put put rest
        ∙ ap (λ (l : List LineWrite). at.put ++ l) (is ∙ ap (λ (d : Did). node.lines.pending ++ d.writes) (did_is act))
        ∙ sym (append_assoc at.put node.lines.pending (did_in node.budget b r act).writes)
        ∙ ap (λ (l : List LineWrite). l ++ (did_in node.budget b r act).writes) at.split

    -- no storage acknowledgement is sent before all lines are put
    act_acknowledged : (put rest : List LineWrite) (count : ℕ) → put ++ rest ≡ node.lines.pending ++ (did_at node act).writes
        → ((did_at node act).need ≡ FlushAll → count ≡ 0 ⊎ rest ≡ []) → acknowledged (take count (answers_in node.budget b r act)) ≤ length (at.put ++ put)
    act_acknowledged put rest count is whole =
        let d = did_in node.budget b r act in
        let most = acknowledged_first count (answers_in node.budget b r act) in
        elim (did_acknowledges node.budget (after b r.issued) r.machine.vehicle act) [
          | inl all ↦ elim (whole (ap (λ (d : Did). d.need) (did_is act) ∙ all)) [
            | inl none ↦ omega (arith, ap (λ (n : ℕ). acknowledged (take n (answers_in node.budget b r act))) none)
            | inr empty ↦ omega (
              arith,
              most,
              acknowledged_most (length (take_act node.budget b r act).issued) (take_act node.budget b r act).machine (deliveries d.vehicle d.told),
              ap length (act_split put rest is),
              length-append (at.put ++ put) rest,
              ap length empty,
            )
          ]
          | inr none ↦ omega (arith, most, none_acknowledged (length (take_act node.budget b r act).issued) (take_act node.budget b r act).machine d.vehicle d.told none)
        ]

    -- in the middle of an answer
    pub safe_answering : (from o : Outcome) → (a : Answering (did_at node act).need (did_at node act).writes (deliveries_at node act) (node_after node act) from o)
        → SafeAt b (act_done node.budget b r act) r.floor (sent ++ a.sent) o.words
    safe_answering from o a =
        safe_by b (act_done node.budget b r act) r.floor (sent ++ a.sent) o.words (at.put ++ a.put) a.rest
        (first_sent r.answers (answers_in node.budget b r act) sent a.sent at.sent
        (subst (λ (l : List Answer). AreFramesOf (take (length a.sent) l) a.sent) act_answers
        (first_any (length (take_act node.budget b r act).issued) (node_after node act).machine (deliveries_at node act) a.sent a.first)))
        (act_split a.put a.rest a.split)
        (omega (
          arith,
          at.enough,
          length-append at.put a.put,
          ap acknowledged (first_answers r.answers (answers_in node.budget b r act) sent a.sent at.sent),
          acknowledged-append r.answers (take (length a.sent) (answers_in node.budget b r act)),
          act_acknowledged a.put a.rest (length a.sent) a.split (λ all. elim (a.whole all) [ inl none ↦ inl (ap length none) | inr empty ↦ inr empty ]),
        ))
        (put_more o.words a.put a.stands)

    -- and after it
    pub stands_answered : (frames : List SentFrame) (new : Node) → Answered (did_at node act).need (armed_over node act) (did_at node act).writes (deliveries_at node act) (node_after node act) frames new
        → StandsAt new b (act_done node.budget b r act) (sent ++ frames)
    stands_answered frames new a = record {
      machine = a.machine ∙ ap (λ (m : Machine). counted_all m (deliveries_at node act)) machine_is
          ∙ ap (λ (ds : List Delivery). counted_all (take_act node.budget b r act).machine ds) ds_are;
      sent = frames-append r.answers (answers_in node.budget b r act) sent frames at.sent are;
      put = at.put ++ a.put;
      split = act_split a.put new.lines.pending a.split;
      durable = a.durable ∙ ap (λ (l : List ℕ). after l a.put) at.durable ∙ sym (after-append b at.put a.put);
      enough = omega (
        arith,
        at.enough,
        length-append at.put a.put,
        acknowledged-append r.answers (answers_in node.budget b r act),
        act_acknowledged a.put new.lines.pending (length (answers_in node.budget b r act)) a.split (λ all. inr (a.whole all)),
        ap acknowledged (take_all (length (answers_in node.budget b r act)) (answers_in node.budget b r act) (omega arith)),
      );
      frame_count = counts_more node.frames new.frames (length sent) (length frames) at.frame_count a.frame_count ∙ ap counts (sym (length-append sent frames));
      line_count = counts_more node.issued new.issued (length r.issued) (length (did_at node act).writes) at.line_count a.line_count
          ∙ ap counts (ap (λ (d : Did). length r.issued + length d.writes) (did_is act) ∙ sym (length-append r.issued (did_in node.budget b r act).writes));
    }
      where
        are : AreFramesOf (answers_in node.budget b r act) frames
        are = subst (λ (l : List Answer). AreFramesOf l frames) act_answers
            (frames_any (length (take_act node.budget b r act).issued) (node_after node act).machine (deliveries_at node act) frames a.frames_are)

  -- nothing that the run speaks of has changed
  pub stands_same : (rests : List (List ℕ)) → StandsAt (record node { rests = rests }) b r sent
  stands_same rests = record {
    machine = at.machine;
    sent = at.sent;
    put = at.put;
    split = at.split;
    durable = at.durable;
    enough = at.enough;
    frame_count = at.frame_count;
    line_count = at.line_count;
  }

  -- the flush at an event's end
  pub stands_finished : (n : ℕ) (armed : Bool) → 8 ≤ n → (new : Node) → Flushed n armed node new → StandsAt new b (finish r) sent
  stands_finished n armed eight new w = record {
    machine = w.puts.machine ∙ at.machine;
    sent = at.sent;
    put = at.put ++ w.puts.put;
    split = append_assoc at.put w.puts.put new.lines.pending ∙ ap (λ (l : List LineWrite). at.put ++ l) w.puts.split ∙ at.split;
    durable = w.puts.durable ∙ ap (λ (l : List ℕ). after l w.puts.put) at.durable ∙ sym (after-append b at.put w.puts.put);
    enough = enough w.enough;
    frame_count = w.puts.frame_count ∙ at.frame_count;
    line_count = w.puts.line_count ∙ at.line_count;
  }
    where
      enough : (n ≤ length w.puts.put ⊎ new.lines.pending ≡ []) → max (min (length r.issued) (max r.floor (acknowledged r.answers) + 8)) (acknowledged r.answers) ≤ length (at.put ++ w.puts.put)
      enough (inl some) = omega (arith, some, eight, at.enough, length-append at.put w.puts.put)
      enough (inr none) =
          omega (
            arith,
            at.enough,
            ap length none,
            ap length w.puts.split,
            ap length at.split,
            length-append at.put w.puts.put,
            length-append at.put node.lines.pending,
            length-append w.puts.put new.lines.pending,
          )

module _ (node : Node) (b : List ℕ) (events : List Received) (sent : List SentFrame) (m : ℕ) (stands : StandsForRun node b events sent m) where
  all_taken : take m stands.acts ≡ stands.acts
  all_taken = take_all m stands.acts (omega (arith, stands.finished, reads_long events no_rests node.rests stands.acts stands.reads))

  -- between two events
  pub safe_between : (words : Words) → SafeAt b (run_of node.budget b stands.acts) (run_of node.budget b stands.acts).floor sent words → Safe node.budget b events sent m words
  safe_between words a = record {
    acts = stands.acts;
    rests = node.rests;
    reads = stands.reads;
    count = inl stands.finished;
    finished = omega (arith, ap (λ (l : List (List Act)). length (run_of node.budget b l).answers) all_taken, frames_long (run_of node.budget b stands.acts).answers sent stands.at.sent);
    at = safe_lower b (run_of node.budget b stands.acts) (floor_of node.budget b stands.acts m) (run_of node.budget b stands.acts).floor sent words
        (omega (arith, floor_of_le node.budget b stands.acts m, ap (λ (l : List (List Act)). (run_of node.budget b l).floor) all_taken)) a;
  }

  -- inside the next
  pub safe_inside : (event : Received) (ps : List Act) (new : List (List ℕ)) (s : Run) (added : List SentFrame) (words : Words) → IsEvent node.rests event ps new
      → Extends s (all_acts node.budget b (run_of node.budget b stands.acts) ps) → SafeAt b s (run_of node.budget b stands.acts).floor (sent ++ added) words
      → Safe node.budget b (events ++ event ∷ []) (sent ++ added) m words
  safe_inside event ps new s added words reads x a = record {
    acts = stands.acts ++ ps ∷ [];
    rests = new;
    reads = reads_push events event no_rests node.rests new stands.acts ps stands.reads reads;
    count = inr (omega (arith, stands.finished, length-append events (event ∷ [])));
    finished = omega (arith, ap (λ (l : List (List Act)). length (run_of node.budget b l).answers) taken, frames_long (run_of node.budget b stands.acts).answers sent stands.at.sent, length-append sent added);
    at = safe_lower b (run_of node.budget b (stands.acts ++ ps ∷ [])) (floor_of node.budget b (stands.acts ++ ps ∷ []) m) (run_of node.budget b stands.acts).floor (sent ++ added) words
        (omega (arith, floor_of_le node.budget b (stands.acts ++ ps ∷ []) m, ap (λ (l : List (List Act)). (run_of node.budget b l).floor) taken))
        (subst (λ (t : Run). SafeAt b t (run_of node.budget b stands.acts).floor (sent ++ added) words) (sym (run_of_push node.budget b stands.acts ps))
        (safe_extends b s (finish (all_acts node.budget b (run_of node.budget b stands.acts) ps)) (run_of node.budget b stands.acts).floor (sent ++ added) words a
        (extends_finish s (all_acts node.budget b (run_of node.budget b stands.acts) ps) x)));
  }
    where
      taken : take m (stands.acts ++ ps ∷ []) ≡ stands.acts
      taken = take_at stands.acts (ps ∷ []) m (reads_long events no_rests node.rests stands.acts stands.reads ∙ sym stands.finished)
