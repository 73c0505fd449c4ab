-- One act answered: its lines are issued, all are put where it needs that, and then its frames are sent.
use Rattle.std.proofs.Common.{◌≡◌, inl, inr, ℕ, ◌+◌, ◌*◌, ◌≤◌, Bool, List, [], ◌++◌, length, take, Result, Ok, Err, refl, sym, ◌∙◌, ap, subst, arith, append_assoc, append-nil}
use Rattle.std.specs.Prelude.{⊤, IsErrAnd, IfErr, IsTrue, ◌&&◌}
use Rattle.std.proofs.lemmas.List.Sums.{fold-append}
use Rattle.std.proofs.lemmas.Result.{IfErr-weaker}
use Rattle.flash_traits.specs.declared.board.Board.{Ghosts}
use Rattle.flash_traits.specs.Words.{Words}
use Rattle.flash_traits.specs.Losses.{SentFrame, Outcome}
use Rattle.flash_traits.specs.Calls.{Passes}
use Rattle.flash_traits.proofs.Moments.{weaker}
use Rattle.storage_lines.specs.declared.lines.LineWrite.{LineWrite}
use Rattle.storage_lines.specs.Lines.{after, put_line}
use Rattle.sector_image.specs.Stands.{Stands}
use Rattle.param_index.specs.Places.{Places}
use Rattle.block_store.specs.Store.{durable_of, guard_ahead, is_alone, HasSpare}
use Rattle.block_store.specs.Store as store
use Rattle.dirty_lines.specs.Lines.{Lines, current_of}
use Rattle.vehicle_core.specs.declared.orders.Need.{Need}
use Rattle.vehicle_core.specs.declared.orders.Need.TheVariants.{Nothing}
use Rattle.vehicle_core.specs.Vehicle.{Vehicle, is_armed}
use Rattle.vehicle_core.specs.CoreState.{CoreState}
use Rattle.vehicle_core.specs.Acts.{Act, Did, did, nothing}
use Rattle.vehicle_runs.specs.Frames.{Machine, Answer, Delivery, deliveries, counted_all, AreFramesOf}
use Rattle.vehicle_runs.specs.Guard.{CountsUpTo}
use Rattle.vehicle_runs.specs.Safe.{Adds}
use Rattle.vehicle_node.specs.declared.NodeError.{NodeError}
use Rattle.vehicle_node.specs.Refusals.{OnWorn}
use Rattle.vehicle_node.specs.Standing.{Node, Fits, armed_in, ceiling, raised_by}
use Rattle.vehicle_node.specs.Wearing.{Unworn}
use Rattle.vehicle_node.specs.Steps.Calls.{HasSent, IsWornAlone, WornAlone}
use Rattle.vehicle_node.specs.Steps.Inside.{view_of}
use Rattle.vehicle_node.specs.Steps.Answering.{did_at, armed_over, Answering, AnsweredAs, AnswerDone, ActDone, Flushing, SettledAll, SettleDone, IssuedAll, IssueDone}
use Rattle.vehicle_node.specs.Steps.Sending.{SendsPrefix, SentAll, SendDone, answers_to}
use Rattle.vehicle_node.specs.declared.Node.TheInside.{Inside}
use Rattle.vehicle_node.proofs.Wearing.{unworn_none, unworn_then}
use Rattle.vehicle_node.proofs.Putting.{now_stands, now_within}
use Rattle.vehicle_node.proofs.Keeping.{no_wear}
use Rattle.vehicle_node.proofs.Passing.{on_ok, worn_more, passed_on, cut_call, begun, going_on, lists_kept, lists_then, sent_nothing, sent_both}

-- a higher bound
pub counts_more : (n m : ℕ) (row : List ℕ) → n ≤ m → CountsUpTo n row → CountsUpTo m row
counts_more n m row le c = (c.0, c.1, omega (arith, le, c.2))

-- the lines of a batch are counted
pub counted_as : (s : Inside) (mid : Node) (total added n : ℕ) → view_of s ≡ mid → total ≡ raised_by added s.issued → added ≡ n → view_of (record s { issued = total }) ≡ record mid { issued = raised_by n mid.issued }
counted_as s mid total added n is raised same =
    ap (λ (k : ℕ). view_of (record s { issued = k })) (raised ∙ ap (λ (k : ℕ). raised_by k s.issued) same)
    ∙ ap (λ (m : Node). let t : Node = record m { issued = raised_by n m.issued } in t) is

-- ceilings, spare bytes and states are those of the lines
ceilings : (a b : Lines) → a ≡ b → guard_ahead a.store + 2 * length a.pending ≡ guard_ahead b.store + 2 * length b.pending
ceilings a b is = ap (λ (l : Lines). guard_ahead l.store + 2 * length l.pending) is

module _ {B : Type 0} (g : Ghosts B) where
  -- while room is made
  room_made : (need : Need) (old : Node) (writes : List LineWrite) (ds : List Delivery) (s o : Outcome) → Flushing old s o → Answering need writes ds old s o
  room_made need old writes ds s o f = record {
    events = f.events;
    sent = [];
    frames = f.frames ∙ sym (append-nil s.frames);
    first = tt;
    put = f.put;
    rest = f.rest ++ writes;
    split = sym (append_assoc f.put f.rest writes) ∙ ap (λ (l : List LineWrite). l ++ writes) f.split;
    whole = λ all. inl refl;
    stands = f.stands;
    guard = counts_more (ceiling old) (ceiling old + 2 * length writes) o.words.guard (omega arith) f.guard;
  }

  -- the issuing was cut short
  pub issue_short : (need : Need) (armed : Bool) (writes : List LineWrite) (ds : List Delivery) (old : Node) (a : B) (e : NodeError) (r : Result ⊤ NodeError) (new : Node) (b : B)
      → IssueDone g armed writes old a (Err e) new b → IsErrAnd r (λ d. d ≡ e) → AnswerDone g need armed writes ds old a r new b
  issue_short need armed writes ds old a e r new b i err =
      cut_call g (WornAlone g armed (ceiling old + 2 * length writes) old new b) (AnsweredAs g need armed writes ds old a new b) a b e r i err (λ u o now step. room_made need old writes ds u o step)
      (λ worn. worn_more e (IsWornAlone g armed (ceiling old) old new b) (IsWornAlone g armed (ceiling old + 2 * length writes) old new b)
      (λ w. record { unarmed = w.unarmed; next = w.next; reached = λ told. omega (arith, w.reached told) }) worn)

  module _ (reads : (b : B) (o : Outcome) → g.now b o → g.tells b × (o.words ≡ g.words b))
      (need : Need) (armed : Bool) (writes : List LineWrite) (ds : List Delivery) (old : Node) (a : B) (mid counted : Node) (b : B) (i : IssueDone g armed writes old a (Ok tt) mid b)
      (is : counted ≡ record mid { issued = raised_by (length writes) mid.issued }) where
    all : IssuedAll g armed writes old a mid b
    all = i.done

    lines : counted.lines ≡ mid.lines
    lines = ap (λ (n : Node). n.lines) is

    -- while all lines are put
    settling : (s m o : Outcome) → Adds [] [] s m → Flushing counted m o → Answering need writes ds old s o
    settling s m o adds f = record {
      events = f.events ∙ adds.events_are ∙ append-nil s.events;
      sent = [];
      frames = f.frames ∙ adds.frames_are;
      first = tt;
      put = all.issued.put ++ f.put;
      rest = f.rest;
      split = append_assoc all.issued.put f.put f.rest ∙ ap (λ (l : List LineWrite). all.issued.put ++ l) (f.split ∙ ap (λ (l : Lines). l.pending) lines) ∙ all.issued.split;
      whole = λ needs. inl refl;
      stands = subst (Stands o.words)
          (ap (λ (l : Lines). after (durable_of l.store) f.put) lines ∙ ap (λ (l : List ℕ). after l f.put) all.issued.durable ∙ sym (fold-append put_line (durable_of old.lines.store) all.issued.put f.put)) f.stands;
      guard = counts_more (ceiling counted) (ceiling old + 2 * length writes) o.words.guard (omega (arith, ceilings counted.lines mid.lines lines, all.issued.ahead)) f.guard;
    }

    settle_losses : (c : B) → Passes g b c (Flushing counted) (Flushing counted) → Passes g a c (Answering need writes ds old) (Answering need writes ds old)
    settle_losses c second =
        let A = Answering need writes ds old in
        going_on g A [] [] (weaker A A i.losses (λ s o now f. room_made need old writes ds s o f) (λ s o now f. room_made need old writes ds s o f)) all.sent.here second
        (λ s m o was now adds f. settling s m o adds f)

    stops_later : (new : Node) (c : B) (e : NodeError) → WornAlone g armed (ceiling counted) counted new c e → WornAlone g armed (ceiling old + 2 * length writes) old new c e
    stops_later new c e worn =
        worn_more e (IsWornAlone g armed (ceiling counted) counted new c) (IsWornAlone g armed (ceiling old + 2 * length writes) old new c)
        (λ w. record {
          unarmed = w.unarmed;
          next = λ alone. w.next (subst (λ (l : Lines). IsTrue (is_alone l.store)) (sym lines) (all.issued.alone w.unarmed alone));
          reached = λ told. omega (arith, w.reached told, ceilings counted.lines mid.lines lines, all.issued.ahead);
        }) worn

    -- the putting of all lines was cut short
    pub settle_short : (e : NodeError) (r : Result ⊤ NodeError) (new : Node) (c : B) → SettleDone g need armed counted b (Err e) new c → IsErrAnd r (λ d. d ≡ e) → AnswerDone g need armed writes ds old a r new c
    settle_short e r new c s err =
        subst (λ (t : Result ⊤ NodeError). AnswerDone g need armed writes ds old a t new c) (sym (passed_on r e err)) (record {
          losses = settle_losses c s.losses;
          lists = lists_then g a b c i.lists s.lists;
          done = tt;
          stopped = stops_later new c e s.stopped;
        })

    module _ (last : Node) (c : B) (s : SettleDone g need armed counted b (Ok tt) last c) (fits : store.Fits g c last.lines.store) where
      settled : SettledAll g need armed counted b last c
      settled = s.done

      same : last.machine ≡ old.machine
      same = settled.settled.puts.machine ∙ ap (λ (n : Node). n.machine) is ∙ all.issued.machine

      answers_same : answers_to last.machine ds ≡ answers_to old.machine ds
      answers_same = ap (λ (m : Machine). answers_to m ds) same

      put_so_far : List LineWrite
      put_so_far = all.issued.put ++ settled.settled.puts.put

      split_so_far : (all.issued.put ++ settled.settled.puts.put) ++ last.lines.pending ≡ old.lines.pending ++ writes
      split_so_far =
          append_assoc all.issued.put settled.settled.puts.put last.lines.pending
          ∙ ap (λ (l : List LineWrite). all.issued.put ++ l) (settled.settled.puts.split ∙ ap (λ (l : Lines). l.pending) lines) ∙ all.issued.split

      durable_so_far : durable_of last.lines.store ≡ after (durable_of old.lines.store) (all.issued.put ++ settled.settled.puts.put)
      durable_so_far =
          settled.settled.puts.durable ∙ ap (λ (l : Lines). after (durable_of l.store) settled.settled.puts.put) lines
          ∙ ap (λ (l : List ℕ). after l settled.settled.puts.put) all.issued.durable ∙ sym (fold-append put_line (durable_of old.lines.store) all.issued.put settled.settled.puts.put)

      ahead_so_far : ceiling last ≤ ceiling old + 2 * length writes
      ahead_so_far = omega (arith, settled.settled.puts.ahead, ceilings counted.lines mid.lines lines, all.issued.ahead)

      unworn_so_far : (new : Node) → new.lines ≡ last.lines → Unworn armed writes old.lines new.lines
      unworn_so_far new same =
          subst (λ (l : Lines). Unworn armed writes old.lines l) (sym same)
          (subst (λ (l : List LineWrite). Unworn armed l old.lines last.lines) (append-nil writes)
          (unworn_then armed writes [] old.lines mid.lines last.lines all.issued.unworn (subst (λ (l : Lines). Unworn armed [] l last.lines) lines settled.settled.puts.unworn)))

      sent_so_far : HasSent g [] (Adds [] []) a c
      sent_so_far = sent_both g [] [] a b c all.sent settled.sent

      sends : (s m o : Outcome) → g.now c m → Adds [] [] s m → SendsPrefix (answers_to last.machine ds) m o → Answering need writes ds old s o
      sends s m o now added some = record {
        events = some.events ∙ added.events_are ∙ append-nil s.events;
        sent = some.sent;
        frames = some.frames ∙ ap (λ (l : List SentFrame). l ++ some.sent) (added.frames_are ∙ append-nil s.frames);
        first = subst (λ (l : List Answer). AreFramesOf (take (length some.sent) l) some.sent) answers_same some.first;
        put = all.issued.put ++ settled.settled.puts.put;
        rest = last.lines.pending;
        split = split_so_far;
        whole = λ needs. inr (settled.settled.whole needs);
        stands = subst (λ (l : List ℕ). Stands o.words l) durable_so_far
            (subst (λ (w : Words). Stands w (durable_of last.lines.store)) (sym some.words) (now_stands g reads c last.lines.store fits m now));
        guard = counts_more (ceiling last) (ceiling old + 2 * length writes) o.words.guard ahead_so_far
            (subst (λ (w : Words). CountsUpTo (ceiling last) w.guard) (sym some.words) (now_within g reads c last fits m now));
      }

      pub answer_done : (r : Result ⊤ NodeError) (new : Node) (d : B) → SendDone g ds last c r new d → IfErr r (λ e. OnWorn e (λ count. ⊥)) → AnswerDone g need armed writes ds old a r new d
      answer_done r new d t never = record {
        losses = going_on g (Answering need writes ds old) [] [] (settle_losses c s.losses) sent_so_far.here t.losses (λ s m o was now added some. sends s m o now added some);
        lists = lists_then g a c d (lists_then g a b c i.lists s.lists) t.lists;
        done = on_ok r (SentAll g ds last c new d) (AnsweredAs g need armed writes ds old a new d) (λ x. told x) t.done;
        stopped = IfErr-weaker r (λ e. OnWorn e (λ count. ⊥)) (WornAlone g armed (ceiling old + 2 * length writes) old new d) (λ e none. no_wear e _ none) never;
      }
        where
          told : SentAll g ds last c new d → AnsweredAs g need armed writes ds old a new d
          told x = record {
            frames = x.frames;
            answered = record {
              budget = x.sent.budget ∙ settled.settled.puts.budget ∙ ap (λ (n : Node). n.budget) is ∙ all.issued.budget;
              machine = x.sent.machine ∙ ap (λ (m : Machine). counted_all m ds) same;
              rests = x.sent.rests ∙ settled.settled.puts.rests ∙ ap (λ (n : Node). n.rests) is ∙ all.issued.rests;
              put = all.issued.put ++ settled.settled.puts.put;
              split = ap (λ (l : Lines). (all.issued.put ++ settled.settled.puts.put) ++ l.pending) x.sent.lines ∙ split_so_far;
              durable = ap (λ (l : Lines). durable_of l.store) x.sent.lines ∙ durable_so_far;
              few = λ nothing le. ap (λ (l : List LineWrite). l ++ settled.settled.puts.put) (all.issued.few le) ∙ settled.settled.idle nothing;
              whole = λ needs. ap (λ (l : Lines). l.pending) x.sent.lines ∙ settled.settled.whole needs;
              frames_are = subst (λ (l : List Answer). AreFramesOf l x.frames) answers_same x.sent.frames_are;
              frame_count = x.sent.frame_count ∙ ap (λ (n : ℕ). raised_by (length x.frames) n) (settled.settled.puts.frame_count ∙ ap (λ (n : Node). n.frames) is ∙ all.issued.frame_count);
              line_count = x.sent.line_count ∙ settled.settled.puts.line_count ∙ ap (λ (n : Node). n.issued) is ∙ ap (λ (n : ℕ). raised_by (length writes) n) all.issued.line_count;
              ahead = omega (arith, ceilings new.lines last.lines x.sent.lines, ahead_so_far);
              spare = λ armed more has.
                  subst (λ (l : Lines). HasSpare l.store (length l.pending + more)) (sym x.sent.lines)
                  (settled.settled.puts.spare armed more (subst (λ (l : Lines). HasSpare l.store (length l.pending + more)) (sym lines) (all.issued.spare armed more has)));
              alone = λ not given.
                  subst (λ (l : Lines). IsTrue (is_alone l.store)) (sym x.sent.lines)
                  (elim given [
                    | inl alone ↦ settled.settled.puts.alone not (subst (λ (l : Lines). IsTrue (is_alone l.store)) (sym lines) (all.issued.alone not alone))
                    | inr needs ↦ settled.settled.alone needs not
                  ]);
              unworn = unworn_so_far new x.sent.lines;
            };
            sent = record {
              lists = λ e f stood. x.told.lists e f (subst (g.has_lists c e) (append-nil f) (sent_so_far.lists e f stood));
              here = λ o now.
                  let n = x.told.here o now in
                  let m = sent_so_far.here n.from n.was in
                  record {
                    from = m.from;
                    was = m.was;
                    steps = record {
                      events_are = n.steps.events ∙ m.steps.events_are;
                      frames_are = n.steps.frames_are ∙ ap (λ (l : List SentFrame). l ++ x.frames) (m.steps.frames_are ∙ append-nil m.from.frames);
                    };
                  };
              receptions = x.told.receptions ∙ sent_so_far.receptions;
            };
            still = λ armed. record { erases = x.still.erases ∙ (settled.still armed).erases ∙ (all.still armed).erases };
          }

  -- what was answered doesn't say which places are kept
  module _ (need : Need) (armed : Bool) (writes : List LineWrite) (ds : List Delivery) (node : Node) (before : Places) (a : B) (mid : Node) (after_index : Places) (c : B) where
    any_losses : (s o : Outcome) → Answering need writes ds (record node { index = before }) s o → Answering need writes ds node s o
    any_losses s o x = record {
      events = x.events;
      sent = x.sent;
      frames = x.frames;
      first = x.first;
      put = x.put;
      rest = x.rest;
      split = x.split;
      whole = x.whole;
      stands = x.stands;
      guard = x.guard;
    }

    any_answered : AnsweredAs g need armed writes ds (record node { index = before }) a mid c → AnsweredAs g need armed writes ds node a (record mid { index = after_index }) c
    any_answered x = record {
      frames = x.frames;
      answered = record {
        budget = x.answered.budget;
        machine = x.answered.machine;
        rests = x.answered.rests;
        put = x.answered.put;
        split = x.answered.split;
        durable = x.answered.durable;
        few = x.answered.few;
        whole = x.answered.whole;
        frames_are = x.answered.frames_are;
        frame_count = x.answered.frame_count;
        line_count = x.answered.line_count;
        ahead = x.answered.ahead;
        spare = x.answered.spare;
        alone = x.answered.alone;
        unworn = x.answered.unworn;
      };
      sent = x.sent;
      still = x.still;
    }

    pub any_index : (r : Result ⊤ NodeError) → AnswerDone g need armed writes ds (record node { index = before }) a r mid c → AnswerDone g need armed writes ds node a r (record mid { index = after_index }) c
    any_index r d =
        let A = Answering need writes ds node in
        record {
          losses = weaker A A d.losses (λ s o was x. any_losses s o x) (λ s o was x. any_losses s o x);
          lists = d.lists;
          done = on_ok r (AnsweredAs g need armed writes ds (record node { index = before }) a mid c) (AnsweredAs g need armed writes ds node a (record mid { index = after_index }) c) any_answered d.done;
          stopped = IfErr-weaker r (WornAlone g armed (ceiling node + 2 * length writes) (record node { index = before }) mid c) (WornAlone g armed (ceiling node + 2 * length writes) node (record mid { index = after_index }) c)
              (λ e worn. worn_more e (IsWornAlone g armed (ceiling node + 2 * length writes) (record node { index = before }) mid c)
              (IsWornAlone g armed (ceiling node + 2 * length writes) node (record mid { index = after_index }) c)
              (λ w. record { unarmed = w.unarmed; next = w.next; reached = w.reached }) worn) d.stopped;
        }

  -- the same of what a node has inside
  pub act_of : (s : Inside) (node : Node) (act : Act) (core : CoreState) (need : Need) (armed : Bool) (writes : List LineWrite) (a : B) (r : Result ⊤ NodeError) (mid new : Node) (c : B)
      → view_of s ≡ node → core.vehicle ≡ (did_at (view_of s) act).vehicle → need ≡ (did_at (view_of s) act).need → armed ≡ armed_over (view_of s) act → writes ≡ (did_at (view_of s) act).writes
      → AnswerDone g need armed writes (deliveries core.vehicle (did_at (view_of s) act).told) (view_of (record s { core = core })) a r mid c
      → new ≡ record mid { index = new.index } → ActDone g node a act r new c
  act_of s node act core need armed writes a r mid new c is vehicle needs over lines done same =
      let old = view_of s in
      let told = (did_at old act).told in
      let at : Vehicle → Node = λ v. record (view_of s) { machine = record (view_of s).machine { vehicle = v } } in
      subst (λ (n : Node). ActDone g node a act r n c) (sym same)
      (subst (λ (n : Node). ActDone g n a act r (record mid { index = new.index }) c) is
      (subst (λ (v : Vehicle). AnswerDone g (did_at old act).need (armed_over old act) (did_at old act).writes (deliveries v told) (at v) a r (record mid { index = new.index }) c) vehicle
      (any_index (did_at old act).need (armed_over old act) (did_at old act).writes (deliveries core.vehicle told) (at core.vehicle) core.index a mid new.index c r
      (subst (λ (l : List LineWrite). AnswerDone g (did_at old act).need (armed_over old act) l (deliveries core.vehicle told) (view_of (record s { core = core })) a r mid c) lines
      (subst (λ (b : Bool). AnswerDone g (did_at old act).need b writes (deliveries core.vehicle told) (view_of (record s { core = core })) a r mid c) over
      (subst (λ (n : Need). AnswerDone g n armed writes (deliveries core.vehicle told) (view_of (record s { core = core })) a r mid c) needs done))))))

module _ {B : Type 0} (g : Ghosts B) (reads : (b : B) (o : Outcome) → g.now b o → g.tells b × (o.words ≡ g.words b)) where
  answer_nothing : (node : Node) (armed : Bool) (board : B) → store.Fits g board node.lines.store → AnswerDone g Nothing armed [] [] node board (Ok tt) node board
  answer_nothing node armed board fits = record {
    losses = begun g board (Answering Nothing [] [] node) (λ o is. record {
      events = refl;
      sent = [];
      frames = sym (append-nil o.frames);
      first = tt;
      put = [];
      rest = node.lines.pending;
      split = sym (append-nil node.lines.pending);
      whole = λ all. inl refl;
      stands = now_stands g reads board node.lines.store fits o is;
      guard = counts_more (ceiling node) (ceiling node + 2 * 0) o.words.guard (omega arith) (now_within g reads board node fits o is);
    });
    lists = lists_kept g board board (λ e f stood. stood);
    done = record {
      frames = [];
      answered = record {
        budget = refl;
        machine = refl;
        rests = refl;
        put = [];
        split = sym (append-nil node.lines.pending);
        durable = refl;
        few = λ nothing le. refl;
        whole = λ all. absurd (cc);
        frames_are = tt;
        frame_count = omega arith;
        line_count = omega arith;
        ahead = omega arith;
        spare = λ is more has. omega (arith, has);
        alone = λ not given. elim given [ inl alone ↦ alone | inr all ↦ absurd (cc) ];
        unworn = unworn_none armed node.lines;
      };
      sent = sent_nothing g board;
      still = λ is. record { erases = refl };
    };
    stopped = tt;
  }

  -- an act of which nothing comes is done by doing nothing
  pub act_nothing : (node : Node) (act : Act) (board : B) → Fits g board node → did_at node act ≡ nothing node.machine.vehicle → ActDone g node board act (Ok tt) node board
  act_nothing node act board fits is =
      subst (λ (d : Did). AnswerDone g d.need (armed_in node && is_armed d.vehicle) d.writes (deliveries d.vehicle d.told) (record node { machine = record node.machine { vehicle = d.vehicle } }) board (Ok tt) node board) (sym is)
      (answer_nothing node (armed_in node && armed_in node) board fits.store)

-- the same of what a node has inside
pub did_nothing : (s : Inside) (node : Node) (act : Act) → view_of s ≡ node → ((budget : ℕ) (bytes : List ℕ) → did budget bytes s.core.vehicle act ≡ nothing s.core.vehicle) → did_at node act ≡ nothing node.machine.vehicle
did_nothing s node act is none = subst (λ (n : Node). did_at n act ≡ nothing n.machine.vehicle) is (none s.budget (current_of s.lines))
