-- The acts of an event, one after another.
use Rattle.std.proofs.Common.{◌≡◌, inl, inr, Bool, true, false, ℕ, ◌+◌, ◌*◌, ◌<◌, ◌≤◌, List, [], ◌∷◌, ◌++◌, length, map, take, drop, take-append-drop, refl, sym, ◌∙◌, ap, subst, arith, append_assoc, append-nil, length-append, Option, Some, None, Result, Ok, Err}
use Rattle.std.specs.Prelude.{⊤, IsErrAnd, ◌&&◌}
use Rattle.std.specs.Option.{option_map_or}
use Rattle.std.proofs.lemmas.Bool.{cases_Bool, and_from, and_right}
use Rattle.std.proofs.lemmas.List.{take_more}
use Rattle.std.proofs.lemmas.List.FromFn.{get_or-map-range_with_len}
use Rattle.std.proofs.lemmas.Result.{IfErr-weaker}
use Rattle.flash_traits.specs.declared.board.Board.{Ghosts}
use Rattle.flash_traits.specs.declared.numbers.TheConstants.{GUARD_HALFWORDS}
use Rattle.flash_traits.specs.Losses.{SentFrame, Outcome}
use Rattle.flash_traits.proofs.Moments.{weaker}
use Rattle.storage_lines.specs.declared.lines.LineWrite.{LineWrite}
use Rattle.sector_image.specs.Stands.{Stands}
use Rattle.block_store.specs.Store.{durable_of}
use Rattle.block_store.specs.Store as store
use Rattle.dirty_lines.specs.Lines.{current_of}
use Rattle.vehicle_core.specs.declared.orders.Need.TheVariants.{Nothing, FlushAll}
use Rattle.vehicle_core.specs.declared.orders.Order.{Order}
use Rattle.vehicle_core.specs.declared.orders.Order.TheVariants.{Flush, Arm, Disarm, Deny, Refuse}
use Rattle.vehicle_core.specs.Orders.{need_of}
use Rattle.vehicle_core.specs.Vehicle.{Vehicle, is_armed}
use Rattle.vehicle_core.specs.Acts.{Act, Did}
use Rattle.vehicle_runs.specs.Arming.{order_heard, need_in, NoneFlushes, armed_by, is_armed_after, is_armed_after_all, IsArmedThroughout, IsArmedOnce}
use Rattle.vehicle_runs.specs.Frames.{Machine, stations}
use Rattle.vehicle_runs.specs.Guard.{CountsUpTo}
use Rattle.vehicle_runs.specs.Runs.{Run, act_done, all_acts, did_in}
use Rattle.vehicle_runs.specs.Safe.{SafeAt, Adds}
use Rattle.vehicle_runs.proofs.RunLaws.{all_acts_floor, all_acts-append, Extends, extends_more, safe_extends}
use Rattle.vehicle_runs.proofs.Orders.{did_arms, did_needs, armed-append, once_before, once_after, throughout_before, throughout_after, none_before, none_after}
use Rattle.vehicle_node.specs.declared.NodeError.{NodeError}
use Rattle.vehicle_node.specs.declared.TheConstants.{ROOM_FROM}
use Rattle.vehicle_node.specs.Standing.{Node, IsAloneUnlessArmed, StandsAt, armed_in, ceiling, raised_by}
use Rattle.vehicle_node.specs.Wearing.{Unworn, ActsUnworn}
use Rattle.vehicle_node.specs.Steps.Calls.{IsWornAlone, WornAlone, IsWornWhere, WornWhere}
use Rattle.vehicle_node.specs.Steps.Answering.{did_at, deliveries_at, node_after, armed_over, Answering, AnsweredAs, ActDone}
use Rattle.vehicle_node.specs.Steps.Hearing.{StandsBelow, SafeInside, SafeIn, AnsweredAll, ActsAnswered, ActsDone, MayWearIn}
use Rattle.vehicle_node.proofs.At.{did_is, safe_still, safe_answering, stands_answered}
use Rattle.vehicle_node.proofs.FramesSent.{raised-more, counted-vehicle}
use Rattle.vehicle_node.proofs.Wearing.{acts_unworn}
use Rattle.vehicle_node.proofs.Putting.{now_stands, now_within}
use Rattle.vehicle_node.proofs.ActAnswers.{counts_more}
use Rattle.vehicle_node.proofs.Passing.{on_ok, worn_more, cut_call, begun, going_on, lists_kept, lists_then, sent_nothing, sent_both}

-- what is safe inside an event
pub inside_more : (limit : ℕ) (b : List ℕ) (r s : Run) (floor : ℕ) (sent : List SentFrame) (from o : Outcome) → Extends r s → SafeInside limit b r floor sent from o → SafeInside limit b s floor sent from o
inside_more limit b r s floor sent from o x a = record {
  events_are = a.events_are;
  added_frames = a.added_frames;
  frames_are = a.frames_are;
  safe = safe_extends b r s floor (sent ++ a.added_frames) o.words a.safe x;
  guard = counts_more (limit + 2 * length r.issued) (limit + 2 * length s.issued) o.words.guard (omega (arith, ap length x.issued.whole, length-append r.issued x.issued.rest)) a.guard;
}

pub inside_still : (node : Node) (limit : ℕ) (b : List ℕ) (r : Run) (sent : List SentFrame) → StandsBelow limit node b r sent → (o : Outcome) → Stands o.words (durable_of node.lines.store) → CountsUpTo (ceiling node) o.words.guard
    → SafeInside limit b r r.floor sent o o
inside_still node limit b r sent s o stands guard = record {
  events_are = refl;
  added_frames = [];
  frames_are = sym (append-nil o.frames);
  safe = subst (λ (l : List SentFrame). SafeAt b r r.floor l o.words) (sym (append-nil sent)) (safe_still node b r sent s.at o.words stands);
  guard = counts_more (ceiling node) (limit + 2 * length r.issued) o.words.guard s.ahead guard;
}

pub inside_answering : (node : Node) (limit : ℕ) (b : List ℕ) (r : Run) (sent : List SentFrame) (act : Act) → StandsBelow limit node b r sent → (from o : Outcome)
    → Answering (did_at node act).need (did_at node act).writes (deliveries_at node act) (node_after node act) from o → SafeInside limit b (act_done node.budget b r act) r.floor sent from o
inside_answering node limit b r sent act s from o a = record {
  events_are = a.events;
  added_frames = a.sent;
  frames_are = a.frames;
  safe = safe_answering node b r sent s.at act from o a;
  guard = counts_more (ceiling node + 2 * length (did_at node act).writes) (limit + 2 * length (r.issued ++ (did_in node.budget b r act).writes)) o.words.guard
      (omega (arith, s.ahead, length-append r.issued (did_in node.budget b r act).writes, ap (λ (d : Did). length d.writes) (did_is node b r sent s.at act))) a.guard;
}

-- after acts that were answered
pub inside_later : (limit : ℕ) (b : List ℕ) (r s : Run) (floor : ℕ) (sent frames : List SentFrame) (from mid o : Outcome) → r.floor ≡ floor → Adds [] frames from mid → SafeInside limit b s r.floor (sent ++ frames) mid o → SafeInside limit b s floor sent from o
inside_later limit b r s floor sent frames from mid o same adds a = record {
  events_are = a.events_are ∙ adds.events_are ∙ append-nil from.events;
  added_frames = frames ++ a.added_frames;
  frames_are = a.frames_are ∙ ap (λ (l : List SentFrame). l ++ a.added_frames) adds.frames_are ∙ append_assoc from.frames frames a.added_frames;
  safe = subst (λ (n : ℕ). SafeAt b s n (sent ++ (frames ++ a.added_frames)) o.words) same
      (subst (λ (l : List SentFrame). SafeAt b s r.floor l o.words) (append_assoc sent frames a.added_frames) a.safe);
  guard = a.guard;
}

-- more acts issue no fewer lines
pub wears_more : (node : Node) (ps qs : List Act) → MayWearIn node ps → MayWearIn node (ps ++ qs)
wears_more node ps qs wears limit b r sent s =
    let x = extends_more node.budget b r ps qs in
    omega (arith, wears limit b r sent s, ap length x.issued.whole, length-append (all_acts node.budget b r ps).issued x.issued.rest)

empty_front : (xs ys : List LineWrite) → xs ≡ [] → xs ++ ys ≡ ys
empty_front xs ys none = ap (λ (l : List LineWrite). l ++ ys) none

both_put : (put more mid last pending issued later : List LineWrite) → put ++ mid ≡ pending ++ issued → more ++ last ≡ mid ++ later → (put ++ more) ++ last ≡ pending ++ (issued ++ later)
both_put put more mid last pending issued later first second =
    append_assoc put more last
    ∙ ap (λ (l : List LineWrite). put ++ l) second
    ∙ sym (append_assoc put mid later)
    ∙ ap (λ (l : List LineWrite). l ++ later) first
    ∙ append_assoc pending issued later

raised_none : (n : ℕ) → n ≡ raised_by 0 n
raised_none n = omega arith

-- who is armed and isn't after an act was ordered to disarm
disarm_needs : (order : Option Order) → option_map_or (armed_by true) order true ≡ false → option_map_or need_of order Nothing ≡ FlushAll
disarm_needs None not = absurd (cc)
disarm_needs (Some Flush) not = absurd (cc)
disarm_needs (Some Arm) not = absurd (cc)
disarm_needs (Some Disarm) not = refl
disarm_needs (Some Deny) not = absurd (cc)
disarm_needs (Some Refuse) not = absurd (cc)

act_needs : (armed : Bool) (act : Act) → armed ≡ true → is_armed_after armed act ≡ false → need_in act ≡ FlushAll
act_needs armed act is not = disarm_needs (order_heard act) (sym (ap (λ (b : Bool). is_armed_after b act) is) ∙ not)

module _ {B : Type 0} (g : Ghosts B) where
  -- where the vehicle was armed or lines enough were issued, of later acts
  pub worn_later : (old mid : Node) (P Q : Type 0) {L M : Type 0} (new : Node) (last : B) (e : NodeError) → (IsAloneUnlessArmed old → IsAloneUnlessArmed mid) → (P → Q) → (L → M)
      → WornWhere g mid P L new last e → WornWhere g old Q M new last e
  worn_later old mid P Q {L} {M} new last e alone more lines worn =
      worn_more e (IsWornWhere g mid P L new last) (IsWornWhere g old Q M new last)
      (λ w. record {
        next = λ unless. elim (w.next (alone unless)) [ inl next ↦ inl next | inr p ↦ inr (more p) ];
        lines = λ told. lines (w.lines told);
      }) worn

  pub answered_none : (node : Node) (board : B) → AnsweredAll g node board [] node board
  answered_none node board = record {
    frames = [];
    sent = sent_nothing g board;
    stands = λ b r sent at. subst (StandsAt node b r) (sym (append-nil sent)) at;
    issued = [];
    grew = λ b r sent at. sym (append-nil r.issued);
    counted = raised_none node.issued;
    put = [];
    split = sym (append-nil node.lines.pending);
    few = λ none few. refl;
    ahead = omega arith;
    budget = refl;
    armed = refl;
    alone = λ unless. unless;
    still = λ throughout. record { erases = refl };
    unworn = (refl, refl);
  }

  module _ (old : Node) (board : B) (act : Act) where
    arms : is_armed (did_at old act).vehicle ≡ is_armed_after (armed_in old) act
    arms = did_arms old.budget (current_of old.lines) old.machine.vehicle act

    needs : (did_at old act).need ≡ need_in act
    needs = did_needs old.budget (current_of old.lines) old.machine.vehicle act

    pub answered_one : (new : Node) (last : B)
        → AnsweredAs g (did_at old act).need (armed_over old act) (did_at old act).writes (deliveries_at old act) (node_after old act) board new last
        → AnsweredAll g old board (act ∷ []) new last
    answered_one new last a = record {
      frames = a.frames;
      sent = a.sent;
      stands = λ b r sent at. stands_answered old b r sent at act a.frames new a.answered;
      issued = (did_at old act).writes;
      grew = λ b r sent at. ap (λ (e : Did). r.issued ++ e.writes) (sym (did_is old b r sent at act));
      counted = a.answered.line_count;
      put = a.answered.put;
      split = a.answered.split;
      few = λ none few. a.answered.few (needs ∙ none.0) (omega (arith, few));
      ahead = a.answered.ahead;
      budget = a.answered.budget;
      armed = after;
      alone = λ unless not.
          let gone : is_armed (did_at old act).vehicle ≡ false = arms ∙ sym after ∙ not in
          let over : armed_over old act ≡ false = and_right (armed_in old) (is_armed (did_at old act).vehicle) gone in
          elim (cases_Bool (armed_in old)) [
            | inl is ↦ a.answered.alone over (inr (needs ∙ act_needs (armed_in old) act is (sym after ∙ not)))
            | inr off ↦ a.answered.alone over (inl (unless off))
          ];
      still = λ throughout. a.still (and_from (armed_in old) (is_armed (did_at old act).vehicle) throughout.0 (arms ∙ throughout.1));
      unworn = (
        (did_at old act).writes,
        [],
        new.lines,
        sym (append-nil (did_at old act).writes),
        record {
          unworn = subst (λ (b : Bool). Unworn (armed_in old && b) (did_at old act).writes old.lines new.lines) arms a.answered.unworn;
          whole = λ all. a.answered.whole (needs ∙ all);
        },
        (refl, refl),
      );
    }
      where
        after : armed_in new ≡ is_armed_after (armed_in old) act
        after = ap (λ (m : Machine). is_armed m.vehicle) a.answered.machine
            ∙ ap (λ (v : Vehicle). is_armed v) (counted-vehicle (node_after old act).machine (deliveries_at old act)) ∙ arms

    -- where the act finds the guard row used up, the vehicle was armed before it unless home lacks room
    pub worn_one : (new : Node) (last : B) (e : NodeError) → WornAlone g (armed_over old act) (ceiling old + 2 * length (did_at old act).writes) (node_after old act) new last e
        → WornWhere g old (IsArmedOnce (armed_in old) (act ∷ [])) (MayWearIn old (act ∷ [])) new last e
    worn_one new last e worn =
        worn_more e (IsWornAlone g (armed_over old act) (ceiling old + 2 * length (did_at old act).writes) (node_after old act) new last)
        (IsWornWhere g old (IsArmedOnce (armed_in old) (act ∷ [])) (MayWearIn old (act ∷ [])) new last)
        (λ w. record {
          next = λ unless. elim (cases_Bool (armed_in old)) [ inl is ↦ inr (inl is) | inr off ↦ inl (w.next (unless off)) ];
          lines = λ told limit b r sent s.
              let enough : GUARD_HALFWORDS ≤ limit + 2 * length (r.issued ++ (did_in old.budget b r act).writes) =
              omega (arith, w.reached told, s.ahead, length-append r.issued (did_in old.budget b r act).writes, ap (λ (d : Did). length d.writes) (did_is old b r sent s.at act)) in
              enough;
        }) worn

  -- acts of which nothing comes were answered
  pub answered_then : (old : Node) (board : B) (ps : List Act) (mid : Node) (mid_board : B) (qs : List Act) (new : Node) (last : B)
      → AnsweredAll g old board ps mid mid_board → AnsweredAll g mid mid_board qs new last → AnsweredAll g old board (ps ++ qs) new last
  answered_then old board ps mid mid_board qs new last first second = record {
    frames = first.frames ++ second.frames;
    sent = sent_both g first.frames second.frames board mid_board last first.sent second.sent;
    stands = λ b r sent at.
        subst (λ (s : Run). StandsAt new b s (sent ++ (first.frames ++ second.frames))) (goes_on b r)
        (subst (StandsAt new b (all_acts mid.budget b (all_acts old.budget b r ps) qs)) (append_assoc sent first.frames second.frames)
        (second.stands b (all_acts old.budget b r ps) (sent ++ first.frames) (first.stands b r sent at)));
    issued = first.issued ++ second.issued;
    grew = λ b r sent at.
        ap (λ (s : Run). s.issued) (sym (goes_on b r))
        ∙ second.grew b (all_acts old.budget b r ps) (sent ++ first.frames) (first.stands b r sent at)
        ∙ ap (λ (l : List LineWrite). l ++ second.issued) (first.grew b r sent at)
        ∙ append_assoc r.issued first.issued second.issued;
    counted = second.counted ∙ ap (λ (n : ℕ). raised_by (length second.issued) n) first.counted
        ∙ raised-more old.issued (length first.issued) (length second.issued)
        ∙ ap (λ (n : ℕ). raised_by n old.issued) (sym (length-append first.issued second.issued));
    put = first.put ++ second.put;
    split = both_put first.put second.put mid.lines.pending new.lines.pending old.lines.pending first.issued second.issued first.split second.split;
    few = few;
    ahead = omega (arith, first.ahead, second.ahead, length-append first.issued second.issued);
    budget = second.budget ∙ first.budget;
    armed = second.armed ∙ ap (λ (b : Bool). is_armed_after_all b qs) first.armed ∙ sym (armed-append (armed_in old) ps qs);
    alone = λ unless. second.alone (first.alone unless);
    still = λ throughout.
        let before = first.still (throughout_before (armed_in old) ps qs throughout) in
        let after = second.still (subst (λ (b : Bool). IsArmedThroughout b qs) (sym first.armed) (throughout_after (armed_in old) ps qs throughout)) in
        record { erases = after.erases ∙ before.erases };
    unworn = acts_unworn (armed_in old) ps qs first.issued second.issued old.lines mid.lines new.lines first.unworn
        (subst (λ (b : Bool). ActsUnworn b qs second.issued mid.lines new.lines) first.armed second.unworn);
  }
    where
      goes_on : (b : List ℕ) (r : Run) → all_acts mid.budget b (all_acts old.budget b r ps) qs ≡ all_acts old.budget b r (ps ++ qs)
      goes_on b r = ap (λ (n : ℕ). all_acts n b (all_acts old.budget b r ps) qs) first.budget ∙ sym (all_acts-append old.budget b r ps qs)

      few : NoneFlushes (ps ++ qs) → length old.lines.pending + length (first.issued ++ second.issued) ≤ ROOM_FROM → first.put ++ second.put ≡ []
      few nothing le =
          let none : first.put ≡ [] = first.few (none_before ps qs nothing) (omega (arith, le, length-append first.issued second.issued)) in
          let pending : mid.lines.pending ≡ old.lines.pending ++ first.issued = sym (empty_front first.put mid.lines.pending none) ∙ first.split in
          empty_front first.put second.put none
          ∙ second.few (none_after ps qs nothing) (omega (arith, le, length-append first.issued second.issued, ap length pending, length-append old.lines.pending first.issued))

  -- the node after acts that were answered
  pub below_then : (limit : ℕ) (old : Node) (board : B) (ps : List Act) (mid : Node) (mid_board : B) (b : List ℕ) (r : Run) (sent : List SentFrame)
      → (a : AnsweredAll g old board ps mid mid_board) → StandsBelow limit old b r sent → StandsBelow limit mid b (all_acts old.budget b r ps) (sent ++ a.frames)
  below_then limit old board ps mid mid_board b r sent a s = record {
    at = a.stands b r sent s.at;
    ahead = omega (arith, a.ahead, s.ahead, ap length (a.grew b r sent s.at), length-append r.issued a.issued);
  }

  -- what is safe in the run of a node after acts
  pub inside_after : (limit : ℕ) (old : Node) (board : B) (ps : List Act) (mid : Node) (mid_board : B) (qs : List Act) (b : List ℕ) (r : Run) (sent : List SentFrame) → (a : AnsweredAll g old board ps mid mid_board)
      → (s m o : Outcome) → Adds [] a.frames s m → SafeInside limit b (all_acts mid.budget b (all_acts old.budget b r ps) qs) (all_acts old.budget b r ps).floor (sent ++ a.frames) m o
      → SafeInside limit b (all_acts old.budget b r (ps ++ qs)) r.floor sent s o
  inside_after limit old board ps mid mid_board qs b r sent a s m o adds x =
      inside_later limit b (all_acts old.budget b r ps) (all_acts old.budget b r (ps ++ qs)) r.floor sent a.frames s m o (all_acts_floor old.budget b r ps) adds
      (subst (λ (t : Run). SafeInside limit b t (all_acts old.budget b r ps).floor (sent ++ a.frames) m o)
      (ap (λ (n : ℕ). all_acts n b (all_acts old.budget b r ps) qs) a.budget ∙ sym (all_acts-append old.budget b r ps qs)) x)

  -- acts that wear the guard row of a node after others
  pub wears_after : (old : Node) (board : B) (ps : List Act) (mid : Node) (mid_board : B) (qs : List Act) → AnsweredAll g old board ps mid mid_board → MayWearIn mid qs → MayWearIn old (ps ++ qs)
  wears_after old board ps mid mid_board qs a wears limit b r sent s =
      subst (λ (t : Run). GUARD_HALFWORDS ≤ limit + 2 * length t.issued) (ap (λ (n : ℕ). all_acts n b (all_acts old.budget b r ps) qs) a.budget ∙ sym (all_acts-append old.budget b r ps qs))
      (wears limit b (all_acts old.budget b r ps) (sent ++ a.frames) (below_then limit old board ps mid mid_board b r sent a s))

  pub acts_none : (reads : (b : B) (o : Outcome) → g.now b o → g.tells b × (o.words ≡ g.words b)) (node : Node) (board : B) → store.Fits g board node.lines.store → ActsDone g node board [] (Ok tt) node board
  acts_none reads node board fits = record {
    losses = begun g board (SafeIn node [])
        (λ o is limit b r sent s. inside_still node limit b r sent s o (now_stands g reads board node.lines.store fits o is) (now_within g reads board node fits o is));
    lists = lists_kept g board board (λ e f stood. stood);
    done = record { rests = refl; answered = answered_none node board };
    stopped = tt;
  }

  pub acts_one : (old : Node) (board : B) (act : Act) (result : Result ⊤ NodeError) (new : Node) (last : B) → ActDone g old board act result new last → ActsDone g old board (act ∷ []) result new last
  acts_one old board act result new last a = record {
    losses =
        let S = SafeIn old (act ∷ []) in
        weaker S S a.losses
        (λ s o is x limit b r sent below. inside_answering old limit b r sent act below s o x)
        (λ s o is x limit b r sent below. inside_answering old limit b r sent act below s o x);
    lists = a.lists;
    done = on_ok result (AnsweredAs g (did_at old act).need (armed_over old act) (did_at old act).writes (deliveries_at old act) (node_after old act) board new last) (ActsAnswered g old board (act ∷ []) new last)
        (λ done. record { rests = done.answered.rests; answered = answered_one old board act new last done }) a.done;
    stopped = IfErr-weaker result (WornAlone g (armed_over old act) (ceiling old + 2 * length (did_at old act).writes) (node_after old act) new last)
        (WornWhere g old (IsArmedOnce (armed_in old) (act ∷ [])) (MayWearIn old (act ∷ [])) new last)
        (λ e worn. worn_one old board act new last e worn) a.stopped;
  }

  pub acts_then : (old : Node) (board : B) (ps : List Act) (mid : Node) (mid_board : B) (qs : List Act) (result : Result ⊤ NodeError) (new : Node) (last : B)
      → ActsDone g old board ps (Ok tt) mid mid_board → ActsDone g mid mid_board qs result new last → ActsDone g old board (ps ++ qs) result new last
  acts_then old board ps mid mid_board qs result new last first second =
      let all : ActsAnswered g old board ps mid mid_board = first.done in
      let a = all.answered in
      let S = SafeIn old (ps ++ qs) in
      record {
        losses = going_on g S [] a.frames
            (weaker S S first.losses
            (λ s o is x limit b r sent below. inside_more limit b (all_acts old.budget b r ps) (all_acts old.budget b r (ps ++ qs)) r.floor sent s o (extends_more old.budget b r ps qs) (x limit b r sent below))
            (λ s o is x limit b r sent below. inside_more limit b (all_acts old.budget b r ps) (all_acts old.budget b r (ps ++ qs)) r.floor sent s o (extends_more old.budget b r ps qs) (x limit b r sent below)))
            a.sent.here second.losses
            (λ s m o was is adds x limit b r sent below. inside_after limit old board ps mid mid_board qs b r sent a s m o adds
            (x limit b (all_acts old.budget b r ps) (sent ++ a.frames) (below_then limit old board ps mid mid_board b r sent a below)));
        lists = lists_then g board mid_board last first.lists second.lists;
        done = on_ok result (ActsAnswered g mid mid_board qs new last) (ActsAnswered g old board (ps ++ qs) new last)
            (λ more. record { rests = more.rests ∙ all.rests; answered = answered_then old board ps mid mid_board qs new last a more.answered }) second.done;
        stopped = IfErr-weaker result (WornWhere g mid (IsArmedOnce (armed_in mid) qs) (MayWearIn mid qs) new last) (WornWhere g old (IsArmedOnce (armed_in old) (ps ++ qs)) (MayWearIn old (ps ++ qs)) new last)
            (λ e worn. worn_later old mid (IsArmedOnce (armed_in mid) qs) (IsArmedOnce (armed_in old) (ps ++ qs)) new last e a.alone
            (λ once. once_after (armed_in old) ps qs (subst (λ (b : Bool). IsArmedOnce b qs) a.armed once)) (wears_after old board ps mid mid_board qs a) worn) second.stopped;
      }

  -- a prefix of the acts
  pub acts_prefix : (old : Node) (board : B) (ps qs all : List Act) (e : NodeError) (result : Result ⊤ NodeError) (new : Node) (last : B) → ps ++ qs ≡ all → IsErrAnd result (λ d. d ≡ e)
      → ActsDone g old board ps (Err e) new last → ActsDone g old board all result new last
  acts_prefix old board ps qs all e result new last is err d =
      cut_call g (WornWhere g old (IsArmedOnce (armed_in old) all) (MayWearIn old all) new last) (ActsAnswered g old board all new last) board last e result d err
      (λ s o now x limit b r sent below. inside_more limit b (all_acts old.budget b r ps) (all_acts old.budget b r all) r.floor sent s o
      (subst (λ (l : List Act). Extends (all_acts old.budget b r ps) (all_acts old.budget b r l)) is (extends_more old.budget b r ps qs)) (x limit b r sent below))
      (worn_later old old (IsArmedOnce (armed_in old) ps) (IsArmedOnce (armed_in old) all) new last e (λ unless. unless)
      (λ once. subst (IsArmedOnce (armed_in old)) is (once_before (armed_in old) ps qs once))
      (λ wears. subst (MayWearIn old) is (wears_more old ps qs wears)))

  -- each station in its turn
  module _ (turn : ℕ → Act) (old : Node) (board : B) (at : ℕ) (lt : at < 8) (mid : Node) (mid_board : B) (result : Result ⊤ NodeError) (new : Node) (last : B) where
    more : take (at + 1) (map turn stations) ≡ take at (map turn stations) ++ turn at ∷ []
    more = take_more (map turn stations) at (turn 0) lt ∙ ap (λ (p : Act). take at (map turn stations) ++ p ∷ []) (get_or-map-range_with_len turn 0 8 at at (turn 0) lt (omega arith))

    pub turns_more : ActsDone g old board (take at (map turn stations)) (Ok tt) mid mid_board → ActDone g mid mid_board (turn at) result new last → ActsDone g old board (take (at + 1) (map turn stations)) result new last
    turns_more first second = subst (λ (l : List Act). ActsDone g old board l result new last) (sym more)
        (acts_then old board (take at (map turn stations)) mid mid_board (turn at ∷ []) result new last first (acts_one mid mid_board (turn at) result new last second))

  pub turns_cut : (turn : ℕ → Act) (old : Node) (board : B) (at : ℕ) → at < 8 → (mid : Node) (mid_board : B) (e : NodeError) (result : Result ⊤ NodeError) (new : Node) (last : B) → IsErrAnd result (λ d. d ≡ e)
      → ActsDone g old board (take at (map turn stations)) (Ok tt) mid mid_board → ActDone g mid mid_board (turn at) (Err e) new last → ActsDone g old board (map turn stations) result new last
  turns_cut turn old board at lt mid mid_board e result new last err first second =
      acts_prefix old board (take (at + 1) (map turn stations)) (drop (at + 1) (map turn stations)) (map turn stations) e result new last (take-append-drop (at + 1) (map turn stations)) err
      (turns_more turn old board at lt mid mid_board (Err e) new last first second)
