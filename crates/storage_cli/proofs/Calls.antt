-- The calls of a node, one after another.
use Rattle.std.proofs.Common.{Bool, ◌≡◌, ◌≢◌, ℕ, ◌+◌, List, [], ◌∷◌, ◌++◌, length, refl, sym, ◌∙◌, ap, subst, arith, append_assoc, append-nil, length-append, Some, None}
use Rattle.flash_traits.specs.declared.board.Board.{Ghosts}
use Rattle.flash_traits.specs.Calls.{Passes}
use Rattle.flash_traits.specs.Losses.{Received, End, SentFrame, Outcome, After}
use Rattle.flash_traits.proofs.Moments.{started, chained}
use Rattle.vehicle_runs.specs.Safe.{Safe, SafeSince, Adds}
use Rattle.vehicle_runs.specs.Arming.{is_armed_after_all, IsArmedOnce}
use Rattle.vehicle_runs.specs.Reading.{IsEvent, Reads}
use Rattle.vehicle_runs.specs.Guard.{MayWear}
use Rattle.vehicle_node.specs.declared.Turn.{Turn}
use Rattle.vehicle_node.specs.declared.Turn.TheVariants as turn
use Rattle.vehicle_core.specs.Acts.{Act}
use Rattle.vehicle_node.specs.Standing.{Node, StandsForRun, StaysWithin, Finished, WasArmed, armed_in}
use Rattle.vehicle_node.specs.Guard.{WearsIn}
use Rattle.vehicle_node.specs.Wearing.{EventUnworn}
use Rattle.dirty_lines.specs.Lines.{Lines}
use Rattle.storage_lines.specs.declared.lines.LineWrite.{LineWrite}
use Rattle.session_boards.specs.Session.{HasNoEnd}
use Rattle.storage_cli.specs.Serving.{is_armed_after_events, EventsUnworn}
use Rattle.storage_cli.specs.Steps.Guard.{WearsSince}
use Rattle.storage_cli.specs.Steps.Progress.{IsSafe, Progress, FinishesEvents, WasArmedSince}

adds_none : (s : Outcome) → Adds [] [] s s
adds_none s = record { events_are = sym (append-nil s.events); frames_are = sym (append-nil s.frames) }

adds_then : (es more : List Received) (fs others : List SentFrame) (s m o : Outcome) → Adds es fs s m → Adds more others m o → Adds (es ++ more) (fs ++ others) s o
adds_then es more fs others s m o first second = record {
  events_are = second.events_are ∙ ap (λ (l : List Received). l ++ more) first.events_are ∙ append_assoc s.events es more;
  frames_are = second.frames_are ∙ ap (λ (l : List SentFrame). l ++ others) first.frames_are ∙ append_assoc s.frames fs others;
}

pub some_safe : (budget : ℕ) (b : List ℕ) (e : List Received) (f : List SentFrame) (n : ℕ) (s o : Outcome) → SafeSince budget b e f n s o → IsSafe budget b e f s o
some_safe budget b e f n s o since = record { finished = n; since = since }

-- what is safe after an addition is safe with it
pub safe_later : (budget : ℕ) (b : List ℕ) (e es : List Received) (f fs : List SentFrame) (n : ℕ) (s m o : Outcome) → Adds es fs s m → SafeSince budget b (e ++ es) (f ++ fs) n m o → IsSafe budget b e f s o
safe_later budget b e es f fs n s m o adds since = record {
  finished = n;
  since = record {
    added_events = es ++ since.added_events;
    events_are = since.events_are ∙ ap (λ (l : List Received). l ++ since.added_events) adds.events_are ∙ append_assoc s.events es since.added_events;
    added_frames = fs ++ since.added_frames;
    frames_are = since.frames_are ∙ ap (λ (l : List SentFrame). l ++ since.added_frames) adds.frames_are ∙ append_assoc s.frames fs since.added_frames;
    safe = subst (λ (l : List Received). Safe budget b l (f ++ (fs ++ since.added_frames)) n o.words) (append_assoc e es since.added_events)
        (subst (λ (l : List SentFrame). Safe budget b ((e ++ es) ++ since.added_events) l n o.words) (append_assoc f fs since.added_frames) since.safe);
  };
}

-- nothing was added before
pub safe_after : (budget : ℕ) (b : List ℕ) (s m o : Outcome) → Adds [] [] s m → IsSafe budget b [] [] m o → IsSafe budget b [] [] s o
safe_after budget b s m o adds safe = safe_later budget b [] [] [] [] safe.finished s m o adds safe.since

no_end_push : (events : List Received) (e : Received) → HasNoEnd events → e ≢ End → HasNoEnd (events ++ e ∷ [])
no_end_push [] e all this = (this, tt)
no_end_push (x ∷ events) e all this = (all.0, no_end_push events e all.1 this)

not_both : (t : Turn) → t ≡ turn.More → t ≡ turn.End → ⊥
not_both t more end = cc

-- the acts of events and of one more
reads_push : (old mid new : List (List ℕ)) (es : List Received) (e : Received) (all : List (List Act)) (acts : List Act) → Reads old es all mid → IsEvent mid e acts new → Reads old (es ++ e ∷ []) (all ++ acts ∷ []) new
reads_push old mid new [] e all acts r one =
    let same : mid ≡ old = r.1 in
    (acts, new, [], subst (λ (o : List (List ℕ)). IsEvent o e acts new) same one, (refl, refl), ap (λ (l : List (List Act)). l ++ acts ∷ []) r.0)
reads_push old mid new (x ∷ es) e all acts r one =
    (r.0, r.1, r.2 ++ acts ∷ [], r.3, reads_push r.1 mid new es e r.2 acts r.4 one, ap (λ (l : List (List Act)). l ++ acts ∷ []) r.5)

armed_push : (armed : Bool) (all : List (List Act)) (acts : List Act) → is_armed_after_events armed (all ++ acts ∷ []) ≡ is_armed_after_all (is_armed_after_events armed all) acts
armed_push armed [] acts = refl
armed_push armed (x ∷ all) acts = armed_push (is_armed_after_all armed x) all acts

-- the lines after events and after one more
unworn_push : (armed : Bool) (all : List (List Act)) (acts : List Act) (old mid new : Lines) (issued : List LineWrite) → EventsUnworn armed all old mid → EventUnworn (is_armed_after_events armed all) acts issued mid new → EventsUnworn armed (all ++ acts ∷ []) old new
unworn_push armed [] acts old mid new issued r one = (issued, new, subst (λ (l : Lines). EventUnworn armed acts issued l new) r one, refl)
unworn_push armed (x ∷ all) acts old mid new issued r one =
    (r.0, r.1, r.2, unworn_push (is_armed_after_all armed x) all acts r.1 mid new issued r.3 one)

module _ {B : Type 0} (g : Ghosts B) (budget : ℕ) where
  -- another step of the call itself
  pub ending : {a b : B} {lost done : Outcome → Outcome → Type 0} (step : Outcome → Outcome → Type 0) → Passes g a b lost done → ((o : Outcome) → g.now b o → After (g.now a) step o) → Passes g a b lost step
  ending step call here = record { later = call.later; inside = call.inside; here = here; keeps = call.keeps }

  -- what a call leaves, by the budget of its node
  pub losses_at : (n : ℕ) → n ≡ budget → (mid : Node) (mid_board new_board : B) (next : ℕ → ℕ)
      → ((b : List ℕ) (e : List Received) (sent : List SentFrame) (m : ℕ) → (g.tells mid_board → StandsForRun mid b e sent m) → Passes g mid_board new_board (SafeSince n b e sent m) (SafeSince n b e sent (next m)))
      → (b : List ℕ) (e : List Received) (sent : List SentFrame) (m : ℕ) → (g.tells mid_board → StandsForRun mid b e sent m) → Passes g mid_board new_board (SafeSince budget b e sent m) (SafeSince budget b e sent (next m))
  losses_at n same mid mid_board new_board next losses b e sent m stands =
      subst (λ (k : ℕ). Passes g mid_board new_board (SafeSince k b e sent m) (SafeSince k b e sent (next m))) same (losses b e sent m stands)

  pub progress_none : (node : Node) (board : B) → Progress g budget node board node board [] []
  progress_none node board = record {
    told = λ told. told;
    lists = λ e f stood. subst (λ (l : List Received). g.has_lists board l (f ++ [])) (sym (append-nil e)) (subst (λ (l : List SentFrame). g.has_lists board e l) (sym (append-nil f)) stood);
    stands = λ b e f m run. subst (λ (n : ℕ). StandsForRun node b (e ++ []) (f ++ []) n) (omega arith)
        (subst (λ (l : List Received). StandsForRun node b l (f ++ []) m) (sym (append-nil e)) (subst (λ (l : List SentFrame). StandsForRun node b e l m) (sym (append-nil f)) run));
    within = λ count b e f m run. subst (λ (n : ℕ). StaysWithin count node b (e ++ []) (f ++ []) n) (omega arith)
        (subst (λ (l : List Received). StaysWithin count node b l (f ++ []) m) (sym (append-nil e)) (subst (λ (l : List SentFrame). StaysWithin count node b e l m) (sym (append-nil f)) run));
    losses = λ b e f m runs. started board (IsSafe budget b e f) (Adds [] []) adds_none;
    acts = [];
    reads = (refl, refl);
    armed = refl;
    unworn = refl;
  }

  -- one event more
  module _ (node : Node) (board : B) (mid : Node) (mid_board : B) (new : Node) (new_board : B) (es : List Received) (fs : List SentFrame) (p : Progress g budget node board mid mid_board es fs) where
    pub progress_more : (answer : Turn) (f : Finished g mid mid_board new new_board answer) → (g.tells new_board → g.tells mid_board)
        → ((b : List ℕ) (e : List Received) (sent : List SentFrame) (m : ℕ) → (g.tells mid_board → StandsForRun mid b e sent m) → Passes g mid_board new_board (SafeSince budget b e sent m) (SafeSince budget b e sent (m + 1)))
        → Progress g budget node board new new_board (es ++ f.event ∷ []) (fs ++ f.frames)
    progress_more answer f told losses = record {
      told = λ t. p.told (told t);
      lists = λ e sent stood.
          subst (λ (l : List Received). g.has_lists new_board l (sent ++ (fs ++ f.frames))) (append_assoc e es (f.event ∷ []))
          (subst (λ (l : List SentFrame). g.has_lists new_board ((e ++ es) ++ f.event ∷ []) l) (append_assoc sent fs f.frames) (f.lists (e ++ es) (sent ++ fs) (p.lists e sent stood)));
      stands = λ b e sent m run.
          subst (λ (n : ℕ). StandsForRun new b (e ++ (es ++ f.event ∷ [])) (sent ++ (fs ++ f.frames)) n) (omega (arith, length-append es (f.event ∷ [])))
          (subst (λ (l : List Received). StandsForRun new b l (sent ++ (fs ++ f.frames)) (m + length es + 1)) (append_assoc e es (f.event ∷ []))
          (subst (λ (l : List SentFrame). StandsForRun new b ((e ++ es) ++ f.event ∷ []) l (m + length es + 1)) (append_assoc sent fs f.frames) (f.stands b (e ++ es) (sent ++ fs) (m + length es) (p.stands b e sent m run))));
      within = λ count b e sent m run.
          subst (λ (n : ℕ). StaysWithin count new b (e ++ (es ++ f.event ∷ [])) (sent ++ (fs ++ f.frames)) n) (omega (arith, length-append es (f.event ∷ [])))
          (subst (λ (l : List Received). StaysWithin count new b l (sent ++ (fs ++ f.frames)) (m + length es + 1)) (append_assoc e es (f.event ∷ []))
          (subst (λ (l : List SentFrame). StaysWithin count new b ((e ++ es) ++ f.event ∷ []) l (m + length es + 1)) (append_assoc sent fs f.frames)
          (f.within count b (e ++ es) (sent ++ fs) (m + length es) (p.within count b e sent m run))));
      losses = λ b e sent m runs.
          let call = losses b (e ++ es) (sent ++ fs) (m + length es) (λ t. p.stands b e sent m (runs (p.told t))) in
          chained (IsSafe budget b e sent) (Adds (es ++ f.event ∷ []) (fs ++ f.frames)) (p.losses b e sent m runs) (ending (Adds (f.event ∷ []) f.frames) call f.here)
          (λ s o safe. safe)
          (λ s n o now adds since. safe_later budget b e es sent fs (m + length es) s n o adds since)
          (λ s n o now adds more. adds_then es (f.event ∷ []) fs f.frames s n o adds more);
      acts = p.acts ++ f.acts ∷ [];
      reads = reads_push node.rests mid.rests new.rests es f.event p.acts f.acts p.reads f.reads;
      armed = f.armed ∙ ap (λ (a : Bool). is_armed_after_all a f.acts) p.armed ∙ sym (armed_push (armed_in node) p.acts f.acts);
      unworn = unworn_push (armed_in node) p.acts f.acts node.lines mid.lines new.lines f.issued p.unworn (subst (λ (a : Bool). EventUnworn a f.acts f.issued mid.lines new.lines) p.armed f.unworn);
    }

    -- an event in which the vehicle was armed
    pub armed_later : WasArmed g mid mid_board new_board → WasArmedSince g node board new_board
    armed_later w = record {
      events = es ++ w.event ∷ [];
      lists = λ e sent stood.
          let more = w.lists (e ++ es) (sent ++ fs) (p.lists e sent stood) in (
            fs ++ more.0,
            subst (λ (l : List Received). g.has_lists new_board l (sent ++ (fs ++ more.0))) (append_assoc e es (w.event ∷ []))
                (subst (λ (l : List SentFrame). g.has_lists new_board ((e ++ es) ++ w.event ∷ []) l) (append_assoc sent fs more.0) more.1),
          );
      acts = p.acts;
      last = w.acts;
      rests = w.rests;
      reads = reads_push node.rests mid.rests w.rests es w.event p.acts w.acts p.reads w.reads;
      armed = subst (λ (a : Bool). IsArmedOnce a w.acts) p.armed w.armed;
    }

    -- an event with which lines enough were issued
    pub wears_later : mid.budget ≡ node.budget → WearsIn g mid mid_board new_board → WearsSince g node board new_board
    wears_later same w = record {
      events = es ++ w.event ∷ [];
      lists = λ e sent stood.
          let more = w.lists (e ++ es) (sent ++ fs) (p.lists e sent stood) in (
            fs ++ more.0,
            subst (λ (l : List Received). g.has_lists new_board l (sent ++ (fs ++ more.0))) (append_assoc e es (w.event ∷ []))
                (subst (λ (l : List SentFrame). g.has_lists new_board ((e ++ es) ++ w.event ∷ []) l) (append_assoc sent fs more.0) more.1),
          );
      lines = λ t count b e sent m run.
          subst (λ (l : List Received). MayWear node.budget count b l) (append_assoc e es (w.event ∷ []))
          (subst (λ (n : ℕ). MayWear n count b ((e ++ es) ++ w.event ∷ [])) same (w.lines t count b (e ++ es) (sent ++ fs) (m + length es) (p.within count b e sent m run)));
    }

    -- a call that failed
    pub progress_lost : (b : List ℕ) (e : List Received) (sent : List SentFrame) (m : ℕ) → (g.tells board → StandsForRun node b e sent m)
        → ((b : List ℕ) (e : List Received) (sent : List SentFrame) (m : ℕ) → (g.tells mid_board → StandsForRun mid b e sent m) → Passes g mid_board new_board (SafeSince budget b e sent m) (SafeSince budget b e sent m))
        → Passes g board new_board (IsSafe budget b e sent) (IsSafe budget b e sent)
    progress_lost b e sent m runs losses =
        let call = losses b (e ++ es) (sent ++ fs) (m + length es) (λ t. p.stands b e sent m (runs (p.told t))) in
        chained (IsSafe budget b e sent) (IsSafe budget b e sent) (p.losses b e sent m runs) call
        (λ s o safe. safe)
        (λ s n o now adds since. safe_later budget b e es sent fs (m + length es) s n o adds since)
        (λ s n o now adds since. safe_later budget b e es sent fs (m + length es) s n o adds since)

  pub finishes_none : (node : Node) (board : B) → FinishesEvents g budget node board node board 0 None
  finishes_none node board = record { events = []; frames = []; progress = progress_none node board; ends = (tt, refl) }

  module _ (node : Node) (board : B) (mid : Node) (mid_board : B) (new : Node) (new_board : B) (n : ℕ) (p : FinishesEvents g budget node board mid mid_board n None) (answer : Turn) (f : Finished g mid mid_board new new_board answer)
      (told : g.tells new_board → g.tells mid_board)
      (losses : (b : List ℕ) (e : List Received) (sent : List SentFrame) (m : ℕ) → (g.tells mid_board → StandsForRun mid b e sent m) → Passes g mid_board new_board (SafeSince budget b e sent m) (SafeSince budget b e sent (m + 1))) where
    -- one that is no end
    pub finishes_more : answer ≡ turn.More → FinishesEvents g budget node board new new_board (n + 1) None
    finishes_more is = record {
      events = p.events ++ f.event ∷ [];
      frames = p.frames ++ f.frames;
      progress = progress_more node board mid mid_board new new_board p.events p.frames p.progress answer f told losses;
      ends = (no_end_push p.events f.event p.ends.0 (λ end. not_both answer is (f.last.1 end)), omega (arith, length-append p.events (f.event ∷ []), p.ends.1));
    }

    -- the end
    pub finishes_end : (turns : ℕ) → answer ≡ turn.End → FinishesEvents g budget node board new new_board turns (Some n)
    finishes_end turns is = record {
      events = p.events ++ f.event ∷ [];
      frames = p.frames ++ f.frames;
      progress = progress_more node board mid mid_board new new_board p.events p.frames p.progress answer f told losses;
      ends = (
        (p.events, ap (λ (e : Received). p.events ++ e ∷ []) (f.last.0 is), p.ends.0),
        omega (arith, length-append p.events (f.event ∷ []), p.ends.1),
      );
    }
