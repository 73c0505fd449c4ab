-- Calls one after another, each with what it adds.
use Rattle.std.proofs.Common.{◌≡◌, inl, List, [], ◌++◌, refl, sym, ◌∙◌, ap, subst, append_assoc, append-nil, Result, Ok, Err}
use Rattle.std.specs.Prelude.{⊤, OnOk, OnErr, IsErr, IsErrAnd, IfErr}
use Rattle.std.proofs.lemmas.Result.{err_from_is_err_and}
use Rattle.flash_traits.specs.declared.board.Board.{Ghosts}
use Rattle.flash_traits.specs.Calls.{Passes}
use Rattle.flash_traits.specs.Losses.{Received, SentFrame, Outcome, After}
use Rattle.flash_traits.proofs.Moments.{up_to_self, chained, weaker}
use Rattle.vehicle_runs.specs.Safe.{Adds}
use Rattle.vehicle_node.specs.Steps.Calls.{MaySend, HasSent, Call}
use Rattle.vehicle_node.specs.Refusals.{OnWorn}
use Rattle.vehicle_node.specs.declared.NodeError.{NodeError}
use Rattle.vehicle_node.specs.declared.NodeError.TheVariants as node_error

-- what holds at an Ok, and what holds of every error
pub on_ok : {T E : Type 0} (result : Result T E) (P Q : Type 0) → (P → Q) → OnOk result P → OnOk result Q
on_ok (Ok v) P Q f p = f p
on_ok (Err e) P Q f p = tt

pub at_ok : {T E P : Type 0} (r : Result T E) {x : T} → r ≡ Ok x → OnOk r P → P
at_ok {T} {E} {P} r is on = subst (λ (r : Result T E). OnOk r P) is on

pub at_err : {T E : Type 0} (r : Result T E) (P : Type 0) → IsErr r → OnOk r P
at_err (Ok x) P err = absurd (cc)
at_err (Err e) P err = tt

pub on_err : {T E : Type 0} (r : Result T E) (P : Type 0) → P → OnErr r P
on_err (Ok x) P p = tt
on_err (Err e) P p = p

pub on_any : {T E : Type 0} (r : Result T E) (P : Type 0) → P → OnOk r P
on_any (Ok x) P p = p
on_any (Err e) P p = tt

-- what an error says, where that is more than enough
pub worn_more : (e : NodeError) (P Q : Type 0) → (P → Q) → OnWorn e (λ count. P) → OnWorn e (λ count. Q)
worn_more node_error.Memory P Q more worn = tt
worn_more (node_error.Fault kind) P Q more worn = tt
worn_more (node_error.Foreign region offset word) P Q more worn = tt
worn_more (node_error.Worn count) P Q more worn = more worn

-- an error of which nothing is said
pub no_stop : (r : Result ⊤ NodeError) → IfErr r (λ e. Unit {0})
no_stop (Ok v) = tt
no_stop (Err e) = tt

-- what the exit of a `?` returns
pub passed_on : {T : Type 0} (r : Result T NodeError) (e : NodeError) → IsErrAnd r (λ d. d ≡ e) → r ≡ Err e
passed_on {T} r e err =
    let p = err_from_is_err_and {Q = λ (d : NodeError). d ≡ e} r err in
    p.1 ∙ ap (λ (d : NodeError). let t : Result T NodeError = Err d in t) p.2

pub error_passed : {T : Type 0} (r : Result T NodeError) (e : NodeError) (P : Result T NodeError → Type 0) → IsErrAnd r (λ d. d ≡ e) → P (Err e) → P r
error_passed r e P err p = subst P (sym (passed_on r e err)) p

pub error_at : {T : Type 0} (r : Result T NodeError) (e : NodeError) (S : NodeError → Type 0) → IsErrAnd r (λ d. d ≡ e) → S e → IfErr r S
error_at {T} r e S err s = subst (λ (t : Result T NodeError). IfErr t S) (sym (passed_on r e err)) s

pub adds_none : (s : Outcome) → Adds [] [] s s
adds_none s = record { events_are = sym (append-nil s.events); frames_are = sym (append-nil s.frames) }

module _ {B : Type 0} (g : Ghosts B) where
  -- before the first call
  pub begun : (a : B) (step : Outcome → Outcome → Type 0) → ((s : Outcome) → g.now a s → step s s) → Passes g a a step step
  begun a step still = record {
    later = up_to_self (g.moment a);
    inside = λ t o le was. inl was;
    here = λ o is. record { from = o; was = is; steps = still o is };
    keeps = λ kept n is t o le was. was;
  }

  -- another step of the call itself
  pub ending : {a b : B} {lost done : Outcome → Outcome → Type 0} (step : Outcome → Outcome → Type 0) → Passes g a b lost done → ((o : Outcome) → g.now b o → After (g.now a) step o) → Passes g a b lost step
  ending step first here = record { later = first.later; inside = first.inside; here = here; keeps = first.keeps }

  -- calls that have added so much, and one more
  pub going_on : {a b c : B} {done lost : Outcome → Outcome → Type 0} (step : Outcome → Outcome → Type 0) (events : List Received) (frames : List SentFrame)
      → Passes g a b step done → ((o : Outcome) → g.now b o → After (g.now a) (Adds events frames) o) → Passes g b c lost lost
      → ((s m o : Outcome) → g.now a s → g.now b m → Adds events frames s m → lost m o → step s o)
      → Passes g a c step step
  going_on {a} step events frames first here second more =
      let both : Outcome → Outcome → Type 0 = λ s m. g.now a s × Adds events frames s m in
      chained step step
      (ending both first (λ o is. let x = here o is in record { from = x.from; was = x.was; steps = (x.was, x.steps) }))
      second (λ s o is. is) (λ s m o is x y. more s m o x.0 is x.1 y) (λ s m o is x y. more s m o x.0 is x.1 y)

  -- what two calls add
  pub adds_both : {a b c : B} (es fs : List Received) (gs hs : List SentFrame)
      → ((o : Outcome) → g.now b o → After (g.now a) (Adds es gs) o) → ((o : Outcome) → g.now c o → After (g.now b) (Adds fs hs) o)
      → (o : Outcome) → g.now c o → After (g.now a) (Adds (es ++ fs) (gs ++ hs)) o
  adds_both es fs gs hs first second o is =
      let m = second o is in
      let s = first m.from m.was in
      record {
        from = s.from;
        was = s.was;
        steps = record {
          events_are = m.steps.events_are ∙ ap (λ (l : List Received). l ++ fs) s.steps.events_are ∙ append_assoc s.from.events es fs;
          frames_are = m.steps.frames_are ∙ ap (λ (l : List SentFrame). l ++ hs) s.steps.frames_are ∙ append_assoc s.from.frames gs hs;
        };
      }

  -- the lists stay
  pub lists_kept : (a b : B) → ((e : List Received) (f : List SentFrame) → g.has_lists a e f → g.has_lists b e f) → MaySend g a b
  lists_kept a b keeps e f stood = ([], subst (g.has_lists b e) (sym (append-nil f)) (keeps e f stood))

  pub lists_then : (a b c : B) → MaySend g a b → MaySend g b c → MaySend g a c
  lists_then a b c first second e f stood =
      let s = first e f stood in
      let t = second e (f ++ s.0) s.1 in
      (s.0 ++ t.0, subst (g.has_lists c e) (append_assoc f s.0 t.0) t.1)

  -- nothing was sent
  pub sent_nothing : (a : B) → HasSent g [] (Adds [] []) a a
  sent_nothing a = record {
    lists = λ e f stood. subst (g.has_lists a e) (sym (append-nil f)) stood;
    here = λ o now. record { from = o; was = now; steps = adds_none o };
    receptions = refl;
  }

  pub sent_both : (gs hs : List SentFrame) (a b c : B) → HasSent g gs (Adds [] gs) a b → HasSent g hs (Adds [] hs) b c → HasSent g (gs ++ hs) (Adds [] (gs ++ hs)) a c
  sent_both gs hs a b c first second = record {
    lists = λ e f stood. subst (g.has_lists c e) (append_assoc f gs hs) (second.lists e (f ++ gs) (first.lists e f stood));
    here = adds_both [] [] gs hs first.here second.here;
    receptions = second.receptions ∙ first.receptions;
  }

  -- the same call, cut short, with more that might be lost
  pub cut_call : {lost step : Outcome → Outcome → Type 0} {S : NodeError → Type 0} {P : Type 0} (T : NodeError → Type 0) (Q : Type 0) (a b : B) (e : NodeError) (r : Result ⊤ NodeError) → Call g lost S P a (Err e) b
      → IsErrAnd r (λ d. d ≡ e) → ((s o : Outcome) → g.now a s → lost s o → step s o) → (S e → T e) → Call g step T Q a r b
  cut_call {lost} {step} {S} {P} T Q a b e r call err more stops =
      subst (λ (t : Result ⊤ NodeError). Call g step T Q a t b) (sym (passed_on r e err))
      (record { losses = weaker step step call.losses more more; lists = call.lists; done = tt; stopped = stops call.stopped })
