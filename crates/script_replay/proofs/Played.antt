-- One event over a board that is held, from what the node's clauses tell.
use Rattle.std.proofs.Common.{◌≡◌, ◌≢◌, ℕ, ◌+◌, ◌≤◌, Bool, true, false, List, [], ◌∷◌, ◌++◌, length, Option, Some, Result, Ok, Err, IfOk, IfErr, OnOk, sym, ◌∙◌, ap, subst, arith}
use Rattle.flash_traits.specs.Causes.{Rose}
use Rattle.flash_traits.specs.Budget.{budget_of}
use Rattle.flash_traits.specs.Losses.{Received, SentFrame, Outcome, After, ByResult}
use Rattle.flash_traits.specs.declared.board.Board as board
use Rattle.flash_traits.specs.declared.board.Event.{Event}
use Rattle.flash_traits.specs.declared.stream.Source as source
use Rattle.flash_traits.specs.declared.stream.Sink as sink
use Rattle.vehicle_runs.specs.Guard.{MayWear, RisesWithin}
use Rattle.vehicle_runs.specs.Safe.{Safe, SafeSince}
use Rattle.vehicle_node.specs.Refusals as refusals
use Rattle.vehicle_node.specs.Standing.{Node, Fits, StandsForRun, StaysWithin}
use Rattle.vehicle_node.specs.declared.NodeError.{NodeError}
use Rattle.vehicle_node.specs.declared.Turn.{Turn}
use Rattle.script_board.specs.Boards.{words_in, unread_in}
use Rattle.script_board.specs.Hearing.{IsRefused}
use Rattle.script_board.specs.Taking.{events_of}
use Rattle.script_board.specs.declared.board.ScriptBoard.{ScriptBoard}
use Rattle.script_board.specs.declared.board.ScriptMark.TheVariants.{Output}
use Rattle.replay.specs.Guard.{Rises}
use Rattle.replay.specs.Playing.{EventEnds, TurnUses, GoesOn}
use Rattle.replay.specs.declared.Break.{Break}
use Rattle.script_replay.specs.Steps.Answers.{ended}
use Rattle.script_replay.specs.Calls.{HasHeard, events_heard, too_many}
use Rattle.script_replay.specs.Held.{HasLists, StandsFor, HasLeft}
use Rattle.script_replay.specs.Steps.Places.{Plays}
use Rattle.script_replay.specs.declared.held.Held.{Held}
use Rattle.script_replay.specs.declared.start.Start as start
use Rattle.script_replay.proofs.Boards.{events_same, within, by_result}
use Rattle.script_replay.proofs.Returned.{safe_now, rises_now}
use Rattle.script_replay.proofs.Ended.{Wears, finished_by, event_ends, no_output, on_ok, on_worn}
use Rattle.script_replay.proofs.Heard.{some_lines}
use Rattle.script_replay.proofs.Scripts.{few_heard}
use Rattle.script_replay.proofs.Uses.{CameBy, turn_uses}

module _ {S K N : Type 0} {g : source.Ghosts S} {h : sink.Ghosts K} (n : start.Ghosts N) (budget : ℕ) (old new : Node) (b : ScriptBoard S K g h)
    (heard : Option Event) (buffer : List ℕ) (e : List Received) (f : List SentFrame) (a : Result Turn NodeError) (r : Result Turn Break) where
  pub played : r ≡ ended b.mark a → HasLists n b heard buffer e f → n.room ≡ true → CameBy a e → IfOk a (λ turn. GoesOn old new e f × (new.budget ≡ old.budget))
      → (b.mark ≢ Some Output → h.tells_written b.out.now → (bs : List ℕ) (run : List Received) (sent : List SentFrame) (m : ℕ) → StandsForRun old bs run sent m
      → Safe budget bs (run ++ events_heard heard buffer) (sent ++ f) (m + finished_by a) (words_in b))
      → (b.mark ≢ Some Output → h.tells_written b.out.now → (count : ℕ) (bs : List ℕ) (run : List Received) (sent : List SentFrame) (m : ℕ) → StaysWithin count old bs run sent m
      → Rises budget count bs (run ++ events_heard heard buffer) (words_in b))
      → (Q : ℕ → Type 0) → ((full : ℕ) → Q full → Wears budget old (events_heard heard buffer)) → IfErr a (λ x. refusals.OnWorn x Q) → Plays n budget (Some b) old new r
  played is lists room came goes safe rises Q wears worn =
      let came_so : CameBy a (events_heard heard buffer) = subst (λ (l : List Received). CameBy a l) lists.events_are came in
      let refused = IsRefused b.line b.waiting.items (unread_in b) (g.tells_rest b.input.now) (g.rest b.input.now) in
      let same : events_of lists.lines ≡ events_heard heard buffer = events_same n.room heard buffer b.mark n.waiting (length b.waiting.items) n.input_faults (g.faults b.input.now) refused (b.line + 1) lists.lines lists.hears in
      record {
        lines = lists.lines;
        frames = f;
        finished = finished_by a;
        added = record { line = lists.line; takes = lists.takes };
        uses = subst (λ (x : Result Turn Break). TurnUses x lists.lines (finished_by a) n.waiting (length b.waiting.items)) (sym is)
            (turn_uses buffer lists.lines n.waiting (length b.waiting.items) heard a b.mark n.input_faults (g.faults b.input.now) refused (b.line + 1)
            (subst (λ (x : Bool). HasHeard x heard buffer b.mark n.waiting (length b.waiting.items) n.input_faults (g.faults b.input.now) (b.line + 1) refused lists.lines) room lists.hears) came_so);
        some = subst (λ (x : Result Turn Break). OnOk x (1 ≤ length lists.lines)) (sym is)
            (some_lines buffer n.waiting (length b.waiting.items) n.input_faults (g.faults b.input.now) refused (b.line + 1) lists.lines b.mark a heard n.room lists.hears came_so);
        few_wait = lists.few;
        few = few_heard n.room heard buffer b.mark n.waiting (length b.waiting.items) n.input_faults (g.faults b.input.now) refused (b.line + 1) lists.lines lists.hears;
        printed = λ other told. (lists.printed (no_output r b.mark a is other) told).0;
        ends = λ other told. subst (λ (x : Result Turn Break). EventEnds budget x old new (events_of lists.lines) f (finished_by a) (words_in b)) (sym is)
            (subst (λ (l : List Received). EventEnds budget (ended b.mark a) old new l f (finished_by a) (words_in b)) (sym same)
            (event_ends budget old (events_heard heard buffer) f (finished_by a) (words_in b) (safe (no_output r b.mark a is other) told) (rises (no_output r b.mark a is other) told) new (ended b.mark a)
            (on_ok (λ turn. GoesOn old new (events_heard heard buffer) f × (new.budget ≡ old.budget)) b.mark a (subst (λ (l : List Received). IfOk a (λ turn. GoesOn old new l f × (new.budget ≡ old.budget))) lists.events_are goes))
            (on_worn (λ full. Wears budget old (events_heard heard buffer)) Q wears b.mark a worn)));
      }

-- the node goes on with the budget of its board
pub goes_same : {B : Type 0} (g : board.Ghosts B) (b0 b1 : B) (old new : Node) (e : List Received) (f : List SentFrame) (a : Result Turn NodeError) → g.sector_bytes b1 ≡ g.sector_bytes b0
    → old.budget ≡ budget_of (g.sector_bytes b0) → OnOk a (Fits g b1 new) → IfOk a (λ turn. GoesOn old new e f) → IfOk a (λ turn. GoesOn old new e f × (new.budget ≡ old.budget))
goes_same g b0 b1 old new e f (Ok t) same before fits goes = (goes, fits.budget ∙ ap budget_of same ∙ sym before)
goes_same g b0 b1 old new e f (Err x) same before fits goes = tt

module _ {S K N : Type 0} {g : source.Ghosts S} {h : sink.Ghosts K} (n : start.Ghosts N) (held : Held S K N g h n) (e : List Received) (f : List SentFrame) where
  pub event_within : n.room ≡ true → length e ≤ 1 → StandsFor n held.room held.over held.board held.heard held.buffer e f → (held.over ≡ false) × HasLists n held.board held.heard held.buffer e f
  event_within room few stands = within n held.over held.room held.board held.heard held.buffer e f stands
      (subst (λ (x : Bool). length e + 1 ≤ too_many x) (sym (held.same_room ∙ room)) (omega (arith, few)))

  pub event_end : (was : Outcome → Type 0) (none : (o : Outcome) → was o → (o.events ≡ []) × (o.frames ≡ [])) (budget : ℕ) (old new : Node) (r : Result Turn Break) (a : Result Turn NodeError)
      → held.over ≡ false → HasLists n held.board held.heard held.buffer e f → n.room ≡ true → r ≡ ended held.board.mark a → CameBy a e → IfOk a (λ turn. GoesOn old new e f × (new.budget ≡ old.budget))
      → ((b : List ℕ) (run : List Received) (sent : List SentFrame) (m : ℕ) → StandsForRun old b run sent m → (o : Outcome) → HasLeft n held.over held.board held.heard held.buffer o
      → After was (ByResult a (SafeSince budget b run sent (m + 1)) (SafeSince budget b run sent m)) o)
      → ((count : ℕ) (b : List ℕ) (run : List Received) (sent : List SentFrame) (m : ℕ) → StaysWithin count old b run sent m → (o : Outcome) → HasLeft n held.over held.board held.heard held.buffer o
      → After was (RisesWithin budget count b run) o)
      → (Q : ℕ → Type 0) → ((full : ℕ) → Q full → Wears budget old (events_heard held.heard held.buffer)) → IfErr a (λ x. refusals.OnWorn x Q)
      → Plays n budget (Some held.board) old new r
  event_end was none budget old new r a in_room lists room is came goes here rises Q wears worn =
      played n budget old new held.board held.heard held.buffer e f a r is lists room came goes
      (λ unfailed told b run sent m stood. safe_now n held was none budget b run sent (m + finished_by a) e f in_room lists unfailed told (λ o left. by_result was budget b run sent m o a (here b run sent m stood o left)))
      (λ unfailed told count b run sent m stays. rises_now n held was none budget count b run e f in_room lists unfailed told (rises count b run sent m stays))
      Q wears worn

-- where the guard row was used up, the event that came was heard
pub wears_heard : {S K N : Type 0} {g : source.Ghosts S} {h : sink.Ghosts K} (n : start.Ghosts N) (held : Held S K N g h n) → n.room ≡ true → (old : Node) (event : Received)
    → (sent : List SentFrame) × StandsFor n held.room held.over held.board held.heard held.buffer (event ∷ []) sent
    → ((count : ℕ) (b : List ℕ) (run : List Received) (sent : List SentFrame) (m : ℕ) → StaysWithin count old b run sent m → MayWear old.budget count b (run ++ event ∷ []))
    → Wears old.budget old (events_heard held.heard held.buffer)
wears_heard n held room old event stands lines = λ count b run sent m stays.
    let lists = (event_within n held (event ∷ []) stands.0 room (omega arith) stands.1).1 in
    subst (λ (l : List Received). MayWear old.budget count b (run ++ l)) lists.events_are (lines count b run sent m stays)
