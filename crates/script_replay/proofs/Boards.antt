-- What the node's clauses tell of a board that is held for one call.
use Rattle.std.proofs.Common.{◌≡◌, ◌≢◌, inl, inr, ℕ, ◌+◌, ◌≤◌, Bool, true, false, List, [], ◌∷◌, ◌++◌, length, Option, Some, None, Result, Ok, Err, IfOk, OnErr, refl, sym, ◌∙◌, ap, subst, arith, append-nil}
use Rattle.std.specs.Prelude.{option_to_list}
use Rattle.flash_traits.specs.Losses.{Received, SentFrame, Outcome, After, ByResult}
use Rattle.flash_traits.specs.declared.board.Board as board
use Rattle.flash_traits.specs.declared.board.Event.{Event}
use Rattle.flash_traits.specs.declared.stream.Source as source
use Rattle.flash_traits.specs.declared.stream.Sink as sink
use Rattle.vehicle_runs.specs.Guard.{RisesWithin}
use Rattle.vehicle_runs.specs.Safe.{Safe, SafeSince}
use Rattle.vehicle_node.specs.Standing.{Node, Finished}
use Rattle.vehicle_node.specs.declared.NodeError.{NodeError}
use Rattle.vehicle_node.specs.declared.Turn.{Turn}
use Rattle.script_lines.specs.Script.{ScriptLine}
use Rattle.script_board.specs.Boards.{words_in, unread_in}
use Rattle.script_board.specs.Taking.{events_of}
use Rattle.script_board.specs.declared.board.ScriptBoard.{ScriptBoard}
use Rattle.script_board.specs.declared.board.ScriptMark.{ScriptMark}
use Rattle.script_board.specs.declared.board.ScriptMark.TheVariants.{Output}
use Rattle.script_board.proofs.FrameLines.{frame_lines-none}
use Rattle.script_board.proofs.Hearing.{events-heard, no_events-unheard}
use Rattle.replay.specs.Guard.{Rises}
use Rattle.replay.specs.Playing.{GoesOn}
use Rattle.script_replay.specs.Calls.{Takes, HasHeard, WaitsBy, events_heard, too_many}
use Rattle.script_replay.specs.Held.{HasLists, StandsFor, HasLeft}
use Rattle.script_replay.specs.declared.start.Start as start
use Rattle.script_replay.proofs.Ended.{finished_by}
use Rattle.script_replay.proofs.Scripts.{takes_none}
use Rattle.script_replay.proofs.Uses.{CameBy}

one_at_most : {A : Type 0} (o : Option A) → length (option_to_list o) ≤ 1
one_at_most None = omega arith
one_at_most (Some x) = omega arith

-- what an event adds to the lists, and where it came to its end what the node stands for
module _ {B : Type 0} (g : board.Ghosts B) (old new : Node) (b0 b1 : B) where
  pub record Listed (a : Result Turn NodeError) : Type 0 where
    pub events : List Received
    pub frames : List SentFrame
    pub lists : g.has_lists b1 events frames
    pub few : length events ≤ 1
    pub came : CameBy a events
    pub goes : IfOk a (λ turn. GoesOn old new events frames)

  pub listed : (a : Result Turn NodeError) → IfOk a (λ turn. Finished g old b0 new b1 turn)
      → OnErr a ((e : List Received) (f : List SentFrame) → g.has_lists b0 e f
      → (event : Option Received) × (sent : List SentFrame) × g.has_lists b1 (e ++ option_to_list event) (f ++ sent))
      → g.has_lists b0 [] [] → Listed a
  listed (Ok turn) finished cut none = record {
    events = finished.event ∷ [];
    frames = finished.frames;
    lists = finished.lists [] [] none;
    few = omega arith;
    came = (finished.event, refl, finished.last);
    goes = record { stands = finished.stands; within = finished.within };
  }
  listed (Err e) finished cut none =
      let by = cut [] [] none in
      record {
        events = option_to_list by.0;
        frames = by.1;
        lists = by.2;
        few = one_at_most by.0;
        came = tt;
        goes = tt;
      }

-- what was added since a board with empty lists is all that is told
added : {A : Type 0} (now from more : List A) → now ≡ from ++ more → from ≡ [] → more ≡ now
added now from more is none = sym (is ∙ ap (λ l. l ++ more) none)

pub safe_of : (was : Outcome → Type 0) → ((o : Outcome) → was o → (o.events ≡ []) × (o.frames ≡ [])) → (budget : ℕ) (b : List ℕ) (e : List Received) (f : List SentFrame) (m : ℕ) (o : Outcome)
    → After was (SafeSince budget b e f m) o → Safe budget b (e ++ o.events) (f ++ o.frames) m o.words
safe_of was anew budget b e f m o after =
    let s = after.steps in
    let none = anew after.from after.was in
    subst (λ (l : List Received). Safe budget b (e ++ l) (f ++ o.frames) m o.words) (added o.events after.from.events s.added_events s.events_are none.0)
    (subst (λ (l : List SentFrame). Safe budget b (e ++ s.added_events) (f ++ l) m o.words) (added o.frames after.from.frames s.added_frames s.frames_are none.1) s.safe)

-- the guard count of what a loss leaves
pub rises_of : (was : Outcome → Type 0) → ((o : Outcome) → was o → (o.events ≡ []) × (o.frames ≡ [])) → (budget count : ℕ) (b : List ℕ) (e : List Received) (o : Outcome)
    → After was (RisesWithin budget count b e) o → Rises budget count b (e ++ o.events) o.words
rises_of was anew budget count b e o after =
    let s = after.steps in
    subst (λ (l : List Received). Rises budget count b (e ++ l) o.words) (added o.events after.from.events s.added_events s.events_are (anew after.from after.was).0)
    (record { acts = s.acts; rests = s.rests; reads = s.reads; guard = s.guard })

pub by_result : (was : Outcome → Type 0) (budget : ℕ) (b : List ℕ) (e : List Received) (f : List SentFrame) (m : ℕ) (o : Outcome) (a : Result Turn NodeError)
    → After was (ByResult a (SafeSince budget b e f (m + 1)) (SafeSince budget b e f m)) o → After was (SafeSince budget b e f (m + finished_by a)) o
by_result was budget b e f m o (Ok turn) after = after
by_result was budget b e f m o (Err x) after = subst (λ (k : ℕ). After was (SafeSince budget b e f k) o) (omega arith) after

module _ {S K N : Type 0} {g : source.Ghosts S} {h : sink.Ghosts K} (n : start.Ghosts N) where
  -- at its start nothing was received or printed
  pub begins : (b : ScriptBoard S K g h) (buffer : List ℕ) → b.mark ≡ None → b.line ≡ n.line → length b.waiting.items ≡ n.waiting → unread_in b ≡ n.unread
      → g.rest b.input.now ≡ n.rest → h.written b.out.now ≡ n.written → (g.tells_rest b.input.now → n.tells_rest) → (h.tells_written b.out.now → n.tells_written)
      → HasLists n b None buffer [] []
  begins b buffer mark line waiting unread rest written told_rest told_written = record {
    told_rest = told_rest;
    told_written = told_written;
    events_are = refl;
    printed = λ un told. (written ∙ sym (append-nil n.written), tt);
    lines = [];
    line = omega (arith, line);
    hears = inl (refl, subst (λ (m : Option ScriptMark). WaitsBy m n.waiting (length b.waiting.items)) (sym mark) waiting);
    takes = λ told. subst (λ (u : List ℕ). Takes u n.rest (unread_in b) (g.rest b.input.now) []) unread (subst (λ (r : List ℕ). Takes (unread_in b) r (unread_in b) (g.rest b.input.now) []) rest (takes_none (unread_in b) (g.rest b.input.now)));
    few = λ few. omega (arith, few);
  }

  -- as many receptions as the call has room for
  pub within : (over room : Bool) (b : ScriptBoard S K g h) (heard : Option Event) (buffer : List ℕ) (e : List Received) (f : List SentFrame)
      → StandsFor n room over b heard buffer e f → length e + 1 ≤ too_many room → (over ≡ false) × HasLists n b heard buffer e f
  within true room b heard buffer e f stands few = absurd (omega (arith, stands, few))
  within false room b heard buffer e f stands few = (refl, stands)

  -- what a loss at the start leaves has no event and no frame
  pub anew : (over : Bool) (b : ScriptBoard S K g h) (buffer : List ℕ) → h.written b.out.now ≡ n.written → (o : Outcome) → HasLeft n over b None buffer o → (o.events ≡ []) × (o.frames ≡ [])
  anew over b buffer written o left = (left.events, frame_lines-none n.written o.frames (sym left.frames.0 ∙ written))

  -- what a loss at the end leaves
  abbrev pub outcome : ScriptBoard S K g h → Option Event → List ℕ → List SentFrame → Outcome
  outcome b heard buffer frames = record { words = words_in b; events = events_heard heard buffer; frames = frames }

  pub left_now : (over : Bool) (b : ScriptBoard S K g h) (heard : Option Event) (buffer : List ℕ) (e : List Received) (f : List SentFrame) → over ≡ false → HasLists n b heard buffer e f
      → b.mark ≢ Some Output → h.tells_written b.out.now → HasLeft n over b heard buffer (outcome b heard buffer f)
  left_now over b heard buffer e f in_room lists unfailed told = record {
    within = in_room;
    told = told;
    unfailed = unfailed;
    words = refl;
    events = refl;
    frames = lists.printed unfailed told;
  }

-- the events of the lines are those that were heard
pub events_same : (room : Bool) (heard : Option Event) (buffer : List ℕ) (m : Option ScriptMark) (before now was here : ℕ) (refused : Type 0) (next : ℕ) (lines : List ScriptLine)
    → HasHeard room heard buffer m before now was here next refused lines → events_of lines ≡ events_heard heard buffer
events_same room None buffer m before now was here refused next lines (inl (none, waits)) = ap events_of none
events_same room None buffer m before now was here refused next lines (inr (has_room, un, waits)) = no_events-unheard None m 0 lines was here next refused un
events_same room (Some heard) buffer m before now was here refused next lines hears = events-heard heard buffer lines hears.0
