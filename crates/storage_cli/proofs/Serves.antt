-- A serve from its attach on.
use Rattle.std.proofs.Common.{Bool, false, ◌⊎◌, inl, inr, ◌∷◌, ◌≡◌, ⊎_elim, ℕ, ◌+◌, List, [], ◌++◌, length, refl, sym, ◌∙◌, ap, subst, Option, Some, None, Result, Ok, Err}
use Rattle.std.specs.Prelude.{⊤}
use Rattle.flash_traits.specs.declared.board.Board.{Ghosts}
use Rattle.flash_traits.specs.Words.{Words}
use Rattle.flash_traits.specs.Losses.{Received, SentFrame, Moment, Outcome, After}
use Rattle.flash_traits.specs.Calls.{Passes}
use Rattle.flash_traits.proofs.Moments.{up_to_self, chained, weaker}
use Rattle.guard_row.specs.Row.{IsGuardRow}
use Rattle.sector_image.specs.Stands.{Stands, IsUsedUp}
use Rattle.dirty_lines.specs.Lines.{Lines}
use Rattle.dirty_lines.specs.Losses.{IsWornForNext}
use Rattle.storage_lines.specs.Lines.{after}
use Rattle.vehicle_runs.specs.Runs.{Run, run_of}
use Rattle.vehicle_runs.specs.Safe.{Safe, SafeSince, Adds}
use Rattle.flash_traits.specs.Counts.{counts}
use Rattle.vehicle_runs.specs.Arming.{IsArmedOnce}
use Rattle.vehicle_runs.specs.Reading.{Reads, no_rests}
use Rattle.vehicle_runs.specs.Guard.{MayWear}
use Rattle.vehicle_node.specs.Wearing.{AllUnworn, BootUnworn}
use Rattle.vehicle_node.specs.Standing.{Node, StandsAt, StandsForRun, StaysWithin, armed_in}
use Rattle.storage_cli.specs.declared.stop.Served.{Served}
use Rattle.storage_cli.specs.declared.stop.Stop.{Stop}
use Rattle.storage_cli.specs.declared.stop.Stop.TheVariants as stop
use Rattle.replay.specs.Histories.{IsWholeRun}
use Rattle.storage_cli.specs.Serving.{HasToVoid, is_armed_after_events, EventsUnworn, ServeUnworn}
use Rattle.storage_cli.specs.Steps.Guard.{WearsSince, WearsFrom}
use Rattle.storage_cli.specs.Steps.Progress.{IsSafe, IsSafeRun, FinishesEvents, CompletesServe, EndsInTurns, WasArmedSince}
use Rattle.storage_cli.proofs.FewerEvents.{one_fewer, safe_none}
use Rattle.storage_cli.proofs.Calls.{ending, some_safe, safe_later, safe_after}

-- What a loss since the attach leaves is safe: the lists began there.
pub safe_run : {B : Type 0} (g : Ghosts B) (reads : (b : B) (o : Outcome) → g.now b o → g.tells b × (o.words ≡ g.words b)) (only_now : (b : B) (o : Outcome) → g.left b (g.moment b) o → g.now b o)
    (old a new : B) (budget : ℕ) (b : List ℕ) → g.moment a ≡ g.moment old → ((o : Outcome) → g.now a o → (o.events ≡ []) × (o.frames ≡ [])) → (g.tells a → Stands (g.words a) b)
    → Passes g a new (IsSafe budget b [] []) (IsSafe budget b [] []) → (o : Outcome) → g.left new (g.moment old) o → IsSafeRun budget b o
safe_run g reads only_now old a new budget b same starts stands losses o left =
    ⊎_elim none some (losses.inside (g.moment a) o (up_to_self (g.moment a)) (subst (λ (t : Moment). g.left new t o) (sym same) left))
  where
    safe_from : (m : ℕ) → Safe budget b o.events o.frames m o.words → IsSafeRun budget b o
    safe_from m safe = one_fewer budget b o.events o.frames m o.words safe

    none : g.left a (g.moment a) o → IsSafeRun budget b o
    none was =
        let here = only_now a o was in
        let lists = starts o here in
        let tell = reads a o here in
        safe_from 0 (subst (λ (l : List Received). Safe budget b l o.frames 0 o.words) (sym lists.0) (subst (λ (l : List SentFrame). Safe budget b [] l 0 o.words) (sym lists.1)
        (safe_none budget b o.words (subst (λ (w : Words). Stands w b) (sym tell.1) (stands tell.0)))))

    some : After (g.now a) (IsSafe budget b [] []) o → IsSafeRun budget b o
    some p =
        let lists = starts p.from p.was in
        let s = p.steps.since in
        let events : s.added_events ≡ o.events = sym (s.events_are ∙ ap (λ (l : List Received). l ++ s.added_events) lists.0) in
        let frames : s.added_frames ≡ o.frames = sym (s.frames_are ∙ ap (λ (l : List SentFrame). l ++ s.added_frames) lists.1) in
        safe_from p.steps.finished (subst (λ (l : List Received). Safe budget b l o.frames p.steps.finished o.words) events (subst (λ (l : List SentFrame). Safe budget b s.added_events l p.steps.finished o.words) frames s.safe))

module _ {B : Type 0} (g : Ghosts B) (budget : ℕ) (b : List ℕ) (a m : B) (opens : Passes g a m (SafeSince budget b [] [] 0) (SafeSince budget b [] [] 0)) where
  -- the opening failed
  pub open_lost : Passes g a m (IsSafe budget b [] []) (IsSafe budget b [] [])
  open_lost = weaker (IsSafe budget b [] []) (IsSafe budget b [] []) opens (λ s o now since. some_safe budget b [] [] 0 s o since) (λ s o now since. some_safe budget b [] [] 0 s o since)

  module _ (here : (o : Outcome) → g.now m o → After (g.now a) (Adds [] []) o) where
    -- the calls after it
    pub open_then : (c : B) → Passes g m c (IsSafe budget b [] []) (IsSafe budget b [] []) → Passes g a c (IsSafe budget b [] []) (IsSafe budget b [] [])
    open_then c calls = chained (IsSafe budget b [] []) (IsSafe budget b [] []) (ending g budget (Adds [] []) opens here) calls
        (λ s o since. some_safe budget b [] [] 0 s o since)
        (λ s n o now adds safe. safe_after budget b s n o adds safe)
        (λ s n o now adds safe. safe_after budget b s n o adds safe)

    pub open_closed : (c d : B) (es : List Received) (fs : List SentFrame) (n : ℕ) → Passes g m c (IsSafe budget b [] []) (Adds es fs) → Passes g c d (SafeSince budget b es fs n) (SafeSince budget b es fs n)
        → Passes g a d (IsSafe budget b [] []) (IsSafe budget b [] [])
    open_closed c d es fs n events closes = open_then d (chained (IsSafe budget b [] []) (IsSafe budget b [] []) events closes
        (λ s o safe. safe)
        (λ s k o now adds since. safe_later budget b [] es [] fs n s k o adds since)
        (λ s k o now adds since. safe_later budget b [] es [] fs n s k o adds since))

-- a serve that was not cut off
module _ {B : Type 0} (g : Ghosts B) (budget : ℕ) (a m c d : B) (node new : Node) (turns : ℕ)
    (budget_is : new.budget ≡ budget)
    (told : g.tells d → g.tells c)
    (opened : (e : List Received) (f : List SentFrame) → g.has_lists a e f → g.has_lists m e f)
    (starts : g.tells m → (b : List ℕ) → Stands (g.words a) b → StandsForRun node b [] [] 0)
    (image : g.tells m → (b : List ℕ) × Stands (g.words a) b)
    (unarmed : armed_in node ≡ false) (booted : g.tells m → BootUnworn (g.words a) node.lines)
    (closed : (e : List Received) (f : List SentFrame) → g.has_lists c e f → g.has_lists d e f)
    (done : g.tells d → (b : List ℕ) (r : Run) (frames : List SentFrame) → StandsAt new b r frames → Stands (g.words d) (after b r.issued))
    (all_put : AllUnworn g (armed_in new) new.lines d)
    (end : Option ℕ) (p : FinishesEvents g budget node m new c turns end) where
  runs : g.tells d → (b : List ℕ) → Stands (g.words a) b → StandsForRun new b p.events p.frames (0 + length p.events)
  runs t b stands = p.progress.stands b [] [] 0 (starts (p.progress.told (told t)) b stands)

  -- the run, with its lines by their number
  record IsCountedTo (most : ℕ) (b : List ℕ) : Type 0 where
    whole : IsWholeRun most b p.events p.frames (g.words d)
    lines : new.issued ≡ counts (length (run_of most b whole.acts).issued)

  counted : g.tells d → (b : List ℕ) → Stands (g.words a) b → IsCountedTo budget b
  counted t b stands =
      let r = runs t b stands in
      subst (λ (n : ℕ). IsCountedTo n b) budget_is (record {
        whole = record { acts = r.acts; rests = new.rests; reads = r.reads; all_answers = r.at.sent; all_lines = done t b _ p.frames r.at };
        lines = r.at.line_count;
      })

  whole : g.tells d → (b : List ℕ) → Stands (g.words a) b → IsWholeRun budget b p.events p.frames (g.words d)
  whole t b stands = (counted t b stands).whole

  sent : g.tells d → new.frames ≡ counts (length p.frames)
  sent t = let b = image (p.progress.told (told t)) in (runs t b.0 b.1).at.frame_count

  unworn : g.tells d → ServeUnworn g (g.words a) p.events d
  unworn t =
      let begun = p.progress.told (told t) in
      let b = image begun in
      let rests : node.rests ≡ no_rests = (starts begun b.0 b.1).reads.1 in
      record {
        acts = p.progress.acts;
        rests = new.rests;
        reads = subst (λ (r : List (List ℕ)). Reads r p.events p.progress.acts new.rests) rests p.progress.reads;
        opened = node.lines;
        boot = booted begun;
        last = new.lines;
        each = subst (λ (a : Bool). EventsUnworn a p.progress.acts node.lines new.lines) unarmed p.progress.unworn;
        closed = subst (λ (a : Bool). AllUnworn g a new.lines d) (p.progress.armed ∙ ap (λ (a : Bool). is_armed_after_events a p.progress.acts) unarmed) all_put;
      }

  lists : g.has_lists a [] [] → g.has_lists d p.events p.frames
  lists stood = closed p.events p.frames (p.progress.lists [] [] (opened [] [] stood))

  pub completes_end : (count frames lines : ℕ) → end ≡ Some count → frames ≡ new.frames → lines ≡ new.issued → CompletesServe g budget (g.words a) (g.has_lists a [] []) d turns (Ok (record { events = count; frames = frames; lines = lines }))
  completes_end count frames lines is same same_lines = record {
    events = p.events;
    frames = p.frames;
    lists = lists;
    ends = subst (λ (e : Option ℕ). EndsInTurns e turns p.events) is p.ends;
    whole = λ t b stands. let r = counted t b stands in record { whole = r.whole; lines = same_lines ∙ r.lines };
    counted = λ t. same ∙ sent t;
    unworn = unworn;
  }

  pub completes_turns : end ≡ None → CompletesServe g budget (g.words a) (g.has_lists a [] []) d turns (Err (stop.Turns turns))
  completes_turns is =
      let ends = subst (λ (e : Option ℕ). EndsInTurns e turns p.events) is p.ends in
      record {
        events = p.events;
        frames = p.frames;
        lists = lists;
        ends = (ends.0, ends.1, refl);
        whole = λ t b stands. record { whole = whole t b stands; lines = tt };
        counted = λ t. tt;
        unworn = unworn;
      }

-- the attach keeps the words, and its lists are empty
pub completes_attached : {B : Type 0} (g : Ghosts B) (budget : ℕ) (a d : B) (before : Words) (turns : ℕ) (r : Result Served Stop) → (g.tells d → g.words a ≡ before) → g.has_lists a [] []
    → CompletesServe g budget (g.words a) (g.has_lists a [] []) d turns r → CompletesServe g budget before ⊤ d turns r
completes_attached g budget a d before turns r same empty p = record {
  events = p.events;
  frames = p.frames;
  lists = λ _. p.lists empty;
  ends = p.ends;
  whole = λ t b stands. p.whole t b (subst (λ (w : Words). Stands w b) (sym (same t)) stands);
  counted = p.counted;
  unworn = λ t. subst (λ (w : Words). ServeUnworn g w p.events d) (same t) (p.unworn t);
}

-- the events that were finished, by the budget of the board
pub finished_at : {B : Type 0} (g : Ghosts B) (n budget : ℕ) → n ≡ budget → (node : Node) (m : B) (new : Node) (c : B) (turns : ℕ) (end : Option ℕ) → FinishesEvents g n node m new c turns end → FinishesEvents g budget node m new c turns end
finished_at g n budget same node m new c turns end p = subst (λ (k : ℕ). FinishesEvents g k node m new c turns end) same p

-- why a sector had to be voided, at the opening and in an event
pub void_opened : {B : Type 0} (g : Ghosts B) (words : Words) (c : B) → (g.tells c → IsUsedUp words) ⊎ ((lines : Lines) × IsWornForNext g c lines) → HasToVoid g words c
void_opened g words c (inl used) = inl used
void_opened g words c (inr lacks) = inr (inl lacks)

pub void_served : {B : Type 0} (g : Ghosts B) (words : Words) (node : Node) (m c : B) → (g.tells c → g.tells m) → (g.tells m → (b : List ℕ) × Stands words b) → (g.tells m → (b : List ℕ) → Stands words b → StandsForRun node b [] [] 0)
    → g.has_lists m [] [] → armed_in node ≡ false → ((lines : Lines) × IsWornForNext g c lines) ⊎ WasArmedSince g node m c → HasToVoid g words c
void_served g words node m c told image starts empty unarmed (inl lacks) = inr (inl lacks)
void_served g words node m c told image starts empty unarmed (inr armed) = inr (inr (λ t.
    let b = image (told t) in
    let rests : node.rests ≡ no_rests = (starts (told t) b.0 b.1).reads.1 in
    let lists = armed.lists [] [] empty in
    record {
      events = armed.events;
      frames = lists.0;
      are_these = lists.1;
      acts = armed.acts;
      last = armed.last;
      rests = armed.rests;
      reads = subst (λ (r : List (List ℕ)). Reads r armed.events (armed.acts ++ armed.last ∷ []) armed.rests) rests armed.reads;
      armed = subst (λ (a : Bool). IsArmedOnce (is_armed_after_events a armed.acts) armed.last) unarmed armed.armed;
    }))

-- how the guard row comes to be used up from the attach on: at the opening, in an event, and at the close
pub wears_opened : {B : Type 0} (g : Ghosts B) (budget : ℕ) (words : Words) (a c : B) → ((e : List Received) (f : List SentFrame) → g.has_lists a e f → g.has_lists c e f)
    → (g.tells c → (count : ℕ) (b : List ℕ) → IsGuardRow words.guard count → Stands words b → MayWear budget count b []) → WearsFrom g budget words (g.has_lists a [] []) c
wears_opened g budget words a c kept wears = record { events = []; lists = λ begun. ([], kept [] [] begun); lines = wears }

module _ {B : Type 0} (g : Ghosts B) (budget : ℕ) (words : Words) (a m : B) (node : Node) (opened : (e : List Received) (f : List SentFrame) → g.has_lists a e f → g.has_lists m e f)
    (within : g.tells m → (count : ℕ) (b : List ℕ) → IsGuardRow words.guard count → Stands words b → StaysWithin count node b [] [] 0) where
  pub wears_served : node.budget ≡ budget → (c : B) → (g.tells c → g.tells m) → WearsSince g node m c → WearsFrom g budget words (g.has_lists a [] []) c
  wears_served same c told wears = record {
    events = wears.events;
    lists = λ begun. wears.lists [] [] (opened [] [] begun);
    lines = λ t count b row stands. subst (λ (n : ℕ). MayWear n count b wears.events) same (wears.lines t count b [] [] 0 (within (told t) count b row stands));
  }

  pub wears_closed : (c d : B) (new : Node) (turns : ℕ) (end : Option ℕ) → (p : FinishesEvents g budget node m new c turns end) → new.budget ≡ budget → (g.tells d → g.tells c) → ((e : List Received) (f : List SentFrame) → g.has_lists c e f → g.has_lists d e f)
      → (g.tells d → (count : ℕ) (b : List ℕ) (e : List Received) (f : List SentFrame) (k : ℕ) → StaysWithin count new b e f k → MayWear new.budget count b e) → WearsFrom g budget words (g.has_lists a [] []) d
  wears_closed c d new turns end p same told closed wears = record {
    events = p.events;
    lists = λ begun. (p.frames, closed p.events p.frames (p.progress.lists [] [] (opened [] [] begun)));
    lines = λ t count b row stands.
        subst (λ (n : ℕ). MayWear n count b p.events) same
        (wears t count b p.events p.frames (0 + length p.events) (p.progress.within count b [] [] 0 (within (p.progress.told (told t)) count b row stands)));
  }

-- the attach keeps the words, and its lists are empty
pub wears_attached : {B : Type 0} (g : Ghosts B) (n budget : ℕ) (words before : Words) (a d : B) → n ≡ budget → (g.tells d → words ≡ before) → g.has_lists a [] [] → WearsFrom g n words (g.has_lists a [] []) d → WearsFrom g budget before ⊤ d
wears_attached g n budget words before a d same kept empty w = record {
  events = w.events;
  lists = λ _. w.lists empty;
  lines = λ t count b row stands.
      subst (λ (k : ℕ). MayWear k count b w.events) same
      (w.lines t count b (subst (λ (v : Words). IsGuardRow v.guard count) (sym (kept t)) row) (subst (λ (v : Words). Stands v b) (sym (kept t)) stands));
}
