-- A history grows by one run.
use Rattle.std.proofs.Common.{Bool, true, false, inl, inr, ◌+◌, ◌≤◌, length, arith, take, Result, Ok, Err, ◌≡◌, ℕ, List, [], ◌∷◌, ◌++◌, refl, sym, ◌∙◌, ap, subst, append_assoc, append-nil}
use Rattle.flash_traits.specs.Words.{Words}
use Rattle.flash_traits.specs.Losses.{Received, SentFrame}
use Rattle.flash_traits.specs.declared.numbers.TheConstants.{GUARD_HALFWORDS}
use Rattle.guard_row.specs.Row.{IsGuardRow}
use Rattle.storage_lines.specs.Lines.{after}
use Rattle.sector_image.specs.Stands.{Stands}
use Rattle.vehicle_runs.specs.Safe.{Safe}
use Rattle.vehicle_runs.specs.Runs.{Run, run_of}
use Rattle.vehicle_node.specs.Standing.{Node, StandsAt, StandsForRun, StaysWithin}
use Rattle.script_lines.specs.Script.{ScriptLine, HasNoEnd}
use Rattle.script_board.specs.Taking.{events_of}
use Rattle.script_board.specs.Printing.{frame_lines, loss_line}
use Rattle.script_board.specs.Hearing.{loses, FewWait, HasNoLossNow, EndsWithEnd}
use Rattle.script_board.specs.declared.waiting.TheConstants.{WAITING_LOSSES}
use Rattle.replay.specs.Guard.{raised_over}
use Rattle.replay.specs.Histories.{Ran, IsRun, History, history_lines, lines_taken, lines_issued, EndsSo, by_call, losses_by_call, WaitAfter, IsWholeRun, Ended, Replayed, CutShort}
use Rattle.replay.specs.Playing.{BreaksFrom, CloseEnds, RunEnds, StopsSo, BreaksSo}
use Rattle.replay.specs.declared.Stop.{Stop}
use Rattle.replay.specs.declared.Break.{Break}
use Rattle.replay.specs.declared.Break.TheVariants.{Lost, Stopped}
use Rattle.replay.proofs.Causes.{worn_map, refused_map}
use Rattle.replay.proofs.Guard.{row_in, counts_over, issued_in, wears_in}
use Rattle.replay.proofs.Steps.{breaks_from}
use Rattle.replay.proofs.Uses.{loses-append, no_end-append, end-append}

pub history-push : (budget : ℕ) (rs : List Ran) (w v : Words) (r : Ran) → History budget w rs v → IsRun budget v r → History budget w (rs ++ r ∷ []) r.words
history-push budget [] w v r is run = (subst (λ (u : Words). IsRun budget u r) is run, refl)
history-push budget (x ∷ rs) w v r is run = (is.0, history-push budget rs x.words v r is.1 run)

pub lines_taken-push : (rs : List Ran) (r : Ran) → lines_taken (rs ++ r ∷ []) ≡ lines_taken rs ++ r.lines
lines_taken-push [] r = append-nil r.lines
lines_taken-push (x ∷ rs) r = ap (λ (l : List ScriptLine). x.lines ++ l) (lines_taken-push rs r) ∙ sym (append_assoc x.lines (lines_taken rs) r.lines)

pub history_lines-push : (rs : List Ran) (r : Ran) → history_lines (rs ++ r ∷ []) ≡ history_lines rs ++ (frame_lines r.frames ++ loss_line)
history_lines-push [] r = append-nil (frame_lines r.frames ++ loss_line)
history_lines-push (x ∷ rs) r = ap (λ (l : List ℕ). (frame_lines x.frames ++ loss_line) ++ l) (history_lines-push rs r)
    ∙ sym (append_assoc (frame_lines x.frames ++ loss_line) (history_lines rs) (frame_lines r.frames ++ loss_line))

pub losses-push : (rs : List Ran) (r : Ran) → losses_by_call (rs ++ r ∷ []) ≡ losses_by_call rs + by_call r.between_calls
losses-push [] r = omega arith
losses-push (x ∷ rs) r = let rest = losses-push rs r in omega (arith, rest)

-- no more losses wait after a history than may wait, and a run more keeps it so
wait_few : (rs : List Ran) (u v : ℕ) → u ≤ WAITING_LOSSES → WaitAfter u rs v → v ≤ WAITING_LOSSES
wait_few [] u v few is = omega (arith, few, is)
wait_few (x ∷ rs) u v few is = let now = is.0 in let between = is.2 in wait_few rs is.1 v (omega (arith, now, between)) is.3

wait-push : (rs : List Ran) (u v w : ℕ) (r : Ran) → WaitAfter u rs v → v + loses r.lines ≤ WAITING_LOSSES → w + by_call r.between_calls ≡ v + loses r.lines → WaitAfter u (rs ++ r ∷ []) w
wait-push [] u v w r is few falls = (omega (arith, is, few), w, omega (arith, is, falls), refl)
wait-push (x ∷ rs) u v w r is few falls = (is.0, is.1, is.2, wait-push rs is.1 v w r is.3 few falls)

pub no_end_in : (budget : ℕ) (rs : List Ran) (w v : Words) → History budget w rs v → HasNoEnd (lines_taken rs)
no_end_in budget [] w v is = tt
no_end_in budget (x ∷ rs) w v is = no_end-append x.lines (lines_taken rs) is.0.no_end (no_end_in budget rs x.words v is.1)

pub ended_none : (budget : ℕ) (w : Words) → Ended budget w [] [] 0 w
ended_none budget w = record { runs = []; history = refl; lines_are = refl; text_is = refl; each_loses = omega arith; few_wait = refl }

-- a run after those that losses ended, from these bytes
module _ (budget : ℕ) (w v u : Words) (l0 : List ScriptLine) (t0 : List ℕ) (u1 u2 : ℕ) (e : Ended budget w l0 t0 u1 v) (ls : List ScriptLine) (fs : List SentFrame) (b : List ℕ) (began : Stands v b) where
  lines_now : l0 ++ ls ≡ lines_taken e.runs ++ ls
  lines_now = ap (λ (l : List ScriptLine). l ++ ls) e.lines_are

  text_now : t0 ++ frame_lines fs ≡ history_lines e.runs ++ frame_lines fs
  text_now = ap (λ (t : List ℕ). t ++ frame_lines fs) e.text_is

  no_end_yet : HasNoEnd l0
  no_end_yet = subst HasNoEnd (sym e.lines_are) (no_end_in budget e.runs w v e.history)

  few_before : u1 ≤ WAITING_LOSSES
  few_before = wait_few e.runs 0 u1 (omega arith) e.few_wait

  enough : losses_by_call e.runs ≤ loses (lines_taken e.runs)
  enough = let each = e.each_loses in omega (arith, each, ap loses e.lines_are)

  -- a loss ended it too
  ended_so : (cut : Bool) (n : ℕ) → EndsSo cut ls n → HasNoEnd ls → by_call cut + u2 ≡ u1 + loses ls → FewWait u1 ls → BreaksFrom budget Lost v (events_of ls) fs n u → Ended budget w (l0 ++ ls) (t0 ++ (frame_lines fs ++ loss_line)) u2 u
  ended_so cut n ends no_end uses few broke =
      let row = row_in v b began in
      let issued = issued_in budget v b (events_of ls) row.0 row.1 u (broke.rises row.0 b row.1 began) in
      let r : Ran = record { lines = ls; frames = fs; finished = n; issued = issued.0; words = u; between_calls = cut } in
      let each = e.each_loses in
      record {
        runs = e.runs ++ r ∷ [];
        history = history-push budget e.runs w v r e.history (record { bytes = b; began = began; safe = broke.safe b began; issues = issued.1; rises = issued.2; ends = ends; no_end = no_end });
        lines_are = lines_now ∙ sym (lines_taken-push e.runs r);
        text_is = ap (λ (t : List ℕ). t ++ (frame_lines fs ++ loss_line)) e.text_is ∙ sym (history_lines-push e.runs r);
        each_loses = omega (arith, each, uses, losses-push e.runs r, loses-append l0 ls);
        few_wait = wait-push e.runs 0 u1 u2 r e.few_wait (few few_before) (omega (arith, uses));
      }

  pub ended_more : (n : ℕ) → BreaksSo Lost ls n u1 u2 → FewWait u1 ls → BreaksFrom budget Lost v (events_of ls) fs n u → Ended budget w (l0 ++ ls) (t0 ++ (frame_lines fs ++ loss_line)) u2 u
  ended_more n (no_end, inl cut) few broke = let uses = cut.1 in ended_so true n cut.0 no_end (omega (arith, uses)) few broke
  ended_more n (no_end, inr call) few broke = let uses = call.1 in ended_so false n call.0 no_end (omega (arith, uses)) few broke

  -- it is whole, and the last one
  pub replayed : IsWholeRun budget b (events_of ls) fs u → HasNoLossNow ls → EndsWithEnd ls → FewWait u1 ls → Replayed budget w (l0 ++ ls) (t0 ++ frame_lines fs) u
  replayed whole none ends few = record {
    runs = e.runs;
    words = v;
    history = e.history;
    last_lines = ls;
    last_frames = fs;
    bytes = b;
    began = began;
    whole = whole;
    lines_are = lines_now;
    text_is = text_now;
    ends = end-append l0 ls no_end_yet ends;
    no_loss_now = none;
    enough = enough;
    few_wait = (u1, e.few_wait, few few_before);
  }

  -- over all runs the guard count can have come to its end, where this one can have brought it there
  worn_over : (issued : ℕ) → ((other : ℕ) → IsGuardRow v.guard other → GUARD_HALFWORDS ≤ raised_over 1 issued other) → (count : ℕ) → IsGuardRow w.guard count
      → GUARD_HALFWORDS ≤ raised_over (length e.runs + 1) (lines_issued e.runs + issued) count
  worn_over issued enough count row =
      let before = counts_over budget e.runs w v count e.history row in
      let up = before.2 in
      let here = enough before.0 before.1 in
      omega (arith, up, here)

  -- it was cut short
  pub cut_short : (why : Stop) (n : ℕ) → StopsSo why ls n u1 u2 → FewWait u1 ls → BreaksFrom budget (Stopped why) v (events_of ls) fs n u → CutShort budget w (l0 ++ ls) (t0 ++ frame_lines fs) why u2 u
  cut_short why n stops few broke =
      let each = e.each_loses in
      let row = row_in v b began in
      let wears = wears_in budget v b (events_of ls) row.0 row.1 u why (broke.rises row.0 b row.1 began) broke.worn began in
      record {
        runs = e.runs;
        words = v;
        history = e.history;
        last_lines = ls;
        last_frames = fs;
        finished = n;
        bytes = b;
        began = began;
        safe = broke.safe b began;
        issued = wears.0;
        issues = wears.1;
        lines_are = lines_now;
        text_is = text_now;
        no_loss_now = stops.0;
        between = stops.1;
        enough = enough;
        few_wait = (u1, e.few_wait, few few_before);
        each_loses = refused_map why (λ line is. (no_end-append l0 ls no_end_yet is.0, let waits = is.1 in omega (arith, each, waits, loses-append l0 ls))) stops.2;
        worn = worn_map why (λ full is. worn_over wears.0 is) wears.2;
      }

-- what is printed after a text
pub printed_then : (p0 p1 p2 a b : List ℕ) → p1 ≡ p0 ++ a → p2 ≡ p1 ++ b → p2 ≡ p0 ++ (a ++ b)
printed_then p0 p1 p2 a b first second = second ∙ ap (λ (l : List ℕ). l ++ b) first ∙ append_assoc p0 a b

-- a run whose lines are all put is whole
pub whole_run : (budget : ℕ) (node : Node) (b : List ℕ) (ls : List ScriptLine) (fs : List SentFrame) (n : ℕ) (w : Words) → StandsForRun node b (events_of ls) fs n
    → ((c : List ℕ) (r : Run) (f : List SentFrame) → StandsAt node c r f → Stands w (after c r.issued)) → node.budget ≡ budget → IsWholeRun budget b (events_of ls) fs w
whole_run budget node b ls fs n w run close is = subst (λ (m : ℕ). IsWholeRun m b (events_of ls) fs w) is (record { acts = run.acts; rests = node.rests; reads = run.reads; all_answers = run.at.sent; all_lines = close b _ fs run.at })

-- a run by what its close answers
pub closed : {T : Type 0} (budget : ℕ) (r : Result T Break) (node : Node) (before now : Words) (ls : List ScriptLine) (fs : List SentFrame) (n k : ℕ) → n + 0 ≡ k
    → ((b : List ℕ) → Stands before b → StandsForRun node b (events_of ls) fs n) → ((count : ℕ) (b : List ℕ) → IsGuardRow before.guard count → Stands before b → StaysWithin count node b (events_of ls) fs n)
    → node.budget ≡ budget → CloseEnds budget r node now → RunEnds budget r before (events_of ls) fs k now
closed budget (Ok t) node before now ls fs n k is runs within same close = λ b began. whole_run budget node b ls fs n now (runs b began) close same
closed budget (Err how) node before now ls fs n k is runs within same close =
    subst (λ (j : ℕ). BreaksFrom budget how before (events_of ls) fs j now) is
    (subst (λ (l : List Received). BreaksFrom budget how before l fs (n + 0) now) (append-nil (events_of ls))
    (subst (λ (l : List SentFrame). BreaksFrom budget how before (events_of ls ++ []) l (n + 0) now) (append-nil fs)
    (breaks_from budget how before node (events_of ls) [] fs [] n 0 now runs within close)))

-- what is safe stands for some bytes
pub stands_safe : (budget : ℕ) (b : List ℕ) (e : List Received) (f : List SentFrame) (n : ℕ) (u w : Words) → Safe budget b e f n u → w ≡ u → (now : List ℕ) × Stands w now
stands_safe budget b e f n u w safe same =
    let bytes : List ℕ = after b (take safe.at.kept (run_of budget b safe.acts).issued) in
    (bytes, subst (λ (v : Words). Stands v bytes) (sym same) safe.at.stands)
