-- A generated session that was run in memory.
use Rattle.std.proofs.Common.{inl, inr, ◌⊎◌, ◌≡◌, ◌≢◌, ◌≤◌, ◌+◌, ◌*◌, ◌-◌, ◌^◌, ℕ, List, [], length, refl, sym, ◌∙◌, ap, subst, arith, Result, Ok, Err}
use Rattle.std.specs.Prelude.{Some, ⊤}
use Rattle.std.proofs.lemmas.Slice.Zip.{AllZip-long}
use Rattle.flash_traits.specs.Causes.{Rose, counts_after}
use Rattle.flash_traits.proofs.Counting.{counts_rise}
use Rattle.flash_traits.specs.declared.board.Fault.{Fault}
use Rattle.flash_traits.specs.declared.board.Fault.TheVariants.{Attach, Read, Flash, Recv, Send}
use Rattle.flash_traits.specs.Budget.{budget_of}
use Rattle.flash_traits.specs.Counts.{counts}
use Rattle.flash_traits.specs.declared.numbers.TheConstants.{GUARD_HALFWORDS}
use Rattle.flash_traits.specs.Words.{Words, IsSectorSize, HasShape}
use Rattle.flash_traits.specs.Losses.{Received, SentFrame}
use Rattle.guard_row.specs.Row.{IsGuardRow}
use Rattle.session_boards.specs.Device.{fresh_words}
use Rattle.sha2.specs.Sha256.{sha256}
use Rattle.storage_lines.specs.Lines.{after}
use Rattle.flash_traits.specs.declared.board.Board.{Ghosts}
use Rattle.sector_image.specs.FirstBad.{FirstBad}
use Rattle.sector_image.specs.Refusals as survey
use Rattle.sector_image.specs.declared.kept.SurveyError.{SurveyError}
use Rattle.sector_image.specs.declared.kept.SurveyError.TheVariants as survey_error
use Rattle.sector_image.specs.Laws.{OneOfBoth}
use Rattle.sector_image.specs.Stands.{Stands}
use Rattle.session_boards.specs.Laws.{OneSession, SessionEnds}
use Rattle.session_boards.specs.declared.device.TheConstants.{SECTOR_BYTES}
use Rattle.session_boards.specs.Session.{AreFirst, EndsOnce}
use Rattle.vehicle_core.specs.Acts.{Act}
use Rattle.vehicle_runs.specs.Frames.{IsFrameOf}
use Rattle.vehicle_runs.specs.Laws.{EventsAreReadOnce}
use Rattle.vehicle_runs.specs.Reading.{Reads, no_rests}
use Rattle.vehicle_runs.specs.Runs.{run_of}
use Rattle.storage_cli.specs.declared.stop.Served.{Served}
use Rattle.storage_cli.specs.declared.stop.Stop.{Stop}
use Rattle.storage_cli.specs.declared.stop.Stop.TheVariants as stop
use Rattle.storage_cli.specs.declared.stop.Summary.{Summary}
use Rattle.storage_cli.specs.Sessions.{Session, fresh_storage, fresh_run, digest_after, line_of_session, WearsOut}
use Rattle.storage_cli.specs.Texts.{session_line}
use Rattle.storage_cli.specs.Steps.Sessions.{IsSessionStop, IsSummary}
use Rattle.storage_cli.specs.Steps.Guard.{WearsFrom}
use Rattle.storage_cli.specs.Steps.Progress.{CompletesServe, IsCounted}
use Rattle.storage_cli.specs.Steps.Stops.{IsAttached, IsDone, IsServeStop, IsCausedBy, IsFirst, OnWorn}
use Rattle.storage_cli.proofs.Causes.{rose_of}
use Rattle.storage_cli.proofs.FreshImage.{fresh_guard, fresh_stands, fresh_size}

-- a count that is 0 hasn't risen
never_rose : (before now : ℕ) → now ≡ 0 → Rose before now → ⊥
never_rose before now is rose = omega (arith, is, rose)

-- a serve over a board whose calls never fail, of a fresh image, with turns enough
pub session_stop : (why : Stop) (before now : Fault → ℕ) (words : Words) (bytes : List ℕ) → IsServeStop why → ((k : Fault) → now k ≡ 0) → IsCausedBy why before now → OneOfBoth → Stands words bytes → IsFirst words why
    → ((n : ℕ) → why ≢ stop.Turns n) → IsSessionStop why
session_stop stop.Words before now words bytes serves zero cause law stands first on = serves
session_stop stop.Memory before now words bytes serves zero cause law stands first on = tt
session_stop (stop.Foreign found) before now words bytes serves zero cause law stands first on = law.never_both words bytes _ stands first
session_stop stop.Read before now words bytes serves zero cause law stands first on = never_rose (before Read) (now Read) (zero Read) (rose_of Read before now cause)
session_stop stop.Flash before now words bytes serves zero cause law stands first on = never_rose (before Flash) (now Flash) (zero Flash) (rose_of Flash before now cause)
session_stop stop.Link before now words bytes serves zero (inl cause) law stands first on = never_rose (before Recv) (now Recv) (zero Recv) (rose_of Recv before now cause)
session_stop stop.Link before now words bytes serves zero (inr cause) law stands first on = never_rose (before Send) (now Send) (zero Send) (rose_of Send before now cause)
session_stop stop.Worn before now words bytes serves zero cause law stands first on = tt
session_stop (stop.Turns n) before now words bytes serves zero cause law stands first on = absurd (on n (λ i. stop.Turns n))
session_stop stop.Attach before now words bytes serves zero cause law stands first on = never_rose (before Attach) (now Attach) (zero Attach) (rose_of Attach before now cause)
session_stop stop.Input before now words bytes serves zero cause law stands first on = serves
session_stop (stop.Script line) before now words bytes serves zero cause law stands first on = serves

-- no session has so many turns
pub not_over : {B : Type 0} (g : Ghosts B) (budget rounds : ℕ) (before : Words) (board : B) (why : Stop) → (IsDone (Err why) → CompletesServe g budget before ⊤ board (2 ^ 32 - 1) (Err why)) → SessionEnds → rounds ≤ 1000
    → ((e : List Received) (f : List SentFrame) → g.has_lists board e f → AreFirst rounds e) → (n : ℕ) → why ≢ stop.Turns n
not_over g budget rounds before board why done law few session n is =
    let P : Stop → Type 0 = λ w. IsDone (Err w) → CompletesServe g budget before ⊤ board (2 ^ 32 - 1) (Err w) in
    let p = subst P is done tt in
    omega (arith, law.few rounds p.events (session p.events p.frames (p.lists tt)) p.ends.0, few, p.ends.1)

-- a survey of such a board over words that stand for bytes refuses nothing
pub survey_answers : (e : SurveyError) (words : Words) (bytes : List ℕ) → OneOfBoth → Stands words bytes → survey.OnForeign e (λ place. Unit {0} → FirstBad words place)
    → (let none : Fault → ℕ = λ k. 0 in none ≡ counts_after (survey.fault_in e) none) → ⊥
survey_answers (survey_error.Fault kind) words bytes law stands foreign counts =
    let at : 0 ≡ counts_after (Some kind) (λ k. 0) kind = ap (λ (f : Fault → ℕ). f kind) counts in
    never_rose 0 0 refl (subst (λ (n : ℕ). Rose 0 n) (sym at) (counts_rise kind (λ k. 0)))
survey_answers (survey_error.Foreign region offset word) words bytes law stands foreign counts = law.never_both words bytes _ stands (foreign tt)

-- the run, by the budget of the sectors of a fresh image
pub counted_at : (n : ℕ) → n ≡ SECTOR_BYTES → (served : Served) (events : List Received) (frames : List SentFrame) (words : Words) → IsCounted (budget_of n) (Ok served) fresh_storage events frames words
    → IsCounted (budget_of SECTOR_BYTES) (Ok served) fresh_storage events frames words
counted_at n same served events frames words run = subst (λ (k : ℕ). IsCounted (budget_of k) (Ok served) fresh_storage events frames words) same run

-- what the session came to
pub summary_of : (rounds : ℕ) (served : Served) (digest whole : List ℕ) (events : List Received) (frames : List SentFrame) (words : Words)
    → SessionEnds → OneOfBoth → AreFirst rounds events → EndsOnce events × (served.events ≡ length events - 1) → served.frames ≡ counts (length frames)
    → IsCounted (budget_of SECTOR_BYTES) (Ok served) fresh_storage events frames words → Stands words whole → digest ≡ sha256 whole
    → IsSummary rounds (record { rounds = rounds; events = served.events; frames = served.frames; lines = served.lines; digest = digest })
unfolding digest_after
summary_of rounds served digest whole events frames words ends law first ended sent run stands is = record {
  session = record { events = events; generated = ends.whole rounds events first ended.0; acts = run.whole.acts; rests = run.whole.rests; reads = run.whole.reads };
  rounds_are = λ i. rounds;
  events_are = ended.1;
  frames_are = sent ∙ ap counts (AllZip-long IsFrameOf (fresh_run run.whole.acts).answers frames run.whole.all_answers);
  lines_are = run.lines;
  digest_is = is ∙ ap sha256 (law.one_value words whole (after fresh_storage (fresh_run run.whole.acts).issued) stands run.whole.all_lines);
}

-- the line of the summary is that of its session
pub summary_line : (rounds : ℕ) (summary : Summary) (is : IsSummary rounds summary)
    → session_line summary.rounds summary.events summary.frames summary.lines summary.digest ≡ line_of_session is.session
summary_line rounds summary is =
    let run = fresh_run is.session.acts in
    ap (λ (n : ℕ). session_line n summary.events summary.frames summary.lines summary.digest) is.rounds_are
    ∙ ap (λ (n : ℕ). session_line rounds n summary.frames summary.lines summary.digest) is.events_are
    ∙ ap (λ (n : ℕ). session_line rounds (length is.session.events - 1) n summary.lines summary.digest) is.frames_are
    ∙ ap (λ (n : ℕ). session_line rounds (length is.session.events - 1) (counts (length run.answers)) n summary.digest) is.lines_are
    ∙ ap (λ (d : List ℕ). session_line rounds (length is.session.events - 1) (counts (length run.answers)) (counts (length run.issued)) d) is.digest_is

-- sessions of as many rounds have one line
pub one_line : OneSession → EventsAreReadOnce → (rounds : ℕ) (s t : Session rounds) → line_of_session s ≡ line_of_session t
one_line one read rounds s t =
    let events : s.events ≡ t.events = one rounds s.events t.events s.generated t.generated in
    let reads = subst (λ (es : List Received). Reads no_rests es s.acts s.rests) events s.reads in
    let acts : s.acts ≡ t.acts = (read t.events s.acts t.acts s.rests t.rests reads t.reads).0 in
    ap (λ (es : List Received). session_line rounds (length es - 1) (counts (length (fresh_run s.acts).answers)) (counts (length (fresh_run s.acts).issued)) (digest_after (fresh_run s.acts))) events
    ∙ ap (λ (each : List (List Act)). session_line rounds (length t.events - 1) (counts (length (fresh_run each).answers)) (counts (length (fresh_run each).issued)) (digest_after (fresh_run each))) acts

-- where its guard row is used up, lines enough were issued
pub wears_out : {B : Type 0} (g : Ghosts B) (rounds n : ℕ) (before : Words) (board : B) (why : Stop) → (let r : Result Served Stop = Err why in IsAttached r → IsSectorSize n) → (let r : Result Served Stop = Err why in IsAttached r → HasShape n before)
    → before ≡ fresh_words → ((e : List Received) (f : List SentFrame) → g.has_lists board e f → AreFirst rounds e) → g.tells board → OnWorn why (WearsFrom g (budget_of n) before ⊤ board) → OnWorn why (WearsOut rounds)
wears_out g rounds n before board stop.Words size shape is session told w = tt
wears_out g rounds n before board stop.Memory size shape is session told w = tt
wears_out g rounds n before board (stop.Foreign found) size shape is session told w = tt
wears_out g rounds n before board stop.Read size shape is session told w = tt
wears_out g rounds n before board stop.Flash size shape is session told w = tt
wears_out g rounds n before board stop.Link size shape is session told w = tt
wears_out g rounds n before board stop.Worn size shape is session told w =
    let lists = w.lists tt in
    let m = w.lines told 0 fresh_storage (subst (λ (v : Words). IsGuardRow v.guard 0) (sym is) fresh_guard) (subst (λ (v : Words). Stands v fresh_storage) (sym is) fresh_stands) in
    let same : n ≡ SECTOR_BYTES = fresh_size n before is (size tt) (shape tt) in
    record {
      events = w.events;
      first = session w.events lists.0 lists.1;
      acts = m.acts;
      rests = m.rests;
      reads = m.reads;
      enough = subst (λ (k : ℕ). GUARD_HALFWORDS ≤ 2 + 2 * length (run_of (budget_of k) fresh_storage m.acts).issued) same (omega (arith, m.enough));
    }
wears_out g rounds n before board (stop.Turns k) size shape is session told w = tt
wears_out g rounds n before board stop.Input size shape is session told w = tt
wears_out g rounds n before board (stop.Script line) size shape is session told w = tt
wears_out g rounds n before board stop.Attach size shape is session told w = tt
