-- A row reads as after the last act that may have set it.
use Rattle.std.proofs.Common.{◌≡◌, ◌≢◌, inl, inr, ℕ, ◌-◌, ◌≤◌, Bool, true, false, cond, List, [], ◌∷◌, ◌++◌, length, take, refl, sym, ◌∙◌, ap, subst, arith, append_assoc, length-append, Option, Some, None}
use Rattle.std.specs.Prelude.{◌||◌, slice_get, IfSome, IsTrue}
use Rattle.std.specs.Option.{option_map_or}
use Rattle.std.proofs.lemmas.List.{take_all, take-append-le}
use Rattle.std.proofs.lemmas.Bool.{cases_lt}
use Rattle.param_tree.specs.declared.Var.{Var}
use Rattle.param_tree.specs.Rows.{vehicle_rows}
use Rattle.storage_lines.specs.declared.lines.LineWrite.{LineWrite}
use Rattle.storage_lines.specs.Lines.{after, EachPrefix}
use Rattle.storage_lines.specs.Pieces.{writes_of}
use Rattle.storage_lines.proofs.LineLemmas.{after-append}
use Rattle.storage_lines.proofs.PrefixLemmas.{take_over}
use Rattle.param_records.specs.Values.{params_of, value_of_number}
use Rattle.param_records.specs.Changes.{set_pieces, is_full, IsFull}
use Rattle.param_records.specs.Steps.{records_in_storage, IsKept}
use Rattle.param_service.specs.Requests.{Set}
use Rattle.param_service.specs.Budget.{exceeds, allowed_writes}
use Rattle.param_service.specs.Service.{is_total, writes_for, set_writes}
use Rattle.vehicle_core.specs.Vehicle.{Parameters, allowed_of}
use Rattle.vehicle_core.specs.Acts.{Act, Said, heard_as, did}
use Rattle.vehicle_runs.specs.Runs.{Run, did_in, act_done, all_acts, start}
use Rattle.vehicle_runs.proofs.RunLaws.{extends_all, all_acts-append}
use Rattle.vehicle_laws.specs.Fitting.{ActFits, AllFit}
use Rattle.vehicle_laws.specs.Uploads.{run_over}
use Rattle.vehicle_laws.specs.Rows.{row_of_act, AllLeave, SetsOnly, SetsRowTo}
use Rattle.vehicle_laws.specs.Laws.{StartsFormatted, LawOfLastValues}
use Rattle.vehicle_laws.proofs.RowSteps.{same_value, row_sets, law_of_records}
use Rattle.vehicle_laws.proofs.Status.{status, run_snoc, fit_before, fit_since}

is_false : (t : Bool) → ¬ IsTrue t → t ≡ false
is_false true h = absurd (h refl)
is_false false h = refl

-- the row reads as over these bytes
abbrev ReadsAs : List ℕ → Var → List ℕ → Type 0
ReadsAs old row now = params_of now row ≡ params_of old row

-- lines that set another row at most
by_rows : (bytes : List ℕ) (ws : List LineWrite) (index : ℕ) (row : Var) (o : Option ℕ) → slice_get vehicle_rows index ≡ Some row → o ≢ Some index → SetsOnly o bytes ws → EachPrefix (ReadsAs bytes row) bytes ws
by_rows bytes ws index row None is other k j h = same_value (after bytes (take j ws)) bytes row (k j h)
by_rows bytes ws index row (Some i) is other (inl k) j h = same_value (after bytes (take j ws)) bytes row (k j h)
by_rows bytes ws index row (Some i) is other (inr s) j h = (s.2.each j h).others index row (λ e. other (ap (λ (n : ℕ). Some n) (sym e))) is

-- at each number of lines from the first run up to the second
abbrev ReadsOn : List ℕ → Var → List LineWrite → List LineWrite → Type 0
ReadsOn b row first all = (k : ℕ) → length first ≤ k → k ≤ length all → params_of (after b (take k all)) row ≡ params_of (after b first) row

reads_same : (b : List ℕ) (row : Var) (ws : List LineWrite) → ReadsOn b row ws ws
reads_same b row ws k from upto = ap (λ (l : List LineWrite). params_of (after b l) row) (take_all k ws from)

-- some more lines
reads_more : (b : List ℕ) (row : Var) (first ws : List LineWrite) → EachPrefix (ReadsAs (after b first) row) (after b first) ws → ReadsOn b row first (first ++ ws)
reads_more b row first ws each k from upto =
    let j = k - length first in
    let here : after b (take k (first ++ ws)) ≡ after (after b first) (take j ws) = ap (λ (l : List LineWrite). after b l) (take_over first ws k j (omega arith)) ∙ after-append b first (take j ws) in
    ap (λ (now : List ℕ). params_of now row) here ∙ each j (omega (arith, length-append first ws))

-- more lines after those
reads_then : (b : List ℕ) (row : Var) (first mid rest all : List LineWrite) → mid ++ rest ≡ all → length first ≤ length mid → ReadsOn b row first mid → ReadsOn b row mid all → ReadsOn b row first all
reads_then b row first mid rest all e grows x y k from upto = elim (cases_lt (length mid) k) [
  | inl past ↦ y k (omega arith) upto ∙ sym (ap (λ (l : List LineWrite). params_of (after b l) row) (take_all (length mid) mid (omega arith))) ∙ x (length mid) grows (omega arith)
  | inr within ↦ ap (λ (l : List LineWrite). params_of (after b (take k l)) row) (sym e) ∙ ap (λ (l : List LineWrite). params_of (after b l) row) (take-append-le k mid rest within) ∙ x k from within
]

reads_on : (budget : ℕ) (b : List ℕ) (before since : List Act) (index : ℕ) (row : Var) → StartsFormatted b → AllFit (before ++ since) → slice_get vehicle_rows index ≡ Some row → AllLeave index since
    → ReadsOn b row (run_over budget b before).issued (all_acts budget b (run_over budget b before) since).issued
reads_on budget b before [] index row f fit is leave = reads_same b row (run_over budget b before).issued
reads_on budget b before (act ∷ since) index row f fit is leave =
    let r = run_over budget b before in
    let s = act_done budget b r act in
    let t = all_acts budget b s since in
    let split : before ++ act ∷ since ≡ (before ++ act ∷ []) ++ since = sym (append_assoc before (act ∷ []) since) in
    let fit2 : AllFit ((before ++ act ∷ []) ++ since) = subst AllFit split fit in
    let now : run_over budget b (before ++ act ∷ []) ≡ s = run_snoc budget b before act in
    let records = law_of_records budget b before act f (fit_before (before ++ act ∷ []) since fit2) in
    let here = reads_more b row r.issued (did_in budget b r act).writes (by_rows (after b r.issued) (did_in budget b r act).writes index row (row_of_act act) is leave.0 records) in
    let later : ReadsOn b row s.issued t.issued = subst (λ (x : Run). ReadsOn b row x.issued (all_acts budget b x since).issued) now (reads_on budget b (before ++ act ∷ []) since index row f fit2 is leave.1) in
    let more = (extends_all budget b s since).issued in
    reads_then b row r.issued s.issued more.rest t.issued more.whole (omega (arith, length-append r.issued (did_in budget b r act).writes)) here later

kept : (budget : ℕ) (b : List ℕ) (before since : List Act) (index k : ℕ) (row : Var) → StartsFormatted b → AllFit (before ++ since) → slice_get vehicle_rows index ≡ Some row → AllLeave index since
    → length (run_over budget b before).issued ≤ k → k ≤ length (run_over budget b (before ++ since)).issued
    → params_of (after b (take k (run_over budget b (before ++ since)).issued)) row ≡ params_of (after b (run_over budget b before).issued) row
kept budget b before since index k row f fit is leave from upto =
    let whole : run_over budget b (before ++ since) ≡ all_acts budget b (run_over budget b before) since = all_acts-append budget b (start b) before since in
    let r = run_over budget b before in
    (subst (λ (x : Run). ReadsOn b row r.issued x.issued) (sym whole) (reads_on budget b before since index row f fit is leave)) k from upto

kept_there : (number : ℕ) (o : Option Var) (row : Var) → o ≡ Some row → IfSome o (λ r. IsKept r.kind number) → IsKept row.kind number
kept_there number None row e fits = absurd (let clash : let none : Option Var = None in none ≡ Some row = e in cc)
kept_there number (Some other) row e fits = let same : other ≡ row = cc in subst (λ (r : Var). IsKept r.kind number) same fits

-- the lines of a PARAM_SET that sets a row
lines_of_setting : (bytes : List ℕ) (index number : ℕ) (row : Var) → slice_get vehicle_rows index ≡ Some row → ¬ IsTrue (is_total row) → ¬ IsFull (records_in_storage bytes) row number
    → set_writes bytes index (Some number) ≡ writes_of bytes (set_pieces vehicle_rows (records_in_storage bytes) row number)
lines_of_setting bytes index number row is other room =
    let ws = writes_of bytes (set_pieces vehicle_rows (records_in_storage bytes) row number) in
    ap (λ (o : Option Var). option_map_or (λ r. writes_for bytes r number) o []) is
    ∙ ap (λ (t : Bool). cond (t || is_full (records_in_storage bytes) row number) [] ws) (is_false (is_total row) other)
    ∙ ap (λ (t : Bool). cond t [] ws) (is_false (is_full (records_in_storage bytes) row number) room)

setting_writes : (budget : ℕ) (b : List ℕ) (r : Run) (station : ℕ) (v2 : Bool) (index number : ℕ) → (did_in budget b r (Said station (heard_as v2 (Some (Parameters (Set index (Some number))))))).writes ≡ allowed_writes (allowed_of budget r.machine.vehicle) (set_writes (after b r.issued) index (Some number))
unfolding did
setting_writes budget b r station v2 index number = refl

set_value : (budget : ℕ) (b : List ℕ) (before : List Act) (act : Act) (index : ℕ) (row : Var) (number : ℕ) → StartsFormatted b → AllFit (before ++ act ∷ []) → SetsRowTo (after b (run_over budget b before).issued) (allowed_of budget (run_over budget b before).machine.vehicle) act index row number
    → params_of (after b (run_over budget b (before ++ act ∷ [])).issued) row ≡ value_of_number row.kind number
set_value budget b before act index row number f fit x =
    let r = run_over budget b before in
    let bytes = after b r.issued in
    let st = status budget b before f (fit_before before (act ∷ []) fit) in
    let said : Act = Said x.station (heard_as x.v2 (Some (Parameters (Set index (Some number))))) in
    let fits : ActFits said = subst ActFits x.is (fit_since before (act ∷ []) fit).0 in
    let kept : IsKept row.kind number = kept_there number (slice_get vehicle_rows index) row x.row_is fits in
    let ws = writes_of bytes (set_pieces vehicle_rows (records_in_storage bytes) row number) in
    let sets = row_sets bytes index row number (record { formatted = st.formatted; is = x.row_is; kept = kept; room = x.room }) in
    let limit = allowed_of budget r.machine.vehicle in
    let lines_of_set = set_writes bytes index (Some number) in
    let all_allowed : allowed_writes limit lines_of_set ≡ lines_of_set = ap (λ (t : Bool). cond t [] lines_of_set) (is_false (exceeds limit lines_of_set) x.few) in
    let lines : (did_in budget b r act).writes ≡ ws = ap (λ (a : Act). (did_in budget b r a).writes) x.is ∙ setting_writes budget b r x.station x.v2 index number ∙ all_allowed ∙ lines_of_setting bytes index number row x.row_is x.no_total x.room in
    let end : after b (run_over budget b (before ++ act ∷ [])).issued ≡ after bytes ws =
    ap (λ (s : Run). after b s.issued) (run_snoc budget b before act) ∙ after-append b r.issued (did_in budget b r act).writes ∙ ap (λ (l : List LineWrite). after bytes l) lines in
    ap (λ (now : List ℕ). params_of now row) end ∙ sets.whole

pub law_of_last_values : LawOfLastValues
law_of_last_values = record { kept = kept; set = set_value }
