-- After each number of the lines of a run the bytes are formatted.
use Rattle.std.proofs.Common.{◌≡◌, inl, inr, ℕ, ◌+◌, ◌<◌, ◌≤◌, List, [], ◌∷◌, ◌++◌, length, take, sym, ◌∙◌, ap, subst, arith, append_assoc}
use Rattle.std.proofs.lemmas.List.{take_all}
use Rattle.std.proofs.lemmas.Bool.{cases_lt}
use Rattle.param_tree.specs.declared.Kind.TheVariants.{I16}
use Rattle.storage_lines.specs.declared.lines.LineWrite.{LineWrite}
use Rattle.storage_lines.specs.declared.areas.Area.TheVariants as area
use Rattle.storage_lines.specs.Areas.{size_of_area}
use Rattle.storage_lines.specs.Bytes.{IsBytes}
use Rattle.storage_lines.specs.Lines.{after, EachPrefix}
use Rattle.storage_lines.proofs.LineLemmas.{after-append, length-after}
use Rattle.storage_lines.proofs.PrefixLemmas.{prefix_append, prefix_nil}
use Rattle.param_records.specs.Records.{Record, records_of, place_from}
use Rattle.param_records.specs.Changes.{IsFull}
use Rattle.param_records.specs.Steps.{records_in_storage}
use Rattle.mission_commands.specs.declared.commands.Command.{Command}
use Rattle.mission_commands.specs.Storable.{IsStorable}
use Rattle.mission_records.specs.declared.reading.TheConstants.{CAPACITY, TOTAL_INDEX}
use Rattle.mission_records.specs.Mission.{version, total_row, place_of_command, command_bytes, total_writes, version_writes, command_writes, begin_writes, put_writes}
use Rattle.mission_records.specs.Steps.{IsFormatted, StaysFormatted}
use Rattle.mission_records.proofs.Commands.{length-command}
use Rattle.mission_records.proofs.Totals.{all_writes, stays, total_setting, zero_fits}
use Rattle.fence_records.specs.Lists as fences
use Rattle.mission_service.specs.declared.requests.MissionType.{MissionType}
use Rattle.mission_service.specs.declared.requests.MissionType.TheVariants.{Mission, Fence}
use Rattle.mission_service.specs.Uploads.{Missions}
use Rattle.mission_service.specs.Service.{clear_writes}
use Rattle.vehicle_core.specs.Acts.{Act}
use Rattle.vehicle_runs.specs.Runs.{did_in, start}
use Rattle.vehicle_laws.specs.Fitting.{AllFit}
use Rattle.vehicle_laws.specs.Uploads.{run_over}
use Rattle.vehicle_laws.specs.Rows.{KeepsParams}
use Rattle.vehicle_laws.specs.Laws.{StartsFormatted, StaysInOneLine}
use Rattle.vehicle_laws.proofs.Keeping.{then_stays, formatted_then}
use Rattle.vehicle_laws.proofs.ActLines.{OfRow, OfMissions, act_lines}
use Rattle.vehicle_laws.proofs.Fences.{clear_beside, replace_beside}
use Rattle.vehicle_laws.proofs.FenceSteps.{HasPlace, has_place}
use Rattle.vehicle_laws.proofs.RowSteps.{piece_keeps, same_records}
use Rattle.vehicle_laws.proofs.Status.{status, fit_before, fit_since}
use Rattle.vehicle_laws.proofs.LinesByActs.{lines_by_acts}

abbrev Stays : List ℕ → List LineWrite → Type 0
Stays bytes ws = EachPrefix (StaysFormatted bytes) bytes ws

stays_none : (bytes : List ℕ) → IsFormatted bytes → Stays bytes []
stays_none bytes f = prefix_nil (StaysFormatted bytes) bytes (record { formatted = f; one_line = λ t. t })

stays_then : (bytes : List ℕ) (xs ys : List LineWrite) → Stays bytes xs → Stays (after bytes xs) ys → Stays bytes (xs ++ ys)
stays_then bytes xs ys x y =
    let mid = after bytes xs in
    prefix_append (StaysFormatted bytes) bytes xs ys x (λ j h. then_stays bytes mid (after mid (take j ys)) (all_writes (StaysFormatted bytes) bytes xs x) (y j h))

-- lines that leave the parameters
keeps_stay : (bytes : List ℕ) (ws : List LineWrite) → IsFormatted bytes → EachPrefix (KeepsParams bytes) bytes ws → Stays bytes ws
keeps_stay bytes ws f k j h =
    let now = after bytes (take j ws) in
    let p = k j h in
    record {
      formatted = record { size = length-after bytes (take j ws) ∙ f.size; params = subst IsBytes (sym p) f.params; magic = ap (λ (l : List ℕ). take 4 l) p ∙ f.magic };
      one_line = λ t. record { at = t.at; there = ap (λ (l : List ℕ). place_from 4 20 1 I16 (records_of l)) p ∙ t.there; one_line = t.one_line };
    }

total_stays : (bytes : List ℕ) (n : ℕ) → IsFormatted bytes → n ≤ CAPACITY → ¬ IsFull (records_in_storage bytes) total_row n → Stays bytes (total_writes bytes n)
total_stays bytes n f few room = stays bytes TOTAL_INDEX total_row n (total_setting bytes n f few room)

zero_stays : (bytes : List ℕ) → IsFormatted bytes → Stays bytes (total_writes bytes 0)
zero_stays bytes f = total_stays bytes 0 f (omega arith) (zero_fits (records_in_storage bytes))

begin_stays : (bytes : List ℕ) → IsFormatted bytes → Stays bytes (begin_writes bytes)
begin_stays bytes f =
    let w1 = total_writes bytes 0 in
    let x = zero_stays bytes f in
    let mid = after bytes w1 in
    let g = formatted_then bytes w1 x in
    stays_then bytes w1 (version_writes mid) x (keeps_stay mid (version_writes mid) g (piece_keeps 0 version mid g.size (omega arith)))

put_stays : (bytes : List ℕ) (n : ℕ) (c : Command) → IsFormatted bytes → IsStorable c → n < CAPACITY → ¬ IsFull (records_in_storage bytes) total_row (n + 1) → Stays bytes (put_writes bytes n c)
put_stays bytes n c f storable few room =
    let at = place_of_command n in
    let new = command_bytes c in
    let long : length new ≡ 15 = length-command c storable in
    let fits : at + length new ≤ size_of_area area.Mission = omega arith in
    let w1 = command_writes bytes n c in
    let mid = after bytes w1 in
    let k = piece_keeps at new bytes f.size fits in
    let p : KeepsParams bytes mid = all_writes (KeepsParams bytes) bytes w1 k in
    let x = keeps_stay bytes w1 f k in
    stays_then bytes w1 (total_writes mid (n + 1)) x (total_stays mid (n + 1) (formatted_then bytes w1 x) (omega arith) (λ g. room (subst (λ (rs : List Record). IsFull rs total_row (n + 1)) (same_records mid bytes p) g)))

clears_stay : (types : List MissionType) (bytes : List ℕ) → IsFormatted bytes → Stays bytes (clear_writes bytes types)
unfolding clear_writes
clears_stay [] bytes f = stays_none bytes f
clears_stay (Mission ∷ ts) bytes f =
    let w1 = total_writes bytes 0 in
    let x = zero_stays bytes f in
    stays_then bytes w1 (clear_writes (after bytes w1) ts) x (clears_stay ts (after bytes w1) (formatted_then bytes w1 x))
clears_stay (Fence ∷ ts) bytes f =
    let w1 = fences.clear_fence_writes bytes in
    let x = keeps_stay bytes w1 f (λ j h. (clear_beside bytes f.size j h).params) in
    stays_then bytes w1 (clear_writes (after bytes w1) ts) x (clears_stay ts (after bytes w1) (formatted_then bytes w1 x))

row_stays : (bytes : List ℕ) (index : ℕ) → IsFormatted bytes → OfRow (Stays bytes) bytes index
row_stays bytes index f = record {
  none = stays_none bytes f;
  sets = λ row number is kept room other. stays bytes index row number (record { formatted = f; is = is; kept = kept; room = room });
}

missions_stay : (bytes : List ℕ) (m : Missions) → IsFormatted bytes → HasPlace m → OfMissions (λ request. Stays bytes) bytes m
missions_stay bytes m f few = record {
  none = λ request. stays_none bytes f;
  begins = λ count. begin_stays bytes f;
  empties = λ t count. clears_stay (t ∷ []) bytes f;
  clears = λ types one. clears_stay types bytes f;
  puts = λ u seq c is storable room. put_stays bytes u.expected c f storable (few u is) room;
  replaces = λ seq i items ws e. keeps_stay bytes ws f (λ j h. (replace_beside bytes items f.size ws e j h).params);
}

-- the lines of an act
act_stays : (budget : ℕ) (b : List ℕ) (acts : List Act) (act : Act) → StartsFormatted b → AllFit (acts ++ act ∷ []) → Stays (after b (run_over budget b acts).issued) (did_in budget b (run_over budget b acts) act).writes
act_stays budget b acts act f fit =
    let r = run_over budget b acts in
    let bytes = after b r.issued in
    let st = status budget b acts f (fit_before acts (act ∷ []) fit) in
    act_lines (λ row ws. Stays bytes ws) budget bytes r.machine.vehicle act
    (record { none = λ row. stays_none bytes st.formatted; of_row = λ index. row_stays bytes index st.formatted; of_missions = missions_stay bytes r.machine.vehicle.missions st.formatted (has_place budget b acts st) })
    (fit_since acts (act ∷ []) fit).0

-- after whole acts
whole_stays : (budget : ℕ) (b : List ℕ) (acts : List Act) → StartsFormatted b → AllFit acts → StaysFormatted (after b (start b).issued) (after b (run_over budget b acts).issued)
whole_stays budget b acts f fit = let st = status budget b acts f fit in record { formatted = st.formatted; one_line = st.one_line }

pub stays_in_one_line : StaysInOneLine
stays_in_one_line budget b acts k f fit from =
    let all = (run_over budget b acts).issued in
    let old = after b (start b).issued in
    elim (cases_lt k (length all)) [
      | inr past ↦ subst (λ (ws : List LineWrite). StaysFormatted old (after b ws)) (sym (take_all k all past)) (whole_stays budget b acts f fit)
      | inl within ↦
          let x = lines_by_acts budget b acts k from within in
          let r = run_over budget b x.before in
          let fit2 : AllFit (x.before ++ x.act ∷ x.since) = subst AllFit x.split fit in
          let split : x.before ++ x.act ∷ x.since ≡ (x.before ++ x.act ∷ []) ++ x.since = sym (append_assoc x.before (x.act ∷ []) x.since) in
          let fit3 : AllFit (x.before ++ x.act ∷ []) = fit_before (x.before ++ x.act ∷ []) x.since (subst AllFit split fit2) in
          let here = act_stays budget b x.before x.act f fit3 x.own x.few in
          let now = take x.own (did_in budget b r x.act).writes in
          let whole : after b (take k all) ≡ after (after b r.issued) now = ap (λ (l : List LineWrite). after b l) x.lines ∙ after-append b r.issued now in
          subst (StaysFormatted old) (sym whole) (then_stays old (after b r.issued) (after (after b r.issued) now) (whole_stays budget b x.before f (fit_before x.before (x.act ∷ x.since) fit2)) here)
    ]
