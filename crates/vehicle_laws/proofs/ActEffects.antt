-- What an act does to the mission and its uploads.
use Rattle.std.proofs.Common.{◌≡◌, inl, inr, ℕ, ◌+◌, ◌<◌, ◌≤◌, Bool, true, false, cond, not, List, [], ◌∷◌, refl, sym, ◌∙◌, ap, subst, Option, Some, None}
use Rattle.std.specs.Prelude.{nat_le, ◌==◌, ◌||◌, map, IfSome, slice_get}
use Rattle.std.specs.Option.{option_map_or}
use Rattle.std.proofs.lemmas.Bool.{cond_both, or_left, or_right}
use Rattle.param_tree.specs.declared.Var.{Var}
use Rattle.param_tree.specs.Rows.{vehicle_rows}
use Rattle.storage_lines.specs.declared.lines.LineWrite.{LineWrite}
use Rattle.storage_lines.specs.Lines.{after}
use Rattle.storage_lines.specs.Pieces.{writes_of}
use Rattle.param_records.specs.Changes.{set_pieces, is_full}
use Rattle.param_records.specs.Steps.{records_in_storage, IsKept}
use Rattle.param_service.specs.Requests as parameters
use Rattle.param_service.specs.Requests.{Show, ShowAll, Set}
use Rattle.param_service.specs.Budget.{exceeds, allowed_writes}
use Rattle.param_service.specs.Service as parameter_service
use Rattle.param_service.specs.Service.{is_total, writes_for, set_writes, streamed}
use Rattle.mission_commands.specs.declared.commands.Command.{Command}
use Rattle.mission_records.specs.declared.reading.TheConstants.{CAPACITY}
use Rattle.mission_records.specs.Mission.{total_row, begin_writes}
use Rattle.mission_records.specs.Steps.{IsFormatted, KeepsMission}
use Rattle.mission_records.proofs.Totals.{total_there, sets_no_mission}
use Rattle.mission_service.specs.declared.requests.MissionType.{MissionType}
use Rattle.mission_service.specs.declared.requests.MissionType.TheVariants.{Mission}
use Rattle.mission_service.specs.declared.uploads.Target.{Target}
use Rattle.mission_service.specs.Uploads.{Upload, Uploads, Quiet, Open, Finished}
use Rattle.mission_service.specs.Requests as missions
use Rattle.mission_service.specs.Requests.{Begin, Asking, operation_cancelled}
use Rattle.mission_service.specs.Service as service
use Rattle.mission_service.specs.Service.{Told, idled, idle, idle_turns, answered}
use Rattle.mission_service.specs.declared.replies.Content.TheVariants.{Next, Answer}
use Rattle.vehicle_core.specs.Vehicle.{Vehicle, Asked, Parameters, Missions, Orders, Content, Parameter, Alive, OfMissions, Acknowledged, Told as VehicleTold, is_heard, tells_of_missions, allowed_of}
use Rattle.vehicle_core.specs.Acts.{Act, Said, Beat, Stream, Did, did, heard_as, nothing, by_parameters, beaten}
use Rattle.vehicle_runs.specs.Frames.{Machine, Delivery, deliveries, counted, counted_all}
use Rattle.vehicle_runs.specs.Runs.{Run, did_in, take_act, act_done}
use Rattle.vehicle_laws.specs.Uploads.{uploads_at, says, OpensUpload, OpensNone, command_in, said_in}
use Rattle.vehicle_laws.specs.Fitting.{SettingFits, AskedFits, ActFits}
use Rattle.vehicle_laws.proofs.Keeping.{keeps_none, keeps_empties}
use Rattle.vehicle_laws.proofs.Effects.{Begun, NotBegun, is_next, first_next, Effect, cond_none, unchanged, effect}

-- a row that is set keeps the mission
row_keeps : (bytes : List ℕ) (index number : ℕ) (row : Var) → IsFormatted bytes → slice_get vehicle_rows index ≡ Some row → IsKept row.kind number → KeepsMission bytes (writes_for bytes row number)
row_keeps bytes index number row f is kept =
    let full = is_full (records_in_storage bytes) row number in
    let ws = writes_of bytes (set_pieces vehicle_rows (records_in_storage bytes) row number) in
    cond_both (is_total row || full) [] ws (KeepsMission bytes)
    (λ t. keeps_none bytes f)
    (λ t. sets_no_mission bytes index row number f
    (λ e.
    let five : Some total_row ≡ Some row = sym total_there ∙ ap (λ (i : ℕ). slice_get vehicle_rows i) (sym e) ∙ is in
    let same : total_row ≡ row = cc in
    let total : is_total row ≡ true = ap is_total (sym same) in
    let clash : true ≡ false = sym (or_left (is_total row) full total) ∙ t in cc)
    is kept
    (λ g. let clash : true ≡ false = sym (or_right (is_total row) full (g)) ∙ t in cc))

setting_keeps : (bytes : List ℕ) (index number : ℕ) (o : Option Var) → IsFormatted bytes → slice_get vehicle_rows index ≡ o → IfSome o (λ row. IsKept row.kind number) → KeepsMission bytes (option_map_or (λ row. writes_for bytes row number) o [])
setting_keeps bytes index number None f is kept = keeps_none bytes f
setting_keeps bytes index number (Some row) f is kept = row_keeps bytes index number row f is kept

-- lines that are allowed
allowed_keeps : (bytes : List ℕ) (allowed : Option ℕ) (ws : List LineWrite) → IsFormatted bytes → KeepsMission bytes ws → KeepsMission bytes (allowed_writes allowed ws)
allowed_keeps bytes allowed ws f keeps = cond_both (exceeds allowed ws) [] ws (KeepsMission bytes) (λ t. keeps_none bytes f) (λ t. keeps)

parameters_keep : (bytes : List ℕ) (allowed : Option ℕ) (next_rows : List ℕ) (station : ℕ) (request : parameters.Request) → IsFormatted bytes → SettingFits request → KeepsMission bytes (parameter_service.answered bytes allowed next_rows station request).writes
parameters_keep bytes allowed next_rows station (Show index) f fits = keeps_none bytes f
parameters_keep bytes allowed next_rows station ShowAll f fits = keeps_none bytes f
parameters_keep bytes allowed next_rows station (Set index None) f fits = allowed_keeps bytes allowed [] f (keeps_none bytes f)
parameters_keep bytes allowed next_rows station (Set index (Some number)) f fits =
    allowed_keeps bytes allowed (set_writes bytes index (Some number)) f (setting_keeps bytes index number (slice_get vehicle_rows index) f refl fits)

-- the command that the station gives with this number in an act, if it does
abbrev pub command_given : ℕ → ℕ → Act → Option Command
command_given station seq act = said_in (command_in seq) station act

-- the uploads of a mission
abbrev pub missions_at : Run → Uploads
missions_at r = uploads_at Mission r

-- An act opens an upload of a mission.
pub record ActBegun (budget : ℕ) (b : List ℕ) (r : Run) (act : Act) (writes : List LineWrite) (now : Uploads) : Type 0 where
  pub station : ℕ
  pub count : ℕ
  pub opens : OpensUpload budget Mission b r act station count
  pub writes_are : writes ≡ begin_writes (after b r.issued)
  pub upload : Upload
  pub now_is : now ≡ Open upload
  pub owner : upload.owner ≡ station
  pub count_is : upload.count ≡ count
  pub expected : upload.expected ≡ 0
  pub some : 0 < count
  pub few : count ≤ CAPACITY

effect_map : (B C N M : Type 0) (bytes : List ℕ) (before : Uploads) (given : Upload → Option Command) (ws : List LineWrite) (now : Uploads) → (B → C) → (N → M) → Effect B N bytes before given ws now → Effect C M bytes before given ws now
effect_map B C N M bytes before given ws now f g (inl x) = inl (f x)
effect_map B C N M bytes before given ws now f g (inr x) = inr (g x.0, x.1)

-- an idle turn
beat_effect : (B N : Type 0) (bytes : List ℕ) (before : Uploads) (station : ℕ) → IsFormatted bytes → N → Effect B N bytes before (λ u. None) [] (idled station Mission before).0
beat_effect B N bytes Quiet station f alone = unchanged B N bytes Quiet (λ u. None) [] Quiet refl (keeps_none bytes f) (λ u. refl) alone
beat_effect B N bytes (Finished s l) station f alone = unchanged B N bytes (Finished s l) (λ u. None) [] (Finished s l) refl (keeps_none bytes f) (λ u. refl) alone
beat_effect B N bytes (Open u) station f alone =
    let none : List Told = [] in
    let again : Uploads × List Told = (Open (record u { idle = u.idle + 1 }), record { target = u.target; number = 0; content = Next u.expected } ∷ []) in
    let gone : Uploads × List Told = (Quiet, record { target = u.target; number = 0; content = Answer operation_cancelled } ∷ []) in
    let other : Uploads × List Told = (Open u, none) in
    let P : Uploads × List Told → Type 0 = λ x. Effect B N bytes (Open u) (λ u. None) [] x.0 in
    cond_both (not (u.owner == station)) other (cond (nat_le idle_turns (u.idle + 1)) gone again) P
    (λ t. unchanged B N bytes (Open u) (λ u. None) [] (Open u) refl (keeps_none bytes f) (λ u. refl) alone)
    (λ t. cond_both (nat_le idle_turns (u.idle + 1)) gone again P
    (λ t. inr (alone, inl (record { empties = keeps_empties bytes [] (keeps_none bytes f); closed = λ v e. cc })))
    (λ t. inr (alone, inr (u, refl, inl (record { keeps = keeps_none bytes f; none = refl; upload = record u { idle = u.idle + 1 }; now_is = refl; owner = refl; count = refl; expected = refl })))))

-- what a station asked in an act
abbrev pub asked_of : Act → Option Asked
asked_of (Said s heard) = heard.asked
asked_of (Beat s) = None
asked_of (Stream s) = None

abbrev ActEffect : ℕ → List ℕ → Run → Act → Did → Type 0
ActEffect budget b r act d = Effect (ActBegun budget b r act (did_in budget b r act).writes d.vehicle.missions.mission) (OpensNone budget Mission b r act) (after b r.issued) (missions_at r) (λ u. command_given u.owner u.expected act) d.writes d.vehicle.missions.mission

-- nothing is given
silent : (budget : ℕ) (b : List ℕ) (r : Run) (s : ℕ) (v : Bool) (asked : Option Asked) (ws : List LineWrite) → KeepsMission (after b r.issued) ws → ((u : Upload) → command_given u.owner u.expected (Said s (heard_as v asked)) ≡ None) → OpensNone budget Mission b r (Said s (heard_as v asked))
    → Effect (ActBegun budget b r (Said s (heard_as v asked)) (did_in budget b r (Said s (heard_as v asked))).writes (missions_at r)) (OpensNone budget Mission b r (Said s (heard_as v asked))) (after b r.issued) (missions_at r) (λ u. command_given u.owner u.expected (Said s (heard_as v asked))) ws (missions_at r)
silent budget b r s v asked ws k n alone = unchanged _ _ (after b r.issued) (missions_at r) (λ u. command_given u.owner u.expected (Said s (heard_as v asked))) ws (missions_at r) refl k n alone

-- the first content asks for an item
abbrev content_next : Content → Bool
content_next (OfMissions t) = is_next t.content
content_next (Parameter index value) = false
content_next (Alive armed) = false
content_next (Acknowledged target command result) = false

abbrev told_next : List VehicleTold → Bool
told_next [] = false
told_next (x ∷ xs) = content_next x.content

same_next : (s : ℕ) (told : List Told) → told_next (map (tells_of_missions s) told) ≡ first_next told
same_next s [] = refl
same_next s (x ∷ xs) = refl

abbrev pub from_station : ℕ → Target → Asking → service.From
from_station s sender asking = record { station = s; target = sender; number = asking.number }

-- a request that isn't begun opens no upload
pub not_opened : (t : MissionType) (s : ℕ) (v : Bool) (sender : Target) (asking : Asking) (told : List Told) (n m : ℕ) (w : Bool) (to : Target) (number : ℕ) → ((count : ℕ) → asking.request ≡ Begin t count → first_next told ≡ true → ⊥)
    → Said s (heard_as v (Some (Missions sender asking))) ≡ says n w to number (Begin t m) → map (tells_of_missions s) told ≡ tells_of_missions n (record { target = to; number = number; content = Next 0 }) ∷ [] → ⊥
not_opened t s v sender asking told n m w to number alone is h =
    let same : asking.request ≡ Begin t m = let both : Some (Missions sender asking) ≡ Some (Missions to (record { number = number; request = Begin t m })) = ap asked_of is in cc in
    alone m same (sym (same_next s told) ∙ ap told_next h)

-- what is done for a station that was heard
said_effect : (budget : ℕ) (b : List ℕ) (r : Run) (s : ℕ) (v : Bool) (asked : Option Asked) → IsFormatted (after b r.issued) → AskedFits asked → ActEffect budget b r (Said s (heard_as v asked)) (did_in budget b r (Said s (heard_as v asked)))
unfolding did
said_effect budget b r s v None f fits = silent budget b r s v None [] (keeps_none (after b r.issued) f) (λ u. cond_none (u.owner == s)) (λ n m o. let clash = ap asked_of o.is in cc)
said_effect budget b r s v (Some (Parameters request)) f fits =
    let allowed = allowed_of budget r.machine.vehicle in
    silent budget b r s v (Some (Parameters request)) (parameter_service.answered (after b r.issued) allowed r.machine.vehicle.next_rows s request).writes
    (parameters_keep (after b r.issued) allowed r.machine.vehicle.next_rows s request f fits) (λ u. cond_none (u.owner == s)) (λ n m o. let clash = ap asked_of o.is in cc)
said_effect budget b r s v (Some (Orders sender command order)) f fits =
    silent budget b r s v (Some (Orders sender command order)) [] (keeps_none (after b r.issued) f) (λ u. cond_none (u.owner == s)) (λ n m o. let clash = ap asked_of o.is in cc)
said_effect budget b r s v (Some (Missions sender asking)) f fits =
    let bytes = after b r.issued in
    let allowed = allowed_of budget r.machine.vehicle in
    let from = from_station s sender asking in
    let m = r.machine.vehicle.missions in
    let d = answered bytes allowed m from asking.request in
    effect_map (Begun bytes from asking.request d.told d.writes d.missions.mission) _ (NotBegun from asking.request d.told) _ bytes (missions_at r) (λ u. command_given u.owner u.expected (Said s (heard_as v (Some (Missions sender asking))))) d.writes d.missions.mission
    (λ x. record {
      station = s;
      count = x.count;
      opens = record {
        v2 = v;
        sender = sender;
        number = asking.number;
        is = ap (λ (q : missions.Request). says s v sender asking.number q) x.asked;
        told = ap (λ (l : List Told). map (tells_of_missions s) l) x.told_is;
      };
      writes_are = x.writes_are;
      upload = record { owner = s; target = sender; count = x.count; expected = 0; kept = []; idle = 0 };
      now_is = x.now_is;
      owner = refl;
      count_is = refl;
      expected = refl;
      some = x.some;
      few = x.few;
    })
    (λ alone n m o. not_opened Mission s v sender asking d.told n m o.v2 o.sender o.number alone o.is o.told)
    (effect bytes allowed m.mission m.fence from asking.request f fits.0)

-- what an act does
done_effect : (budget : ℕ) (b : List ℕ) (r : Run) (act : Act) → IsFormatted (after b r.issued) → ActFits act → ActEffect budget b r act (did_in budget b r act)
unfolding did
done_effect budget b r (Said s heard) f fits = said_effect budget b r s heard.v2 heard.asked f fits
done_effect budget b r (Beat s) f fits =
    let vehicle = r.machine.vehicle in
    cond_both (is_heard vehicle s) (beaten vehicle s (idle vehicle.missions s)) (nothing vehicle) (ActEffect budget b r (Beat s))
    (λ t. beat_effect _ _ (after b r.issued) (missions_at r) s f (λ n m o. let clash = o.is in cc))
    (λ t. unchanged _ _ (after b r.issued) (missions_at r) (λ u. None) [] (missions_at r) refl (keeps_none (after b r.issued) f) (λ u. refl) (λ n m o. let clash = o.is in cc))
done_effect budget b r (Stream s) f fits =
    let vehicle = r.machine.vehicle in
    let d = by_parameters vehicle (streamed (after b r.issued) vehicle.next_rows s) in
    let same = unchanged (ActBegun budget b r (Stream s) (did_in budget b r (Stream s)).writes (missions_at r)) (OpensNone budget Mission b r (Stream s)) (after b r.issued) (missions_at r) (λ u. None) [] (missions_at r) refl (keeps_none (after b r.issued) f) (λ u. refl) (λ n m o. let clash = o.is in cc) in
    cond_both (is_heard vehicle s) d (nothing vehicle) (ActEffect budget b r (Stream s)) (λ t. same) (λ t. same)

vehicle_counted : (machine : Machine) (ds : List Delivery) → (counted_all machine ds).vehicle ≡ machine.vehicle
vehicle_counted machine [] = refl
vehicle_counted machine (d ∷ ds) = vehicle_counted (counted machine d) ds

-- the state after an act is that of what was done
pub vehicle_after : (budget : ℕ) (b : List ℕ) (r : Run) (act : Act) → (act_done budget b r act).machine.vehicle ≡ (did_in budget b r act).vehicle
vehicle_after budget b r act = vehicle_counted (take_act budget b r act).machine (deliveries (did_in budget b r act).vehicle (did_in budget b r act).told)

pub act_effect : (budget : ℕ) (b : List ℕ) (r : Run) (act : Act) → IsFormatted (after b r.issued) → ActFits act
    → Effect (ActBegun budget b r act (did_in budget b r act).writes (missions_at (act_done budget b r act))) (OpensNone budget Mission b r act) (after b r.issued) (missions_at r) (λ u. command_given u.owner u.expected act) (did_in budget b r act).writes (missions_at (act_done budget b r act))
act_effect budget b r act f fits = subst (λ (v : Vehicle). Effect (ActBegun budget b r act (did_in budget b r act).writes v.missions.mission) (OpensNone budget Mission b r act) (after b r.issued) (missions_at r) (λ u. command_given u.owner u.expected act) (did_in budget b r act).writes v.missions.mission)
    (sym (vehicle_after budget b r act)) (done_effect budget b r act f fits)
