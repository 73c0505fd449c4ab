-- An upload that ends with the answer 0.
use Rattle.std.proofs.Common.{◌≡◌, ℕ, ◌+◌, Bool, true, false, cond, not, List, [], ◌∷◌, ◌++◌, length, refl, sym, ◌∙◌, ap, subst, arith, Option, Some, None, append_assoc}
use Rattle.std.specs.Prelude.{Result, Ok, Err, ◌==◌, map}
use Rattle.std.specs.Option.{option_map_or}
use Rattle.std.proofs.lemmas.List.{length_push}
use Rattle.std.proofs.lemmas.Bool.{cond_both, eqb-true, eq-eqb, ne_eqb, not-false}
use Rattle.storage_lines.specs.declared.lines.LineWrite.{LineWrite}
use Rattle.storage_lines.specs.Lines.{after}
use Rattle.storage_lines.proofs.LineLemmas.{after-append}
use Rattle.param_records.specs.Changes.{IsFull, is_full}
use Rattle.param_records.specs.Steps.{records_in_storage}
use Rattle.mission_commands.specs.declared.commands.Command.{Command}
use Rattle.mission_records.specs.Mission.{total_row, mission_of, put_writes}
use Rattle.mission_records.specs.Steps.{PutsCommand}
use Rattle.mission_commands.specs.Storable.{IsStorable}
use Rattle.mission_records.proofs.Puts.{puts}
use Rattle.mission_service.specs.declared.requests.MissionType.{MissionType}
use Rattle.mission_service.specs.declared.requests.MissionType.TheVariants.{Mission, Fence}
use Rattle.mission_service.specs.declared.uploads.Target.{Target}
use Rattle.mission_service.specs.Uploads.{Upload, Uploads, Quiet, Open, Finished, Missions as MissionUploads}
use Rattle.mission_service.specs.Requests.{Given, ForMission, ForFence, Request, Give, type_of_given}
use Rattle.mission_service.specs.Service as service
use Rattle.mission_service.specs.declared.replies.Content.{Content}
use Rattle.mission_service.specs.declared.replies.Content.TheVariants.{Answer, Next, Total, MissionItem, FencePart}
use Rattle.param_service.specs.Budget.{exceeds}
use Rattle.mission_service.specs.Service.{Told, From, Taken as TakenItem, tells, only, is_last, if_allowed, command_lines, taken, took, told_after, given_to, accepted, denied, invalid_sequence, no_space}
use Rattle.vehicle_core.specs.Vehicle.{Asked, Missions, tells_of_missions, allowed_of, Content as VehicleContent, Parameter, Alive, OfMissions, Acknowledged, Told as VehicleTold}
use Rattle.vehicle_core.specs.Acts.{Act, Said, did}
use Rattle.vehicle_runs.specs.Runs.{Run, did_in}
use Rattle.vehicle_laws.specs.Uploads.{run_over, says, OpensUpload, OpensNone, UploadGoesOn, commands_from, command_in}
use Rattle.mission_service.specs.Asked.{RequestFits, GivenFits}
use Rattle.vehicle_laws.specs.Fitting.{ActFits, AllFit}
use Rattle.vehicle_laws.specs.Laws.{LawOfUploads}
use Rattle.vehicle_laws.proofs.ActEffects.{missions_at, command_given}
use Rattle.vehicle_laws.proofs.Held.{more_from}
use Rattle.vehicle_laws.proofs.Status.{status, the_open, goes_snoc, run_since, run_snoc, from_snoc, fit_before, fit_since}

-- the last command of the upload is put
pub record LastPut (bytes : List ℕ) (u : Upload) (seq : ℕ) (stored : Result Command ℕ) (writes : List LineWrite) : Type 0 where
  pub command : Command
  pub stored_is : stored ≡ Ok command
  pub next : (seq == u.expected) ≡ true
  pub writes_are : writes ≡ put_writes bytes u.expected command
  pub room : ¬ IsFull (records_in_storage bytes) total_row (u.expected + 1)
  pub last : is_last u ≡ true

abbrev pub is_zero : Content → Bool
is_zero (Answer result) = result == 0
is_zero (Next n) = false
is_zero (Total count) = false
is_zero (MissionItem seq command) = false
is_zero (FencePart seq item) = false

-- the first content is the answer 0
abbrev pub first_zero : List Told → Bool
first_zero [] = false
first_zero (x ∷ xs) = is_zero x.content

abbrev IsLastPut : List ℕ → Upload → ℕ → Result Command ℕ → service.Did → Type 0
IsLastPut bytes u seq stored d = first_zero d.told ≡ true → LastPut bytes u seq stored d.writes

other_answer : (bytes : List ℕ) (u : Upload) (seq : ℕ) (stored : Result Command ℕ) (d : service.Did) → first_zero d.told ≡ false → IsLastPut bytes u seq stored d
other_answer bytes u seq stored d h t = let clash : false ≡ true = sym h ∙ t in cc

abbrev both : Uploads → Uploads → MissionUploads
both before fence = record { mission = before; fence = fence }

last_taken : (bytes : List ℕ) (limit : Option ℕ) (u : Upload) (fence : Uploads) (from : From) (seq : ℕ) (stored : Result Command ℕ) → RequestFits (Give seq (ForMission stored)) → (seq == u.expected) ≡ true
    → IsLastPut bytes u seq stored (took (both (Open u) fence) from Mission u (taken bytes limit u (ForMission stored)))
last_taken bytes limit u fence from seq (Err e) fits next = other_answer bytes u seq (Err e) (only from (both Quiet fence) (Answer e)) (ne_eqb e 0 fits)
last_taken bytes limit u fence from seq (Ok c) fits next =
    let m = both (Open u) fence in
    let ws = put_writes bytes u.expected c in
    let full = is_full (records_in_storage bytes) total_row (u.expected + 1) in
    let P : service.Did → Type 0 = IsLastPut bytes u seq (Ok c) in
    let refused : P (only from (both Quiet fence) (Answer no_space)) = other_answer bytes u seq (Ok c) (only from (both Quiet fence) (Answer no_space)) refl in
    cond_both full (Err no_space) (Ok ws) (λ (r : Result (List LineWrite) ℕ). P (took m from Mission u (if_allowed limit [] r)))
    (λ t. refused)
    (λ room. cond_both (exceeds limit ws) (Err no_space) (Ok (record { writes = ws; kept = [] })) (λ (r : Result TakenItem ℕ). P (took m from Mission u r))
    (λ t. refused)
    (λ t zero. record {
      command = c;
      stored_is = refl;
      next = next;
      writes_are = refl;
      room = λ g. let clash : true ≡ false = sym (g) ∙ room in cc;
      last = cond_both (is_last u) (Answer accepted) (Next (u.expected + 1)) (λ (x : Content). is_zero x ≡ true → is_last u ≡ true) (λ yes z. yes) (λ other z. let clash : false ≡ true = z in cc) zero;
    }))

last_given : (bytes : List ℕ) (limit : Option ℕ) (before fence : Uploads) (u : Upload) (from : From) (seq : ℕ) (stored : Result Command ℕ) → before ≡ Open u → RequestFits (Give seq (ForMission stored)) → u.owner ≡ from.station
    → IsLastPut bytes u seq stored (given_to bytes limit (both before fence) from Mission seq (ForMission stored) before)
last_given bytes limit Quiet fence u from seq stored e fits own = absurd (let clash : Quiet ≡ Open u = e in cc)
last_given bytes limit (Finished s l) fence u from seq stored e fits own = absurd (let clash : Finished s l ≡ Open u = e in cc)
last_given bytes limit (Open w) fence u from seq stored e fits own =
    let same : w ≡ u = cc in
    let m = both (Open w) fence in
    let P : service.Did → Type 0 = IsLastPut bytes w seq stored in
    let d3 = took m from Mission w (taken bytes limit w (ForMission stored)) in
    let d2 = cond (not (seq == w.expected)) (only from m (Answer invalid_sequence)) d3 in
    let d1 = cond (seq + 1 == w.expected) (only from m (Next w.expected)) d2 in
    subst (λ (x : Upload). IsLastPut bytes x seq stored (given_to bytes limit m from Mission seq (ForMission stored) (Open w))) same
    (cond_both (not (w.owner == from.station)) (only from m (Answer denied)) d1 P
    (λ t. other_answer bytes w seq stored (only from m (Answer denied)) refl)
    (λ t. cond_both (seq + 1 == w.expected) (only from m (Next w.expected)) d2 P
    (λ t. other_answer bytes w seq stored (only from m (Next w.expected)) refl)
    (λ t. cond_both (not (seq == w.expected)) (only from m (Answer invalid_sequence)) d3 P
    (λ t. other_answer bytes w seq stored (only from m (Answer invalid_sequence)) refl)
    (λ t. last_taken bytes limit w fence from seq stored fits (not-false (seq == w.expected) t)))))

-- the same of what the vehicle tells
abbrev pub content_zero : VehicleContent → Bool
content_zero (OfMissions t) = is_zero t.content
content_zero (Parameter index value) = false
content_zero (Alive armed) = false
content_zero (Acknowledged target command result) = false

abbrev pub told_zero : List VehicleTold → Bool
told_zero [] = false
told_zero (x ∷ xs) = content_zero x.content

pub same_zero : (s : ℕ) (told : List Told) → told_zero (map (tells_of_missions s) told) ≡ first_zero told
same_zero s [] = refl
same_zero s (x ∷ xs) = refl

last_act : (budget : ℕ) (b : List ℕ) (r : Run) (u : Upload) (v : Bool) (target : Target) (number seq : ℕ) (stored : Result Command ℕ) → missions_at r ≡ Open u → RequestFits (Give seq (ForMission stored))
    → told_zero (did_in budget b r (says u.owner v target number (Give seq (ForMission stored)))).told ≡ true → LastPut (after b r.issued) u seq stored (did_in budget b r (says u.owner v target number (Give seq (ForMission stored)))).writes
unfolding did
last_act budget b r u v target number seq stored e fits zero =
    let bytes = after b r.issued in
    let m = r.machine.vehicle.missions in
    let from : From = record { station = u.owner; target = target; number = number } in
    let allowed = allowed_of budget r.machine.vehicle in
    let d = given_to bytes allowed m from Mission seq (ForMission stored) m.mission in
    last_given bytes allowed m.mission m.fence u from seq stored e fits refl (sym (same_zero u.owner d.told) ∙ zero)

abbrev pub gives_item : Request → Bool
gives_item (Give seq given) = true
gives_item _ = false

abbrev pub asks_to_take : Option Asked → Bool
asks_to_take (Some (Missions target asking)) = gives_item asking.request
asks_to_take _ = false

abbrev pub is_given : Act → Bool
is_given (Said s heard) = asks_to_take heard.asked
is_given _ = false

-- an act that gives an item opens no upload
pub gives_not_opens : (budget : ℕ) (t : MissionType) (b : List ℕ) (r : Run) (act : Act) (s : ℕ) (v : Bool) (target : Target) (number seq : ℕ) (given : Given) → act ≡ says s v target number (Give seq given) → OpensNone budget t b r act
gives_not_opens budget t b r act s v target number seq given e n m o = let clash : true ≡ false = ap is_given (sym e ∙ o.is) in cc

mission_given : (g : Given) → type_of_given g ≡ Mission → (stored : Result Command ℕ) × (g ≡ ForMission stored)
mission_given (ForMission stored) e = (stored, refl)
mission_given (ForFence stored) e = absurd (let clash : Fence ≡ Mission = e in cc)

pub law_of_uploads : LawOfUploads
law_of_uploads budget b acts last u f fit ends =
    let s = run_over budget b acts in
    let bytes = after b s.issued in
    let st = status budget b acts f (fit_before acts (last ∷ []) fit) in
    let x = the_open budget b acts u st ends.was_open in
    let o = x.ongoing in
    let same : u ≡ o.upload = let two : Open u ≡ Open o.upload = sym ends.was_open ∙ o.is in cc in
    let owner : u.owner ≡ x.station = ap (λ (w : Upload). w.owner) same ∙ o.owner in
    let count_is : u.count ≡ x.count = ap (λ (w : Upload). w.count) same ∙ o.count_is in
    let cs = commands_from x.station 0 x.since in
    let expected : u.expected ≡ length cs = ap (λ (w : Upload). w.expected) same ∙ o.expected in
    let chosen = mission_given ends.given ends.for_type in
    let stored = chosen.0 in
    let said : Act = says u.owner ends.v2 ends.sender ends.number (Give ends.seq (ForMission stored)) in
    let is : last ≡ said = ends.is ∙ ap (λ (g : Given). says u.owner ends.v2 ends.sender ends.number (Give ends.seq g)) chosen.1 in
    let fits : ActFits said = subst ActFits is (fit_since acts (last ∷ []) fit).0 in
    let zero : told_zero (did_in budget b s said).told ≡ true = ap (λ (act : Act). told_zero (did_in budget b s act).told) (sym is) ∙ ap told_zero ends.told in
    let lp = last_act budget b s u ends.v2 ends.sender ends.number ends.seq stored ends.was_open fits.0 zero in
    let c = lp.command in
    let seq_is : (ends.seq == length cs) ≡ true = ap (λ (n : ℕ). ends.seq == n) (sym expected) ∙ lp.next in
    let own : (x.station == u.owner) ≡ true = eq-eqb x.station u.owner (sym owner) in
    let storable : IsStorable c = subst (λ (r : Result Command ℕ). GivenFits (ForMission r)) lp.stored_is fits.0 in
    let gives : command_given x.station (length cs) last ≡ Some c =
    ap (λ (act : Act). command_given x.station (length cs) act) is
    ∙ ap (λ (r : Result Command ℕ). command_given x.station (length cs) (says u.owner ends.v2 ends.sender ends.number (Give ends.seq (ForMission r)))) lp.stored_is
    ∙ ap (λ (t : Bool). cond t (cond (ends.seq == length cs) (Some c) None) None) own
    ∙ ap (λ (t : Bool). cond t (Some c) None) seq_is in
    let zero_more : 0 + length cs ≡ length cs = omega arith in
    let more : commands_from x.station 0 (x.since ++ last ∷ []) ≡ cs ++ c ∷ [] =
    from_snoc command_in x.station 0 x.since last
    ∙ ap (λ (n : ℕ). cs ++ more_from x.station n last) zero_more
    ∙ ap (λ (g : Option Command). cs ++ option_map_or (λ d. d ∷ []) g []) gives in
    let more_own : commands_from u.owner 0 (x.since ++ last ∷ []) ≡ cs ++ c ∷ [] = ap (λ (n : ℕ). commands_from n 0 (x.since ++ last ∷ [])) owner ∙ more in
    let long : length (mission_of bytes) ≡ u.expected = ap (λ (l : List Command). length l) o.mission ∙ sym expected in
    let ws = put_writes bytes u.expected c in
    let w0 = puts bytes c o.held.formatted o.versioned storable (omega (arith, o.below, o.few, long, expected)) (λ g. lp.room (subst (λ (n : ℕ). IsFull (records_in_storage bytes) total_row (n + 1)) long g)) in
    let w : PutsCommand c bytes ws = subst (λ (n : ℕ). PutsCommand c bytes (put_writes bytes n c)) long w0 in
    let end : after b (run_over budget b (acts ++ last ∷ [])).issued ≡ after bytes ws =
    ap (λ (r : Run). after b r.issued) (run_snoc budget b acts last)
    ∙ after-append b s.issued (did_in budget b s last).writes
    ∙ ap (λ (act : Act). after bytes (did_in budget b s act).writes) is
    ∙ ap (λ (l : List LineWrite). after bytes l) lp.writes_are in
    let alone = gives_not_opens budget Mission b s last u.owner ends.v2 ends.sender ends.number ends.seq ends.given ends.is in
    let goes : UploadGoesOn budget Mission b (run_over budget b (x.before ++ x.opening ∷ [])) (x.since ++ last ∷ []) =
    goes_snoc budget Mission b (run_over budget b (x.before ++ x.opening ∷ [])) x.since last x.goes
    (subst (λ (r : Run). UploadGoesOn budget Mission b r (last ∷ [])) (sym (run_since budget b acts x.before x.since x.opening x.split)) ((u, ends.was_open), alone, tt)) in
    let all_fit : AllFit (x.before ++ x.opening ∷ (x.since ++ last ∷ [])) =
    subst AllFit (ap (λ (l : List Act). l ++ last ∷ []) x.split ∙ append_assoc x.before (x.opening ∷ x.since) (last ∷ [])) fit in
    let last_one : u.expected + 1 ≡ u.count = eqb-true (u.expected + 1) u.count lp.last in
    record {
      before = x.before;
      opening = x.opening;
      since = x.since;
      split = x.split;
      upload = record {
        opens = subst (λ (n : ℕ). OpensUpload budget Mission b (run_over budget b x.before) x.opening u.owner n) (sym count_is) (subst (λ (n : ℕ). OpensUpload budget Mission b (run_over budget b x.before) x.opening n x.count) (sym owner) x.opens);
        goes_on = goes;
        fit = all_fit;
      };
      list = ap mission_of end ∙ w.whole ∙ ap (λ (l : List Command). l ++ c ∷ []) o.mission ∙ sym more_own;
      all = ap (λ (l : List Command). length l) more_own ∙ omega (arith, length_push cs c);
    }
