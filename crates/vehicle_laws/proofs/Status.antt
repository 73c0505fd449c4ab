-- At each act of a run no upload of a mission is open, or one has been opened and goes on since.
use Rattle.std.proofs.Common.{◌≡◌, ◌⊎◌, inl, inr, ℕ, ◌+◌, List, [], ◌∷◌, ◌++◌, length, refl, sym, ◌∙◌, ap, subst, arith, Option, Some, append_assoc, append-nil, length-append}
use Rattle.storage_lines.specs.Lines.{after}
use Rattle.storage_lines.proofs.LineLemmas.{after-append}
use Rattle.mission_records.specs.Steps.{IsFormatted, IsTotalInOneLine, StaysFormatted}
use Rattle.mission_service.specs.declared.requests.MissionType.{MissionType}
use Rattle.mission_service.specs.declared.requests.MissionType.TheVariants.{Mission}
use Rattle.mission_service.specs.Uploads.{Upload, Open}
use Rattle.mission_service.specs.Requests.{Request, Begin}
use Rattle.vehicle_core.specs.Vehicle.{Asked, Missions}
use Rattle.vehicle_core.specs.Acts.{Act, Said, Beat, Stream}
use Rattle.vehicle_runs.specs.Runs.{Run, did_in, act_done, all_acts, start}
use Rattle.vehicle_laws.specs.Uploads.{run_over, says, OpensUpload, OpensNone, UploadGoesOn, given_from, commands_from, command_in}
use Rattle.vehicle_laws.specs.Fitting.{ActFits, AllFit}
use Rattle.vehicle_laws.specs.Laws.{LawOfMissions}
use Rattle.mission_records.proofs.Totals.{all_writes}
use Rattle.vehicle_runs.proofs.RunLaws.{all_acts-append}
use Rattle.vehicle_laws.proofs.Keeping.{formatted_then}
use Rattle.vehicle_laws.proofs.ActEffects.{missions_at, act_effect}
use Rattle.vehicle_laws.proofs.Held.{Held, Ongoing, Step, IsClosed, given_in, more_from, begun, step_stays, step_put, from_cons, goes_on}

pub run_snoc : (budget : ℕ) (b : List ℕ) (acts : List Act) (act : Act) → run_over budget b (acts ++ act ∷ []) ≡ act_done budget b (run_over budget b acts) act
run_snoc budget b acts act = all_acts-append budget b (start b) acts (act ∷ [])

-- what comes up to an act, and that of the act
pub from_snoc : {X : Type 0} (f : ℕ → Request → Option X) (station seq : ℕ) (acts : List Act) (act : Act) → given_from f station seq (acts ++ act ∷ []) ≡ given_from f station seq acts ++ given_in f station (seq + length (given_from f station seq acts)) act
from_snoc f station seq [] act = from_cons f station seq act [] ∙ append-nil (given_in f station seq act) ∙ ap (λ (n : ℕ). given_in f station n act) (let same : seq ≡ seq + 0 = omega arith in same)
from_snoc {X} f station seq (q ∷ acts) act =
    let m = given_in f station seq q in
    let n = seq + length m in
    let xs = given_from f station n acts in
    let long : n + length xs ≡ seq + length (m ++ xs) = omega (arith, length-append m xs) in
    from_cons f station seq q (acts ++ act ∷ [])
    ∙ ap (λ (l : List X). m ++ l) (from_snoc f station n acts act)
    ∙ sym (append_assoc m xs (given_in f station (n + length xs) act))
    ∙ ap (λ (k : ℕ). (m ++ xs) ++ given_in f station k act) long
    ∙ ap (λ (l : List X). l ++ given_in f station (seq + length l) act) (sym (from_cons f station seq q acts))

pub goes_snoc : (budget : ℕ) (t : MissionType) (b : List ℕ) (r : Run) (acts : List Act) (act : Act) → UploadGoesOn budget t b r acts → UploadGoesOn budget t b (all_acts budget b r acts) (act ∷ []) → UploadGoesOn budget t b r (acts ++ act ∷ [])
goes_snoc budget t b r [] act g h = h
goes_snoc budget t b r (q ∷ acts) act g h = (g.0, g.1, goes_snoc budget t b (act_done budget b r q) acts act g.2 h)

-- one upload has been opened after some first acts, and these are its acts
pub record OpenSince (budget : ℕ) (b : List ℕ) (done : List Act) : Type 0 where
  pub before : List Act
  pub opening : Act
  pub since : List Act
  pub station : ℕ
  pub count : ℕ
  pub split : done ≡ before ++ opening ∷ since
  pub opens : OpensUpload budget Mission b (run_over budget b before) opening station count
  pub goes : UploadGoesOn budget Mission b (run_over budget b (before ++ opening ∷ [])) since
  pub one_line : IsTotalInOneLine (after b (start b).issued) → IsTotalInOneLine (after b (run_over budget b before).issued)
  pub ongoing : Ongoing b (run_over budget b before) (run_over budget b done) station count (commands_from station 0 since)

pub record Status (budget : ℕ) (b : List ℕ) (done : List Act) : Type 0 where
  pub formatted : IsFormatted (after b (run_over budget b done).issued)
  pub one_line : IsTotalInOneLine (after b (start b).issued) → IsTotalInOneLine (after b (run_over budget b done).issued)
  pub then : IsClosed (run_over budget b done) ⊎ OpenSince budget b done

-- the run is after the opening and the acts since
pub run_since : (budget : ℕ) (b : List ℕ) (done before since : List Act) (opening : Act) → done ≡ before ++ opening ∷ since → all_acts budget b (run_over budget b (before ++ opening ∷ [])) since ≡ run_over budget b done
run_since budget b done before since opening e =
    sym (all_acts-append budget b (start b) (before ++ opening ∷ []) since)
    ∙ ap (λ (l : List Act). run_over budget b l) (append_assoc before (opening ∷ []) since ∙ sym e)

-- one act more of an open upload
longer : (budget : ℕ) (b : List ℕ) (done : List Act) (act : Act) (x : OpenSince budget b done) → ActFits act → OpensNone budget Mission b (run_over budget b done) act
    → Step budget b (run_over budget b x.before) (run_over budget b done) x.station x.count (commands_from x.station 0 x.since) act → Status budget b (done ++ act ∷ [])
longer budget b done act x fits alone y =
    let s = run_over budget b done in
    let t = act_done budget b s act in
    let e : run_over budget b (done ++ act ∷ []) ≡ t = run_snoc budget b done act in
    let cs = commands_from x.station 0 x.since in
    let zero_more : 0 + length cs ≡ length cs = omega arith in
    let more : cs ++ more_from x.station (length cs) act ≡ commands_from x.station 0 (x.since ++ act ∷ []) = sym (from_snoc command_in x.station 0 x.since act ∙ ap (λ (n : ℕ). cs ++ more_from x.station n act) zero_more) in
    let is_open : (u : Upload) × (missions_at s ≡ Open u) = (x.ongoing.upload, x.ongoing.is) in
    let goes : UploadGoesOn budget Mission b (run_over budget b (x.before ++ x.opening ∷ [])) (x.since ++ act ∷ []) =
    goes_snoc budget Mission b (run_over budget b (x.before ++ x.opening ∷ [])) x.since act x.goes (subst (λ (r : Run). UploadGoesOn budget Mission b r (act ∷ [])) (sym (run_since budget b done x.before x.since x.opening x.split)) (is_open, alone, tt)) in
    record {
      formatted = subst (λ (r : Run). IsFormatted (after b r.issued)) (sym e) y.held.formatted;
      one_line = λ o. subst (λ (r : Run). IsTotalInOneLine (after b r.issued)) (sym e) (y.held.one_line (x.one_line o));
      then = elim y.then [
        | inl closed ↦ inl (subst IsClosed (sym e) closed)
        | inr on ↦ inr (record {
          before = x.before;
          opening = x.opening;
          since = x.since ++ act ∷ [];
          station = x.station;
          count = x.count;
          split = ap (λ (l : List Act). l ++ act ∷ []) x.split ∙ append_assoc x.before (x.opening ∷ x.since) (act ∷ []);
          opens = x.opens;
          goes = goes;
          one_line = x.one_line;
          ongoing = subst (λ (r : Run). Ongoing b (run_over budget b x.before) r x.station x.count (commands_from x.station 0 (x.since ++ act ∷ []))) (sym e)
              (subst (Ongoing b (run_over budget b x.before) t x.station x.count) more on);
        })
      ];
    }

-- where no upload is open there is none to go on
pub the_open : (budget : ℕ) (b : List ℕ) (done : List Act) (u : Upload) → Status budget b done → missions_at (run_over budget b done) ≡ Open u → OpenSince budget b done
the_open budget b done u st e = elim st.then [ inl closed ↦ absurd (closed u e) | inr x ↦ x ]

-- one act more
pub status_step : (budget : ℕ) (b : List ℕ) (done : List Act) (act : Act) → ActFits act → Status budget b done → Status budget b (done ++ act ∷ [])
status_step budget b done act fits st =
    let s = run_over budget b done in
    let t = act_done budget b s act in
    let bytes = after b s.issued in
    let e : run_over budget b (done ++ act ∷ []) ≡ t = run_snoc budget b done act in
    elim (act_effect budget b s act st.formatted fits) [
      | inl x ↦
          let new = begun budget b s act st.formatted x in
          record {
            formatted = subst (λ (r : Run). IsFormatted (after b r.issued)) (sym e) new.held.formatted;
            one_line = λ o. subst (λ (r : Run). IsTotalInOneLine (after b r.issued)) (sym e) (new.held.one_line (st.one_line o));
            then = inr (record {
              before = done;
              opening = act;
              since = [];
              station = x.station;
              count = x.count;
              split = refl;
              opens = x.opens;
              goes = tt;
              one_line = st.one_line;
              ongoing = subst (λ (r : Run). Ongoing b s r x.station x.count []) (sym e) new;
            });
          }
      | inr y ↦ elim y.1 [
        | inl x ↦ record {
          formatted = subst (λ (r : Run). IsFormatted (after b r.issued)) (sym e)
              (subst IsFormatted (sym (after-append b s.issued (did_in budget b s act).writes)) (formatted_then bytes (did_in budget b s act).writes x.empties.stays));
          one_line = λ o. subst (λ (r : Run). IsTotalInOneLine (after b r.issued)) (sym e)
              (subst IsTotalInOneLine (sym (after-append b s.issued (did_in budget b s act).writes)) ((all_writes (StaysFormatted bytes) bytes (did_in budget b s act).writes x.empties.stays).one_line (st.one_line o)));
          then = inl (subst IsClosed (sym e) x.closed);
        }
        | inr z ↦
            let x = the_open budget b done z.0 st z.1 in
            let cs = commands_from x.station 0 x.since in
            elim z.2 [
              | inl w ↦ longer budget b done act x fits y.0 (step_stays budget b (run_over budget b x.before) s x.station x.count cs act z.0 x.ongoing z.1 w)
              | inr w ↦ longer budget b done act x fits y.0 (step_put budget b (run_over budget b x.before) s x.station x.count cs act z.0 x.ongoing z.1 w)
            ]
      ]
    ]

-- all acts
pub status_all : (budget : ℕ) (b : List ℕ) (acts done : List Act) → AllFit acts → Status budget b done → Status budget b (done ++ acts)
status_all budget b [] done fit st = subst (Status budget b) (sym (append-nil done)) st
status_all budget b (act ∷ acts) done fit st = subst (Status budget b) (append_assoc done (act ∷ []) acts) (status_all budget b acts (done ++ act ∷ []) fit.1 (status_step budget b done act fit.0 st))

quiet_at_first : (b : List ℕ) → IsClosed (start b)
quiet_at_first b u e = cc

pub status : (budget : ℕ) (b : List ℕ) (acts : List Act) → IsFormatted (after b (start b).issued) → AllFit acts → Status budget b acts
status budget b acts f fit = status_all budget b acts [] fit (record { formatted = f; one_line = λ o. o; then = inl (quiet_at_first b) })

pub fit_before : (xs ys : List Act) → AllFit (xs ++ ys) → AllFit xs
fit_before [] ys h = tt
fit_before (x ∷ xs) ys h = (h.0, fit_before xs ys h.1)

pub fit_since : (xs ys : List Act) → AllFit (xs ++ ys) → AllFit ys
fit_since [] ys h = h
fit_since (x ∷ xs) ys h = fit_since xs ys h.1

abbrev who_says : Act → ℕ
who_says (Said s heard) = s
who_says (Beat s) = s
who_says (Stream s) = s

abbrev count_in : Request → ℕ
count_in (Begin t count) = count
count_in _ = 0

abbrev count_asked : Option Asked → ℕ
count_asked (Some (Missions sender asking)) = count_in asking.request
count_asked _ = 0

abbrev count_said : Act → ℕ
count_said (Said s heard) = count_asked heard.asked
count_said _ = 0

-- The opening of an upload begins it.
pub opened_here : (budget : ℕ) (b : List ℕ) (r : Run) (act : Act) (station count : ℕ) → IsFormatted (after b r.issued) → ActFits act → OpensUpload budget Mission b r act station count → Ongoing b r (act_done budget b r act) station count []
opened_here budget b r act station count f fits o = elim (act_effect budget b r act f fits) [
  | inl x ↦
      let both : says x.station x.opens.v2 x.opens.sender x.opens.number (Begin Mission x.count) ≡ says station o.v2 o.sender o.number (Begin Mission count) = sym x.opens.is ∙ o.is in
      let one : x.station ≡ station = ap who_says both in
      let two : x.count ≡ count = ap count_said both in
      subst (λ (n : ℕ). Ongoing b r (act_done budget b r act) n count []) one (subst (λ (n : ℕ). Ongoing b r (act_done budget b r act) x.station n []) two (begun budget b r act f x))
  | inr y ↦ absurd (y.0 station count o)
]

pub law_of_missions : LawOfMissions
law_of_missions budget b before since opening station count k f up one from upto =
    let r = run_over budget b before in
    let e = run_over budget b (before ++ opening ∷ since) in
    let st = status budget b before f (fit_before before (opening ∷ since) up.fit) in
    let back = fit_since before (opening ∷ since) up.fit in
    let first = opened_here budget b r opening station count st.formatted back.0 up.opens in
    let g : UploadGoesOn budget Mission b (act_done budget b r opening) since = subst (λ (x : Run). UploadGoesOn budget Mission b x since) (run_snoc budget b before opening) up.goes_on in
    let end : all_acts budget b (act_done budget b r opening) since ≡ e = ap (λ (x : Run). all_acts budget b x since) (sym (run_snoc budget b before opening)) ∙ run_since budget b (before ++ opening ∷ since) before since opening refl in
    let held : Held b r e (commands_from station 0 since) = subst (λ (x : Run). Held b r x (commands_from station 0 since)) end (goes_on budget b r (act_done budget b r opening) station count [] since first g back.1) in
    held.each one k from upto
