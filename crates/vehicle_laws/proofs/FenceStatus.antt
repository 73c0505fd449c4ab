-- At each act of a run no upload of a fence is open, or one has been opened and goes on since.
use Rattle.std.proofs.Common.{◌≡◌, ◌≢◌, ◌⊎◌, inl, inr, ℕ, ◌+◌, ◌<◌, Bool, cond, not, List, [], ◌∷◌, ◌++◌, length, refl, sym, ◌∙◌, ap, subst, arith, Option, Some, None, append_assoc, append-nil}
use Rattle.std.specs.Prelude.{nat_le, ◌==◌, map}
use Rattle.std.specs.Option.{option_map_or}
use Rattle.std.proofs.lemmas.List.{length_push}
use Rattle.std.proofs.lemmas.Bool.{cond_both, cases_lt, eqb-false}
use Rattle.storage_lines.specs.Lines.{after}
use Rattle.param_service.specs.Service.{streamed}
use Rattle.fence_records.specs.declared.items.FenceItem.{FenceItem}
use Rattle.fence_records.specs.Lists.{IsFenceItem, AreFenceItems}
use Rattle.mission_service.specs.declared.requests.MissionType.TheVariants.{Fence}
use Rattle.mission_service.specs.Uploads.{Upload, Uploads, Quiet, Open, Finished}
use Rattle.mission_service.specs.Requests as missions
use Rattle.mission_service.specs.Requests.{Begin, Asking, operation_cancelled}
use Rattle.mission_service.specs.Service.{Told, idled, idle, idle_turns, answered}
use Rattle.mission_service.specs.declared.replies.Content.TheVariants.{Next, Answer}
use Rattle.vehicle_core.specs.Vehicle.{Vehicle, Asked, Parameters, Missions, Orders, is_heard, tells_of_missions, allowed_of}
use Rattle.vehicle_core.specs.Acts.{Act, Said, Beat, Stream, Did, did, heard_as, nothing, by_parameters, beaten}
use Rattle.vehicle_runs.specs.Runs.{Run, did_in, act_done, start}
use Rattle.vehicle_laws.specs.Uploads.{run_over, uploads_at, says, OpensUpload, OpensNone, UploadGoesOn, fence_items_from, fence_item_in, said_in}
use Rattle.vehicle_laws.specs.Fitting.{AskedFits, ActFits, AllFit}
use Rattle.vehicle_laws.proofs.Effects.{cond_none}
use Rattle.vehicle_laws.proofs.ActEffects.{asked_of, from_station, not_opened, vehicle_after}
use Rattle.vehicle_laws.proofs.Held.{given_in}
use Rattle.vehicle_laws.proofs.FenceEffects.{Becomes, FenceStays, FenceKept, FenceBegun, FenceEffect, NoFenceBegun, unmoved, fence_effect}
use Rattle.vehicle_laws.proofs.Status.{run_snoc, run_since, from_snoc, goes_snoc}

-- the uploads of a fence
abbrev pub fences_at : Run → Uploads
fences_at r = uploads_at Fence r

-- the item that the station gives with this number in an act, if it does
abbrev pub item_given : ℕ → ℕ → Act → Option FenceItem
item_given station seq act = said_in (fence_item_in seq) station act

-- An act opens an upload of a fence.
pub record ActOpens (budget : ℕ) (b : List ℕ) (r : Run) (act : Act) (now : Uploads) : Type 0 where
  pub station : ℕ
  pub count : ℕ
  pub opens : OpensUpload budget Fence b r act station count
  pub becomes : Becomes station count 0 [] now
  pub some : 0 < count

effect_map : (B C N M : Type 0) (before : Uploads) (given : Upload → Option FenceItem) (now : Uploads) → (B → C) → (N → M) → FenceEffect B N before given now → FenceEffect C M before given now
effect_map B C N M before given now f g (inl x) = inl (f x)
effect_map B C N M before given now f g (inr x) = inr (g x.0, x.1)

-- an idle turn
beat_effect : (B N : Type 0) (before : Uploads) (station : ℕ) → N → FenceEffect B N before (λ u. None) (idled station Fence before).0
beat_effect B N Quiet station alone = unmoved B N Quiet (λ u. None) Quiet refl (λ u. refl) alone
beat_effect B N (Finished s l) station alone = unmoved B N (Finished s l) (λ u. None) (Finished s l) refl (λ u. refl) alone
beat_effect B N (Open u) station alone =
    let none : List Told = [] in
    let again : Uploads × List Told = (Open (record u { idle = u.idle + 1 }), record { target = u.target; number = 1; content = Next u.expected } ∷ []) in
    let gone : Uploads × List Told = (Quiet, record { target = u.target; number = 1; content = Answer operation_cancelled } ∷ []) in
    let other : Uploads × List Told = (Open u, none) in
    let P : Uploads × List Told → Type 0 = λ x. FenceEffect B N (Open u) (λ u. None) x.0 in
    cond_both (not (u.owner == station)) other (cond (nat_le idle_turns (u.idle + 1)) gone again) P
    (λ t. unmoved B N (Open u) (λ u. None) (Open u) refl (λ u. refl) alone)
    (λ t. cond_both (nat_le idle_turns (u.idle + 1)) gone again P
    (λ t. inr (alone, inl (λ v e. cc)))
    (λ t. inr (alone, inr (u, refl, inl (refl, record { upload = record u { idle = u.idle + 1 }; now_is = refl; owner_is = refl; count_is = refl; expected_is = refl; kept_is = refl })))))

abbrev ActEffect : ℕ → List ℕ → Run → Act → Did → Type 0
ActEffect budget b r act d = FenceEffect (ActOpens budget b r act d.vehicle.missions.fence) (OpensNone budget Fence b r act) (fences_at r) (λ u. item_given u.owner u.expected act) d.vehicle.missions.fence

silent : (budget : ℕ) (b : List ℕ) (r : Run) (s : ℕ) (v : Bool) (asked : Option Asked) → ((u : Upload) → item_given u.owner u.expected (Said s (heard_as v asked)) ≡ None) → OpensNone budget Fence b r (Said s (heard_as v asked))
    → FenceEffect (ActOpens budget b r (Said s (heard_as v asked)) (fences_at r)) (OpensNone budget Fence b r (Said s (heard_as v asked))) (fences_at r) (λ u. item_given u.owner u.expected (Said s (heard_as v asked))) (fences_at r)
silent budget b r s v asked n alone = unmoved _ _ (fences_at r) (λ u. item_given u.owner u.expected (Said s (heard_as v asked))) (fences_at r) refl n alone

-- what is done for a station that was heard
said_effect : (budget : ℕ) (b : List ℕ) (r : Run) (s : ℕ) (v : Bool) (asked : Option Asked) → AskedFits asked → ActEffect budget b r (Said s (heard_as v asked)) (did_in budget b r (Said s (heard_as v asked)))
unfolding did
said_effect budget b r s v None fits = silent budget b r s v None (λ u. cond_none (u.owner == s)) (λ n m o. let clash = ap asked_of o.is in cc)
said_effect budget b r s v (Some (Parameters request)) fits = silent budget b r s v (Some (Parameters request)) (λ u. cond_none (u.owner == s)) (λ n m o. let clash = ap asked_of o.is in cc)
said_effect budget b r s v (Some (Orders sender command order)) fits = silent budget b r s v (Some (Orders sender command order)) (λ u. cond_none (u.owner == s)) (λ n m o. let clash = ap asked_of o.is in cc)
said_effect budget b r s v (Some (Missions sender asking)) fits =
    let bytes = after b r.issued in
    let allowed = allowed_of budget r.machine.vehicle in
    let from = from_station s sender asking in
    let m = r.machine.vehicle.missions in
    let d = answered bytes allowed m from asking.request in
    effect_map (FenceBegun from asking.request d.told d.missions.fence) _ (NoFenceBegun from asking.request d.told) _ (fences_at r) (λ u. item_given u.owner u.expected (Said s (heard_as v (Some (Missions sender asking))))) d.missions.fence
    (λ x. record {
      station = s;
      count = x.count;
      opens = record {
        v2 = v;
        sender = sender;
        number = asking.number;
        is = ap (λ (q : missions.Request). says s v sender asking.number q) x.asked;
        told = ap (λ (l : List Told). map (tells_of_missions s) l) x.told_is;
      };
      becomes = record { upload = record { owner = s; target = sender; count = x.count; expected = 0; kept = []; idle = 0 }; now_is = x.now_is; owner_is = refl; count_is = refl; expected_is = refl; kept_is = refl };
      some = x.some;
    })
    (λ alone n m o. not_opened Fence s v sender asking d.told n m o.v2 o.sender o.number alone o.is o.told)
    (fence_effect bytes allowed m.mission m.fence from asking.request fits.0)

-- what an act does
done_effect : (budget : ℕ) (b : List ℕ) (r : Run) (act : Act) → ActFits act → ActEffect budget b r act (did_in budget b r act)
unfolding did
done_effect budget b r (Said s heard) fits = said_effect budget b r s heard.v2 heard.asked fits
done_effect budget b r (Beat s) fits =
    let vehicle = r.machine.vehicle in
    cond_both (is_heard vehicle s) (beaten vehicle s (idle vehicle.missions s)) (nothing vehicle) (ActEffect budget b r (Beat s))
    (λ t. beat_effect _ _ (fences_at r) s (λ n m o. let clash = o.is in cc))
    (λ t. unmoved _ _ (fences_at r) (λ u. None) (fences_at r) refl (λ u. refl) (λ n m o. let clash = o.is in cc))
done_effect budget b r (Stream s) fits =
    let vehicle = r.machine.vehicle in
    let d = by_parameters vehicle (streamed (after b r.issued) vehicle.next_rows s) in
    let same = unmoved (ActOpens budget b r (Stream s) (fences_at r)) (OpensNone budget Fence b r (Stream s)) (fences_at r) (λ u. None) (fences_at r) refl (λ u. refl) (λ n m o. let clash = o.is in cc) in
    cond_both (is_heard vehicle s) d (nothing vehicle) (ActEffect budget b r (Stream s)) (λ t. same) (λ t. same)

fence_act : (budget : ℕ) (b : List ℕ) (r : Run) (act : Act) → ActFits act → FenceEffect (ActOpens budget b r act (fences_at (act_done budget b r act))) (OpensNone budget Fence b r act) (fences_at r) (λ u. item_given u.owner u.expected act) (fences_at (act_done budget b r act))
fence_act budget b r act fits = subst (λ (v : Vehicle). FenceEffect (ActOpens budget b r act v.missions.fence) (OpensNone budget Fence b r act) (fences_at r) (λ u. item_given u.owner u.expected act) v.missions.fence)
    (sym (vehicle_after budget b r act)) (done_effect budget b r act fits)

-- The upload is open, and these items came in it.
pub record Ongoing (s : Run) (station count : ℕ) (items : List FenceItem) : Type 0 where
  pub becomes : Becomes station count (length items) items (fences_at s)
  pub below : length items < count
  pub fit : AreFenceItems items

abbrev pub IsClosed : Run → Type 0
IsClosed s = (u : Upload) → fences_at s ≢ Open u

abbrev pub more_from : ℕ → ℕ → Act → List FenceItem
more_from station seq act = given_in fence_item_in station seq act

pub fit_push : (xs : List FenceItem) (i : FenceItem) → AreFenceItems xs → IsFenceItem i → AreFenceItems (xs ++ i ∷ [])
fit_push [] i h f = (f, tt)
fit_push (x ∷ xs) i h f = (h.0, fit_push xs i h.1 f)

becomes_same : (o c e act d f : ℕ) (k l : List FenceItem) (now : Uploads) → o ≡ act → c ≡ d → e ≡ f → k ≡ l → Becomes o c e k now → Becomes act d f l now
becomes_same o c e act d f k l now a g h i x = record { upload = x.upload; now_is = x.now_is; owner_is = x.owner_is ∙ a; count_is = x.count_is ∙ g; expected_is = x.expected_is ∙ h; kept_is = x.kept_is ∙ i }

same_given : (u : Upload) (station n : ℕ) (act : Act) → u.owner ≡ station → u.expected ≡ n → item_given u.owner u.expected act ≡ item_given station n act
same_given u station n act a e = ap (λ (k : ℕ). item_given k u.expected act) a ∙ ap (λ (k : ℕ). item_given station k act) e

below_more : (e n c count m : ℕ) → e ≡ n → c ≡ count → m ≡ n + 1 → n < count → (e + 1 ≡ c → ⊥) → m < count
below_more e n c count m act q r below differ = elim (cases_lt m count) [ inl less ↦ less | inr more ↦ absurd (differ (omega arith)) ]

-- one act more, which opens no upload
step : (budget : ℕ) (b : List ℕ) (s : Run) (station count : ℕ) (items : List FenceItem) (act : Act) (u : Upload) → Ongoing s station count items → fences_at s ≡ Open u
    → FenceStays u (item_given u.owner u.expected act) (fences_at (act_done budget b s act)) ⊎ FenceKept u (item_given u.owner u.expected act) (fences_at (act_done budget b s act)) → Ongoing (act_done budget b s act) station count (items ++ more_from station (length items) act)
step budget b s station count items act u o e x =
    let same : u ≡ o.becomes.upload = let both : Open u ≡ Open o.becomes.upload = sym e ∙ o.becomes.now_is in cc in
    let owner : u.owner ≡ station = ap (λ (v : Upload). v.owner) same ∙ o.becomes.owner_is in
    let expected : u.expected ≡ length items = ap (λ (v : Upload). v.expected) same ∙ o.becomes.expected_is in
    let count_is : u.count ≡ count = ap (λ (v : Upload). v.count) same ∙ o.becomes.count_is in
    let kept : u.kept ≡ items = ap (λ (v : Upload). v.kept) same ∙ o.becomes.kept_is in
    elim x [
      | inl y ↦
          let none : item_given station (length items) act ≡ None = sym (same_given u station (length items) act owner expected) ∙ y.0 in
          let no_more : items ++ more_from station (length items) act ≡ items = ap (λ (g : Option FenceItem). items ++ option_map_or (λ i. i ∷ []) g []) none ∙ append-nil items in
          let on : Ongoing (act_done budget b s act) station count items = record { becomes = becomes_same u.owner u.count u.expected station count (length items) u.kept items (fences_at (act_done budget b s act)) owner count_is expected kept y.1; below = o.below; fit = o.fit } in
          subst (Ongoing (act_done budget b s act) station count) (sym no_more) on
      | inr y ↦
          let gives : item_given station (length items) act ≡ Some y.item = sym (same_given u station (length items) act owner expected) ∙ y.gives in
          let ds = items ++ y.item ∷ [] in
          let more : items ++ more_from station (length items) act ≡ ds = ap (λ (g : Option FenceItem). items ++ option_map_or (λ i. i ∷ []) g []) gives in
          let long : length ds ≡ length items + 1 = length_push items y.item in
          let on : Ongoing (act_done budget b s act) station count ds = record {
            becomes = becomes_same u.owner u.count (u.expected + 1) station count (length ds) (u.kept ++ y.item ∷ []) ds (fences_at (act_done budget b s act)) owner count_is (omega arith) (ap (λ (l : List FenceItem). l ++ y.item ∷ []) kept) y.becomes;
            below = below_more u.expected (length items) u.count count (length ds) expected count_is long o.below (eqb-false (u.expected + 1) u.count y.more);
            fit = fit_push items y.item o.fit y.fits;
          } in
          subst (Ongoing (act_done budget b s act) station count) (sym more) on
    ]

pub record OpenSince (budget : ℕ) (b : List ℕ) (done : List Act) : Type 0 where
  pub before : List Act
  pub opening : Act
  pub since : List Act
  pub station : ℕ
  pub count : ℕ
  pub split : done ≡ before ++ opening ∷ since
  pub opens : OpensUpload budget Fence b (run_over budget b before) opening station count
  pub goes : UploadGoesOn budget Fence b (run_over budget b (before ++ opening ∷ [])) since
  pub ongoing : Ongoing (run_over budget b done) station count (fence_items_from station 0 since)

abbrev pub Status : ℕ → List ℕ → List Act → Type 0
Status budget b done = IsClosed (run_over budget b done) ⊎ OpenSince budget b done

pub the_open : (budget : ℕ) (b : List ℕ) (done : List Act) (u : Upload) → Status budget b done → fences_at (run_over budget b done) ≡ Open u → OpenSince budget b done
the_open budget b done u st e = elim st [ inl closed ↦ absurd (closed u e) | inr x ↦ x ]

status_step : (budget : ℕ) (b : List ℕ) (done : List Act) (act : Act) → ActFits act → Status budget b done → Status budget b (done ++ act ∷ [])
status_step budget b done act fits st =
    let s = run_over budget b done in
    let t = act_done budget b s act in
    let e : run_over budget b (done ++ act ∷ []) ≡ t = run_snoc budget b done act in
    elim (fence_act budget b s act fits) [
      | inl x ↦ inr (record {
        before = done;
        opening = act;
        since = [];
        station = x.station;
        count = x.count;
        split = refl;
        opens = x.opens;
        goes = tt;
        ongoing = subst (λ (r : Run). Ongoing r x.station x.count []) (sym e) (record { becomes = x.becomes; below = x.some; fit = tt });
      })
      | inr y ↦ elim y.1 [
        | inl closed ↦ inl (subst IsClosed (sym e) closed)
        | inr z ↦
            let x = the_open budget b done z.0 st z.1 in
            let cs = fence_items_from x.station 0 x.since in
            let zero_more : 0 + length cs ≡ length cs = omega arith in
            let more : cs ++ more_from x.station (length cs) act ≡ fence_items_from x.station 0 (x.since ++ act ∷ []) = sym (from_snoc fence_item_in x.station 0 x.since act ∙ ap (λ (n : ℕ). cs ++ more_from x.station n act) zero_more) in
            let on = step budget b s x.station x.count cs act z.0 x.ongoing z.1 z.2 in
            let is_open : (u : Upload) × (fences_at s ≡ Open u) = (z.0, z.1) in
            inr (record {
              before = x.before;
              opening = x.opening;
              since = x.since ++ act ∷ [];
              station = x.station;
              count = x.count;
              split = ap (λ (l : List Act). l ++ act ∷ []) x.split ∙ append_assoc x.before (x.opening ∷ x.since) (act ∷ []);
              opens = x.opens;
              goes = goes_snoc budget Fence b (run_over budget b (x.before ++ x.opening ∷ [])) x.since act x.goes
                  (subst (λ (r : Run). UploadGoesOn budget Fence b r (act ∷ [])) (sym (run_since budget b done x.before x.since x.opening x.split)) (is_open, y.0, tt));
              ongoing = subst (λ (r : Run). Ongoing r x.station x.count (fence_items_from x.station 0 (x.since ++ act ∷ []))) (sym e) (subst (Ongoing t x.station x.count) more on);
            })
      ]
    ]

status_all : (budget : ℕ) (b : List ℕ) (acts done : List Act) → AllFit acts → Status budget b done → Status budget b (done ++ acts)
status_all budget b [] done fit st = subst (Status budget b) (sym (append-nil done)) st
status_all budget b (act ∷ acts) done fit st = subst (Status budget b) (append_assoc done (act ∷ []) acts) (status_all budget b acts (done ++ act ∷ []) fit.1 (status_step budget b done act fit.0 st))

quiet_at_first : (b : List ℕ) → IsClosed (start b)
quiet_at_first b u e = cc

pub fence_status : (budget : ℕ) (b : List ℕ) (acts : List Act) → AllFit acts → Status budget b acts
fence_status budget b acts fit = status_all budget b acts [] fit (inl (quiet_at_first b))
