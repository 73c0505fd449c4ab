-- An upload of a fence that ends with the answer 0.
use Rattle.std.proofs.Common.{◌≡◌, ◌≢◌, ℕ, ◌+◌, Bool, true, false, cond, not, List, [], ◌∷◌, ◌++◌, length, refl, sym, ◌∙◌, ap, subst, arith, Option, Some, None, append_assoc}
use Rattle.std.specs.Prelude.{Result, Ok, Err, nat_lt, ◌==◌, count_by}
use Rattle.std.specs.Option.{option_map_or}
use Rattle.std.proofs.lemmas.List.{length_push}
use Rattle.std.proofs.lemmas.Bool.{cond_both, eqb-true, eq-eqb, ne_eqb, not-false}
use Rattle.storage_lines.specs.declared.lines.LineWrite.{LineWrite}
use Rattle.storage_lines.specs.Lines.{after}
use Rattle.storage_lines.proofs.LineLemmas.{after-append, length-after}
use Rattle.fence_records.specs.declared.items.FenceItem.{FenceItem}
use Rattle.fence_records.specs.Write.{encoded, fence_writes}
use Rattle.fence_records.specs.Fence.{Figure}
use Rattle.fence_records.proofs.Replaces.{fences_are_replaced}
use Rattle.fence_records.specs.Lists.{fence_of, IsFenceItem, replace_writes, figure_writes, figures_of, is_return_point}
use Rattle.mission_service.specs.declared.requests.MissionType.TheVariants.{Mission, Fence}
use Rattle.mission_service.specs.declared.uploads.Target.{Target}
use Rattle.mission_service.specs.Uploads.{Upload, Uploads, Quiet, Open, Finished, Missions as MissionUploads}
use Rattle.mission_service.specs.Requests.{Given, ForMission, ForFence, Give, type_of_given}
use Rattle.mission_service.specs.Service as service
use Rattle.mission_service.specs.declared.replies.Content.TheVariants.{Answer, Next}
use Rattle.param_service.specs.Budget.{exceeds}
use Rattle.mission_service.specs.Service.{Told, From, Taken as TakenItem, tells, only, is_last, if_allowed, taken, took, told_after, given_to, accepted, denied, invalid_sequence, no_space}
use Rattle.vehicle_core.specs.Vehicle.{allowed_of}
use Rattle.vehicle_core.specs.Acts.{Act, did}
use Rattle.vehicle_runs.specs.Runs.{Run, did_in}
use Rattle.vehicle_laws.specs.Uploads.{run_over, says, OpensUpload, UploadGoesOn, fence_items_from, fence_item_in}
use Rattle.mission_service.specs.Asked.{RequestFits, GivenFits}
use Rattle.vehicle_laws.specs.Fitting.{ActFits, AllFit}
use Rattle.vehicle_laws.specs.Laws.{LawOfFenceUploads}
use Rattle.vehicle_laws.proofs.Status.{run_since, run_snoc, from_snoc, goes_snoc, fit_before, fit_since}
use Rattle.vehicle_laws.proofs.Ends.{first_zero, told_zero, same_zero, gives_not_opens}
use Rattle.vehicle_laws.proofs.FenceStatus.{fences_at, item_given, fence_status, the_open, fit_push, more_from}

-- the last item of the upload is taken, and the fence is written
pub record LastWritten (bytes : List ℕ) (u : Upload) (seq : ℕ) (stored : Result FenceItem ℕ) (writes : List LineWrite) : Type 0 where
  pub item : FenceItem
  pub stored_is : stored ≡ Ok item
  pub next : (seq == u.expected) ≡ true
  pub writes_are : replace_writes bytes (u.kept ++ item ∷ []) ≡ Ok writes
  pub last : is_last u ≡ true

abbrev IsLast : List ℕ → Upload → ℕ → Result FenceItem ℕ → service.Did → Type 0
IsLast bytes u seq stored d = first_zero d.told ≡ true → LastWritten bytes u seq stored d.writes

other_answer : (bytes : List ℕ) (u : Upload) (seq : ℕ) (stored : Result FenceItem ℕ) (d : service.Did) → first_zero d.told ≡ false → IsLast bytes u seq stored d
other_answer bytes u seq stored d h t = let clash : false ≡ true = sym h ∙ t in cc

abbrev both : Uploads → Uploads → MissionUploads
both mission before = record { mission = mission; fence = before }

-- no refusal is 0
abbrev NotZero : Result (List LineWrite) ℕ → Type 0
NotZero (Ok ws) = Unit {0}
NotZero (Err e) = e ≢ 0

figures_refuse : (bytes : List ℕ) (fs : Option (List Figure)) → NotZero (figure_writes bytes fs)
figures_refuse bytes None = λ e. absurd (omega arith)
figures_refuse bytes (Some fs) = cond_both (nat_lt 416 (length (encoded fs))) (Err 4) (Ok (fence_writes (encoded fs) bytes)) NotZero (λ t e. absurd (omega arith)) (λ t. tt)

replace_refuses : (bytes : List ℕ) (items : List FenceItem) → NotZero (replace_writes bytes items)
replace_refuses bytes items = cond_both (nat_lt 1 (count_by is_return_point items)) (Err 5) (figure_writes bytes (figures_of (length items) items)) NotZero (λ t e. absurd (omega arith)) (λ t. figures_refuse bytes (figures_of (length items) items))

last_written : (bytes : List ℕ) (limit : Option ℕ) (mission : Uploads) (u : Upload) (from : From) (seq : ℕ) (item : FenceItem) (r : Result (List LineWrite) ℕ) → (seq == u.expected) ≡ true → is_last u ≡ true → NotZero r → replace_writes bytes (u.kept ++ item ∷ []) ≡ r
    → IsLast bytes u seq (Ok item) (took (both mission (Open u)) from Fence u (if_allowed limit [] r))
last_written bytes limit mission u from seq item (Err e) next l z is = other_answer bytes u seq (Ok item) (only from (both mission Quiet) (Answer e)) (ne_eqb e 0 z)
last_written bytes limit mission u from seq item (Ok ws) next l z is =
    cond_both (exceeds limit ws) (Err 4) (Ok (record { writes = ws; kept = [] })) (λ (r : Result TakenItem ℕ). IsLast bytes u seq (Ok item) (took (both mission (Open u)) from Fence u r))
    (λ t. other_answer bytes u seq (Ok item) (only from (both mission Quiet) (Answer no_space)) refl)
    (λ t zero. record { item = item; stored_is = refl; next = next; writes_are = is; last = l })

last_taken : (bytes : List ℕ) (limit : Option ℕ) (mission : Uploads) (u : Upload) (from : From) (seq : ℕ) (stored : Result FenceItem ℕ) → RequestFits (Give seq (ForFence stored)) → (seq == u.expected) ≡ true
    → IsLast bytes u seq stored (took (both mission (Open u)) from Fence u (taken bytes limit u (ForFence stored)))
last_taken bytes limit mission u from seq (Err e) fits next = other_answer bytes u seq (Err e) (only from (both mission Quiet) (Answer e)) (ne_eqb e 0 fits)
last_taken bytes limit mission u from seq (Ok item) fits next =
    let m = both mission (Open u) in
    let items = u.kept ++ item ∷ [] in
    let kept : TakenItem = record { writes = []; kept = items } in
    cond_both (is_last u) (if_allowed limit [] (replace_writes bytes items)) (Ok kept) (λ (r : Result TakenItem ℕ). IsLast bytes u seq (Ok item) (took m from Fence u r))
    (λ l. last_written bytes limit mission u from seq item (replace_writes bytes items) next l (replace_refuses bytes items) refl)
    (λ other. other_answer bytes u seq (Ok item) (took m from Fence u (Ok kept)) (ap (λ (b : Bool). first_zero (tells from (cond b (Answer accepted) (Next (u.expected + 1))))) other))

last_given : (bytes : List ℕ) (limit : Option ℕ) (mission before : Uploads) (u : Upload) (from : From) (seq : ℕ) (stored : Result FenceItem ℕ) → before ≡ Open u → RequestFits (Give seq (ForFence stored)) → u.owner ≡ from.station
    → IsLast bytes u seq stored (given_to bytes limit (both mission before) from Fence seq (ForFence stored) before)
last_given bytes limit mission Quiet u from seq stored e fits own = absurd (let clash : Quiet ≡ Open u = e in cc)
last_given bytes limit mission (Finished s l) u from seq stored e fits own = absurd (let clash : Finished s l ≡ Open u = e in cc)
last_given bytes limit mission (Open w) u from seq stored e fits own =
    let same : w ≡ u = cc in
    let m = both mission (Open w) in
    let P : service.Did → Type 0 = IsLast bytes w seq stored in
    let d3 = took m from Fence w (taken bytes limit w (ForFence stored)) in
    let d2 = cond (not (seq == w.expected)) (only from m (Answer invalid_sequence)) d3 in
    let d1 = cond (seq + 1 == w.expected) (only from m (Next w.expected)) d2 in
    subst (λ (x : Upload). IsLast bytes x seq stored (given_to bytes limit m from Fence seq (ForFence stored) (Open w))) same
    (cond_both (not (w.owner == from.station)) (only from m (Answer denied)) d1 P
    (λ t. other_answer bytes w seq stored (only from m (Answer denied)) refl)
    (λ t. cond_both (seq + 1 == w.expected) (only from m (Next w.expected)) d2 P
    (λ t. other_answer bytes w seq stored (only from m (Next w.expected)) refl)
    (λ t. cond_both (not (seq == w.expected)) (only from m (Answer invalid_sequence)) d3 P
    (λ t. other_answer bytes w seq stored (only from m (Answer invalid_sequence)) refl)
    (λ t. last_taken bytes limit mission w from seq stored fits (not-false (seq == w.expected) t)))))

last_act : (budget : ℕ) (b : List ℕ) (r : Run) (u : Upload) (v : Bool) (target : Target) (number seq : ℕ) (stored : Result FenceItem ℕ) → fences_at r ≡ Open u → RequestFits (Give seq (ForFence stored))
    → told_zero (did_in budget b r (says u.owner v target number (Give seq (ForFence stored)))).told ≡ true → LastWritten (after b r.issued) u seq stored (did_in budget b r (says u.owner v target number (Give seq (ForFence stored)))).writes
unfolding did
last_act budget b r u v target number seq stored e fits zero =
    let bytes = after b r.issued in
    let m = r.machine.vehicle.missions in
    let from : From = record { station = u.owner; target = target; number = number } in
    let allowed = allowed_of budget r.machine.vehicle in
    let d = given_to bytes allowed m from Fence seq (ForFence stored) m.fence in
    last_given bytes allowed m.mission m.fence u from seq stored e fits refl (sym (same_zero u.owner d.told) ∙ zero)

fence_given : (g : Given) → type_of_given g ≡ Fence → (stored : Result FenceItem ℕ) × (g ≡ ForFence stored)
fence_given (ForFence stored) e = (stored, refl)
fence_given (ForMission stored) e = absurd (let clash : Mission ≡ Fence = e in cc)

pub law_of_fence_uploads : LawOfFenceUploads
law_of_fence_uploads budget b acts last u size fit ends =
    let replaced = fences_are_replaced in
    let s = run_over budget b acts in
    let bytes = after b s.issued in
    let st = fence_status budget b acts (fit_before acts (last ∷ []) fit) in
    let x = the_open budget b acts u st ends.was_open in
    let o = x.ongoing in
    let now = o.becomes in
    let same : u ≡ now.upload = let two : Open u ≡ Open now.upload = sym ends.was_open ∙ now.now_is in cc in
    let owner : u.owner ≡ x.station = ap (λ (w : Upload). w.owner) same ∙ now.owner_is in
    let count_is : u.count ≡ x.count = ap (λ (w : Upload). w.count) same ∙ now.count_is in
    let items = fence_items_from x.station 0 x.since in
    let expected : u.expected ≡ length items = ap (λ (w : Upload). w.expected) same ∙ now.expected_is in
    let kept : u.kept ≡ items = ap (λ (w : Upload). w.kept) same ∙ now.kept_is in
    let chosen = fence_given ends.given ends.for_type in
    let stored = chosen.0 in
    let said : Act = says u.owner ends.v2 ends.sender ends.number (Give ends.seq (ForFence stored)) in
    let is : last ≡ said = ends.is ∙ ap (λ (g : Given). says u.owner ends.v2 ends.sender ends.number (Give ends.seq g)) chosen.1 in
    let fits : ActFits said = subst ActFits is (fit_since acts (last ∷ []) fit).0 in
    let zero : told_zero (did_in budget b s said).told ≡ true = ap (λ (act : Act). told_zero (did_in budget b s act).told) (sym is) ∙ ap told_zero ends.told in
    let lp = last_act budget b s u ends.v2 ends.sender ends.number ends.seq stored ends.was_open fits.0 zero in
    let i = lp.item in
    let good : IsFenceItem i = subst (λ (r : Result FenceItem ℕ). GivenFits (ForFence r)) lp.stored_is fits.0 in
    let seq_is : (ends.seq == length items) ≡ true = ap (λ (n : ℕ). ends.seq == n) (sym expected) ∙ lp.next in
    let own : (x.station == u.owner) ≡ true = eq-eqb x.station u.owner (sym owner) in
    let gives : item_given x.station (length items) last ≡ Some i =
    ap (λ (act : Act). item_given x.station (length items) act) is
    ∙ ap (λ (r : Result FenceItem ℕ). item_given x.station (length items) (says u.owner ends.v2 ends.sender ends.number (Give ends.seq (ForFence r)))) lp.stored_is
    ∙ ap (λ (t : Bool). cond t (cond (ends.seq == length items) (Some i) None) None) own
    ∙ ap (λ (t : Bool). cond t (Some i) None) seq_is in
    let zero_more : 0 + length items ≡ length items = omega arith in
    let more : fence_items_from x.station 0 (x.since ++ last ∷ []) ≡ items ++ i ∷ [] =
    from_snoc fence_item_in x.station 0 x.since last
    ∙ ap (λ (n : ℕ). items ++ more_from x.station n last) zero_more
    ∙ ap (λ (g : Option FenceItem). items ++ option_map_or (λ d. d ∷ []) g []) gives in
    let more_own : fence_items_from u.owner 0 (x.since ++ last ∷ []) ≡ items ++ i ∷ [] = ap (λ (n : ℕ). fence_items_from n 0 (x.since ++ last ∷ [])) owner ∙ more in
    let ws = (did_in budget b s said).writes in
    let written : replace_writes bytes (items ++ i ∷ []) ≡ Ok ws = ap (λ (l : List FenceItem). replace_writes bytes (l ++ i ∷ [])) (sym kept) ∙ lp.writes_are in
    let whole = replaced bytes (items ++ i ∷ []) ws (length-after b s.issued ∙ size) (fit_push items i o.fit good) written in
    let end : after b (run_over budget b (acts ++ last ∷ [])).issued ≡ after bytes ws =
    ap (λ (r : Run). after b r.issued) (run_snoc budget b acts last)
    ∙ after-append b s.issued (did_in budget b s last).writes
    ∙ ap (λ (act : Act). after bytes (did_in budget b s act).writes) is in
    let alone = gives_not_opens budget Fence b s last u.owner ends.v2 ends.sender ends.number ends.seq ends.given ends.is in
    let goes : UploadGoesOn budget Fence b (run_over budget b (x.before ++ x.opening ∷ [])) (x.since ++ last ∷ []) =
    goes_snoc budget Fence b (run_over budget b (x.before ++ x.opening ∷ [])) x.since last x.goes
    (subst (λ (r : Run). UploadGoesOn budget Fence b r (last ∷ [])) (sym (run_since budget b acts x.before x.since x.opening x.split)) ((u, ends.was_open), alone, tt)) in
    let all_fit : AllFit (x.before ++ x.opening ∷ (x.since ++ last ∷ [])) =
    subst AllFit (ap (λ (l : List Act). l ++ last ∷ []) x.split ∙ append_assoc x.before (x.opening ∷ x.since) (last ∷ [])) fit in
    let last_one : u.expected + 1 ≡ u.count = eqb-true (u.expected + 1) u.count lp.last in
    record {
      before = x.before;
      opening = x.opening;
      since = x.since;
      split = x.split;
      upload = record {
        opens = subst (λ (n : ℕ). OpensUpload budget Fence b (run_over budget b x.before) x.opening u.owner n) (sym count_is) (subst (λ (n : ℕ). OpensUpload budget Fence b (run_over budget b x.before) x.opening n x.count) (sym owner) x.opens);
        goes_on = goes;
        fit = all_fit;
      };
      list = ap fence_of end ∙ whole ∙ sym more_own;
      all = ap (λ (l : List FenceItem). length l) more_own ∙ omega (arith, length_push items i);
    }
