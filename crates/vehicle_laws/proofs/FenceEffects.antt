-- What a request to the mission protocol does to the uploads of a fence.
use Rattle.std.proofs.Common.{◌≡◌, ◌≢◌, ◌⊎◌, inl, inr, ℕ, ◌+◌, ◌<◌, Bool, true, false, cond, not, List, [], ◌∷◌, ◌++◌, refl, sym, ◌∙◌, ap, arith, Option, Some, None}
use Rattle.std.specs.Prelude.{Result, Ok, Err, nat_lt, ◌==◌, ◌&&◌}
use Rattle.std.proofs.lemmas.Bool.{cond_both, not-true, not-false, eqb-true, eqb-false, ne_eqb}
use Rattle.storage_lines.specs.declared.lines.LineWrite.{LineWrite}
use Rattle.mission_commands.specs.declared.commands.Command.{Command}
use Rattle.mission_records.specs.declared.reading.TheConstants.{CAPACITY}
use Rattle.mission_records.specs.Mission.{begin_writes}
use Rattle.fence_records.specs.declared.items.FenceItem.{FenceItem}
use Rattle.fence_records.specs.Lists as fences
use Rattle.fence_records.specs.Lists.{IsFenceItem}
use Rattle.mission_service.specs.declared.requests.MissionType.{MissionType}
use Rattle.mission_service.specs.declared.requests.MissionType.TheVariants.{Mission, Fence}
use Rattle.mission_service.specs.Uploads.{Upload, Uploads, Quiet, Open, Finished, Missions, with_uploads}
use Rattle.mission_service.specs.Requests.{Given, ForMission, ForFence, Request, Begin, Give, Clear, Count, Show, Cancel, Unsupported}
use Rattle.mission_service.specs.Service as service
use Rattle.mission_service.specs.declared.replies.Content.{Content}
use Rattle.mission_service.specs.declared.replies.Content.TheVariants.{Answer, Next, Total}
use Rattle.param_service.specs.Budget.{exceeds}
use Rattle.mission_service.specs.Service.{From, Taken, Told, tells, only, does, is_anothers, opened, first_writes, clear_writes, any_anothers, all_quiet, cleared, begun, is_last, if_allowed, command_lines, taken, after_item, told_after, took, given_to, total, shown, cancelled, answered, accepted, denied, error, fence_capacity, invalid_sequence, no_space}
use Rattle.vehicle_laws.specs.Uploads.{fence_item_in}
use Rattle.mission_service.specs.Asked.{RequestFits}
use Rattle.vehicle_laws.proofs.Effects.{first_next, cond_none}

-- the item that a station's request gives an upload as its next one
abbrev pub corner_by : ℕ → Request → Upload → Option FenceItem
corner_by station request u = cond (u.owner == station) (fence_item_in u.expected request) None

-- the upload after something: with these items
pub record Becomes (owner count expected : ℕ) (kept : List FenceItem) (now : Uploads) : Type 0 where
  pub upload : Upload
  pub now_is : now ≡ Open upload
  pub owner_is : upload.owner ≡ owner
  pub count_is : upload.count ≡ count
  pub expected_is : upload.expected ≡ expected
  pub kept_is : upload.kept ≡ kept

-- The open upload stays.
abbrev pub FenceStays : Upload → Option FenceItem → Uploads → Type 0
FenceStays u given now = (given ≡ None) × Becomes u.owner u.count u.expected u.kept now

-- The next item of the open upload is kept.
pub record FenceKept (u : Upload) (given : Option FenceItem) (now : Uploads) : Type 0 where
  pub item : FenceItem
  pub gives : given ≡ Some item
  pub fits : IsFenceItem item
  pub more : is_last u ≡ false
  pub becomes : Becomes u.owner u.count (u.expected + 1) (u.kept ++ item ∷ []) now

-- A COUNT opens an upload of a fence.
pub record FenceBegun (from : From) (request : Request) (told : List Told) (now : Uploads) : Type 0 where
  pub count : ℕ
  pub asked : request ≡ Begin Fence count
  pub told_is : told ≡ tells from (Next 0)
  pub now_is : now ≡ opened from count
  pub some : 0 < count

abbrev pub FenceEffect : Type 0 → Type 0 → Uploads → (Upload → Option FenceItem) → Uploads → Type 0
FenceEffect B N before given now = B ⊎ (N × (((u : Upload) → now ≢ Open u) ⊎ ((u : Upload) × (before ≡ Open u) × (FenceStays u (given u) now ⊎ FenceKept u (given u) now))))

abbrev pub NoFenceBegun : From → Request → List Told → Type 0
NoFenceBegun from request told = (count : ℕ) → request ≡ Begin Fence count → first_next told ≡ true → ⊥

pub unmoved : (B N : Type 0) (before : Uploads) (given : Upload → Option FenceItem) (now : Uploads) → now ≡ before → ((u : Upload) → given u ≡ None) → N → FenceEffect B N before given now
unmoved B N (Open u) given now e n alone = inr (alone, inr (u, refl, inl (n u, record { upload = u; now_is = e; owner_is = refl; count_is = refl; expected_is = refl; kept_is = refl })))
unmoved B N Quiet given now e n alone = inr (alone, inl (λ u h. cc))
unmoved B N (Finished s l) given now e n alone = inr (alone, inl (λ u h. cc))

abbrev both : Uploads → Uploads → Missions
both mission before = record { mission = mission; fence = before }

abbrev E : Uploads → From → Request → service.Did → Type 0
E before from request d = FenceEffect (FenceBegun from request d.told d.missions.fence) (NoFenceBegun from request d.told) before (corner_by from.station request) d.missions.fence

abbrev GivesNone : Request → Type 0
GivesNone request = (seq : ℕ) → fence_item_in seq request ≡ None

none_given : (station : ℕ) (request : Request) → GivesNone request → (u : Upload) → corner_by station request u ≡ None
none_given station request n u = ap (λ (o : Option FenceItem). cond (u.owner == station) o None) (n u.expected) ∙ cond_none (u.owner == station)

-- the fence's uploads are as before
same : (before : Uploads) (from : From) (request : Request) (d : service.Did) → d.missions.fence ≡ before → GivesNone request → NoFenceBegun from request d.told → E before from request d
same before from request d e n alone = unmoved _ _ before (corner_by from.station request) d.missions.fence e (none_given from.station request n) alone

answers : (mission before : Uploads) (from : From) (request : Request) (k : ℕ) → GivesNone request → E before from request (only from (both mission before) (Answer k))
answers mission before from request k n = same before from request (only from (both mission before) (Answer k)) refl n (λ c e t. let clash : false ≡ true = t in cc)

-- clearing types
cleared_fence : (types : List MissionType) (m : Missions) → ((all_quiet m types).fence ≡ m.fence) ⊎ ((all_quiet m types).fence ≡ Quiet)
cleared_fence [] m = inl refl
cleared_fence (Mission ∷ ts) m = cleared_fence ts (with_uploads Mission m Quiet)
cleared_fence (Fence ∷ ts) m = elim (cleared_fence ts (with_uploads Fence m Quiet)) [ inl e ↦ inr e | inr e ↦ inr e ]

of_clearing : (bytes : List ℕ) (allowed : Option ℕ) (mission before : Uploads) (from : From) (request : Request) (types : List MissionType) → GivesNone request → E before from request (cleared bytes allowed (both mission before) from types)
of_clearing bytes allowed mission before from request types n =
    let m = both mission before in
    let ws = clear_writes bytes types in
    let P : service.Did → Type 0 = E before from request in
    let done = does from (all_quiet m types) ws (Answer accepted) in
    let alone : NoFenceBegun from request done.told = λ c e t. let clash : false ≡ true = t in cc in
    cond_both (any_anothers from.station m types) (only from m (Answer denied)) (cond (exceeds allowed ws) (only from m (Answer no_space)) done) P
    (λ t. answers mission before from request 14 n)
    (λ t. cond_both (exceeds allowed ws) (only from m (Answer no_space)) done P
    (λ t. answers mission before from request 4 n)
    (λ t. elim (cleared_fence types m) [
      | inl k ↦ same before from request done k n alone
      | inr k ↦ inr (alone, inl (λ u h. cc))
    ]))

of_count : (bytes : List ℕ) (allowed : Option ℕ) (mission before : Uploads) (from : From) (count : ℕ) → E before from (Begin Fence count) (begun bytes allowed (both mission before) from Fence count)
of_count bytes allowed mission before from count =
    let m = both mission before in
    let request = Begin Fence count in
    let n : GivesNone request = λ seq. refl in
    let P : service.Did → Type 0 = E before from request in
    let none : List LineWrite = [] in
    let d4 = does from (with_uploads Fence m (opened from count)) none (Next 0) in
    let d3 = cond (exceeds allowed none) (only from m (Answer no_space)) d4 in
    let d2 = cond (count == 0) (cleared bytes allowed m from (Fence ∷ [])) d3 in
    let d1 = cond (nat_lt fence_capacity count) (only from m (Answer no_space)) d2 in
    cond_both (is_anothers from.station before) (only from m (Answer denied)) d1 P
    (λ t. answers mission before from request 14 n)
    (λ t. cond_both (nat_lt fence_capacity count) (only from m (Answer no_space)) d2 P
    (λ t. answers mission before from request 4 n)
    (λ few. cond_both (count == 0) (cleared bytes allowed m from (Fence ∷ [])) d3 P
    (λ t. of_clearing bytes allowed mission before from request (Fence ∷ []) n)
    (λ some. cond_both (exceeds allowed none) (only from m (Answer no_space)) d4 P
    (λ t. answers mission before from request 4 n)
    (λ t. let other = eqb-false count 0 some in inl (record { count = count; asked = refl; told_is = refl; now_is = refl; some = omega arith })))))

of_mission_count : (bytes : List ℕ) (allowed : Option ℕ) (mission before : Uploads) (from : From) (count : ℕ) → E before from (Begin Mission count) (begun bytes allowed (both mission before) from Mission count)
of_mission_count bytes allowed mission before from count =
    let m = both mission before in
    let request = Begin Mission count in
    let n : GivesNone request = λ seq. refl in
    let P : service.Did → Type 0 = E before from request in
    let d4 = does from (with_uploads Mission m (opened from count)) (begin_writes bytes) (Next 0) in
    let d3 = cond (exceeds allowed (begin_writes bytes)) (only from m (Answer no_space)) d4 in
    let d2 = cond (count == 0) (cleared bytes allowed m from (Mission ∷ [])) d3 in
    let d1 = cond (nat_lt CAPACITY count) (only from m (Answer no_space)) d2 in
    cond_both (is_anothers from.station mission) (only from m (Answer denied)) d1 P
    (λ t. answers mission before from request 14 n)
    (λ t. cond_both (nat_lt CAPACITY count) (only from m (Answer no_space)) d2 P
    (λ t. answers mission before from request 4 n)
    (λ few. cond_both (count == 0) (cleared bytes allowed m from (Mission ∷ [])) d3 P
    (λ t. of_clearing bytes allowed mission before from request (Mission ∷ []) n)
    (λ some. cond_both (exceeds allowed (begin_writes bytes)) (only from m (Answer no_space)) d4 P
    (λ t. answers mission before from request 4 n)
    (λ t. same before from request d4 refl n (λ c e t. cc)))))

no_count : (from : From) (seq : ℕ) (given : Given) (told : List Told) → NoFenceBegun from (Give seq given) told
no_count from seq given told c e t = cc

-- an item of a mission leaves the fence's uploads
abbrev Left : Uploads → service.Did → Type 0
Left before d = d.missions.fence ≡ before

mission_took : (mission before : Uploads) (from : From) (u : Upload) (r : Result Taken ℕ) → Left before (took (both mission before) from Mission u r)
mission_took mission before from u (Err e) = refl
mission_took mission before from u (Ok x) = refl

mission_item_left : (bytes : List ℕ) (allowed : Option ℕ) (mission before : Uploads) (from : From) (seq : ℕ) (stored : Result Command ℕ) → Left before (given_to bytes allowed (both mission before) from Mission seq (ForMission stored) mission)
mission_item_left bytes allowed Quiet before from seq stored = refl
mission_item_left bytes allowed (Finished s l) before from seq stored = refl
mission_item_left bytes allowed (Open u) before from seq stored =
    let m = both (Open u) before in
    let d3 = took m from Mission u (taken bytes allowed u (ForMission stored)) in
    let d2 = cond (not (seq == u.expected)) (only from m (Answer invalid_sequence)) d3 in
    let d1 = cond (seq + 1 == u.expected) (only from m (Next u.expected)) d2 in
    cond_both (not (u.owner == from.station)) (only from m (Answer denied)) d1 (Left before)
    (λ t. refl)
    (λ t. cond_both (seq + 1 == u.expected) (only from m (Next u.expected)) d2 (Left before)
    (λ t. refl)
    (λ t. cond_both (not (seq == u.expected)) (only from m (Answer invalid_sequence)) d3 (Left before)
    (λ t. refl)
    (λ t. mission_took (Open u) before from u (taken bytes allowed u (ForMission stored)))))

-- no upload is open
off : (before : Uploads) (from : From) (seq : ℕ) (given : Given) (d : service.Did) → ((u : Upload) → d.missions.fence ≢ Open u) → E before from (Give seq given) d
off before from seq given d c = inr (no_count from seq given d.told, inl c)

quiet_closed : (u : Upload) → Quiet ≢ Open u
quiet_closed u e = cc

finished_closed : (s l : ℕ) (u : Upload) → Finished s l ≢ Open u
finished_closed s l u e = cc

other_number : (expected seq : ℕ) (stored : Result FenceItem ℕ) → (seq == expected) ≡ false → fence_item_in expected (Give seq (ForFence stored)) ≡ None
other_number expected seq (Ok i) h = ap (λ (t : Bool). cond t (Some i) None) h
other_number expected seq (Err e) h = refl

same_upload : (mission : Uploads) (u : Upload) (from : From) (seq : ℕ) (given : Given) (content : Content) → corner_by from.station (Give seq given) u ≡ None → E (Open u) from (Give seq given) (only from (both mission (Open u)) content)
same_upload mission u from seq given content n = inr (no_count from seq given (tells from content), inr (u, refl, inl (n, record { upload = u; now_is = refl; owner_is = refl; count_is = refl; expected_is = refl; kept_is = refl })))

-- the last item, with lines that may be issued, or not: the upload ends
last_took : (mission : Uploads) (u : Upload) (from : From) (seq : ℕ) (given : Given) (r : Result Taken ℕ) → is_last u ≡ true → E (Open u) from (Give seq given) (took (both mission (Open u)) from Fence u r)
last_took mission u from seq given (Err e) l = off (Open u) from seq given (only from (both mission Quiet) (Answer e)) quiet_closed
last_took mission u from seq given (Ok x) l =
    let next : Uploads = Open (record { owner = u.owner; target = u.target; count = u.count; expected = u.expected + 1; kept = x.kept; idle = 0 }) in
    let is : after_item u from.station x.kept ≡ Finished from.station u.expected = ap (λ (t : Bool). cond t (Finished from.station u.expected) next) l in
    off (Open u) from seq given (took (both mission (Open u)) from Fence u (Ok x)) (λ v h. finished_closed from.station u.expected v (sym is ∙ h))

item_taken : (bytes : List ℕ) (allowed : Option ℕ) (mission : Uploads) (u : Upload) (from : From) (seq : ℕ) (stored : Result FenceItem ℕ) → RequestFits (Give seq (ForFence stored)) → (u.owner == from.station) ≡ true → (seq == u.expected) ≡ true
    → E (Open u) from (Give seq (ForFence stored)) (took (both mission (Open u)) from Fence u (taken bytes allowed u (ForFence stored)))
item_taken bytes allowed mission u from seq (Err e) fits own next = off (Open u) from seq (ForFence (Err e)) (only from (both mission Quiet) (Answer e)) quiet_closed
item_taken bytes allowed mission u from seq (Ok item) fits own next =
    let m = both mission (Open u) in
    let items = u.kept ++ item ∷ [] in
    let kept : Taken = record { writes = []; kept = items } in
    let upload : Upload = record { owner = u.owner; target = u.target; count = u.count; expected = u.expected + 1; kept = items; idle = 0 } in
    cond_both (is_last u) (if_allowed allowed [] (fences.replace_writes bytes items)) (Ok kept) (λ (r : Result Taken ℕ). E (Open u) from (Give seq (ForFence (Ok item))) (took m from Fence u r))
    (λ l. last_took mission u from seq (ForFence (Ok item)) (if_allowed allowed [] (fences.replace_writes bytes items)) l)
    (λ more. inr (
      no_count from seq (ForFence (Ok item)) (tells from (told_after u)),
      inr (
        u,
        refl,
        inr (record {
          item = item;
          gives = ap (λ (b : Bool). cond b (cond (seq == u.expected) (Some item) None) None) own ∙ ap (λ (b : Bool). cond b (Some item) None) next;
          fits = fits;
          more = more;
          becomes = record { upload = upload; now_is = ap (λ (t : Bool). cond t (Finished from.station u.expected) (Open upload)) more; owner_is = refl; count_is = refl; expected_is = refl; kept_is = refl };
        }),
      ),
    ))

of_item : (bytes : List ℕ) (allowed : Option ℕ) (mission before : Uploads) (from : From) (seq : ℕ) (stored : Result FenceItem ℕ) → RequestFits (Give seq (ForFence stored))
    → E before from (Give seq (ForFence stored)) (given_to bytes allowed (both mission before) from Fence seq (ForFence stored) before)
of_item bytes allowed mission Quiet from seq stored fits = off Quiet from seq (ForFence stored) (only from (both mission Quiet) (Answer error)) quiet_closed
of_item bytes allowed mission (Finished s l) from seq stored fits = off (Finished s l) from seq (ForFence stored) (only from (both mission (Finished s l)) (Answer (cond ((s == from.station) && (seq == l)) accepted error))) (finished_closed s l)
of_item bytes allowed mission (Open u) from seq stored fits =
    let m = both mission (Open u) in
    let request = Give seq (ForFence stored) in
    let P : service.Did → Type 0 = E (Open u) from request in
    let d3 = took m from Fence u (taken bytes allowed u (ForFence stored)) in
    let d2 = cond (not (seq == u.expected)) (only from m (Answer invalid_sequence)) d3 in
    let d1 = cond (seq + 1 == u.expected) (only from m (Next u.expected)) d2 in
    cond_both (not (u.owner == from.station)) (only from m (Answer denied)) d1 P
    (λ t. same_upload mission u from seq (ForFence stored) (Answer denied) (ap (λ (b : Bool). cond b (fence_item_in u.expected request) None) (not-true (u.owner == from.station) t)))
    (λ own. cond_both (seq + 1 == u.expected) (only from m (Next u.expected)) d2 P
    (λ t. let one = eqb-true (seq + 1) u.expected t in let differ : (seq == u.expected) ≡ false = ne_eqb seq u.expected (λ e. absurd (omega arith)) in
    same_upload mission u from seq (ForFence stored) (Next u.expected) (ap (λ (o : Option FenceItem). cond (u.owner == from.station) o None) (other_number u.expected seq stored differ) ∙ cond_none (u.owner == from.station)))
    (λ t. cond_both (not (seq == u.expected)) (only from m (Answer invalid_sequence)) d3 P
    (λ t. same_upload mission u from seq (ForFence stored) (Answer invalid_sequence) (ap (λ (o : Option FenceItem). cond (u.owner == from.station) o None) (other_number u.expected seq stored (not-true (seq == u.expected) t)) ∙ cond_none (u.owner == from.station)))
    (λ t. item_taken bytes allowed mission u from seq stored fits (not-false (u.owner == from.station) own) (not-false (seq == u.expected) t))))

of_cancel : (mission before : Uploads) (from : From) → E before from (Cancel Fence) (record { missions = both mission (cancelled from.station before); writes = []; told = [] })
of_cancel mission Quiet from = inr (λ c e t. cc, inl quiet_closed)
of_cancel mission (Finished s l) from = inr (λ c e t. cc, inl (finished_closed s l))
of_cancel mission (Open u) from =
    cond_both (u.owner == from.station) Quiet (Open u) (λ (x : Uploads). E (Open u) from (Cancel Fence) (record { missions = both mission x; writes = []; told = [] }))
    (λ t. inr (λ c e x. cc, inl quiet_closed))
    (λ t. unmoved _ _ (Open u) (corner_by from.station (Cancel Fence)) (Open u) refl (none_given from.station (Cancel Fence) (λ n. refl)) (λ c e x. cc))

-- what a request does
pub fence_effect : (bytes : List ℕ) (allowed : Option ℕ) (mission before : Uploads) (from : From) (request : Request) → RequestFits request → E before from request (answered bytes allowed (both mission before) from request)
fence_effect bytes allowed mission before from (Begin Mission count) fits = of_mission_count bytes allowed mission before from count
fence_effect bytes allowed mission before from (Begin Fence count) fits = of_count bytes allowed mission before from count
fence_effect bytes allowed mission before from (Give seq (ForMission stored)) fits =
    same before from (Give seq (ForMission stored)) (given_to bytes allowed (both mission before) from Mission seq (ForMission stored) mission) (mission_item_left bytes allowed mission before from seq stored) (λ n. refl) (no_count from seq (ForMission stored) _)
fence_effect bytes allowed mission before from (Give seq (ForFence stored)) fits = of_item bytes allowed mission before from seq stored fits
fence_effect bytes allowed mission before from (Clear types) fits = of_clearing bytes allowed mission before from (Clear types) types (λ n. refl)
fence_effect bytes allowed mission before from (Count t) fits = same before from (Count t) (only from (both mission before) (Total (total t bytes))) refl (λ n. refl) (λ c e x. cc)
fence_effect bytes allowed mission before from (Show t seq) fits = same before from (Show t seq) (only from (both mission before) (shown t bytes seq)) refl (λ n. refl) (λ c e x. cc)
fence_effect bytes allowed mission before from (Cancel Mission) fits = unmoved _ _ before (corner_by from.station (Cancel Mission)) before refl (none_given from.station (Cancel Mission) (λ n. refl)) (λ c e x. cc)
fence_effect bytes allowed mission before from (Cancel Fence) fits = of_cancel mission before from
fence_effect bytes allowed mission before from Unsupported fits = answers mission before from Unsupported 3 (λ n. refl)
