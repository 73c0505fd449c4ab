-- What a request to the mission protocol does to the mission and its uploads.
use Rattle.std.proofs.Common.{◌≡◌, ◌≢◌, ◌⊎◌, inl, inr, ℕ, ◌+◌, ◌<◌, ◌≤◌, Bool, true, false, cond, not, List, [], ◌∷◌, ◌++◌, refl, sym, ◌∙◌, ap, subst, arith, Option, Some, None}
use Rattle.std.specs.Prelude.{Result, Ok, Err, nat_lt, ◌==◌, ◌&&◌}
use Rattle.std.proofs.lemmas.Bool.{cond_both, not-true, not-false, eqb-true, eqb-false, ne_eqb}
use Rattle.std.proofs.lemmas.Bool.Decides.{nat_tests}
use Rattle.storage_lines.specs.declared.lines.LineWrite.{LineWrite}
use Rattle.storage_lines.specs.Lines.{after}
use Rattle.param_records.specs.Changes.{IsFull, is_full}
use Rattle.param_records.specs.Steps.{records_in_storage}
use Rattle.mission_commands.specs.declared.commands.Command.{Command}
use Rattle.mission_records.specs.declared.reading.TheConstants.{CAPACITY}
use Rattle.mission_records.specs.Mission.{total_row, total_writes, begin_writes, put_writes}
use Rattle.mission_records.specs.Steps.{IsFormatted, KeepsMission}
use Rattle.mission_commands.specs.Storable.{IsStorable}
use Rattle.mission_records.proofs.Totals.{clears}
use Rattle.fence_records.specs.declared.items.FenceItem.{FenceItem}
use Rattle.fence_records.specs.Lists as fences
use Rattle.mission_service.specs.declared.requests.MissionType.{MissionType}
use Rattle.mission_service.specs.declared.requests.MissionType.TheVariants.{Mission, Fence}
use Rattle.mission_service.specs.Uploads.{Upload, Uploads, Quiet, Open, Finished, Missions, with_uploads}
use Rattle.mission_service.specs.Requests.{Given, ForMission, ForFence, Request, Begin, Give, Clear, Count, Show, Cancel, Unsupported}
use Rattle.mission_service.specs.Service as service
use Rattle.mission_service.specs.declared.replies.Content.{Content}
use Rattle.mission_service.specs.declared.replies.Content.TheVariants.{Answer, Next, Total, MissionItem, FencePart}
use Rattle.param_service.specs.Budget.{exceeds}
use Rattle.mission_service.specs.Service.{From, Taken, Told, tells, only, does, is_anothers, opened, most_of, first_writes, type_writes, clear_writes, any_anothers, all_quiet, cleared, begun, is_last, if_allowed, command_lines, taken, after_item, told_after, took, given_to, total, shown, cancelled, answered, accepted, denied, error, fence_capacity, invalid_sequence, no_space, unsupported}
use Rattle.vehicle_laws.specs.Uploads.{command_in}
use Rattle.mission_service.specs.Asked.{RequestFits}
use Rattle.vehicle_laws.proofs.Keeping.{Empties, keeps_none, keeps_empties, clears_empties, empties_then, keeps_then, formatted_then}
use Rattle.vehicle_laws.proofs.Fences.{clear_keeps, replace_keeps}

-- the command that a station's request gives an upload as its next one
abbrev pub given_by : ℕ → Request → Upload → Option Command
given_by station request u = cond (u.owner == station) (command_in u.expected request) None

-- No upload of a mission is open then, and the mission was kept or emptied.
pub record Off (bytes : List ℕ) (writes : List LineWrite) (now : Uploads) : Type 0 where
  pub empties : Empties bytes writes
  pub closed : (u : Upload) → now ≢ Open u

-- The open upload stays, and the mission is kept.
pub record Stays (bytes : List ℕ) (u : Upload) (given : Option Command) (writes : List LineWrite) (now : Uploads) : Type 0 where
  pub keeps : KeepsMission bytes writes
  pub none : given ≡ None
  pub upload : Upload
  pub now_is : now ≡ Open upload
  pub owner : upload.owner ≡ u.owner
  pub count : upload.count ≡ u.count
  pub expected : upload.expected ≡ u.expected

-- the upload after an item: finished, or open with the next one
pub record GoesOnWith (u : Upload) (now : Uploads) : Type 0 where
  pub upload : Upload
  pub now_is : now ≡ Open upload
  pub owner : upload.owner ≡ u.owner
  pub count : upload.count ≡ u.count
  pub expected : upload.expected ≡ u.expected + 1

-- The next command of the open upload is put.
pub record Put (bytes : List ℕ) (u : Upload) (given : Option Command) (writes : List LineWrite) (now : Uploads) : Type 0 where
  pub command : Command
  pub gives : given ≡ Some command
  pub storable : IsStorable command
  pub writes_are : writes ≡ put_writes bytes u.expected command
  pub room : ¬ IsFull (records_in_storage bytes) total_row (u.expected + 1)
  pub after_it : ((is_last u ≡ true) × ((v : Upload) → now ≢ Open v)) ⊎ ((is_last u ≡ false) × GoesOnWith u now)

-- A COUNT opens an upload of a mission.
pub record Begun (bytes : List ℕ) (from : From) (request : Request) (told : List Told) (writes : List LineWrite) (now : Uploads) : Type 0 where
  pub count : ℕ
  pub asked : request ≡ Begin Mission count
  pub told_is : told ≡ tells from (Next 0)
  pub writes_are : writes ≡ begin_writes bytes
  pub now_is : now ≡ opened from count
  pub some : 0 < count
  pub few : count ≤ CAPACITY

-- An upload begins, or else one of these, and none begins.
abbrev pub Effect : Type 0 → Type 0 → List ℕ → Uploads → (Upload → Option Command) → List LineWrite → Uploads → Type 0
Effect B N bytes before given writes now = B ⊎ (N × (Off bytes writes now ⊎ ((u : Upload) × (before ≡ Open u) × (Stays bytes u (given u) writes now ⊎ Put bytes u (given u) writes now))))

abbrev pub is_next : Content → Bool
is_next (Next n) = true
is_next (Answer result) = false
is_next (Total count) = false
is_next (MissionItem seq command) = false
is_next (FencePart seq item) = false

abbrev pub first_next : List Told → Bool
first_next [] = false
first_next (x ∷ xs) = is_next x.content

-- it is no COUNT whose first item is asked for
abbrev pub NotBegun : From → Request → List Told → Type 0
NotBegun from request told = (count : ℕ) → request ≡ Begin Mission count → first_next told ≡ true → ⊥

not_begun : (from : From) (request : Request) (told : List Told) → first_next told ≡ false → NotBegun from request told
not_begun from request told h count e t = let clash : false ≡ true = sym h ∙ t in cc

-- nothing changes but the fence
pub unchanged : (B N : Type 0) (bytes : List ℕ) (before : Uploads) (given : Upload → Option Command) (ws : List LineWrite) (now : Uploads) → now ≡ before → KeepsMission bytes ws → ((u : Upload) → given u ≡ None) → N → Effect B N bytes before given ws now
unchanged B N bytes (Open u) given ws now e k n alone = inr (alone, inr (u, refl, inl (record { keeps = k; none = n u; upload = u; now_is = e; owner = refl; count = refl; expected = refl })))
unchanged B N bytes Quiet given ws now e k n alone = inr (alone, inl (record { empties = keeps_empties bytes ws k; closed = λ u h. cc }))
unchanged B N bytes (Finished s l) given ws now e k n alone = inr (alone, inl (record { empties = keeps_empties bytes ws k; closed = λ u h. cc }))

abbrev both : Uploads → Uploads → Missions
both before fence = record { mission = before; fence = fence }

-- the effect of what was done
abbrev E : List ℕ → Uploads → From → Request → service.Did → Type 0
E bytes before from request d = Effect (Begun bytes from request d.told d.writes d.missions.mission) (NotBegun from request d.told) bytes before (given_by from.station request) d.writes d.missions.mission

-- a request that gives no command
pub cond_none : {X : Type 0} (t : Bool) → let n : Option X = None in cond t n n ≡ n
cond_none true = refl
cond_none false = refl

abbrev GivesNone : Request → Type 0
GivesNone request = (seq : ℕ) → command_in seq request ≡ None

none_given : (station : ℕ) (request : Request) → GivesNone request → (u : Upload) → given_by station request u ≡ None
none_given station request n u = ap (λ (o : Option Command). cond (u.owner == station) o None) (n u.expected) ∙ cond_none (u.owner == station)

-- a refusal
refused : (bytes : List ℕ) (before fence : Uploads) (from : From) (request : Request) (content : Content) → IsFormatted bytes → GivesNone request → is_next content ≡ false → E bytes before from request (only from (both before fence) content)
refused bytes before fence from request content f n a = unchanged _ _ bytes before (given_by from.station request) [] before refl (keeps_none bytes f) (none_given from.station request n) (not_begun from request (tells from content) a)

-- Clearing types keeps the mission, or empties it where it is one of them.
abbrev Cleared : List ℕ → Missions → List LineWrite → Missions → Type 0
Cleared bytes m ws now = (KeepsMission bytes ws × (now.mission ≡ m.mission)) ⊎ (Empties bytes ws × (now.mission ≡ Quiet))

clears_types : (types : List MissionType) (bytes : List ℕ) (m : Missions) → IsFormatted bytes → Cleared bytes m (clear_writes bytes types) (all_quiet m types)
unfolding clear_writes
clears_types [] bytes m f = inl (keeps_none bytes f, refl)
clears_types (Mission ∷ ts) bytes m f =
    let w1 = total_writes bytes 0 in
    let x = clears_empties bytes w1 (clears bytes f) in
    let g : IsFormatted (after bytes w1) = formatted_then bytes w1 x.stays in
    elim (clears_types ts (after bytes w1) (with_uploads Mission m Quiet) g) [
      | inl k ↦ inr (empties_then bytes w1 (clear_writes (after bytes w1) ts) x (keeps_empties (after bytes w1) (clear_writes (after bytes w1) ts) k.0), k.1)
      | inr e ↦ inr (empties_then bytes w1 (clear_writes (after bytes w1) ts) x e.0, e.1)
    ]
clears_types (Fence ∷ ts) bytes m f =
    let w1 = fences.clear_fence_writes bytes in
    let x = clear_keeps bytes f in
    let g : IsFormatted (after bytes w1) = formatted_then bytes w1 x.stays in
    elim (clears_types ts (after bytes w1) (with_uploads Fence m Quiet) g) [
      | inl k ↦ inl (keeps_then bytes w1 (clear_writes (after bytes w1) ts) x k.0, k.1)
      | inr e ↦ inr (empties_then bytes w1 (clear_writes (after bytes w1) ts) (keeps_empties bytes w1 x) e.0, e.1)
    ]

effect_of_clearing : (bytes : List ℕ) (allowed : Option ℕ) (before fence : Uploads) (from : From) (request : Request) (types : List MissionType) → IsFormatted bytes → GivesNone request → E bytes before from request (cleared bytes allowed (both before fence) from types)
effect_of_clearing bytes allowed before fence from request types f n =
    let m = both before fence in
    let ws = clear_writes bytes types in
    let P : service.Did → Type 0 = E bytes before from request in
    let done = does from (all_quiet m types) ws (Answer accepted) in
    cond_both (any_anothers from.station m types) (only from m (Answer denied)) (cond (exceeds allowed ws) (only from m (Answer no_space)) done) P
    (λ t. refused bytes before fence from request (Answer denied) f n refl)
    (λ t. cond_both (exceeds allowed ws) (only from m (Answer no_space)) done P
    (λ t. refused bytes before fence from request (Answer no_space) f n refl)
    (λ t. elim (clears_types types bytes m f) [
      | inl k ↦ unchanged _ _ bytes before (given_by from.station request) ws (all_quiet m types).mission k.1 k.0 (none_given from.station request n) (not_begun from request done.told refl)
      | inr e ↦ let gone = e.1 in inr (not_begun from request done.told refl, inl (record { empties = e.0; closed = λ u h. cc }))
    ]))

effect_of_count : (bytes : List ℕ) (allowed : Option ℕ) (before fence : Uploads) (from : From) (count : ℕ) → IsFormatted bytes → E bytes before from (Begin Mission count) (begun bytes allowed (both before fence) from Mission count)
effect_of_count bytes allowed before fence from count f =
    let m = both before fence in
    let request = Begin Mission count in
    let n : GivesNone request = λ seq. refl in
    let P : service.Did → Type 0 = E bytes before from request in
    let d4 = does from (with_uploads Mission m (opened from count)) (begin_writes bytes) (Next 0) in
    let d3 = cond (exceeds allowed (begin_writes bytes)) (only from m (Answer no_space)) d4 in
    let d2 = cond (count == 0) (cleared bytes allowed m from (Mission ∷ [])) d3 in
    let d1 = cond (nat_lt CAPACITY count) (only from m (Answer no_space)) d2 in
    cond_both (is_anothers from.station before) (only from m (Answer denied)) d1 P
    (λ t. refused bytes before fence from request (Answer denied) f n refl)
    (λ t. cond_both (nat_lt CAPACITY count) (only from m (Answer no_space)) d2 P
    (λ t. refused bytes before fence from request (Answer no_space) f n refl)
    (λ few. cond_both (count == 0) (cleared bytes allowed m from (Mission ∷ [])) d3 P
    (λ t. effect_of_clearing bytes allowed before fence from request (Mission ∷ []) f n)
    (λ some. cond_both (exceeds allowed (begin_writes bytes)) (only from m (Answer no_space)) d4 P
    (λ t. refused bytes before fence from request (Answer no_space) f n refl)
    (λ t. let other = eqb-false count 0 some in inl (record { count = count; asked = refl; told_is = refl; writes_are = refl; now_is = refl; some = omega arith; few = grind (arith, nat_tests) })))))

effect_of_fence_count : (bytes : List ℕ) (allowed : Option ℕ) (before fence : Uploads) (from : From) (count : ℕ) → IsFormatted bytes → E bytes before from (Begin Fence count) (begun bytes allowed (both before fence) from Fence count)
effect_of_fence_count bytes allowed before fence from count f =
    let m = both before fence in
    let request = Begin Fence count in
    let n : GivesNone request = λ seq. refl in
    let P : service.Did → Type 0 = E bytes before from request in
    let none : List LineWrite = [] in
    let d4 = does from (with_uploads Fence m (opened from count)) none (Next 0) in
    let d3 = cond (exceeds allowed none) (only from m (Answer no_space)) d4 in
    let d2 = cond (count == 0) (cleared bytes allowed m from (Fence ∷ [])) d3 in
    let d1 = cond (nat_lt fence_capacity count) (only from m (Answer no_space)) d2 in
    cond_both (is_anothers from.station fence) (only from m (Answer denied)) d1 P
    (λ t. refused bytes before fence from request (Answer denied) f n refl)
    (λ t. cond_both (nat_lt fence_capacity count) (only from m (Answer no_space)) d2 P
    (λ t. refused bytes before fence from request (Answer no_space) f n refl)
    (λ few. cond_both (count == 0) (cleared bytes allowed m from (Fence ∷ [])) d3 P
    (λ t. effect_of_clearing bytes allowed before fence from request (Fence ∷ []) f n)
    (λ some. cond_both (exceeds allowed none) (only from m (Answer no_space)) d4 P
    (λ t. refused bytes before fence from request (Answer no_space) f n refl)
    (λ t. unchanged _ _ bytes before (given_by from.station request) [] before refl (keeps_none bytes f) (none_given from.station request n) (λ c e x. cc)))))

-- no upload is open
off : (bytes : List ℕ) (before : Uploads) (from : From) (request : Request) (d : service.Did) → IsFormatted bytes → d.writes ≡ [] → ((u : Upload) → d.missions.mission ≢ Open u) → NotBegun from request d.told → E bytes before from request d
off bytes before from request d f w c alone = inr (alone, inl (record { empties = subst (Empties bytes) (sym w) (keeps_empties bytes [] (keeps_none bytes f)); closed = c }))

quiet_closed : (u : Upload) → Quiet ≢ Open u
quiet_closed u e = cc

finished_closed : (s l : ℕ) (u : Upload) → Finished s l ≢ Open u
finished_closed s l u e = cc

no_count : (from : From) (seq : ℕ) (given : Given) (told : List Told) → NotBegun from (Give seq given) told
no_count from seq given told c e t = cc

no_cancel : (from : From) (told : List Told) → NotBegun from (Cancel Mission) told
no_cancel from told c e t = cc

-- an item with another number
other_number : (expected seq : ℕ) (stored : Result Command ℕ) → (seq == expected) ≡ false → command_in expected (Give seq (ForMission stored)) ≡ None
other_number expected seq (Ok c) h = ap (λ (t : Bool). cond t (Some c) None) h
other_number expected seq (Err e) h = refl

-- the open upload with nothing given
same_upload : (bytes : List ℕ) (u : Upload) (fence : Uploads) (from : From) (request : Request) (content : Content) → IsFormatted bytes → given_by from.station request u ≡ None → NotBegun from request (tells from content) → E bytes (Open u) from request (only from (both (Open u) fence) content)
same_upload bytes u fence from request content f n alone = inr (alone, inr (u, refl, inl (record { keeps = keeps_none bytes f; none = n; upload = u; now_is = refl; owner = refl; count = refl; expected = refl })))

-- the upload after the item
item_after : (t : Bool) (u : Upload) (station : ℕ) → is_last u ≡ t → let now = after_item u station [] in ((is_last u ≡ true) × ((v : Upload) → now ≢ Open v)) ⊎ ((is_last u ≡ false) × GoesOnWith u now)
item_after true u station e =
    let next : Uploads = Open (record { owner = u.owner; target = u.target; count = u.count; expected = u.expected + 1; kept = []; idle = 0 }) in
    let is : after_item u station [] ≡ Finished station u.expected = ap (λ (t : Bool). cond t (Finished station u.expected) next) e in
    inl (e, λ v h. let clash : Finished station u.expected ≡ Open v = sym is ∙ h in cc)
item_after false u station e =
    let upload : Upload = record { owner = u.owner; target = u.target; count = u.count; expected = u.expected + 1; kept = []; idle = 0 } in
    inr (e, record { upload = upload; now_is = ap (λ (t : Bool). cond t (Finished station u.expected) (Open upload)) e; owner = refl; count = refl; expected = refl })

-- the next item of the upload, from its own station
item_taken : (bytes : List ℕ) (allowed : Option ℕ) (u : Upload) (fence : Uploads) (from : From) (seq : ℕ) (stored : Result Command ℕ) → IsFormatted bytes → RequestFits (Give seq (ForMission stored)) → (u.owner == from.station) ≡ true → (seq == u.expected) ≡ true
    → E bytes (Open u) from (Give seq (ForMission stored)) (took (both (Open u) fence) from Mission u (taken bytes allowed u (ForMission stored)))
item_taken bytes allowed u fence from seq (Err e) f fits own next = off bytes (Open u) from (Give seq (ForMission (Err e))) (only from (both Quiet fence) (Answer e)) f refl quiet_closed (no_count from seq (ForMission (Err e)) (tells from (Answer e)))
item_taken bytes allowed u fence from seq (Ok c) f fits own next =
    let m = both (Open u) fence in
    let request = Give seq (ForMission (Ok c)) in
    let ws = put_writes bytes u.expected c in
    let full = is_full (records_in_storage bytes) total_row (u.expected + 1) in
    let refuses : (n : ℕ) → E bytes (Open u) from request (only from (both Quiet fence) (Answer n)) = λ n. off bytes (Open u) from request (only from (both Quiet fence) (Answer n)) f refl quiet_closed (no_count from seq (ForMission (Ok c)) (tells from (Answer n))) in
    let took_it : service.Did = took m from Mission u (Ok (record { writes = ws; kept = [] })) in
    cond_both full (Err no_space) (Ok ws) (λ (r : Result (List LineWrite) ℕ). E bytes (Open u) from request (took m from Mission u (if_allowed allowed [] r)))
    (λ t. refuses no_space)
    (λ room. cond_both (exceeds allowed ws) (Err no_space) (Ok (record { writes = ws; kept = [] })) (λ (r : Result Taken ℕ). E bytes (Open u) from request (took m from Mission u r))
    (λ t. refuses no_space)
    (λ t. inr (
      no_count from seq (ForMission (Ok c)) took_it.told,
      inr (
        u,
        refl,
        inr (record {
          command = c;
          gives = ap (λ (b : Bool). cond b (cond (seq == u.expected) (Some c) None) None) own ∙ ap (λ (b : Bool). cond b (Some c) None) next;
          storable = fits;
          writes_are = refl;
          room = λ g. let yes : full ≡ true = g in let clash : true ≡ false = sym yes ∙ room in cc;
          after_it = item_after (is_last u) u from.station refl;
        }),
      ),
    )))

effect_of_item : (bytes : List ℕ) (allowed : Option ℕ) (before fence : Uploads) (from : From) (seq : ℕ) (stored : Result Command ℕ) → IsFormatted bytes → RequestFits (Give seq (ForMission stored))
    → E bytes before from (Give seq (ForMission stored)) (given_to bytes allowed (both before fence) from Mission seq (ForMission stored) before)
effect_of_item bytes allowed Quiet fence from seq stored f fits = off bytes Quiet from (Give seq (ForMission stored)) (only from (both Quiet fence) (Answer error)) f refl quiet_closed (no_count from seq (ForMission stored) (tells from (Answer error)))
effect_of_item bytes allowed (Finished s l) fence from seq stored f fits =
    off bytes (Finished s l) from (Give seq (ForMission stored)) (only from (both (Finished s l) fence) (Answer (cond ((s == from.station) && (seq == l)) accepted error))) f refl (finished_closed s l) (no_count from seq (ForMission stored) (tells from (Answer (cond ((s == from.station) && (seq == l)) accepted error))))
effect_of_item bytes allowed (Open u) fence from seq stored f fits =
    let m = both (Open u) fence in
    let request = Give seq (ForMission stored) in
    let P : service.Did → Type 0 = E bytes (Open u) from request in
    let d3 = took m from Mission u (taken bytes allowed u (ForMission stored)) in
    let d2 = cond (not (seq == u.expected)) (only from m (Answer invalid_sequence)) d3 in
    let d1 = cond (seq + 1 == u.expected) (only from m (Next u.expected)) d2 in
    cond_both (not (u.owner == from.station)) (only from m (Answer denied)) d1 P
    (λ t. same_upload bytes u fence from request (Answer denied) f (ap (λ (b : Bool). cond b (command_in u.expected request) None) (not-true (u.owner == from.station) t)) (no_count from seq (ForMission stored) (tells from (Answer denied))))
    (λ own. cond_both (seq + 1 == u.expected) (only from m (Next u.expected)) d2 P
    (λ t. let one = eqb-true (seq + 1) u.expected t in let differ : (seq == u.expected) ≡ false = ne_eqb seq u.expected (λ e. absurd (omega arith)) in
    same_upload bytes u fence from request (Next u.expected) f (ap (λ (o : Option Command). cond (u.owner == from.station) o None) (other_number u.expected seq stored differ) ∙ cond_none (u.owner == from.station)) (no_count from seq (ForMission stored) (tells from (Next u.expected))))
    (λ t. cond_both (not (seq == u.expected)) (only from m (Answer invalid_sequence)) d3 P
    (λ t. same_upload bytes u fence from request (Answer invalid_sequence) f (ap (λ (o : Option Command). cond (u.owner == from.station) o None) (other_number u.expected seq stored (not-true (seq == u.expected) t)) ∙ cond_none (u.owner == from.station)) (no_count from seq (ForMission stored) (tells from (Answer invalid_sequence))))
    (λ t. item_taken bytes allowed u fence from seq stored f fits (not-false (u.owner == from.station) own) (not-false (seq == u.expected) t))))

-- an item of a fence
fence_taken : (bytes : List ℕ) (allowed : Option ℕ) (before : Uploads) (w : Upload) (from : From) (request : Request) (kept : List FenceItem) (r : Result (List LineWrite) ℕ) → IsFormatted bytes → GivesNone request → ((ws : List LineWrite) → r ≡ Ok ws → KeepsMission bytes ws) → ((content : Content) → NotBegun from request (tells from content))
    → E bytes before from request (took (both before (Open w)) from Fence w (if_allowed allowed kept r))
fence_taken bytes allowed before w from request kept (Err e) f n keeps alone = refused bytes before Quiet from request (Answer e) f n refl
fence_taken bytes allowed before w from request kept (Ok ws) f n keeps alone =
    cond_both (exceeds allowed ws) (Err no_space) (Ok (record { writes = ws; kept = kept })) (λ (r : Result Taken ℕ). E bytes before from request (took (both before (Open w)) from Fence w r))
    (λ t. refused bytes before Quiet from request (Answer no_space) f n refl)
    (λ t. unchanged _ _ bytes before (given_by from.station request) ws before refl (keeps ws refl) (none_given from.station request n) (alone (told_after w)))

fence_stored : (bytes : List ℕ) (allowed : Option ℕ) (before : Uploads) (w : Upload) (from : From) (seq : ℕ) (stored : Result FenceItem ℕ) → IsFormatted bytes
    → E bytes before from (Give seq (ForFence stored)) (took (both before (Open w)) from Fence w (taken bytes allowed w (ForFence stored)))
fence_stored bytes allowed before w from seq (Err e) f = refused bytes before Quiet from (Give seq (ForFence (Err e))) (Answer e) f (λ n. refl) refl
fence_stored bytes allowed before w from seq (Ok item) f =
    let request = Give seq (ForFence (Ok item)) in
    let items = w.kept ++ item ∷ [] in
    let n : GivesNone request = λ k. refl in
    cond_both (is_last w) (if_allowed allowed [] (fences.replace_writes bytes items)) (Ok (record { writes = []; kept = items })) (λ (r : Result Taken ℕ). E bytes before from request (took (both before (Open w)) from Fence w r))
    (λ t. fence_taken bytes allowed before w from request [] (fences.replace_writes bytes items) f n (λ ws e. replace_keeps bytes items f ws e) (λ x. no_count from seq (ForFence (Ok item)) (tells from x)))
    (λ t. unchanged _ _ bytes before (given_by from.station request) [] before refl (keeps_none bytes f) (none_given from.station request n) (no_count from seq (ForFence (Ok item)) (tells from (told_after w))))

effect_of_fence_item : (bytes : List ℕ) (allowed : Option ℕ) (before fence : Uploads) (from : From) (seq : ℕ) (stored : Result FenceItem ℕ) → IsFormatted bytes
    → E bytes before from (Give seq (ForFence stored)) (given_to bytes allowed (both before fence) from Fence seq (ForFence stored) fence)
effect_of_fence_item bytes allowed before Quiet from seq stored f = refused bytes before Quiet from (Give seq (ForFence stored)) (Answer error) f (λ n. refl) refl
effect_of_fence_item bytes allowed before (Finished s l) from seq stored f = refused bytes before (Finished s l) from (Give seq (ForFence stored)) (Answer (cond ((s == from.station) && (seq == l)) accepted error)) f (λ n. refl) refl
effect_of_fence_item bytes allowed before (Open w) from seq stored f =
    let m = both before (Open w) in
    let request = Give seq (ForFence stored) in
    let n : GivesNone request = λ k. refl in
    let P : service.Did → Type 0 = E bytes before from request in
    let d3 = took m from Fence w (taken bytes allowed w (ForFence stored)) in
    let d2 = cond (not (seq == w.expected)) (only from m (Answer invalid_sequence)) d3 in
    let d1 = cond (seq + 1 == w.expected) (only from m (Next w.expected)) d2 in
    cond_both (not (w.owner == from.station)) (only from m (Answer denied)) d1 P
    (λ t. refused bytes before (Open w) from request (Answer denied) f n refl)
    (λ t. cond_both (seq + 1 == w.expected) (only from m (Next w.expected)) d2 P
    (λ t. unchanged _ _ bytes before (given_by from.station request) [] before refl (keeps_none bytes f) (none_given from.station request n) (no_count from seq (ForFence stored) (tells from (Next w.expected))))
    (λ t. cond_both (not (seq == w.expected)) (only from m (Answer invalid_sequence)) d3 P
    (λ t. refused bytes before (Open w) from request (Answer invalid_sequence) f n refl)
    (λ t. fence_stored bytes allowed before w from seq stored f)))

effect_of_cancel : (bytes : List ℕ) (before fence : Uploads) (from : From) → IsFormatted bytes → E bytes before from (Cancel Mission) (record { missions = both (cancelled from.station before) fence; writes = []; told = [] })
effect_of_cancel bytes Quiet fence from f = off bytes Quiet from (Cancel Mission) (record { missions = both Quiet fence; writes = []; told = [] }) f refl quiet_closed (no_cancel from [])
effect_of_cancel bytes (Finished s l) fence from f = off bytes (Finished s l) from (Cancel Mission) (record { missions = both (Finished s l) fence; writes = []; told = [] }) f refl (finished_closed s l) (no_cancel from [])
effect_of_cancel bytes (Open u) fence from f =
    cond_both (u.owner == from.station) Quiet (Open u) (λ (x : Uploads). E bytes (Open u) from (Cancel Mission) (record { missions = both x fence; writes = []; told = [] }))
    (λ t. off bytes (Open u) from (Cancel Mission) (record { missions = both Quiet fence; writes = []; told = [] }) f refl quiet_closed (no_cancel from []))
    (λ t. unchanged _ _ bytes (Open u) (given_by from.station (Cancel Mission)) [] (Open u) refl (keeps_none bytes f) (none_given from.station (Cancel Mission) (λ n. refl)) (no_cancel from []))

-- what a request does
pub effect : (bytes : List ℕ) (allowed : Option ℕ) (before fence : Uploads) (from : From) (request : Request) → IsFormatted bytes → RequestFits request → E bytes before from request (answered bytes allowed (both before fence) from request)
effect bytes allowed before fence from (Begin Mission count) f fits = effect_of_count bytes allowed before fence from count f
effect bytes allowed before fence from (Begin Fence count) f fits = effect_of_fence_count bytes allowed before fence from count f
effect bytes allowed before fence from (Give seq (ForMission stored)) f fits = effect_of_item bytes allowed before fence from seq stored f fits
effect bytes allowed before fence from (Give seq (ForFence stored)) f fits = effect_of_fence_item bytes allowed before fence from seq stored f
effect bytes allowed before fence from (Clear types) f fits = effect_of_clearing bytes allowed before fence from (Clear types) types f (λ n. refl)
effect bytes allowed before fence from (Count t) f fits = refused bytes before fence from (Count t) (Total (total t bytes)) f (λ n. refl) refl
effect bytes allowed before fence from (Show t seq) f fits = unchanged _ _ bytes before (given_by from.station (Show t seq)) [] before refl (keeps_none bytes f) (none_given from.station (Show t seq) (λ n. refl)) (λ c e x. cc)
effect bytes allowed before fence from (Cancel Mission) f fits = effect_of_cancel bytes before fence from f
effect bytes allowed before fence from (Cancel Fence) f fits = unchanged _ _ bytes before (given_by from.station (Cancel Fence)) [] before refl (keeps_none bytes f) (none_given from.station (Cancel Fence) (λ n. refl)) (λ c e x. cc)
effect bytes allowed before fence from Unsupported f fits = refused bytes before fence from Unsupported (Answer unsupported) f (λ n. refl) refl
