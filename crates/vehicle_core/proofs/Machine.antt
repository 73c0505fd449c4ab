-- The parts of an event, as the crate's calls do them.
use Rattle.std.proofs.Common.{◌≡◌, ℕ, ◌+◌, ◌<◌, Bool, true, false, cond, List, [], ◌∷◌, length, get_or, refl, sym, ◌∙◌, ap, ap₂, subst, arith, Option, Some, None, option_map}
use Rattle.std.specs.Prelude.{map, slice_get, slice_set}
use Rattle.std.specs.Option.{option_map_or}
use Rattle.std.proofs.lemmas.List.{map-set}
use Rattle.std.proofs.lemmas.Option.{slice_get-map, slice_get-get_or}
use Rattle.storage_lines.specs.declared.lines.LineWrite.{LineWrite}
use Rattle.mav_messages.specs.declared.messages.Message.{Message}
use Rattle.mav_messages.specs.declared.messages.Reply.{Reply}
use Rattle.mav_messages.specs.declared.messages.To.TheVariants.{Station}
use Rattle.param_service.specs.Requests.{Request}
use Rattle.param_service.specs.Service.{Shown}
use Rattle.param_service.specs.Service as parameters
use Rattle.param_service.specs.Replies as showing
use Rattle.vehicle_core.specs.declared.StationState.{StationState as Inner}
use Rattle.mission_service.specs.Uploads as uploads
use Rattle.mission_service.specs.declared.uploads.Target.{Target}
use Rattle.mission_service.specs.Requests as asking
use Rattle.mission_service.specs.Service as missions
use Rattle.mission_service.specs.Replies as answering
use Rattle.vehicle_core.specs.Orders.{Need, Nothing, VehicleCommand, vehicle_command_of}
use Rattle.vehicle_core.specs.Inside.{stations_of, view_of}
use Rattle.vehicle_core.specs.Vehicle.{Vehicle, StationState, Asked, Parameters, Missions, one_of, orders_for, Alive, tells_value, tells_of_missions, is_heard, is_armed, speaks_v2, hears, allowed_of, issues}
use Rattle.vehicle_core.specs.Acts.{Did, heard_as, Said, Beat, Stream, did, nothing, by_parameters, by_missions, beaten, ordered, asked_of, lines_counted}
use Rattle.vehicle_core.specs.Replies.{AreRepliesOf, IsAnswered, Tells}

-- a station inside, as it is seen
abbrev seen : Inner → StationState
seen s = record { heard = s.heard; v2 = s.v2 }

pub stations-set : (inner : List Inner) (i : ℕ) (s : Inner) → stations_of (slice_set inner i s) ≡ slice_set (stations_of inner) i (seen s)
stations-set inner i s = map-set seen inner i s

seen_at : (inner : List Inner) (i : ℕ) (d : Inner) → i < length inner → slice_get (stations_of inner) i ≡ Some (seen (get_or inner i d))
seen_at inner i d less = slice_get-map seen inner i ∙ ap (option_map seen) (slice_get-get_or inner i d less)

module _ (inner : List Inner) (next_rows : List ℕ) (m : uploads.Missions) (armed : Option ℕ) (vehicle : Vehicle) (i : ℕ) (d : Inner) (view : view_of inner next_rows m armed ≡ vehicle) (less : i < length inner) where
  pub heard_is : (get_or inner i d).heard ≡ is_heard vehicle i
  heard_is = sym (ap (λ (v : Vehicle). is_heard v i) (sym view) ∙ ap (λ (o : Option StationState). option_map_or (λ s. s.heard) o false) (seen_at inner i d less))

  pub v2_is : (get_or inner i d).v2 ≡ speaks_v2 vehicle i
  v2_is = sym (ap (λ (v : Vehicle). speaks_v2 v i) (sym view) ∙ ap (λ (o : Option StationState). option_map_or (λ s. s.v2) o false) (seen_at inner i d less))

pub all_told : (shown : List Shown) (replies : List Reply) → showing.AreRepliesOf shown replies → AreRepliesOf (map tells_value shown) replies
all_told [] [] h = h
all_told [] (r ∷ replies) h = absurd h
all_told (s ∷ shown) [] h = absurd h
all_told (s ∷ shown) (r ∷ replies) h = (h.0, all_told shown replies h.1)

pub all_told_of_missions : (station : ℕ) (told : List missions.Told) (replies : List Reply) → answering.AreRepliesOf station told replies → AreRepliesOf (map (tells_of_missions station) told) replies
all_told_of_missions station [] [] h = h
all_told_of_missions station [] (r ∷ replies) h = absurd h
all_told_of_missions station (t ∷ told) [] h = absurd h
all_told_of_missions station (t ∷ told) (r ∷ replies) h = (h.0, all_told_of_missions station told replies h.1)

asked_is : (budget : ℕ) (bytes : List ℕ) (vehicle : Vehicle) (station : ℕ) (request : Option Request) →
    asked_of budget bytes vehicle station (option_map Parameters request) ≡ by_parameters vehicle (parameters.did bytes (allowed_of budget vehicle) vehicle.next_rows station request)
asked_is budget bytes vehicle station None = refl
asked_is budget bytes vehicle station (Some request) = refl

asking_is : (budget : ℕ) (bytes : List ℕ) (vehicle : Vehicle) (station : ℕ) (sender : Target) (request : Option asking.Asking) →
    asked_of budget bytes vehicle station (option_map (Missions sender) request) ≡ by_missions vehicle station (missions.did bytes (allowed_of budget vehicle) vehicle.missions station sender request)
asking_is budget bytes vehicle station sender None = refl
asking_is budget bytes vehicle station sender (Some request) = refl

-- what one protocol alone asks for
pub one_of-none : (asked : Option Asked) → one_of asked None ≡ asked
one_of-none None = refl
one_of-none (Some a) = refl

-- a message without a command asks one of the protocols
pub no_command : (sender : Target) (message : Message) (a b : Option Asked) → vehicle_command_of message ≡ None → one_of a (one_of b (option_map (orders_for sender) (vehicle_command_of message))) ≡ one_of a b
no_command sender message a b none =
    ap (λ (o : Option VehicleCommand). one_of a (one_of b (option_map (orders_for sender) o))) none ∙ ap (one_of a) (one_of-none b)

pub did-said : (budget : ℕ) (bytes : List ℕ) (vehicle : Vehicle) (station : ℕ) (v2 : Bool) (asked : Option Asked) →
    did budget bytes vehicle (Said station (heard_as v2 asked)) ≡ lines_counted (asked_of budget bytes (hears vehicle station v2) station asked)
unfolding did
did-said budget bytes vehicle station v2 asked = refl

did-stream : (budget : ℕ) (bytes : List ℕ) (vehicle : Vehicle) (station : ℕ) → is_heard vehicle station ≡ true → did budget bytes vehicle (Stream station) ≡ by_parameters vehicle (parameters.streamed bytes vehicle.next_rows station)
unfolding did
did-stream budget bytes vehicle station h = ap (λ (b : Bool). cond b (by_parameters vehicle (parameters.streamed bytes vehicle.next_rows station)) (nothing vehicle)) h

pub did-no_stream : (budget : ℕ) (bytes : List ℕ) (vehicle : Vehicle) (station : ℕ) → is_heard vehicle station ≡ false → did budget bytes vehicle (Stream station) ≡ nothing vehicle
unfolding did
did-no_stream budget bytes vehicle station h = ap (λ (b : Bool). cond b (by_parameters vehicle (parameters.streamed bytes vehicle.next_rows station)) (nothing vehicle)) h

did-beat : (budget : ℕ) (vehicle : Vehicle) (station : ℕ) → is_heard vehicle station ≡ true → did budget [] vehicle (Beat station) ≡ beaten vehicle station (missions.idle vehicle.missions station)
unfolding did
did-beat budget vehicle station h = ap (λ (b : Bool). cond b (beaten vehicle station (missions.idle vehicle.missions station)) (nothing vehicle)) h

pub did-no_beat : (budget : ℕ) (vehicle : Vehicle) (station : ℕ) → is_heard vehicle station ≡ false → did budget [] vehicle (Beat station) ≡ nothing vehicle
unfolding did
did-no_beat budget vehicle station h = ap (λ (b : Bool). cond b (beaten vehicle station (missions.idle vehicle.missions station)) (nothing vehicle)) h

-- the parameter protocol did this, and so the vehicle did
follows : (d : Did) (vehicle : Vehicle) (p : parameters.Did) (next_rows : List ℕ) (writes : List LineWrite) (replies : List Reply) → d ≡ by_parameters vehicle p → next_rows ≡ p.next_rows → writes ≡ p.writes → showing.AreRepliesOf p.shown replies →
    IsAnswered d (record vehicle { next_rows = next_rows }) writes replies Nothing
follows d vehicle p next_rows writes replies e next written shown =
    record {
      state = ap (λ (n : List ℕ). record vehicle { next_rows = n }) next ∙ sym (ap (λ (x : Did). x.vehicle) e);
      lines = written ∙ sym (ap (λ (x : Did). x.writes) e);
      told = subst (λ (x : Did). AreRepliesOf x.told replies) (sym e) (all_told p.shown replies shown);
      needed = sym (ap (λ (x : Did). x.need) e);
    }

-- the mission protocol did this, and so the vehicle did
follows_missions : (d : Did) (vehicle : Vehicle) (station : ℕ) (m : missions.Did) (now : uploads.Missions) (writes : List LineWrite) (replies : List Reply) → d ≡ by_missions vehicle station m → answering.IsAnswered m station now writes replies →
    IsAnswered d (record vehicle { missions = now }) writes replies Nothing
follows_missions d vehicle station m now writes replies e answered =
    record {
      state = ap (λ (n : uploads.Missions). record vehicle { missions = n }) answered.state ∙ sym (ap (λ (x : Did). x.vehicle) e);
      lines = answered.lines ∙ sym (ap (λ (x : Did). x.writes) e);
      told = subst (λ (x : Did). AreRepliesOf x.told replies) (sym e) (all_told_of_missions station m.told replies answered.told);
      needed = sym (ap (λ (x : Did). x.need) e);
    }

-- the station is marked as heard
pub marked : (inner : List Inner) (next_rows : List ℕ) (m : uploads.Missions) (armed : Option ℕ) (vehicle : Vehicle) (station : ℕ) (v2 : Bool) → view_of inner next_rows m armed ≡ vehicle →
    hears vehicle station v2 ≡ view_of (slice_set inner station (record { heard = true; v2 = v2 })) next_rows m armed
marked inner next_rows m armed vehicle station v2 view =
    let mark : Inner = record { heard = true; v2 = v2 } in
    ap (λ (v : Vehicle). hears v station v2) (sym view)
    ∙ ap (λ (s : List StationState). let v : Vehicle = record { stations = s; next_rows = next_rows; missions = m; armed = armed } in v) (sym (stations-set inner station mark))

pub served_by_parameters : (budget : ℕ) (bytes : List ℕ) (allowed : Option ℕ) (inner : List Inner) (old next_rows : List ℕ) (m : uploads.Missions) (armed : Option ℕ) (vehicle : Vehicle) (station : ℕ) (request : Option Request) (writes : List LineWrite) (replies : List Reply) →
    view_of inner old m armed ≡ vehicle → allowed ≡ allowed_of budget vehicle → showing.IsAnswered (parameters.did bytes allowed old station request) next_rows writes replies →
    IsAnswered (asked_of budget bytes vehicle station (option_map Parameters request)) (view_of inner next_rows m armed) writes replies Nothing
served_by_parameters budget bytes allowed inner old next_rows m armed vehicle station request writes replies view is answered =
    let inside = view_of inner old m armed in
    let e = ap (λ (v : Vehicle). asked_of budget bytes v station (option_map Parameters request)) (sym view) ∙ asked_is budget bytes inside station request in
    let same : allowed ≡ allowed_of budget inside = is ∙ ap (allowed_of budget) (sym view) in
    let here = subst (λ (a : Option ℕ). showing.IsAnswered (parameters.did bytes a old station request) next_rows writes replies) same answered in
    follows _ inside (parameters.did bytes (allowed_of budget inside) old station request) next_rows writes replies e here.state here.lines here.shown

pub served_by_missions : (budget : ℕ) (bytes : List ℕ) (allowed : Option ℕ) (inner : List Inner) (next_rows : List ℕ) (old new : uploads.Missions) (armed : Option ℕ) (vehicle : Vehicle) (station : ℕ) (sender : Target) (request : Option asking.Asking) (writes : List LineWrite) (replies : List Reply) →
    view_of inner next_rows old armed ≡ vehicle → allowed ≡ allowed_of budget vehicle → answering.IsAnswered (missions.did bytes allowed old station sender request) station new writes replies →
    IsAnswered (asked_of budget bytes vehicle station (option_map (Missions sender) request)) (view_of inner next_rows new armed) writes replies Nothing
served_by_missions budget bytes allowed inner next_rows old new armed vehicle station sender request writes replies view is answered =
    let inside = view_of inner next_rows old armed in
    let e = ap (λ (v : Vehicle). asked_of budget bytes v station (option_map (Missions sender) request)) (sym view) ∙ asking_is budget bytes inside station sender request in
    let same : allowed ≡ allowed_of budget inside = is ∙ ap (allowed_of budget) (sym view) in
    let here = subst (λ (a : Option ℕ). answering.IsAnswered (missions.did bytes a old station sender request) station new writes replies) same answered in
    follows_missions _ inside station (missions.did bytes (allowed_of budget inside) old station sender request) new writes replies e here

none_since : (armed : Option ℕ) → option_map (λ since. since + length {A = LineWrite} []) armed ≡ armed
none_since None = refl
none_since (Some since) = ap Some (let e : since + length {A = LineWrite} [] ≡ since = omega arith in e)

-- none is issued, and so nothing changes
issues-none : (vehicle : Vehicle) → issues vehicle [] ≡ vehicle
issues-none vehicle = ap (λ (a : Option ℕ). record vehicle { armed = a }) (none_since vehicle.armed)

-- what was done for a station that was heard, and the lines that are lines_counted then
pub said : (budget : ℕ) (bytes : List ℕ) (inner : List Inner) (next_rows : List ℕ) (m : uploads.Missions) (armed : Option ℕ) (vehicle : Vehicle) (station : ℕ) (v2 : Bool) (asked : Option Asked) (served now : Vehicle) (writes : List LineWrite) (replies : List Reply) (need : Need) →
    view_of inner next_rows m armed ≡ vehicle → IsAnswered (asked_of budget bytes (view_of (slice_set inner station (record { heard = true; v2 = v2 })) next_rows m armed) station asked) served writes replies need → now ≡ issues served writes →
    IsAnswered (did budget bytes vehicle (Said station (heard_as v2 asked))) now writes replies need
said budget bytes inner next_rows m armed vehicle station v2 asked served now writes replies need view answered count =
    let heard = view_of (slice_set inner station (record { heard = true; v2 = v2 })) next_rows m armed in
    let d = asked_of budget bytes heard station asked in
    let e : did budget bytes vehicle (Said station (heard_as v2 asked)) ≡ lines_counted d =
    did-said budget bytes vehicle station v2 asked ∙ ap (λ (v : Vehicle). lines_counted (asked_of budget bytes v station asked)) (marked inner next_rows m armed vehicle station v2 view) in
    let all : IsAnswered (lines_counted d) now writes replies need = record { state = count ∙ ap₂ issues answered.state answered.lines; lines = answered.lines; told = answered.told; needed = answered.needed } in
    subst (λ (x : Did). IsAnswered x now writes replies need) (sym e) all

-- a command of a station
pub obeyed : (budget : ℕ) (bytes : List ℕ) (inner : List Inner) (next_rows : List ℕ) (m : uploads.Missions) (armed : Option ℕ) (vehicle : Vehicle) (station : ℕ) (v2 : Bool) (sender : Target) (command : VehicleCommand) (now : Vehicle) (writes : List LineWrite) (replies : List Reply) (need : Need) →
    view_of inner next_rows m armed ≡ vehicle → writes ≡ [] → IsAnswered (ordered (view_of (slice_set inner station (record { heard = true; v2 = v2 })) next_rows m armed) station sender command.number command.order) now [] replies need →
    IsAnswered (did budget bytes vehicle (Said station (heard_as v2 (Some (orders_for sender command))))) now writes replies need
obeyed budget bytes inner next_rows m armed vehicle station v2 sender command now writes replies need view empty answered =
    let all = said budget bytes inner next_rows m armed vehicle station v2 (Some (orders_for sender command)) now now [] replies need view answered (sym (issues-none now)) in
    subst (λ (ws : List LineWrite). IsAnswered (did budget bytes vehicle (Said station (heard_as v2 (Some (orders_for sender command))))) now ws replies need) (sym empty) all

pub streams : (budget : ℕ) (bytes : List ℕ) (inner : List Inner) (old next_rows : List ℕ) (m : uploads.Missions) (armed : Option ℕ) (vehicle : Vehicle) (station : ℕ) (replies : List Reply) → view_of inner old m armed ≡ vehicle → is_heard vehicle station ≡ true →
    next_rows ≡ (parameters.streamed bytes old station).next_rows → showing.AreRepliesOf (parameters.streamed bytes old station).shown replies → IsAnswered (did budget bytes vehicle (Stream station)) (view_of inner next_rows m armed) [] replies Nothing
streams budget bytes inner old next_rows m armed vehicle station replies view heard next shown =
    let inside = view_of inner old m armed in
    let e = ap (λ (v : Vehicle). did budget bytes v (Stream station)) (sym view) ∙ did-stream budget bytes inside station (ap (λ (v : Vehicle). is_heard v station) view ∙ heard) in
    follows _ inside (parameters.streamed bytes old station) next_rows [] replies e next refl shown

-- a station that was heard, to which no list goes
pub no_list : (budget : ℕ) (bytes : List ℕ) (inner : List Inner) (old : List ℕ) (m : uploads.Missions) (armed : Option ℕ) (vehicle : Vehicle) (station : ℕ) → view_of inner old m armed ≡ vehicle → is_heard vehicle station ≡ true →
    parameters.streamed bytes old station ≡ record { next_rows = old; writes = []; shown = [] } → did budget bytes vehicle (Stream station) ≡ nothing vehicle
no_list budget bytes inner old m armed vehicle station view heard none =
    let inside = view_of inner old m armed in
    subst (λ (v : Vehicle). did budget bytes v (Stream station) ≡ nothing v) view
    (did-stream budget bytes inside station (ap (λ (v : Vehicle). is_heard v station) view ∙ heard) ∙ ap (by_parameters inside) none)

-- the idle turn of a station that was heard
pub beats : (budget : ℕ) (inner : List Inner) (next_rows : List ℕ) (old new : uploads.Missions) (armed : Option ℕ) (vehicle : Vehicle) (station : ℕ) (first : Reply) (more : List Reply) → view_of inner next_rows old armed ≡ vehicle → is_heard vehicle station ≡ true →
    new ≡ (missions.idle old station).missions → first.to ≡ Station station → Tells (Alive (is_armed vehicle)) first.message → answering.AreRepliesOf station (missions.idle old station).told more →
    IsAnswered (did budget [] vehicle (Beat station)) (view_of inner next_rows new armed) [] (first ∷ more) Nothing
beats budget inner next_rows old new armed vehicle station first more view heard state to alive told =
    let inside = view_of inner next_rows old armed in
    let e = ap (λ (v : Vehicle). did budget [] v (Beat station)) (sym view) ∙ did-beat budget inside station (ap (λ (v : Vehicle). is_heard v station) view ∙ heard) in
    record {
      state = ap (λ (n : uploads.Missions). record inside { missions = n }) state ∙ sym (ap (λ (x : Did). x.vehicle) e);
      lines = sym (ap (λ (x : Did). x.writes) e);
      told = subst (λ (x : Did). AreRepliesOf x.told (first ∷ more)) (sym e) ((to, subst (λ (b : Bool). Tells (Alive b) first.message) (ap is_armed (sym view)) alive), all_told_of_missions station (missions.idle old station).told more told);
      needed = sym (ap (λ (x : Did). x.need) e);
    }
