-- Whom the vehicle answers: the station of the act, or all.
use Rattle.std.proofs.Common.{◌≡◌, ℕ, zero, suc, ◌<◌, length, get_or, arith, refl, true, false, List, [], ◌∷◌, ◌++◌, map, Option, Some, None, sym, subst}
use Rattle.std.specs.Prelude.{slice_get, if◌then◌else◌}
use Rattle.std.specs.List.{flat_map}
use Rattle.std.specs.Option.{option_map_or}
use Rattle.std.proofs.lemmas.List.{map-append}
use Rattle.storage_lines.specs.Lines.{after}
use Rattle.param_tree.specs.declared.Var.{Var}
use Rattle.param_tree.specs.Rows.{vehicle_rows}
use Rattle.param_records.specs.Values.{params_of}
use Rattle.param_service.specs.Requests.{Request, Show, ShowAll, Set}
use Rattle.param_service.specs.Budget.{allowed_writes}
use Rattle.param_service.specs.Service.{Shown, show, set_writes, streamed_rows, answered, streamed}
use Rattle.mav_messages.specs.declared.messages.To.{To}
use Rattle.mav_messages.specs.declared.messages.To.TheVariants.{Station}
use Rattle.mav_messages.specs.declared.messages.To.TheVariants as to
use Rattle.mav_messages.specs.declared.messages.Reply.{Reply}
use Rattle.mission_service.specs.Service as missions
use Rattle.vehicle_core.specs.Vehicle.{Vehicle, Asked, Parameters, Missions, Orders, Told, tells_value, tells_of_missions, is_heard, hears, allowed_of}
use Rattle.vehicle_core.specs.Acts.{Act, Said, Beat, Stream, did, nothing, by_parameters, beaten, asked_of}
use Rattle.vehicle_core.specs.Replies.{AreRepliesOf}
use Rattle.vehicle_node.specs.Steps.Sending.{IsInside}

abbrev pub AreTold : List Told → Type 0
AreTold [] = Unit {0}
AreTold (t ∷ told) = IsInside t.to × AreTold told

are-append : (xs ys : List Told) → AreTold xs → AreTold ys → AreTold (xs ++ ys)
are-append [] ys front back = back
are-append (x ∷ xs) ys front back = (front.0, are-append xs ys front.1 back)

abbrev pub station_of : Act → ℕ
station_of (Said station heard) = station
station_of (Beat station) = station
station_of (Stream station) = station

row_told : (to : To) (bytes : List ℕ) (index : ℕ) (row : Option Var) → IsInside to
    → AreTold (map tells_value (option_map_or (λ (row : Var). let s : Shown = record { to = to; index = index; value = params_of bytes row } in s ∷ []) row []))
row_told to bytes index None inside = tt
row_told to bytes index (Some row) inside = (inside, tt)

told-append : (xs ys : List Shown) → AreTold (map tells_value xs) → AreTold (map tells_value ys) → AreTold (map tells_value (xs ++ ys))
told-append xs ys front back = subst AreTold (sym (map-append tells_value xs ys)) (are-append (map tells_value xs) (map tells_value ys) front back)

rows_told : (to : To) (bytes rows : List ℕ) → IsInside to → AreTold (map tells_value (flat_map (show to bytes) rows))
rows_told to bytes [] inside = tt
rows_told to bytes (row ∷ rows) inside =
    told-append (show to bytes row) (flat_map (show to bytes) rows) (row_told to bytes row (slice_get vehicle_rows row) inside) (rows_told to bytes rows inside)

answer_told : (bytes : List ℕ) (allowed : Option ℕ) (next_rows : List ℕ) (station : ℕ) (request : Request) → station < 8 → AreTold (map tells_value (answered bytes allowed next_rows station request).shown)
answer_told bytes allowed next_rows station (Show index) lt = row_told (Station station) bytes index (slice_get vehicle_rows index) lt
answer_told bytes allowed next_rows station ShowAll lt = tt
answer_told bytes allowed next_rows station (Set index number) lt = row_told to.All (after bytes (allowed_writes allowed (set_writes bytes index number))) index (slice_get vehicle_rows index) tt

missions_told : (station : ℕ) (told : List missions.Told) → station < 8 → AreTold (map (tells_of_missions station) told)
missions_told station [] lt = tt
missions_told station (t ∷ told) lt = (lt, missions_told station told lt)

asked_told : (budget : ℕ) (bytes : List ℕ) (vehicle : Vehicle) (station : ℕ) (asked : Option Asked) → station < 8 → AreTold (asked_of budget bytes vehicle station asked).told
asked_told budget bytes vehicle station None lt = tt
asked_told budget bytes vehicle station (Some (Parameters request)) lt = answer_told bytes (allowed_of budget vehicle) vehicle.next_rows station request lt
asked_told budget bytes vehicle station (Some (Missions sender asking)) lt =
    missions_told station (missions.did bytes (allowed_of budget vehicle) vehicle.missions station sender (Some asking)).told lt
asked_told budget bytes vehicle station (Some (Orders sender command order)) lt = (lt, tt)

pub act_told : (budget : ℕ) (bytes : List ℕ) (vehicle : Vehicle) (p : Act) → station_of p < 8 → AreTold (did budget bytes vehicle p).told
unfolding did
act_told budget bytes vehicle (Said station heard) lt = asked_told budget bytes (hears vehicle station heard.v2) station heard.asked lt
act_told budget bytes vehicle (Beat station) lt =
    elim (is_heard vehicle station) as (λ b. AreTold (if b then beaten vehicle station (missions.idle vehicle.missions station) else nothing vehicle).told) [
      | true ↦ (lt, missions_told station (missions.idle vehicle.missions station).told lt)
      | false ↦ tt
    ]
act_told budget bytes vehicle (Stream station) lt =
    elim (is_heard vehicle station) as (λ b. AreTold (if b then by_parameters vehicle (streamed bytes vehicle.next_rows station) else nothing vehicle).told) [
      | true ↦ rows_told (Station station) bytes (streamed_rows vehicle.next_rows station) lt
      | false ↦ tt
    ]

-- so the replies go to stations that there are
pub replies_inside : (told : List Told) (replies : List Reply) → AreRepliesOf told replies → AreTold told → (k : ℕ) (d : Reply) → k < length replies → IsInside (get_or replies k d).to
replies_inside [] [] are inside k d lt = absurd (omega arith)
replies_inside [] (r ∷ replies) are inside k d lt = absurd are
replies_inside (t ∷ told) [] are inside k d lt = absurd are
replies_inside (t ∷ told) (r ∷ replies) are inside zero d lt = subst IsInside (sym are.0.0) inside.0
replies_inside (t ∷ told) (r ∷ replies) are inside (suc k) d lt = replies_inside told replies are.1 inside.1 k d (omega arith)

-- a list that goes on writes nothing
pub stream_writes : (budget : ℕ) (bytes : List ℕ) (vehicle : Vehicle) (station : ℕ) → (did budget bytes vehicle (Stream station)).writes ≡ []
unfolding did
stream_writes budget bytes vehicle station =
    elim (is_heard vehicle station) as (λ b. (if b then by_parameters vehicle (streamed bytes vehicle.next_rows station) else nothing vehicle).writes ≡ []) [ true ↦ refl | false ↦ refl ]

-- nor does an idle turn
pub beat_writes : (budget : ℕ) (bytes : List ℕ) (vehicle : Vehicle) (station : ℕ) → (did budget bytes vehicle (Beat station)).writes ≡ []
unfolding did
beat_writes budget bytes vehicle station =
    elim (is_heard vehicle station) as (λ b. (if b then beaten vehicle station (missions.idle vehicle.missions station) else nothing vehicle).writes ≡ []) [ true ↦ refl | false ↦ refl ]

-- and what is done then depends on no storage byte
pub beat_anywhere : (budget : ℕ) (bytes : List ℕ) (vehicle : Vehicle) (station : ℕ) → did budget [] vehicle (Beat station) ≡ did budget bytes vehicle (Beat station)
unfolding did
beat_anywhere budget bytes vehicle station = refl
