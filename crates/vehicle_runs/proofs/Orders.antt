-- What orders do: whether the vehicle is armed after them, what they need, and how they are acknowledged.
use Rattle.std.proofs.Common.{◌≡◌, ◌⊎◌, inl, inr, ℕ, ◌+◌, Bool, true, false, List, [], ◌∷◌, ◌++◌, length, map, refl, ◌∙◌, Option, Some, None}
use Rattle.std.specs.Prelude.{IsTrue, IsFalse, if◌then◌else◌, is_some}
use Rattle.std.specs.Option.{option_map, option_map_or}
use Rattle.param_service.specs.Service.{Shown, streamed}
use Rattle.mission_service.specs.Service as missions
use Rattle.vehicle_core.specs.declared.orders.Need.TheVariants.{Nothing, FlushAll}
use Rattle.vehicle_core.specs.declared.orders.Order.{Order}
use Rattle.vehicle_core.specs.declared.orders.Order.TheVariants.{Flush, Arm, Disarm, Deny, Refuse}
use Rattle.vehicle_core.specs.Orders.{armed_after, need_of}
use Rattle.vehicle_core.specs.Vehicle.{Vehicle, Asked, Parameters, Missions, Orders, Told, tells_value, tells_of_missions, is_heard, is_armed, hears, is_storage_acknowledgement}
use Rattle.vehicle_core.specs.Acts.{Act, Said, Beat, Stream, Did, did, nothing, by_parameters, beaten, asked_of, lines_counted}
use Rattle.vehicle_runs.specs.Arming.{order_asked, need_in, armed_by, is_armed_after, is_armed_after_all, IsArmedThroughout, IsArmedOnce, NoneFlushes, OrdersDecide}

some_map : (f : ℕ → ℕ) (armed : Option ℕ) → is_some (option_map f armed) ≡ is_some armed
some_map f None = refl
some_map f (Some since) = refl

order_arms : (order : Order) (armed : Option ℕ) → is_some (armed_after order armed) ≡ armed_by (is_some armed) order
order_arms Flush armed = refl
order_arms Arm None = refl
order_arms Arm (Some since) = refl
order_arms Disarm armed = refl
order_arms Deny armed = refl
order_arms Refuse armed = refl

asked_arms : (budget : ℕ) (bytes : List ℕ) (vehicle : Vehicle) (station : ℕ) (asked : Option Asked)
    → is_armed (asked_of budget bytes vehicle station asked).vehicle ≡ option_map_or (armed_by (is_armed vehicle)) (order_asked asked) (is_armed vehicle)
asked_arms budget bytes vehicle station None = refl
asked_arms budget bytes vehicle station (Some (Parameters request)) = refl
asked_arms budget bytes vehicle station (Some (Missions target asking)) = refl
asked_arms budget bytes vehicle station (Some (Orders target command order)) = order_arms order vehicle.armed

counting_arms : (d : Did) → is_armed (lines_counted d).vehicle ≡ is_armed d.vehicle
counting_arms d = some_map (λ since. since + length d.writes) d.vehicle.armed

pub did_arms : (budget : ℕ) (bytes : List ℕ) (vehicle : Vehicle) (act : Act) → is_armed (did budget bytes vehicle act).vehicle ≡ is_armed_after (is_armed vehicle) act
unfolding did
did_arms budget bytes vehicle (Said station heard) =
    counting_arms (asked_of budget bytes (hears vehicle station heard.v2) station heard.asked) ∙ asked_arms budget bytes (hears vehicle station heard.v2) station heard.asked
did_arms budget bytes vehicle (Beat station) =
    elim (is_heard vehicle station) as (λ b. is_armed (if b then beaten vehicle station (missions.idle vehicle.missions station) else nothing vehicle).vehicle ≡ is_armed vehicle) [ true ↦ refl | false ↦ refl ]
did_arms budget bytes vehicle (Stream station) =
    elim (is_heard vehicle station) as (λ b. is_armed (if b then by_parameters vehicle (streamed bytes vehicle.next_rows station) else nothing vehicle).vehicle ≡ is_armed vehicle) [ true ↦ refl | false ↦ refl ]

asked_needs : (budget : ℕ) (bytes : List ℕ) (vehicle : Vehicle) (station : ℕ) (asked : Option Asked) → (asked_of budget bytes vehicle station asked).need ≡ option_map_or need_of (order_asked asked) Nothing
asked_needs budget bytes vehicle station None = refl
asked_needs budget bytes vehicle station (Some (Parameters request)) = refl
asked_needs budget bytes vehicle station (Some (Missions target asking)) = refl
asked_needs budget bytes vehicle station (Some (Orders target command order)) = refl

pub did_needs : (budget : ℕ) (bytes : List ℕ) (vehicle : Vehicle) (act : Act) → (did budget bytes vehicle act).need ≡ need_in act
unfolding did
did_needs budget bytes vehicle (Said station heard) = asked_needs budget bytes (hears vehicle station heard.v2) station heard.asked
did_needs budget bytes vehicle (Beat station) =
    elim (is_heard vehicle station) as (λ b. (if b then beaten vehicle station (missions.idle vehicle.missions station) else nothing vehicle).need ≡ Nothing) [ true ↦ refl | false ↦ refl ]
did_needs budget bytes vehicle (Stream station) =
    elim (is_heard vehicle station) as (λ b. (if b then by_parameters vehicle (streamed bytes vehicle.next_rows station) else nothing vehicle).need ≡ Nothing) [ true ↦ refl | false ↦ refl ]

pub orders_decide : OrdersDecide
orders_decide = record { armed = did_arms; need = did_needs }

-- none of what is told is a storage acknowledgement
abbrev pub NoneAcknowledges : List Told → Type 0
NoneAcknowledges [] = Unit {0}
NoneAcknowledges (t ∷ told) = IsFalse (is_storage_acknowledgement t.content) × NoneAcknowledges told

values_told : (shown : List Shown) → NoneAcknowledges (map tells_value shown)
values_told [] = tt
values_told (s ∷ shown) = (refl, values_told shown)

missions_told : (station : ℕ) (told : List missions.Told) → NoneAcknowledges (map (tells_of_missions station) told)
missions_told station [] = tt
missions_told station (t ∷ told) = (refl, missions_told station told)

asked_acknowledges : (budget : ℕ) (bytes : List ℕ) (vehicle : Vehicle) (station : ℕ) (asked : Option Asked)
    → (asked_of budget bytes vehicle station asked).need ≡ FlushAll ⊎ NoneAcknowledges (asked_of budget bytes vehicle station asked).told
asked_acknowledges budget bytes vehicle station None = inr tt
asked_acknowledges budget bytes vehicle station (Some (Parameters request)) = inr (values_told _)
asked_acknowledges budget bytes vehicle station (Some (Missions target asking)) = inr (missions_told station _)
asked_acknowledges budget bytes vehicle station (Some (Orders target command Flush)) = inl refl
asked_acknowledges budget bytes vehicle station (Some (Orders target command Arm)) = inl refl
asked_acknowledges budget bytes vehicle station (Some (Orders target command Disarm)) = inl refl
asked_acknowledges budget bytes vehicle station (Some (Orders target command Deny)) = inr (refl, tt)
asked_acknowledges budget bytes vehicle station (Some (Orders target command Refuse)) = inr (refl, tt)

-- before a storage acknowledgement all lines are to be put
pub did_acknowledges : (budget : ℕ) (bytes : List ℕ) (vehicle : Vehicle) (act : Act) → (did budget bytes vehicle act).need ≡ FlushAll ⊎ NoneAcknowledges (did budget bytes vehicle act).told
unfolding did
did_acknowledges budget bytes vehicle (Said station heard) = asked_acknowledges budget bytes (hears vehicle station heard.v2) station heard.asked
did_acknowledges budget bytes vehicle (Beat station) =
    elim (is_heard vehicle station) as
    (λ b. (if b then beaten vehicle station (missions.idle vehicle.missions station) else nothing vehicle).need ≡ FlushAll
    ⊎ NoneAcknowledges (if b then beaten vehicle station (missions.idle vehicle.missions station) else nothing vehicle).told) [
      | true ↦ inr (refl, missions_told station (missions.idle vehicle.missions station).told)
      | false ↦ inr tt
    ]
did_acknowledges budget bytes vehicle (Stream station) =
    elim (is_heard vehicle station) as
    (λ b. (if b then by_parameters vehicle (streamed bytes vehicle.next_rows station) else nothing vehicle).need ≡ FlushAll
    ⊎ NoneAcknowledges (if b then by_parameters vehicle (streamed bytes vehicle.next_rows station) else nothing vehicle).told) [
      | true ↦ inr (values_told (streamed bytes vehicle.next_rows station).shown)
      | false ↦ inr tt
    ]

-- acts one after another
pub armed-append : (armed : Bool) (xs ys : List Act) → is_armed_after_all armed (xs ++ ys) ≡ is_armed_after_all (is_armed_after_all armed xs) ys
armed-append armed [] ys = refl
armed-append armed (x ∷ xs) ys = armed-append (is_armed_after armed x) xs ys

once_now : (armed : Bool) (acts : List Act) → IsTrue armed → IsArmedOnce armed acts
once_now armed [] is = is
once_now armed (act ∷ acts) is = inl is

pub once_before : (armed : Bool) (xs ys : List Act) → IsArmedOnce armed xs → IsArmedOnce armed (xs ++ ys)
once_before armed [] ys is = once_now armed ys is
once_before armed (x ∷ xs) ys (inl is) = inl is
once_before armed (x ∷ xs) ys (inr more) = inr (once_before (is_armed_after armed x) xs ys more)

pub once_after : (armed : Bool) (xs ys : List Act) → IsArmedOnce (is_armed_after_all armed xs) ys → IsArmedOnce armed (xs ++ ys)
once_after armed [] ys is = is
once_after armed (x ∷ xs) ys is = inr (once_after (is_armed_after armed x) xs ys is)

throughout_now : (armed : Bool) (acts : List Act) → IsArmedThroughout armed acts → IsTrue armed
throughout_now armed [] is = is
throughout_now armed (act ∷ acts) is = is.0

pub throughout_before : (armed : Bool) (xs ys : List Act) → IsArmedThroughout armed (xs ++ ys) → IsArmedThroughout armed xs
throughout_before armed [] ys is = throughout_now armed ys is
throughout_before armed (x ∷ xs) ys is = (is.0, throughout_before (is_armed_after armed x) xs ys is.1)

pub throughout_after : (armed : Bool) (xs ys : List Act) → IsArmedThroughout armed (xs ++ ys) → IsArmedThroughout (is_armed_after_all armed xs) ys
throughout_after armed [] ys is = is
throughout_after armed (x ∷ xs) ys is = throughout_after (is_armed_after armed x) xs ys is.1

pub throughout_last : (armed : Bool) (acts : List Act) → IsArmedThroughout armed acts → IsTrue (is_armed_after_all armed acts)
throughout_last armed [] is = is
throughout_last armed (act ∷ acts) is = throughout_last (is_armed_after armed act) acts is.1

pub none_before : (xs ys : List Act) → NoneFlushes (xs ++ ys) → NoneFlushes xs
none_before [] ys none = tt
none_before (x ∷ xs) ys none = (none.0, none_before xs ys none.1)

pub none_after : (xs ys : List Act) → NoneFlushes (xs ++ ys) → NoneFlushes ys
none_after [] ys none = none
none_after (x ∷ xs) ys none = none_after xs ys none.1
