-- Which acts arm and disarm the vehicle, and which ask for all lines to be put.
use Rattle.std.specs.Prelude.{◌≡◌, ◌⊎◌, ℕ, Bool, true, false, List, [], ◌∷◌, Option, Some, None, IsTrue}
use Rattle.std.specs.Option.{option_map_or}
use Rattle.vehicle_core.specs.declared.orders.Need.{Need}
use Rattle.vehicle_core.specs.declared.orders.Need.TheVariants.{Nothing}
use Rattle.vehicle_core.specs.declared.orders.Order.{Order}
use Rattle.vehicle_core.specs.declared.orders.Order.TheVariants.{Flush, Arm, Disarm, Deny, Refuse}
use Rattle.vehicle_core.specs.Orders.{need_of}
use Rattle.vehicle_core.specs.Vehicle.{Vehicle, Asked, Parameters, Missions, Orders, is_armed}
use Rattle.vehicle_core.specs.Acts.{Act, Said, Beat, Stream, did}

-- the order that was heard, if it was one
abbrev pub order_asked : Option Asked → Option Order
order_asked None = None
order_asked (Some (Parameters request)) = None
order_asked (Some (Missions target asking)) = None
order_asked (Some (Orders target command order)) = Some order

abbrev pub order_heard : Act → Option Order
order_heard (Said station heard) = order_asked heard.asked
order_heard (Beat station) = None
order_heard (Stream station) = None

-- what is to be done before an act is answered
abbrev pub need_in : Act → Need
need_in act = option_map_or need_of (order_heard act) Nothing

-- none of these acts asks for all lines to be put
abbrev pub NoneFlushes : List Act → Type 0
NoneFlushes [] = Unit {0}
NoneFlushes (act ∷ acts) = (need_in act ≡ Nothing) × NoneFlushes acts

-- whether the vehicle is armed after an order
abbrev pub armed_by : Bool → Order → Bool
armed_by armed Flush = armed
armed_by armed Arm = true
armed_by armed Disarm = false
armed_by armed Deny = armed
armed_by armed Refuse = armed

-- and after an act
abbrev pub is_armed_after : Bool → Act → Bool
is_armed_after armed act = option_map_or (armed_by armed) (order_heard act) armed

-- and after several
abbrev pub is_armed_after_all : Bool → List Act → Bool
is_armed_after_all armed [] = armed
is_armed_after_all armed (act ∷ acts) = is_armed_after_all (is_armed_after armed act) acts

-- the vehicle is armed at the start of these acts and after each of them
abbrev pub IsArmedThroughout : Bool → List Act → Type 0
IsArmedThroughout armed [] = IsTrue armed
IsArmedThroughout armed (act ∷ acts) =
    IsTrue armed × IsArmedThroughout (is_armed_after armed act) acts

-- the vehicle is armed at the start of these acts or after one of them
abbrev pub IsArmedOnce : Bool → List Act → Type 0
IsArmedOnce armed [] = IsTrue armed
IsArmedOnce armed (act ∷ acts) = IsTrue armed ⊎ IsArmedOnce (is_armed_after armed act) acts

-- The orders that are heard decide whether the machine is armed, and what it needs.
pub record OrdersDecide : Type 0 where
  pub armed : (budget : ℕ) (bytes : List ℕ) (vehicle : Vehicle) (act : Act)
      → is_armed (did budget bytes vehicle act).vehicle ≡ is_armed_after (is_armed vehicle) act
  pub need : (budget : ℕ) (bytes : List ℕ) (vehicle : Vehicle) (act : Act)
      → (did budget bytes vehicle act).need ≡ need_in act
