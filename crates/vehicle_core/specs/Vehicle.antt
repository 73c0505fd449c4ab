-- The vehicle's state, and what it tells.
use Rattle.std.specs.Prelude.{◌≡◌, ℕ, ◌+◌, ◌-◌, ◌==◌, ◌&&◌, ◌||◌, Bool, true, false, List, length}
use Rattle.std.specs.Prelude.{replicate, Option, Some, None, option_map, is_some, slice_get}
use Rattle.std.specs.Prelude.{slice_set}
use Rattle.std.specs.Option.{option_map_or}
use Rattle.param_records.specs.declared.values.Value.{Value}
use Rattle.param_service.specs.Requests as parameters
use Rattle.param_service.specs.Service.{Shown, no_lists}
use Rattle.mav_messages.specs.declared.messages.To.{To}
use Rattle.mav_messages.specs.declared.messages.To.TheVariants.{Station}
use Rattle.mav_messages.specs.declared.messages.Message.{Message}
use Rattle.mission_service.specs.Uploads as uploads
use Rattle.mission_service.specs.declared.uploads.Target.{Target}
use Rattle.mission_service.specs.Requests as missions
use Rattle.mission_service.specs.Service as service
use Rattle.storage_lines.specs.declared.lines.LineWrite.{LineWrite}
use Rattle.vehicle_core.specs.Orders.{Order, preflight_storage, arm_disarm, mav_result_accepted}
use Rattle.vehicle_core.specs.Orders.{VehicleCommand, vehicle_command_of}

-- whether the station was heard, and whether its last right frame was of version 2
pub record StationState : Type 0 where
  pub heard : Bool
  pub v2 : Bool

abbrev pub unheard : StationState
unheard = record { heard = false; v2 = false }

-- Eight stations; for each the next row of the list that is being sent to it; the uploads of
-- missions and fences; and, where the vehicle is armed, how many lines were issued since.
pub record Vehicle : Type 0 where
  pub stations : List StationState
  pub next_rows : List ℕ
  pub missions : uploads.Missions
  pub armed : Option ℕ

-- at the start no station was heard, and the vehicle isn't armed
abbrev pub new_vehicle : Vehicle
new_vehicle = record {
  stations = replicate 8 unheard;
  next_rows = no_lists;
  missions = uploads.no_uploads;
  armed = None;
}

abbrev pub is_armed : Vehicle → Bool
is_armed vehicle = is_some vehicle.armed

-- How many lines may still be issued while the vehicle is armed: as many as the budget has beyond
-- those that were issued since. Where it isn't armed there is no limit.
abbrev pub allowed_of : ℕ → Vehicle → Option ℕ
allowed_of budget vehicle = option_map (λ since. budget - since) vehicle.armed

-- these lines are issued
abbrev pub issues : Vehicle → List LineWrite → Vehicle
issues vehicle writes = record vehicle {
  armed = option_map (λ since. since + length writes) vehicle.armed;
}

abbrev pub is_heard : Vehicle → ℕ → Bool
is_heard vehicle station = option_map_or (λ s. s.heard) (slice_get vehicle.stations station) false

abbrev pub speaks_v2 : Vehicle → ℕ → Bool
speaks_v2 vehicle station = option_map_or (λ s. s.v2) (slice_get vehicle.stations station) false

-- the station sent a right frame of this version
abbrev pub hears : Vehicle → ℕ → Bool → Vehicle
hears vehicle station v2 = record vehicle {
  stations = slice_set vehicle.stations station (record { heard = true; v2 = v2 });
}

-- What a message asks of the vehicle. The requests of each protocol are a case, and so are orders.
-- To the answers of the mission protocol and of orders belongs whom they are sent to: the sender of
-- the message.
pub data Asked : Type 0 where
  Parameters : (request : parameters.Request) → Asked
  Missions : (target : Target) (asking : missions.Asking) → Asked
  Orders : (target : Target) (command : ℕ) (order : Order) → Asked

-- a sender's command is asked for
abbrev pub orders_for : Target → VehicleCommand → Asked
orders_for sender command = Orders sender command.number command.order

-- the one that is there
abbrev pub one_of : Option Asked → Option Asked → Option Asked
one_of (Some asked) other = Some asked
one_of None other = other

-- what a message of this sender asks for, or nothing
abbrev pub Asks : Target → Message → Option Asked → Type 0
Asks sender message asked =
    (request : Option parameters.Request) × parameters.Asks message request
    × (asking : Option missions.Asking) × missions.Asks message asking
    × (asked ≡ one_of (option_map Parameters request)
    (one_of (option_map (Missions sender) asking)
    (option_map (orders_for sender) (vehicle_command_of message))))

-- What the vehicle tells: a parameter's value; that it is there, and whether it is armed; something
-- of the missions; or how a command of this target is answered.
pub data Content : Type 0 where
  Parameter : (index : ℕ) (value : Value) → Content
  Alive : (armed : Bool) → Content
  OfMissions : (told : service.Told) → Content
  Acknowledged : (target : Target) (command result : ℕ) → Content

-- A storage acknowledgement says that all lines that were issued before it are flushed: the command
-- to flush, to arm or to disarm was accepted.
abbrev pub is_storage_acknowledgement : Content → Bool
is_storage_acknowledgement (Acknowledged target command result) =
    (result == mav_result_accepted)
    && ((command == preflight_storage) || (command == arm_disarm))
is_storage_acknowledgement (Parameter index value) = false
is_storage_acknowledgement (Alive armed) = false
is_storage_acknowledgement (OfMissions told) = false

-- a content, and whom it is told
pub record Told : Type 0 where
  pub to : To
  pub content : Content

abbrev pub tells_value : Shown → Told
tells_value shown = record { to = shown.to; content = Parameter shown.index shown.value }

abbrev pub tells_of_missions : ℕ → service.Told → Told
tells_of_missions station told = record { to = Station station; content = OfMissions told }
