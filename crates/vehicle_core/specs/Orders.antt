-- What COMMAND_LONG orders, and how it is answered. The numbers are those of MAVLink's common
-- message set.
use Rattle.std.specs.Prelude.{ℕ, Bool, ◌==◌, ◌||◌, if◌then◌else◌, Option, Some, None}
use Rattle.mav_messages.specs.declared.messages.Message.{Message}
use Rattle.mav_messages.specs.declared.messages.Message.TheVariants.{CommandLong}
use Rattle.param_service.specs.Requests.{is_for}
pub use Rattle.vehicle_core.specs.declared.orders.Need.{Need}
pub use Rattle.vehicle_core.specs.declared.orders.Need.TheVariants.{Nothing, FlushAll}
pub use Rattle.vehicle_core.specs.declared.orders.Order.{Order}
pub use Rattle.vehicle_core.specs.declared.orders.Order.TheVariants.{Flush, Arm, Disarm, Deny}
pub use Rattle.vehicle_core.specs.declared.orders.Order.TheVariants.{Refuse}
pub use Rattle.vehicle_core.specs.declared.orders.VehicleCommand.{VehicleCommand}

-- MAV_CMD_PREFLIGHT_STORAGE
abbrev pub preflight_storage : ℕ
preflight_storage = 245

-- MAV_CMD_COMPONENT_ARM_DISARM
abbrev pub arm_disarm : ℕ
arm_disarm = 400

-- the binary32 pattern of 1
abbrev pub one : ℕ
one = 0x3F80_0000

-- the binary32 patterns of 0 and of minus 0
abbrev pub is_zero : ℕ → Bool
is_zero bits = (bits == 0) || (bits == 0x8000_0000)

-- What a command with this first parameter orders. Of the storage it is to flush all lines (1). Of
-- the vehicle it is to arm (1) or to disarm (0, with either sign). Other parameters are denied, and
-- other commands are refused.
abbrev pub order_of : ℕ → ℕ → Order
order_of number param1 =
    if number == preflight_storage then (if param1 == one then Flush else Deny)
    else (if number == arm_disarm
    then (if param1 == one then Arm else (if is_zero param1 then Disarm else Deny))
    else Refuse)

-- the command of a message for the vehicle, or none
abbrev pub vehicle_command_of : Message → Option VehicleCommand
vehicle_command_of (CommandLong param1 param2 param3 param4 param5 param6 param7 number system
    component
    confirmation) =
    if is_for system component
    then Some (record { number = number; order = order_of number param1 }) else None
vehicle_command_of _ = None

-- MAV_RESULT: how an order is answered
abbrev pub mav_result_accepted : ℕ
mav_result_accepted = 0

abbrev pub mav_result_denied : ℕ
mav_result_denied = 2

abbrev pub mav_result_unsupported : ℕ
mav_result_unsupported = 3

abbrev pub result_of : Order → ℕ
result_of Flush = mav_result_accepted
result_of Arm = mav_result_accepted
result_of Disarm = mav_result_accepted
result_of Deny = mav_result_denied
result_of Refuse = mav_result_unsupported

-- All lines are flushed before an order is answered as accepted.
abbrev pub need_of : Order → Need
need_of Flush = FlushAll
need_of Arm = FlushAll
need_of Disarm = FlushAll
need_of Deny = Nothing
need_of Refuse = Nothing

-- How many lines were issued since the vehicle was armed, after an order. A vehicle that is armed
-- already stays armed and goes on counting.
abbrev pub armed_after : Order → Option ℕ → Option ℕ
armed_after Arm None = Some 0
armed_after Arm (Some since) = Some since
armed_after Disarm armed = None
armed_after Flush armed = armed
armed_after Deny armed = armed
armed_after Refuse armed = armed
