-- The messages by which the vehicle tells something.
use Rattle.std.specs.Prelude.{◌≡◌, ℕ, pos, Bool, if◌then◌else◌, List}
use Rattle.std.specs.List.{AllZip}
use Rattle.param_service.specs.Replies.{ShowsValue}
use Rattle.mav_messages.specs.declared.messages.Message.{Message}
use Rattle.mav_messages.specs.declared.messages.Message.TheVariants.{Heartbeat, CommandAck}
use Rattle.mav_messages.specs.declared.messages.Reply.{Reply}
use Rattle.storage_lines.specs.declared.lines.LineWrite.{LineWrite}
use Rattle.mission_service.specs.Replies as missions
use Rattle.vehicle_core.specs.Orders.{Need}
use Rattle.vehicle_core.specs.Vehicle.{Vehicle, Content, Parameter, Alive, OfMissions, Acknowledged}
use Rattle.vehicle_core.specs.Vehicle.{Told}
use Rattle.vehicle_core.specs.Acts.{Did}

-- MAV_MODE_FLAG: the vehicle has modes of its own (1), and it is armed (128)
abbrev pub base_mode : Bool → ℕ
base_mode armed = if armed then 129 else 1

-- MAV_STATE: active where the vehicle is armed, else standby
abbrev pub system_status : Bool → ℕ
system_status armed = if armed then 4 else 3

-- The message says this: a PARAM_VALUE; the HEARTBEAT of a quadrotor (type 2) with ArduPilot (3) in
-- MAVLink version 3; a message of the mission protocol; or COMMAND_ACK, which has no progress to
-- tell and no further result.
abbrev pub Tells : Content → Message → Type 0
Tells (Parameter index value) message = ShowsValue index value message
Tells (Alive armed) message =
    message ≡ Heartbeat 0 2 3 (base_mode armed) (system_status armed) 3
Tells (OfMissions told) message = missions.Tells told message
Tells (Acknowledged target command result) message =
    message ≡ CommandAck command result 0 (pos 0) target.system target.component

-- a reply to the same that says this
abbrev pub IsReplyOf : Told → Reply → Type 0
IsReplyOf told reply = (reply.to ≡ told.to) × Tells told.content reply.message

-- the replies say this, in order
abbrev pub AreRepliesOf : List Told → List Reply → Type 0
AreRepliesOf told replies = AllZip IsReplyOf told replies

-- An act was done so: this is the state after it, these lines are to issue, these replies to send,
-- and this has to be done before they are sent.
pub record IsAnswered (d : Did) (vehicle : Vehicle) (writes : List LineWrite) (replies : List Reply)
    (need : Need) : Type 0 where
  pub state : vehicle ≡ d.vehicle
  pub lines : writes ≡ d.writes
  pub told : AreRepliesOf d.told replies
  pub needed : need ≡ d.need
