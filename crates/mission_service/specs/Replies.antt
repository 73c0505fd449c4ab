-- The messages by which the missions are answered.
use Rattle.std.specs.Prelude.{◌≡◌, ℕ, List}
use Rattle.std.specs.List.{AllZip}
use Rattle.mission_commands.specs.declared.commands.Item.{Item}
use Rattle.mission_commands.specs.Commands.{IsItemOf}
use Rattle.fence_records.specs.Results.{item_of}
use Rattle.mav_messages.specs.declared.messages.Message.{Message}
use Rattle.mav_messages.specs.declared.messages.Message.TheVariants.{MissionCount, MissionAck}
use Rattle.mav_messages.specs.declared.messages.Message.TheVariants.{MissionRequestInt}
use Rattle.mav_messages.specs.declared.messages.Message.TheVariants.{MissionItemInt}
use Rattle.mav_messages.specs.declared.messages.Reply.{Reply}
use Rattle.mav_messages.specs.declared.messages.Sender.{Sender}
use Rattle.mav_messages.specs.declared.messages.To.TheVariants.{Station}
use Rattle.storage_lines.specs.declared.lines.LineWrite.{LineWrite}
use Rattle.mission_service.specs.Uploads.{Target, Missions}
use Rattle.mission_service.specs.Service.{Content, Answer, Next, Total, MissionItem, FencePart}
use Rattle.mission_service.specs.Service.{Told, Did}

-- a reply goes to the system and component that its message came from
abbrev pub target_of : Sender → Target
target_of from = record { system = from.system; component = from.component }

-- the MISSION_ITEM_INT of an item, to a target, of the type with this number
abbrev pub item_message : Item → Target → ℕ → Message
item_message item target number =
    MissionItemInt item.param1 item.param2 item.param3 item.param4 item.x item.y item.z item.seq
    item.command target.system target.component item.frame item.current item.autocontinue number

-- The message tells the content: MISSION_ACK, MISSION_REQUEST_INT, MISSION_COUNT or
-- MISSION_ITEM_INT.
abbrev pub TellsContent : Content → Target → ℕ → Message → Type 0
TellsContent (Answer result) target number message =
    message ≡ MissionAck target.system target.component result number
TellsContent (Next seq) target number message =
    message ≡ MissionRequestInt seq target.system target.component number
TellsContent (Total count) target number message =
    message ≡ MissionCount count target.system target.component number
TellsContent (MissionItem seq command) target number message =
    (item : Item) × IsItemOf command seq item × (message ≡ item_message item target number)
TellsContent (FencePart seq item) target number message =
    message ≡ item_message (item_of item seq) target number

-- the message tells this, to its target and of its type
abbrev pub Tells : Told → Message → Type 0
Tells told message = TellsContent told.content told.target told.number message

-- a reply to the station that tells this
abbrev pub IsReplyOf : ℕ → Told → Reply → Type 0
IsReplyOf station told reply = (reply.to ≡ Station station) × Tells told reply.message

-- the replies to the station tell this, in order
abbrev pub AreRepliesOf : ℕ → List Told → List Reply → Type 0
AreRepliesOf station told replies = AllZip (IsReplyOf station) told replies

-- A message of a station was answered so: the uploads after it, the lines to issue, and the replies
-- to send after them.
pub record IsAnswered (d : Did) (station : ℕ) (missions : Missions) (writes : List LineWrite)
    (replies : List Reply) : Type 0 where
  pub state : missions ≡ d.missions
  pub lines : writes ≡ d.writes
  pub told : AreRepliesOf station d.told replies
