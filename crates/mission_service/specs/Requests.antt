-- What a message asks of the missions.
use Rattle.std.specs.Prelude.{◌≡◌, ℕ, ◌==◌, List, [], ◌∷◌, Option, Some, None, if◌then◌else◌}
use Rattle.std.specs.Prelude.{Result}
use Rattle.mission_commands.specs.declared.commands.Item.{Item}
use Rattle.mission_commands.specs.declared.commands.Command.{Command}
use Rattle.mission_commands.specs.Results.{HasResult}
use Rattle.fence_records.specs.declared.items.FenceItem.{FenceItem}
use Rattle.fence_records.specs.Results.{HasFenceResult}
use Rattle.mav_messages.specs.declared.messages.Message.{Message}
use Rattle.mav_messages.specs.declared.messages.Message.TheVariants.{MissionRequest}
use Rattle.mav_messages.specs.declared.messages.Message.TheVariants.{MissionRequestList}
use Rattle.mav_messages.specs.declared.messages.Message.TheVariants.{MissionCount, MissionClearAll}
use Rattle.mav_messages.specs.declared.messages.Message.TheVariants.{MissionAck, MissionRequestInt}
use Rattle.mav_messages.specs.declared.messages.Message.TheVariants.{MissionItemInt}
use Rattle.param_service.specs.Requests.{is_for}
use Rattle.mission_service.specs.Uploads.{MissionType, Mission, Fence, kinds, type_of}

-- What is stored of an item that was sent, or the answer that refuses it.
pub data Given : Type 0 where
  ForMission : (stored : Result Command ℕ) → Given
  ForFence : (stored : Result FenceItem ℕ) → Given

-- the type of what is given
abbrev pub type_of_given : Given → MissionType
type_of_given (ForMission r) = Mission
type_of_given (ForFence r) = Fence

-- To upload so many items; to take an item; to clear these types; to tell how many items there are;
-- to show one; to close the upload. Or it asks something of a type that isn't supported.
pub data Request : Type 0 where
  Begin : (type : MissionType) (count : ℕ) → Request
  Give : (seq : ℕ) (given : Given) → Request
  Clear : (types : List MissionType) → Request
  Count : (type : MissionType) → Request
  Show : (type : MissionType) (seq : ℕ) → Request
  Cancel : (type : MissionType) → Request
  Unsupported : Request

-- a request, and the number of its type, which each answer has
pub record Asking : Type 0 where
  pub number : ℕ
  pub request : Request

-- this is asked, of the type with this number
abbrev pub ask : ℕ → Request → Option Asking
ask number request = Some (record { number = number; request = request })

-- the request of a type, where it is supported
abbrev pub of_type : Option MissionType → (MissionType → Request) → Request
of_type None f = Unsupported
of_type (Some t) f = f t

-- what is asked where the message is for the vehicle
abbrev pub if_for : ℕ → ℕ → Option Asking → Option Asking
if_for system component asked = if is_for system component then asked else None

-- the item is one of this type, and this is what is stored of it, or the first rule that it breaks
abbrev pub IsGiven : Option MissionType → Item → Request → Type 0
IsGiven None item request = request ≡ Unsupported
IsGiven (Some Mission) item request = (r : Result Command ℕ) × HasResult item r
    × (request ≡ Give item.seq (ForMission r))
IsGiven (Some Fence) item request = (r : Result FenceItem ℕ) × HasFenceResult item r
    × (request ≡ Give item.seq (ForFence r))

-- MAV_MISSION_TYPE_ALL
abbrev pub all_types : ℕ
all_types = 255

-- which types are to be cleared
abbrev pub types_of : ℕ → Request
types_of number = if number == all_types then Clear kinds
    else of_type (type_of number) (λ t. Clear (t ∷ []))

-- MAV_MISSION_OPERATION_CANCELLED
abbrev pub operation_cancelled : ℕ
operation_cancelled = 15

-- a type is supported
abbrev pub if_supported : Option MissionType → (MissionType → Option Asking) → Option Asking
if_supported None f = None
if_supported (Some t) f = f t

-- What the message asks for. MISSION_ACK asks for something with one type alone, that of an
-- operation that is cancelled. A message with another target and any other message ask for nothing.
abbrev pub Asks : Message → Option Asking → Type 0
Asks (MissionCount count system component type) asked =
    asked ≡ if_for system component (ask type (of_type (type_of type) (λ t. Begin t count)))
Asks (MissionItemInt p1 p2 p3 p4 x y z seq command system component frame current autocontinue type)
    asked =
    (request : Request) × IsGiven (type_of type) (record {
      param1 = p1;
      param2 = p2;
      param3 = p3;
      param4 = p4;
      x = x;
      y = y;
      z = z;
      seq = seq;
      command = command;
      frame = frame;
      current = current;
      autocontinue = autocontinue;
    }) request
    × (asked ≡ if_for system component (ask type request))
Asks (MissionClearAll system component type) asked =
    asked ≡ if_for system component (ask type (types_of type))
Asks (MissionRequestList system component type) asked =
    asked ≡ if_for system component (ask type (of_type (type_of type) (λ t. Count t)))
Asks (MissionRequestInt seq system component type) asked =
    asked ≡ if_for system component (ask type (of_type (type_of type) (λ t. Show t seq)))
Asks (MissionRequest seq system component type) asked =
    asked ≡ if_for system component (ask type (of_type (type_of type) (λ t. Show t seq)))
Asks (MissionAck system component result type) asked =
    asked ≡ if_for system component (if result == operation_cancelled
    then if_supported (type_of type) (λ t. ask type (Cancel t)) else None)
Asks _ asked = asked ≡ None
