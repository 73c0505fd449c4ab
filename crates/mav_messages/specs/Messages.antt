-- What a message says, field by field.
use Rattle.std.specs.Prelude.{ℕ, ◌≡◌, Bool, List, [], ◌∷◌, Some}
use Rattle.std.specs.Int.{w16, w32, cast_unsigned}
use Rattle.std.specs.Int.RustNames.{FitsSigned}
use Rattle.mav_messages.specs.declared.messages.Message.{Message}
use Rattle.mav_messages.specs.declared.messages.Message.TheVariants.{Heartbeat, ParamRequestRead, ParamRequestList, ParamValue, ParamSet, MissionRequest, MissionRequestList, MissionCount, MissionClearAll, MissionAck, MissionRequestInt, MissionItemInt, CommandLong, CommandAck}
use Rattle.mav_messages.specs.Fields.{Description, layout_of}
use Rattle.mav_messages.specs.Payload.{Value, Number, Bytes, values_in, arriving_values, filled}
use Rattle.mav_messages.specs.Descriptions.{described, heartbeat, param_request_read, param_request_list, param_value, param_set, mission_request, mission_request_list, mission_count, mission_clear_all, mission_ack, mission_request_int, mission_item_int, command_long, command_ack}

-- the description of its kind
abbrev pub description_of : Message → Description
description_of (Heartbeat _ _ _ _ _ _) = heartbeat
description_of (ParamRequestRead _ _ _ _) = param_request_read
description_of (ParamRequestList _ _) = param_request_list
description_of (ParamValue _ _ _ _ _) = param_value
description_of (ParamSet _ _ _ _ _) = param_set
description_of (MissionRequest _ _ _ _) = mission_request
description_of (MissionRequestList _ _ _) = mission_request_list
description_of (MissionCount _ _ _ _) = mission_count
description_of (MissionClearAll _ _ _) = mission_clear_all
description_of (MissionAck _ _ _ _) = mission_ack
description_of (MissionRequestInt _ _ _ _) = mission_request_int
description_of (MissionItemInt _ _ _ _ _ _ _ _ _ _ _ _ _ _ _) = mission_item_int
description_of (CommandLong _ _ _ _ _ _ _ _ _ _ _) = command_long
description_of (CommandAck _ _ _ _ _ _) = command_ack

-- the values of its fields in wire order, a signed one as its two's complement
abbrev pub field_values : Message → List Value
field_values (Heartbeat custom_mode kind autopilot base_mode system_status mavlink_version) =
    Number custom_mode ∷ Number kind ∷ Number autopilot ∷ Number base_mode ∷ Number system_status
    ∷ Number mavlink_version ∷ []
field_values (ParamRequestRead param_index target_system target_component param_id) =
    Number (cast_unsigned w16 param_index) ∷ Number target_system ∷ Number target_component
    ∷ Bytes param_id ∷ []
field_values (ParamRequestList target_system target_component) =
    Number target_system ∷ Number target_component ∷ []
field_values (ParamValue param_value param_count param_index param_id param_type) =
    Number param_value ∷ Number param_count ∷ Number param_index ∷ Bytes param_id
    ∷ Number param_type ∷ []
field_values (ParamSet param_value target_system target_component param_id param_type) =
    Number param_value ∷ Number target_system ∷ Number target_component ∷ Bytes param_id
    ∷ Number param_type ∷ []
field_values (MissionRequest seq target_system target_component mission_type) =
    Number seq ∷ Number target_system ∷ Number target_component ∷ Number mission_type ∷ []
field_values (MissionRequestList target_system target_component mission_type) =
    Number target_system ∷ Number target_component ∷ Number mission_type ∷ []
field_values (MissionCount count target_system target_component mission_type) =
    Number count ∷ Number target_system ∷ Number target_component ∷ Number mission_type ∷ []
field_values (MissionClearAll target_system target_component mission_type) =
    Number target_system ∷ Number target_component ∷ Number mission_type ∷ []
field_values (MissionAck target_system target_component kind mission_type) =
    Number target_system ∷ Number target_component ∷ Number kind ∷ Number mission_type ∷ []
field_values (MissionRequestInt seq target_system target_component mission_type) =
    Number seq ∷ Number target_system ∷ Number target_component ∷ Number mission_type ∷ []
field_values (MissionItemInt param1 param2 param3 param4 x y z seq command target_system
    target_component frame current autocontinue mission_type) =
    Number param1 ∷ Number param2 ∷ Number param3 ∷ Number param4 ∷ Number (cast_unsigned w32 x)
    ∷ Number (cast_unsigned w32 y) ∷ Number z ∷ Number seq ∷ Number command ∷ Number target_system
    ∷ Number target_component ∷ Number frame ∷ Number current ∷ Number autocontinue
    ∷ Number mission_type ∷ []
field_values (CommandLong param1 param2 param3 param4 param5 param6 param7 command target_system
    target_component confirmation) =
    Number param1 ∷ Number param2 ∷ Number param3 ∷ Number param4 ∷ Number param5 ∷ Number param6
    ∷ Number param7 ∷ Number command ∷ Number target_system ∷ Number target_component
    ∷ Number confirmation ∷ []
field_values (CommandAck command result progress result_param2 target_system target_component) =
    Number command ∷ Number result ∷ Number progress ∷ Number (cast_unsigned w32 result_param2)
    ∷ Number target_system ∷ Number target_component ∷ []

-- the signed fields fit their types: a value of the code does
abbrev pub FitsTypes : Message → Type 0
FitsTypes (Heartbeat _ _ _ _ _ _) = Unit {0}
FitsTypes (ParamRequestRead param_index _ _ _) = FitsSigned w16 param_index
FitsTypes (ParamRequestList _ _) = Unit {0}
FitsTypes (ParamValue _ _ _ _ _) = Unit {0}
FitsTypes (ParamSet _ _ _ _ _) = Unit {0}
FitsTypes (MissionRequest _ _ _ _) = Unit {0}
FitsTypes (MissionRequestList _ _ _) = Unit {0}
FitsTypes (MissionCount _ _ _ _) = Unit {0}
FitsTypes (MissionClearAll _ _ _) = Unit {0}
FitsTypes (MissionAck _ _ _ _) = Unit {0}
FitsTypes (MissionRequestInt _ _ _ _) = Unit {0}
FitsTypes (MissionItemInt _ _ _ _ x y _ _ _ _ _ _ _ _ _) = FitsSigned w32 x × FitsSigned w32 y
FitsTypes (CommandLong _ _ _ _ _ _ _ _ _ _ _) = Unit {0}
FitsTypes (CommandAck _ _ _ result_param2 _ _) = FitsSigned w32 result_param2

-- A payload says the message under an id: the id is that of the message's description, and the
-- message's fields are the values that stand in the payload filled with zeros.
pub record SaysMessage (id : ℕ) (payload : List ℕ) (message : Message) : Type 0 where
  pub listed : described id ≡ Some (description_of message)
  pub fields : field_values message
      ≡ values_in (layout_of (description_of message)) (filled payload)

-- What arrives of a message that is sent in a version: a message of the same kind, in version 2
-- with the same fields, and in version 1 with its extensions 0.
pub record ArrivesAs (v2 : Bool) (message arrived : Message) : Type 0 where
  pub kind : description_of arrived ≡ description_of message
  pub fields : field_values arrived
      ≡ arriving_values v2 (layout_of (description_of message)) (field_values message)
  pub fits : FitsTypes arrived
