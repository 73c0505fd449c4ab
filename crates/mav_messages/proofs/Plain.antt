-- The message that arrives of one that was sent.
use Rattle.std.proofs.Common.{Bool, true, false, pos}
use Rattle.mav_messages.specs.declared.messages.Message.{Message}
use Rattle.mav_messages.specs.declared.messages.Message.TheVariants.{Heartbeat, ParamRequestRead, ParamRequestList, ParamValue, ParamSet, MissionRequest, MissionRequestList, MissionCount, MissionClearAll, MissionAck, MissionRequestInt, MissionItemInt, CommandLong, CommandAck}

-- the message with its extensions 0
abbrev pub plain : Message → Message
plain (Heartbeat custom_mode kind autopilot base_mode system_status mavlink_version) = Heartbeat custom_mode kind autopilot base_mode system_status mavlink_version
plain (ParamRequestRead param_index target_system target_component param_id) = ParamRequestRead param_index target_system target_component param_id
plain (ParamRequestList target_system target_component) = ParamRequestList target_system target_component
plain (ParamValue param_value param_count param_index param_id param_type) = ParamValue param_value param_count param_index param_id param_type
plain (ParamSet param_value target_system target_component param_id param_type) = ParamSet param_value target_system target_component param_id param_type
plain (MissionRequest seq target_system target_component _) = MissionRequest seq target_system target_component 0
plain (MissionRequestList target_system target_component _) = MissionRequestList target_system target_component 0
plain (MissionCount count target_system target_component _) = MissionCount count target_system target_component 0
plain (MissionClearAll target_system target_component _) = MissionClearAll target_system target_component 0
plain (MissionAck target_system target_component kind _) = MissionAck target_system target_component kind 0
plain (MissionRequestInt seq target_system target_component _) = MissionRequestInt seq target_system target_component 0
plain (MissionItemInt param1 param2 param3 param4 x y z seq command target_system target_component frame current autocontinue _) = MissionItemInt param1 param2 param3 param4 x y z seq command target_system target_component frame current autocontinue 0
plain (CommandLong param1 param2 param3 param4 param5 param6 param7 command target_system target_component confirmation) = CommandLong param1 param2 param3 param4 param5 param6 param7 command target_system target_component confirmation
plain (CommandAck command result _ _ _ _) = CommandAck command result 0 (pos 0) 0 0

-- what arrives of a message that is sent in a version
abbrev pub sent : Bool → Message → Message
sent false m = plain m
sent true m = m
