-- The messages as MAVLink defines them (common message set): id, extra byte, name, and the fields
-- in wire order. Which extensions they have is this project's profile.
use Rattle.std.specs.Prelude.{ℕ, ◌==◌, if◌then◌else◌, true, false, List, [], ◌∷◌, Option, Some, None, codes}
use Rattle.mav_messages.specs.Fields.{Field, Description}
use Rattle.mav_messages.specs.declared.layouts.FieldKind.{FieldKind}
use Rattle.mav_messages.specs.declared.layouts.FieldKind.TheVariants.{Char, Uint8, Uint16, Int16, Uint32, Int32, Float}

-- a field that is a single value
abbrev pub field : FieldKind → List ℕ → Field
field kind name = record { kind = kind; name = name; array = 0; extension = false }

-- a field that is an array
abbrev pub array : FieldKind → List ℕ → ℕ → Field
array kind name count = record { kind = kind; name = name; array = count; extension = false }

-- a field that version 1 doesn't have
abbrev pub extension : FieldKind → List ℕ → Field
extension kind name = record { kind = kind; name = name; array = 0; extension = true }

abbrev pub heartbeat : Description
heartbeat = record {
  id = 0;
  extra = 50;
  name = codes "HEARTBEAT";
  fields =
      field Uint32 (codes "custom_mode")
      ∷ field Uint8 (codes "type")
      ∷ field Uint8 (codes "autopilot")
      ∷ field Uint8 (codes "base_mode")
      ∷ field Uint8 (codes "system_status")
      ∷ field Uint8 (codes "mavlink_version")
      ∷ [];
}

abbrev pub param_request_read : Description
param_request_read = record {
  id = 20;
  extra = 214;
  name = codes "PARAM_REQUEST_READ";
  fields =
      field Int16 (codes "param_index")
      ∷ field Uint8 (codes "target_system")
      ∷ field Uint8 (codes "target_component")
      ∷ array Char (codes "param_id") 16
      ∷ [];
}

abbrev pub param_request_list : Description
param_request_list = record {
  id = 21;
  extra = 159;
  name = codes "PARAM_REQUEST_LIST";
  fields =
      field Uint8 (codes "target_system")
      ∷ field Uint8 (codes "target_component")
      ∷ [];
}

abbrev pub param_value : Description
param_value = record {
  id = 22;
  extra = 220;
  name = codes "PARAM_VALUE";
  fields =
      field Float (codes "param_value")
      ∷ field Uint16 (codes "param_count")
      ∷ field Uint16 (codes "param_index")
      ∷ array Char (codes "param_id") 16
      ∷ field Uint8 (codes "param_type")
      ∷ [];
}

abbrev pub param_set : Description
param_set = record {
  id = 23;
  extra = 168;
  name = codes "PARAM_SET";
  fields =
      field Float (codes "param_value")
      ∷ field Uint8 (codes "target_system")
      ∷ field Uint8 (codes "target_component")
      ∷ array Char (codes "param_id") 16
      ∷ field Uint8 (codes "param_type")
      ∷ [];
}

abbrev pub mission_request : Description
mission_request = record {
  id = 40;
  extra = 230;
  name = codes "MISSION_REQUEST";
  fields =
      field Uint16 (codes "seq")
      ∷ field Uint8 (codes "target_system")
      ∷ field Uint8 (codes "target_component")
      ∷ extension Uint8 (codes "mission_type")
      ∷ [];
}

abbrev pub mission_request_list : Description
mission_request_list = record {
  id = 43;
  extra = 132;
  name = codes "MISSION_REQUEST_LIST";
  fields =
      field Uint8 (codes "target_system")
      ∷ field Uint8 (codes "target_component")
      ∷ extension Uint8 (codes "mission_type")
      ∷ [];
}

abbrev pub mission_count : Description
mission_count = record {
  id = 44;
  extra = 221;
  name = codes "MISSION_COUNT";
  fields =
      field Uint16 (codes "count")
      ∷ field Uint8 (codes "target_system")
      ∷ field Uint8 (codes "target_component")
      ∷ extension Uint8 (codes "mission_type")
      ∷ [];
}

abbrev pub mission_clear_all : Description
mission_clear_all = record {
  id = 45;
  extra = 232;
  name = codes "MISSION_CLEAR_ALL";
  fields =
      field Uint8 (codes "target_system")
      ∷ field Uint8 (codes "target_component")
      ∷ extension Uint8 (codes "mission_type")
      ∷ [];
}

abbrev pub mission_ack : Description
mission_ack = record {
  id = 47;
  extra = 153;
  name = codes "MISSION_ACK";
  fields =
      field Uint8 (codes "target_system")
      ∷ field Uint8 (codes "target_component")
      ∷ field Uint8 (codes "type")
      ∷ extension Uint8 (codes "mission_type")
      ∷ [];
}

abbrev pub mission_request_int : Description
mission_request_int = record {
  id = 51;
  extra = 196;
  name = codes "MISSION_REQUEST_INT";
  fields =
      field Uint16 (codes "seq")
      ∷ field Uint8 (codes "target_system")
      ∷ field Uint8 (codes "target_component")
      ∷ extension Uint8 (codes "mission_type")
      ∷ [];
}

abbrev pub mission_item_int : Description
mission_item_int = record {
  id = 73;
  extra = 38;
  name = codes "MISSION_ITEM_INT";
  fields =
      field Float (codes "param1")
      ∷ field Float (codes "param2")
      ∷ field Float (codes "param3")
      ∷ field Float (codes "param4")
      ∷ field Int32 (codes "x")
      ∷ field Int32 (codes "y")
      ∷ field Float (codes "z")
      ∷ field Uint16 (codes "seq")
      ∷ field Uint16 (codes "command")
      ∷ field Uint8 (codes "target_system")
      ∷ field Uint8 (codes "target_component")
      ∷ field Uint8 (codes "frame")
      ∷ field Uint8 (codes "current")
      ∷ field Uint8 (codes "autocontinue")
      ∷ extension Uint8 (codes "mission_type")
      ∷ [];
}

abbrev pub command_long : Description
command_long = record {
  id = 76;
  extra = 152;
  name = codes "COMMAND_LONG";
  fields =
      field Float (codes "param1")
      ∷ field Float (codes "param2")
      ∷ field Float (codes "param3")
      ∷ field Float (codes "param4")
      ∷ field Float (codes "param5")
      ∷ field Float (codes "param6")
      ∷ field Float (codes "param7")
      ∷ field Uint16 (codes "command")
      ∷ field Uint8 (codes "target_system")
      ∷ field Uint8 (codes "target_component")
      ∷ field Uint8 (codes "confirmation")
      ∷ [];
}

abbrev pub command_ack : Description
command_ack = record {
  id = 77;
  extra = 143;
  name = codes "COMMAND_ACK";
  fields =
      field Uint16 (codes "command")
      ∷ field Uint8 (codes "result")
      ∷ extension Uint8 (codes "progress")
      ∷ extension Int32 (codes "result_param2")
      ∷ extension Uint8 (codes "target_system")
      ∷ extension Uint8 (codes "target_component")
      ∷ [];
}

abbrev pub descriptions : List Description
descriptions =
    heartbeat
    ∷ param_request_read
    ∷ param_request_list
    ∷ param_value
    ∷ param_set
    ∷ mission_request
    ∷ mission_request_list
    ∷ mission_count
    ∷ mission_clear_all
    ∷ mission_ack
    ∷ mission_request_int
    ∷ mission_item_int
    ∷ command_long
    ∷ command_ack
    ∷ []

-- the first description with an id
abbrev pub find_id : List Description → ℕ → Option Description
find_id [] id = None
find_id (d ∷ ds) id = if id == d.id then Some d else find_id ds id

-- the description that is listed under an id
abbrev pub described : ℕ → Option Description
described id = find_id descriptions id
