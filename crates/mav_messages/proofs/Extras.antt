-- Each extra byte in the list is that of its description.
use Rattle.std.proofs.Common.{ℕ, ◌≡◌, ◌==◌, Bool, true, false, cond, List, [], ◌∷◌, Option, Some, refl, ap, option_map}
use Rattle.mav_crc.specs.Register.{register_after, crc_of}
use Rattle.mav_crc.specs.Extra.{extra_byte}
use Rattle.mav_messages.specs.Fields.{Description, description_text}
use Rattle.mav_messages.specs.Descriptions.{described, descriptions, find_id, heartbeat, param_request_read, param_request_list, param_value, param_set, mission_request, mission_request_list, mission_count, mission_clear_all, mission_ack, mission_request_int, mission_item_int, command_long, command_ack}

abbrev computed : Description → ℕ
computed d = extra_byte (crc_of 0xFFFF (description_text d))

abbrev AreRight : List Description → Type 0
AreRight [] = Unit {0}
AreRight (d ∷ ds) = (computed d ≡ d.extra) × AreRight ds

chosen : (b : Bool) (d : Description) (x : Option Description) → computed d ≡ d.extra → option_map computed x ≡ option_map (λ (d : Description). d.extra) x
    → option_map computed (cond b (Some d) x) ≡ option_map (λ (d : Description). d.extra) (cond b (Some d) x)
chosen true d x e f = ap Some e
chosen false d x e f = f

found : (ds : List Description) (id : ℕ) → AreRight ds → option_map computed (find_id ds id) ≡ option_map (λ (d : Description). d.extra) (find_id ds id)
found [] id h = refl
found (d ∷ ds) id h = chosen (id == d.id) d (find_id ds id) h.0 (found ds id h.1)

right_heartbeat : computed heartbeat ≡ heartbeat.extra
unfolding crc_of register_after
right_heartbeat = refl

right_param_request_read : computed param_request_read ≡ param_request_read.extra
unfolding crc_of register_after
right_param_request_read = refl

right_param_request_list : computed param_request_list ≡ param_request_list.extra
unfolding crc_of register_after
right_param_request_list = refl

right_param_value : computed param_value ≡ param_value.extra
unfolding crc_of register_after
right_param_value = refl

right_param_set : computed param_set ≡ param_set.extra
unfolding crc_of register_after
right_param_set = refl

right_mission_request : computed mission_request ≡ mission_request.extra
unfolding crc_of register_after
right_mission_request = refl

right_mission_request_list : computed mission_request_list ≡ mission_request_list.extra
unfolding crc_of register_after
right_mission_request_list = refl

right_mission_count : computed mission_count ≡ mission_count.extra
unfolding crc_of register_after
right_mission_count = refl

right_mission_clear_all : computed mission_clear_all ≡ mission_clear_all.extra
unfolding crc_of register_after
right_mission_clear_all = refl

right_mission_ack : computed mission_ack ≡ mission_ack.extra
unfolding crc_of register_after
right_mission_ack = refl

right_mission_request_int : computed mission_request_int ≡ mission_request_int.extra
unfolding crc_of register_after
right_mission_request_int = refl

right_mission_item_int : computed mission_item_int ≡ mission_item_int.extra
unfolding crc_of register_after
right_mission_item_int = refl

right_command_long : computed command_long ≡ command_long.extra
unfolding crc_of register_after
right_command_long = refl

right_command_ack : computed command_ack ≡ command_ack.extra
unfolding crc_of register_after
right_command_ack = refl

all_right : AreRight descriptions
all_right = (right_heartbeat, (right_param_request_read, (right_param_request_list, (right_param_value, (right_param_set, (right_mission_request, (right_mission_request_list, (right_mission_count, (right_mission_clear_all, (right_mission_ack, (right_mission_request_int, (right_mission_item_int, (right_command_long, (right_command_ack, tt))))))))))))))

pub extras : (id : ℕ) → option_map computed (described id) ≡ option_map (λ (d : Description). d.extra) (described id)
extras id = found descriptions id all_right
