-- The bytes of the fields of each message, one after another.
use Rattle.std.proofs.Common.{ℕ, ℤ, ◌≡◌, ◌<◌, ◌%◌, Bool, true, false, cond, List, [], ◌∷◌, ◌++◌, length, refl, sym, ap, subst, ◌∙◌, append-nil, append_assoc, arith}
use Rattle.std.specs.Int.{Width, w16, w32, cast_unsigned}
use Rattle.byteorder.specs.Endian.{little_bytes}
use Rattle.mav_messages.specs.declared.messages.Message.{Message}
use Rattle.mav_messages.specs.declared.messages.Message.TheVariants.{Heartbeat, ParamRequestRead, ParamRequestList, ParamValue, ParamSet, MissionRequest, MissionRequestList, MissionCount, MissionClearAll, MissionAck, MissionRequestInt, MissionItemInt, CommandLong, CommandAck}
use Rattle.mav_messages.specs.Fields.{layout_of}
use Rattle.mav_messages.specs.Payload.{number_bytes, wire_bytes, Suit}
use Rattle.mav_messages.specs.Descriptions.{heartbeat, param_request_read, param_request_list, param_value, param_set, mission_request, mission_request_list, mission_count, mission_clear_all, mission_ack, mission_request_int, mission_item_int, command_long, command_ack}
use Rattle.mav_messages.specs.Messages.{description_of, field_values}
use Rattle.mav_messages.specs.Steps.Writes.{PutsNumber, PutsExtension, IsSpelled}

nil_of : (l : List ℕ) → length l ≡ 0 → l ≡ []
nil_of [] h = refl
nil_of (x ∷ xs) h = absurd (omega (arith, h))

-- the fields of a message stand after what was there, and suit their rows
pub record SpelledAfter (v2 : Bool) (message : Message) (old new : List ℕ) : Type 0 where
  pub bytes_are : new ++ [] ≡ old ++ wire_bytes v2 (layout_of (description_of message)) (field_values message)
  pub suit : Suit (layout_of (description_of message)) (field_values message)

pub spells : (v2 : Bool) (m n : Message) (old new : List ℕ) → m ≡ n → length old ≡ 0 → SpelledAfter v2 n old new → IsSpelled v2 m new
spells v2 m n old new is none h =
    let w = wire_bytes v2 (layout_of (description_of n)) (field_values n) in
    subst (λ (x : Message). IsSpelled v2 x new) (sym is) (record {
      bytes_are = sym (append-nil new) ∙ h.bytes_are ∙ ap (λ (l : List ℕ). l ++ w) (nil_of old none);
      suit = h.suit;
    })

-- bytes that are appended stand before any rest
pub appends : (old bytes new rest : List ℕ) → new ≡ old ++ bytes → new ++ rest ≡ old ++ (bytes ++ rest)
appends old bytes new rest e = ap (λ (l : List ℕ). l ++ rest) e ∙ append_assoc old bytes rest

-- a signed number is put, whichever of two equal ones
pub signed_number : (w : Width) (width : ℕ) (a b : ℤ) (old new : List ℕ) → a ≡ b
    → PutsNumber width (cast_unsigned w a) old new → PutsNumber width (cast_unsigned w b) old new
signed_number w width a b old new e h = subst (λ (z : ℤ). PutsNumber width (cast_unsigned w z) old new) e h

pub signed_extension : (v2 : Bool) (w : Width) (width : ℕ) (a b : ℤ) (old new : List ℕ) → a ≡ b
    → PutsExtension v2 width (cast_unsigned w a) old new → PutsExtension v2 width (cast_unsigned w b) old new
signed_extension v2 w width a b old new e h =
    subst (λ (z : ℤ). PutsExtension v2 width (cast_unsigned w z) old new) e h

pub spelled_heartbeat : (v2 : Bool) (custom_mode kind autopilot base_mode system_status mavlink_version : ℕ)
    → number_bytes 4 custom_mode ++ (number_bytes 1 kind ++ (number_bytes 1 autopilot ++ (number_bytes 1 base_mode ++ (number_bytes 1 system_status ++ (number_bytes 1 mavlink_version ++ [])))))
    ≡ wire_bytes v2 (layout_of heartbeat) (field_values (Heartbeat custom_mode kind autopilot base_mode system_status mavlink_version))
unfolding wire_bytes
spelled_heartbeat true custom_mode kind autopilot base_mode system_status mavlink_version = refl
spelled_heartbeat false custom_mode kind autopilot base_mode system_status mavlink_version = refl

pub spelled_param_request_read : (v2 : Bool) (param_index : ℤ) (target_system target_component : ℕ) (param_id : List ℕ)
    → number_bytes 2 (cast_unsigned w16 param_index) ++ (number_bytes 1 target_system ++ (number_bytes 1 target_component ++ (param_id ++ [])))
    ≡ wire_bytes v2 (layout_of param_request_read) (field_values (ParamRequestRead param_index target_system target_component param_id))
unfolding wire_bytes
spelled_param_request_read true param_index target_system target_component param_id = refl
spelled_param_request_read false param_index target_system target_component param_id = refl

pub spelled_param_request_list : (v2 : Bool) (target_system target_component : ℕ)
    → number_bytes 1 target_system ++ (number_bytes 1 target_component ++ [])
    ≡ wire_bytes v2 (layout_of param_request_list) (field_values (ParamRequestList target_system target_component))
unfolding wire_bytes
spelled_param_request_list true target_system target_component = refl
spelled_param_request_list false target_system target_component = refl

pub spelled_param_value : (v2 : Bool) (bits param_count param_index : ℕ) (param_id : List ℕ) (param_type : ℕ)
    → number_bytes 4 bits ++ (number_bytes 2 param_count ++ (number_bytes 2 param_index ++ (param_id ++ (number_bytes 1 param_type ++ []))))
    ≡ wire_bytes v2 (layout_of param_value) (field_values (ParamValue bits param_count param_index param_id param_type))
unfolding wire_bytes
spelled_param_value true bits param_count param_index param_id param_type = refl
spelled_param_value false bits param_count param_index param_id param_type = refl

pub spelled_param_set : (v2 : Bool) (bits target_system target_component : ℕ) (param_id : List ℕ) (param_type : ℕ)
    → number_bytes 4 bits ++ (number_bytes 1 target_system ++ (number_bytes 1 target_component ++ (param_id ++ (number_bytes 1 param_type ++ []))))
    ≡ wire_bytes v2 (layout_of param_set) (field_values (ParamSet bits target_system target_component param_id param_type))
unfolding wire_bytes
spelled_param_set true bits target_system target_component param_id param_type = refl
spelled_param_set false bits target_system target_component param_id param_type = refl

pub spelled_mission_request : (v2 : Bool) (seq target_system target_component mission_type : ℕ)
    → number_bytes 2 seq ++ (number_bytes 1 target_system ++ (number_bytes 1 target_component ++ (cond v2 (number_bytes 1 mission_type) [] ++ [])))
    ≡ wire_bytes v2 (layout_of mission_request) (field_values (MissionRequest seq target_system target_component mission_type))
unfolding wire_bytes
spelled_mission_request true seq target_system target_component mission_type = refl
spelled_mission_request false seq target_system target_component mission_type = refl

pub spelled_mission_request_list : (v2 : Bool) (target_system target_component mission_type : ℕ)
    → number_bytes 1 target_system ++ (number_bytes 1 target_component ++ (cond v2 (number_bytes 1 mission_type) [] ++ []))
    ≡ wire_bytes v2 (layout_of mission_request_list) (field_values (MissionRequestList target_system target_component mission_type))
unfolding wire_bytes
spelled_mission_request_list true target_system target_component mission_type = refl
spelled_mission_request_list false target_system target_component mission_type = refl

pub spelled_mission_count : (v2 : Bool) (count target_system target_component mission_type : ℕ)
    → number_bytes 2 count ++ (number_bytes 1 target_system ++ (number_bytes 1 target_component ++ (cond v2 (number_bytes 1 mission_type) [] ++ [])))
    ≡ wire_bytes v2 (layout_of mission_count) (field_values (MissionCount count target_system target_component mission_type))
unfolding wire_bytes
spelled_mission_count true count target_system target_component mission_type = refl
spelled_mission_count false count target_system target_component mission_type = refl

pub spelled_mission_clear_all : (v2 : Bool) (target_system target_component mission_type : ℕ)
    → number_bytes 1 target_system ++ (number_bytes 1 target_component ++ (cond v2 (number_bytes 1 mission_type) [] ++ []))
    ≡ wire_bytes v2 (layout_of mission_clear_all) (field_values (MissionClearAll target_system target_component mission_type))
unfolding wire_bytes
spelled_mission_clear_all true target_system target_component mission_type = refl
spelled_mission_clear_all false target_system target_component mission_type = refl

pub spelled_mission_ack : (v2 : Bool) (target_system target_component kind mission_type : ℕ)
    → number_bytes 1 target_system ++ (number_bytes 1 target_component ++ (number_bytes 1 kind ++ (cond v2 (number_bytes 1 mission_type) [] ++ [])))
    ≡ wire_bytes v2 (layout_of mission_ack) (field_values (MissionAck target_system target_component kind mission_type))
unfolding wire_bytes
spelled_mission_ack true target_system target_component kind mission_type = refl
spelled_mission_ack false target_system target_component kind mission_type = refl

pub spelled_mission_request_int : (v2 : Bool) (seq target_system target_component mission_type : ℕ)
    → number_bytes 2 seq ++ (number_bytes 1 target_system ++ (number_bytes 1 target_component ++ (cond v2 (number_bytes 1 mission_type) [] ++ [])))
    ≡ wire_bytes v2 (layout_of mission_request_int) (field_values (MissionRequestInt seq target_system target_component mission_type))
unfolding wire_bytes
spelled_mission_request_int true seq target_system target_component mission_type = refl
spelled_mission_request_int false seq target_system target_component mission_type = refl

pub spelled_mission_item_int : (v2 : Bool) (param1 param2 param3 param4 : ℕ) (x y : ℤ) (z seq command target_system target_component frame current autocontinue mission_type : ℕ)
    → number_bytes 4 param1 ++ (number_bytes 4 param2 ++ (number_bytes 4 param3 ++ (number_bytes 4 param4 ++ (number_bytes 4 (cast_unsigned w32 x) ++ (number_bytes 4 (cast_unsigned w32 y) ++ (number_bytes 4 z ++ (number_bytes 2 seq ++ (number_bytes 2 command ++ (number_bytes 1 target_system ++ (number_bytes 1 target_component ++ (number_bytes 1 frame ++ (number_bytes 1 current ++ (number_bytes 1 autocontinue ++ (cond v2 (number_bytes 1 mission_type) [] ++ []))))))))))))))
    ≡ wire_bytes v2 (layout_of mission_item_int) (field_values (MissionItemInt param1 param2 param3 param4 x y z seq command target_system target_component frame current autocontinue mission_type))
unfolding wire_bytes
spelled_mission_item_int true param1 param2 param3 param4 x y z seq command target_system target_component frame current autocontinue mission_type = refl
spelled_mission_item_int false param1 param2 param3 param4 x y z seq command target_system target_component frame current autocontinue mission_type = refl

pub spelled_command_long : (v2 : Bool) (param1 param2 param3 param4 param5 param6 param7 command target_system target_component confirmation : ℕ)
    → number_bytes 4 param1 ++ (number_bytes 4 param2 ++ (number_bytes 4 param3 ++ (number_bytes 4 param4 ++ (number_bytes 4 param5 ++ (number_bytes 4 param6 ++ (number_bytes 4 param7 ++ (number_bytes 2 command ++ (number_bytes 1 target_system ++ (number_bytes 1 target_component ++ (number_bytes 1 confirmation ++ []))))))))))
    ≡ wire_bytes v2 (layout_of command_long) (field_values (CommandLong param1 param2 param3 param4 param5 param6 param7 command target_system target_component confirmation))
unfolding wire_bytes
spelled_command_long true param1 param2 param3 param4 param5 param6 param7 command target_system target_component confirmation = refl
spelled_command_long false param1 param2 param3 param4 param5 param6 param7 command target_system target_component confirmation = refl

pub spelled_command_ack : (v2 : Bool) (command result progress : ℕ) (result_param2 : ℤ) (target_system target_component : ℕ)
    → number_bytes 2 command ++ (number_bytes 1 result ++ (cond v2 (number_bytes 1 progress) [] ++ (cond v2 (number_bytes 4 (cast_unsigned w32 result_param2)) [] ++ (cond v2 (number_bytes 1 target_system) [] ++ (cond v2 (number_bytes 1 target_component) [] ++ [])))))
    ≡ wire_bytes v2 (layout_of command_ack) (field_values (CommandAck command result progress result_param2 target_system target_component))
unfolding wire_bytes
spelled_command_ack true command result progress result_param2 target_system target_component = refl
spelled_command_ack false command result progress result_param2 target_system target_component = refl

-- a byte as a number of one byte
pub number_one : (n : ℕ) → n < 256 → number_bytes 1 n ≡ n ∷ []
unfolding number_bytes
number_one n h = ap (λ (b : ℕ). b ∷ []) (let e : n % 256 ≡ n = omega arith in e)

-- what a buffer has is the bytes of the number that was written to it
pub number_written : (w n : ℕ) (bytes : List ℕ) → bytes ≡ little_bytes w n ++ [] → bytes ≡ number_bytes w n
unfolding number_bytes
number_written w n bytes e = e ∙ append-nil (little_bytes w n)
