use Rattle.std.proofs.Common.{refl, ap, ◌∙◌, ◌++◌, lit<, lit≤, FitsSigned, rules}
use Rattle.std.specs.Int.{w16, w32}
use Rattle.std.proofs.lemmas.Int.{to_z-of_z}
use Rattle.mav_messages.proofs.Wire.{spells, signed_number, signed_extension, spelled_heartbeat, spelled_param_request_read, spelled_param_request_list, spelled_param_value, spelled_param_set, spelled_mission_request, spelled_mission_request_list, spelled_mission_count, spelled_mission_clear_all, spelled_mission_ack, spelled_mission_request_int, spelled_mission_item_int, spelled_command_long, spelled_command_ack}
use Rattle.mav_messages.proofs.encoding.put_fields.Goals as goal

pub returns-in-Heartbeat : goal.returns-in-Heartbeat
returns-in-Heartbeat c =
    spells c.args.v2 _ _ c.args.payload.now.items _ c.in-Heartbeat.is c.requires record {
      bytes_are = c.put_u8-in-Heartbeat-4.ensures.puts.next _ ∙ c.put_u8-in-Heartbeat-3.ensures.puts.next _ ∙ c.put_u8-in-Heartbeat-2.ensures.puts.next _ ∙ c.put_u8-in-Heartbeat.ensures.puts.next _ ∙ c.put_u8.ensures.puts.next _ ∙ c.put_u32.ensures.puts.next _ ∙ ap (λ l. c.args.payload.now.items ++ l) (spelled_heartbeat c.args.v2 c.in-Heartbeat.custom_mode c.in-Heartbeat.kind c.in-Heartbeat.autopilot c.in-Heartbeat.base_mode c.in-Heartbeat.system_status c.in-Heartbeat.mavlink_version);
      suit = ((refl, lit≤ tt, c.put_u32.ensures.puts.fits), ((refl, lit≤ tt, c.put_u8.ensures.puts.fits), ((refl, lit≤ tt, c.put_u8-in-Heartbeat.ensures.puts.fits), ((refl, lit≤ tt, c.put_u8-in-Heartbeat-2.ensures.puts.fits), ((refl, lit≤ tt, c.put_u8-in-Heartbeat-3.ensures.puts.fits), ((refl, lit≤ tt, c.put_u8-in-Heartbeat-4.ensures.puts.fits), tt))))));
    }

pub returns-in-ParamRequestRead : goal.returns-in-ParamRequestRead
returns-in-ParamRequestRead c =
    let param_index_fits : FitsSigned w16 c.in-ParamRequestRead.param_index = search rules in
    let param_index_puts = signed_number w16 2 _ c.in-ParamRequestRead.param_index _ _ (to_z-of_z w16 c.in-ParamRequestRead.param_index param_index_fits) c.put_i16.ensures.puts in
    spells c.args.v2 _ _ c.args.payload.now.items _ c.in-ParamRequestRead.is c.requires record {
      bytes_are = c.put_chars.ensures.puts.next _ ∙ c.put_u8-in-ParamRequestRead-2.ensures.puts.next _ ∙ c.put_u8-in-ParamRequestRead.ensures.puts.next _ ∙ param_index_puts.next _ ∙ ap (λ l. c.args.payload.now.items ++ l) (spelled_param_request_read c.args.v2 c.in-ParamRequestRead.param_index c.in-ParamRequestRead.target_system c.in-ParamRequestRead.target_component c.in-ParamRequestRead.param_id);
      suit = ((refl, lit≤ tt, param_index_puts.fits), ((refl, lit≤ tt, c.put_u8-in-ParamRequestRead.ensures.puts.fits), ((refl, lit≤ tt, c.put_u8-in-ParamRequestRead-2.ensures.puts.fits), ((lit< tt, c.put_chars.ensures.puts.count, refl), tt))));
    }

pub returns-in-ParamRequestList : goal.returns-in-ParamRequestList
returns-in-ParamRequestList c =
    spells c.args.v2 _ _ c.args.payload.now.items _ c.in-ParamRequestList.is c.requires record {
      bytes_are = c.put_u8-in-ParamRequestList-2.ensures.puts.next _ ∙ c.put_u8-in-ParamRequestList.ensures.puts.next _ ∙ ap (λ l. c.args.payload.now.items ++ l) (spelled_param_request_list c.args.v2 c.in-ParamRequestList.target_system c.in-ParamRequestList.target_component);
      suit = ((refl, lit≤ tt, c.put_u8-in-ParamRequestList.ensures.puts.fits), ((refl, lit≤ tt, c.put_u8-in-ParamRequestList-2.ensures.puts.fits), tt));
    }

pub returns-in-ParamValue : goal.returns-in-ParamValue
returns-in-ParamValue c =
    spells c.args.v2 _ _ c.args.payload.now.items _ c.in-ParamValue.is c.requires record {
      bytes_are = c.put_u8-in-ParamValue.ensures.puts.next _ ∙ c.put_chars-in-ParamValue.ensures.puts.next _ ∙ c.put_u16-in-ParamValue.ensures.puts.next _ ∙ c.put_u16.ensures.puts.next _ ∙ c.put_u32-in-ParamValue.ensures.puts.next _ ∙ ap (λ l. c.args.payload.now.items ++ l) (spelled_param_value c.args.v2 c.in-ParamValue.param_value c.in-ParamValue.param_count c.in-ParamValue.param_index c.in-ParamValue.param_id c.in-ParamValue.param_type);
      suit = ((refl, lit≤ tt, c.put_u32-in-ParamValue.ensures.puts.fits), ((refl, lit≤ tt, c.put_u16.ensures.puts.fits), ((refl, lit≤ tt, c.put_u16-in-ParamValue.ensures.puts.fits), ((lit< tt, c.put_chars-in-ParamValue.ensures.puts.count, refl), ((refl, lit≤ tt, c.put_u8-in-ParamValue.ensures.puts.fits), tt)))));
    }

pub returns-in-ParamSet : goal.returns-in-ParamSet
returns-in-ParamSet c =
    spells c.args.v2 _ _ c.args.payload.now.items _ c.in-ParamSet.is c.requires record {
      bytes_are = c.put_u8-in-ParamSet-3.ensures.puts.next _ ∙ c.put_chars-in-ParamSet.ensures.puts.next _ ∙ c.put_u8-in-ParamSet-2.ensures.puts.next _ ∙ c.put_u8-in-ParamSet.ensures.puts.next _ ∙ c.put_u32-in-ParamSet.ensures.puts.next _ ∙ ap (λ l. c.args.payload.now.items ++ l) (spelled_param_set c.args.v2 c.in-ParamSet.param_value c.in-ParamSet.target_system c.in-ParamSet.target_component c.in-ParamSet.param_id c.in-ParamSet.param_type);
      suit = ((refl, lit≤ tt, c.put_u32-in-ParamSet.ensures.puts.fits), ((refl, lit≤ tt, c.put_u8-in-ParamSet.ensures.puts.fits), ((refl, lit≤ tt, c.put_u8-in-ParamSet-2.ensures.puts.fits), ((lit< tt, c.put_chars-in-ParamSet.ensures.puts.count, refl), ((refl, lit≤ tt, c.put_u8-in-ParamSet-3.ensures.puts.fits), tt)))));
    }

pub returns-in-MissionRequest : goal.returns-in-MissionRequest
returns-in-MissionRequest c =
    spells c.args.v2 _ _ c.args.payload.now.items _ c.in-MissionRequest.is c.requires record {
      bytes_are = c.put_extension_u8.ensures.puts.next _ ∙ c.put_u8-in-MissionRequest-2.ensures.puts.next _ ∙ c.put_u8-in-MissionRequest.ensures.puts.next _ ∙ c.put_u16-in-MissionRequest.ensures.puts.next _ ∙ ap (λ l. c.args.payload.now.items ++ l) (spelled_mission_request c.args.v2 c.in-MissionRequest.seq c.in-MissionRequest.target_system c.in-MissionRequest.target_component c.in-MissionRequest.mission_type);
      suit = ((refl, lit≤ tt, c.put_u16-in-MissionRequest.ensures.puts.fits), ((refl, lit≤ tt, c.put_u8-in-MissionRequest.ensures.puts.fits), ((refl, lit≤ tt, c.put_u8-in-MissionRequest-2.ensures.puts.fits), ((refl, lit≤ tt, c.put_extension_u8.ensures.puts.fits), tt))));
    }

pub returns-in-MissionRequestList : goal.returns-in-MissionRequestList
returns-in-MissionRequestList c =
    spells c.args.v2 _ _ c.args.payload.now.items _ c.in-MissionRequestList.is c.requires record {
      bytes_are = c.put_extension_u8-in-MissionRequestList.ensures.puts.next _ ∙ c.put_u8-in-MissionRequestList-2.ensures.puts.next _ ∙ c.put_u8-in-MissionRequestList.ensures.puts.next _ ∙ ap (λ l. c.args.payload.now.items ++ l) (spelled_mission_request_list c.args.v2 c.in-MissionRequestList.target_system c.in-MissionRequestList.target_component c.in-MissionRequestList.mission_type);
      suit = ((refl, lit≤ tt, c.put_u8-in-MissionRequestList.ensures.puts.fits), ((refl, lit≤ tt, c.put_u8-in-MissionRequestList-2.ensures.puts.fits), ((refl, lit≤ tt, c.put_extension_u8-in-MissionRequestList.ensures.puts.fits), tt)));
    }

pub returns-in-MissionCount : goal.returns-in-MissionCount
returns-in-MissionCount c =
    spells c.args.v2 _ _ c.args.payload.now.items _ c.in-MissionCount.is c.requires record {
      bytes_are = c.put_extension_u8-in-MissionCount.ensures.puts.next _ ∙ c.put_u8-in-MissionCount-2.ensures.puts.next _ ∙ c.put_u8-in-MissionCount.ensures.puts.next _ ∙ c.put_u16-in-MissionCount.ensures.puts.next _ ∙ ap (λ l. c.args.payload.now.items ++ l) (spelled_mission_count c.args.v2 c.in-MissionCount.count c.in-MissionCount.target_system c.in-MissionCount.target_component c.in-MissionCount.mission_type);
      suit = ((refl, lit≤ tt, c.put_u16-in-MissionCount.ensures.puts.fits), ((refl, lit≤ tt, c.put_u8-in-MissionCount.ensures.puts.fits), ((refl, lit≤ tt, c.put_u8-in-MissionCount-2.ensures.puts.fits), ((refl, lit≤ tt, c.put_extension_u8-in-MissionCount.ensures.puts.fits), tt))));
    }

pub returns-in-MissionClearAll : goal.returns-in-MissionClearAll
returns-in-MissionClearAll c =
    spells c.args.v2 _ _ c.args.payload.now.items _ c.in-MissionClearAll.is c.requires record {
      bytes_are = c.put_extension_u8-in-MissionClearAll.ensures.puts.next _ ∙ c.put_u8-in-MissionClearAll-2.ensures.puts.next _ ∙ c.put_u8-in-MissionClearAll.ensures.puts.next _ ∙ ap (λ l. c.args.payload.now.items ++ l) (spelled_mission_clear_all c.args.v2 c.in-MissionClearAll.target_system c.in-MissionClearAll.target_component c.in-MissionClearAll.mission_type);
      suit = ((refl, lit≤ tt, c.put_u8-in-MissionClearAll.ensures.puts.fits), ((refl, lit≤ tt, c.put_u8-in-MissionClearAll-2.ensures.puts.fits), ((refl, lit≤ tt, c.put_extension_u8-in-MissionClearAll.ensures.puts.fits), tt)));
    }

pub returns-in-MissionAck : goal.returns-in-MissionAck
returns-in-MissionAck c =
    spells c.args.v2 _ _ c.args.payload.now.items _ c.in-MissionAck.is c.requires record {
      bytes_are = c.put_extension_u8-in-MissionAck.ensures.puts.next _ ∙ c.put_u8-in-MissionAck-3.ensures.puts.next _ ∙ c.put_u8-in-MissionAck-2.ensures.puts.next _ ∙ c.put_u8-in-MissionAck.ensures.puts.next _ ∙ ap (λ l. c.args.payload.now.items ++ l) (spelled_mission_ack c.args.v2 c.in-MissionAck.target_system c.in-MissionAck.target_component c.in-MissionAck.kind c.in-MissionAck.mission_type);
      suit = ((refl, lit≤ tt, c.put_u8-in-MissionAck.ensures.puts.fits), ((refl, lit≤ tt, c.put_u8-in-MissionAck-2.ensures.puts.fits), ((refl, lit≤ tt, c.put_u8-in-MissionAck-3.ensures.puts.fits), ((refl, lit≤ tt, c.put_extension_u8-in-MissionAck.ensures.puts.fits), tt))));
    }

pub returns-in-MissionRequestInt : goal.returns-in-MissionRequestInt
returns-in-MissionRequestInt c =
    spells c.args.v2 _ _ c.args.payload.now.items _ c.in-MissionRequestInt.is c.requires record {
      bytes_are = c.put_extension_u8-in-MissionRequestInt.ensures.puts.next _ ∙ c.put_u8-in-MissionRequestInt-2.ensures.puts.next _ ∙ c.put_u8-in-MissionRequestInt.ensures.puts.next _ ∙ c.put_u16-in-MissionRequestInt.ensures.puts.next _ ∙ ap (λ l. c.args.payload.now.items ++ l) (spelled_mission_request_int c.args.v2 c.in-MissionRequestInt.seq c.in-MissionRequestInt.target_system c.in-MissionRequestInt.target_component c.in-MissionRequestInt.mission_type);
      suit = ((refl, lit≤ tt, c.put_u16-in-MissionRequestInt.ensures.puts.fits), ((refl, lit≤ tt, c.put_u8-in-MissionRequestInt.ensures.puts.fits), ((refl, lit≤ tt, c.put_u8-in-MissionRequestInt-2.ensures.puts.fits), ((refl, lit≤ tt, c.put_extension_u8-in-MissionRequestInt.ensures.puts.fits), tt))));
    }

pub returns-in-MissionItemInt : goal.returns-in-MissionItemInt
returns-in-MissionItemInt c =
    let x_fits : FitsSigned w32 c.in-MissionItemInt.x = search rules in
    let x_puts = signed_number w32 4 _ c.in-MissionItemInt.x _ _ (to_z-of_z w32 c.in-MissionItemInt.x x_fits) c.put_i32.ensures.puts in
    let y_fits : FitsSigned w32 c.in-MissionItemInt.y = search rules in
    let y_puts = signed_number w32 4 _ c.in-MissionItemInt.y _ _ (to_z-of_z w32 c.in-MissionItemInt.y y_fits) c.put_i32-in-MissionItemInt.ensures.puts in
    spells c.args.v2 _ _ c.args.payload.now.items _ c.in-MissionItemInt.is c.requires record {
      bytes_are = c.put_extension_u8-in-MissionItemInt.ensures.puts.next _ ∙ c.put_u8-in-MissionItemInt-5.ensures.puts.next _ ∙ c.put_u8-in-MissionItemInt-4.ensures.puts.next _ ∙ c.put_u8-in-MissionItemInt-3.ensures.puts.next _ ∙ c.put_u8-in-MissionItemInt-2.ensures.puts.next _ ∙ c.put_u8-in-MissionItemInt.ensures.puts.next _ ∙ c.put_u16-in-MissionItemInt-2.ensures.puts.next _ ∙ c.put_u16-in-MissionItemInt.ensures.puts.next _ ∙ c.put_u32-in-MissionItemInt-5.ensures.puts.next _ ∙ y_puts.next _ ∙ x_puts.next _ ∙ c.put_u32-in-MissionItemInt-4.ensures.puts.next _ ∙ c.put_u32-in-MissionItemInt-3.ensures.puts.next _ ∙ c.put_u32-in-MissionItemInt-2.ensures.puts.next _ ∙ c.put_u32-in-MissionItemInt.ensures.puts.next _ ∙ ap (λ l. c.args.payload.now.items ++ l) (spelled_mission_item_int c.args.v2 c.in-MissionItemInt.param1 c.in-MissionItemInt.param2 c.in-MissionItemInt.param3 c.in-MissionItemInt.param4 c.in-MissionItemInt.x c.in-MissionItemInt.y c.in-MissionItemInt.z c.in-MissionItemInt.seq c.in-MissionItemInt.command c.in-MissionItemInt.target_system c.in-MissionItemInt.target_component c.in-MissionItemInt.frame c.in-MissionItemInt.current c.in-MissionItemInt.autocontinue c.in-MissionItemInt.mission_type);
      suit = ((refl, lit≤ tt, c.put_u32-in-MissionItemInt.ensures.puts.fits), ((refl, lit≤ tt, c.put_u32-in-MissionItemInt-2.ensures.puts.fits), ((refl, lit≤ tt, c.put_u32-in-MissionItemInt-3.ensures.puts.fits), ((refl, lit≤ tt, c.put_u32-in-MissionItemInt-4.ensures.puts.fits), ((refl, lit≤ tt, x_puts.fits), ((refl, lit≤ tt, y_puts.fits), ((refl, lit≤ tt, c.put_u32-in-MissionItemInt-5.ensures.puts.fits), ((refl, lit≤ tt, c.put_u16-in-MissionItemInt.ensures.puts.fits), ((refl, lit≤ tt, c.put_u16-in-MissionItemInt-2.ensures.puts.fits), ((refl, lit≤ tt, c.put_u8-in-MissionItemInt.ensures.puts.fits), ((refl, lit≤ tt, c.put_u8-in-MissionItemInt-2.ensures.puts.fits), ((refl, lit≤ tt, c.put_u8-in-MissionItemInt-3.ensures.puts.fits), ((refl, lit≤ tt, c.put_u8-in-MissionItemInt-4.ensures.puts.fits), ((refl, lit≤ tt, c.put_u8-in-MissionItemInt-5.ensures.puts.fits), ((refl, lit≤ tt, c.put_extension_u8-in-MissionItemInt.ensures.puts.fits), tt)))))))))))))));
    }

pub returns-in-CommandLong : goal.returns-in-CommandLong
returns-in-CommandLong c =
    spells c.args.v2 _ _ c.args.payload.now.items _ c.in-CommandLong.is c.requires record {
      bytes_are = c.put_u8-in-CommandLong-3.ensures.puts.next _ ∙ c.put_u8-in-CommandLong-2.ensures.puts.next _ ∙ c.put_u8-in-CommandLong.ensures.puts.next _ ∙ c.put_u16-in-CommandLong.ensures.puts.next _ ∙ c.put_u32-in-CommandLong-7.ensures.puts.next _ ∙ c.put_u32-in-CommandLong-6.ensures.puts.next _ ∙ c.put_u32-in-CommandLong-5.ensures.puts.next _ ∙ c.put_u32-in-CommandLong-4.ensures.puts.next _ ∙ c.put_u32-in-CommandLong-3.ensures.puts.next _ ∙ c.put_u32-in-CommandLong-2.ensures.puts.next _ ∙ c.put_u32-in-CommandLong.ensures.puts.next _ ∙ ap (λ l. c.args.payload.now.items ++ l) (spelled_command_long c.args.v2 c.in-CommandLong.param1 c.in-CommandLong.param2 c.in-CommandLong.param3 c.in-CommandLong.param4 c.in-CommandLong.param5 c.in-CommandLong.param6 c.in-CommandLong.param7 c.in-CommandLong.command c.in-CommandLong.target_system c.in-CommandLong.target_component c.in-CommandLong.confirmation);
      suit = ((refl, lit≤ tt, c.put_u32-in-CommandLong.ensures.puts.fits), ((refl, lit≤ tt, c.put_u32-in-CommandLong-2.ensures.puts.fits), ((refl, lit≤ tt, c.put_u32-in-CommandLong-3.ensures.puts.fits), ((refl, lit≤ tt, c.put_u32-in-CommandLong-4.ensures.puts.fits), ((refl, lit≤ tt, c.put_u32-in-CommandLong-5.ensures.puts.fits), ((refl, lit≤ tt, c.put_u32-in-CommandLong-6.ensures.puts.fits), ((refl, lit≤ tt, c.put_u32-in-CommandLong-7.ensures.puts.fits), ((refl, lit≤ tt, c.put_u16-in-CommandLong.ensures.puts.fits), ((refl, lit≤ tt, c.put_u8-in-CommandLong.ensures.puts.fits), ((refl, lit≤ tt, c.put_u8-in-CommandLong-2.ensures.puts.fits), ((refl, lit≤ tt, c.put_u8-in-CommandLong-3.ensures.puts.fits), tt)))))))))));
    }

pub returns-in-CommandAck : goal.returns-in-CommandAck
returns-in-CommandAck c =
    let result_param2_fits : FitsSigned w32 c.in-CommandAck.result_param2 = search rules in
    let result_param2_puts = signed_extension c.args.v2 w32 4 _ c.in-CommandAck.result_param2 _ _ (to_z-of_z w32 c.in-CommandAck.result_param2 result_param2_fits) c.put_extension_i32.ensures.puts in
    spells c.args.v2 _ _ c.args.payload.now.items _ c.in-CommandAck.is c.requires record {
      bytes_are = c.put_extension_u8-in-CommandAck-3.ensures.puts.next _ ∙ c.put_extension_u8-in-CommandAck-2.ensures.puts.next _ ∙ result_param2_puts.next _ ∙ c.put_extension_u8-in-CommandAck.ensures.puts.next _ ∙ c.put_u8-in-CommandAck.ensures.puts.next _ ∙ c.put_u16-in-CommandAck.ensures.puts.next _ ∙ ap (λ l. c.args.payload.now.items ++ l) (spelled_command_ack c.args.v2 c.in-CommandAck.command c.in-CommandAck.result c.in-CommandAck.progress c.in-CommandAck.result_param2 c.in-CommandAck.target_system c.in-CommandAck.target_component);
      suit = ((refl, lit≤ tt, c.put_u16-in-CommandAck.ensures.puts.fits), ((refl, lit≤ tt, c.put_u8-in-CommandAck.ensures.puts.fits), ((refl, lit≤ tt, c.put_extension_u8-in-CommandAck.ensures.puts.fits), ((refl, lit≤ tt, result_param2_puts.fits), ((refl, lit≤ tt, c.put_extension_u8-in-CommandAck-2.ensures.puts.fits), ((refl, lit≤ tt, c.put_extension_u8-in-CommandAck-3.ensures.puts.fits), tt))))));
    }
