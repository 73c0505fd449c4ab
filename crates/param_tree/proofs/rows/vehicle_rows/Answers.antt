use Rattle.std.proofs.Common.{◌≡◌, ◌++◌, [], take, refl, sym, ◌∙◌, arith}
use Rattle.std.proofs.lemmas.List.{take_all}
use Rattle.param_tree.specs.Rows.{basic_rows, sensor_rows, flight_rows, servo_rows, rc_rows, each_from}
use Rattle.param_tree.proofs.Vehicle.{put_step, parts-vehicle_rows, length-basic_rows, length-sensor_rows, length-flight_rows, length-servo_rows_1_to_4, length-servo_rows_5_to_8, length-servo_rows_9_to_12, length-servo_rows_13_to_16, length-rc_rows_1_to_4, length-rc_rows_5_to_8, length-rc_rows_9_to_12, length-rc_rows_13_to_16}
use Rattle.param_tree.proofs.rows.vehicle_rows.Goals as goal

pub returns : goal.returns
returns c =
    let h0 : take 21 c.put.new.rows ≡ ([] ++ basic_rows) = put_step 0 21 [] _ _ _ _ c.put.ensures c.basic_rows.ensures length-basic_rows refl in
    let h1 : take 44 c.put-2.new.rows ≡ (([] ++ basic_rows) ++ sensor_rows) = put_step 21 23 _ _ _ _ _ c.put-2.ensures c.sensor_rows.ensures length-sensor_rows h0 in
    let h2 : take 64 c.put-3.new.rows ≡ ((([] ++ basic_rows) ++ sensor_rows) ++ flight_rows) = put_step 44 20 _ _ _ _ _ c.put-3.ensures c.flight_rows.ensures length-flight_rows h1 in
    let h3 : take 84 c.put-4.new.rows ≡ (((([] ++ basic_rows) ++ sensor_rows) ++ flight_rows) ++ (each_from servo_rows 1 4)) = put_step 64 20 _ _ _ _ _ c.put-4.ensures c.servo_rows_1_to_4.ensures length-servo_rows_1_to_4 h2 in
    let h4 : take 104 c.put-5.new.rows ≡ ((((([] ++ basic_rows) ++ sensor_rows) ++ flight_rows) ++ (each_from servo_rows 1 4)) ++ (each_from servo_rows 5 4)) = put_step 84 20 _ _ _ _ _ c.put-5.ensures c.servo_rows_5_to_8.ensures length-servo_rows_5_to_8 h3 in
    let h5 : take 124 c.put-6.new.rows ≡ (((((([] ++ basic_rows) ++ sensor_rows) ++ flight_rows) ++ (each_from servo_rows 1 4)) ++ (each_from servo_rows 5 4)) ++ (each_from servo_rows 9 4)) = put_step 104 20 _ _ _ _ _ c.put-6.ensures c.servo_rows_9_to_12.ensures length-servo_rows_9_to_12 h4 in
    let h6 : take 144 c.put-7.new.rows ≡ ((((((([] ++ basic_rows) ++ sensor_rows) ++ flight_rows) ++ (each_from servo_rows 1 4)) ++ (each_from servo_rows 5 4)) ++ (each_from servo_rows 9 4)) ++ (each_from servo_rows 13 4)) = put_step 124 20 _ _ _ _ _ c.put-7.ensures c.servo_rows_13_to_16.ensures length-servo_rows_13_to_16 h5 in
    let h7 : take 168 c.put-8.new.rows ≡ (((((((([] ++ basic_rows) ++ sensor_rows) ++ flight_rows) ++ (each_from servo_rows 1 4)) ++ (each_from servo_rows 5 4)) ++ (each_from servo_rows 9 4)) ++ (each_from servo_rows 13 4)) ++ (each_from rc_rows 1 4)) = put_step 144 24 _ _ _ _ _ c.put-8.ensures c.rc_rows_1_to_4.ensures length-rc_rows_1_to_4 h6 in
    let h8 : take 192 c.put-9.new.rows ≡ ((((((((([] ++ basic_rows) ++ sensor_rows) ++ flight_rows) ++ (each_from servo_rows 1 4)) ++ (each_from servo_rows 5 4)) ++ (each_from servo_rows 9 4)) ++ (each_from servo_rows 13 4)) ++ (each_from rc_rows 1 4)) ++ (each_from rc_rows 5 4)) = put_step 168 24 _ _ _ _ _ c.put-9.ensures c.rc_rows_5_to_8.ensures length-rc_rows_5_to_8 h7 in
    let h9 : take 216 c.put-10.new.rows ≡ (((((((((([] ++ basic_rows) ++ sensor_rows) ++ flight_rows) ++ (each_from servo_rows 1 4)) ++ (each_from servo_rows 5 4)) ++ (each_from servo_rows 9 4)) ++ (each_from servo_rows 13 4)) ++ (each_from rc_rows 1 4)) ++ (each_from rc_rows 5 4)) ++ (each_from rc_rows 9 4)) = put_step 192 24 _ _ _ _ _ c.put-10.ensures c.rc_rows_9_to_12.ensures length-rc_rows_9_to_12 h8 in
    let h10 : take 240 c.put-11.new.rows ≡ ((((((((((([] ++ basic_rows) ++ sensor_rows) ++ flight_rows) ++ (each_from servo_rows 1 4)) ++ (each_from servo_rows 5 4)) ++ (each_from servo_rows 9 4)) ++ (each_from servo_rows 13 4)) ++ (each_from rc_rows 1 4)) ++ (each_from rc_rows 5 4)) ++ (each_from rc_rows 9 4)) ++ (each_from rc_rows 13 4)) = put_step 216 24 _ _ _ _ _ c.put-11.ensures c.rc_rows_13_to_16.ensures length-rc_rows_13_to_16 h9 in
    sym (take_all 240 c.put-11.new.rows (omega arith)) ∙ h10 ∙ parts-vehicle_rows
