-- The rows of the vehicle pass the test, and are what the parts make, one behind another.
use Rattle.std.proofs.Common.{◌≡◌, ℕ, ◌+◌, ◌++◌, List, [], take, length, true, refl}
use Rattle.param_tree.specs.declared.Var.{Var}
use Rattle.param_tree.specs.Rows.{vehicle_rows, basic_rows, single_rows, mission_rows, fence_rows, rally_rows, navigation_rows, sensor_rows, compass_rows, inertial_rows, flight_rows, battery_rows, attitude_rows, rate_rows, flight_mode_rows, servo_rows, rc_rows, each_from}
use Rattle.param_tree.specs.Rules.{IsTable}
use Rattle.param_tree.proofs.Test.{is_table, IsTable-from_test}

vehicle_passes : is_table vehicle_rows ≡ true
unfolding vehicle_rows basic_rows single_rows mission_rows fence_rows rally_rows navigation_rows sensor_rows compass_rows inertial_rows flight_rows battery_rows attitude_rows rate_rows flight_mode_rows servo_rows rc_rows each_from is_table
vehicle_passes = refl

pub vehicle_is_table : IsTable vehicle_rows
vehicle_is_table = IsTable-from_test vehicle_rows vehicle_passes

-- one more part of n rows
pub put_step : (from n : ℕ) (old new part done spec : List Var) → take (from + length part) new ≡ take from old ++ part → part ≡ spec → length spec ≡ n → take from old ≡ done → take (from + n) new ≡ done ++ spec
put_step from n old new part done spec e p l h = cc

pub length-basic_rows : length basic_rows ≡ 21
unfolding vehicle_rows basic_rows single_rows mission_rows fence_rows rally_rows navigation_rows sensor_rows compass_rows inertial_rows flight_rows battery_rows attitude_rows rate_rows flight_mode_rows servo_rows rc_rows each_from
length-basic_rows = refl

pub length-sensor_rows : length sensor_rows ≡ 23
unfolding vehicle_rows basic_rows single_rows mission_rows fence_rows rally_rows navigation_rows sensor_rows compass_rows inertial_rows flight_rows battery_rows attitude_rows rate_rows flight_mode_rows servo_rows rc_rows each_from
length-sensor_rows = refl

pub length-flight_rows : length flight_rows ≡ 20
unfolding vehicle_rows basic_rows single_rows mission_rows fence_rows rally_rows navigation_rows sensor_rows compass_rows inertial_rows flight_rows battery_rows attitude_rows rate_rows flight_mode_rows servo_rows rc_rows each_from
length-flight_rows = refl

pub length-servo_rows_1_to_4 : length (each_from servo_rows 1 4) ≡ 20
unfolding vehicle_rows basic_rows single_rows mission_rows fence_rows rally_rows navigation_rows sensor_rows compass_rows inertial_rows flight_rows battery_rows attitude_rows rate_rows flight_mode_rows servo_rows rc_rows each_from
length-servo_rows_1_to_4 = refl

pub length-servo_rows_5_to_8 : length (each_from servo_rows 5 4) ≡ 20
unfolding vehicle_rows basic_rows single_rows mission_rows fence_rows rally_rows navigation_rows sensor_rows compass_rows inertial_rows flight_rows battery_rows attitude_rows rate_rows flight_mode_rows servo_rows rc_rows each_from
length-servo_rows_5_to_8 = refl

pub length-servo_rows_9_to_12 : length (each_from servo_rows 9 4) ≡ 20
unfolding vehicle_rows basic_rows single_rows mission_rows fence_rows rally_rows navigation_rows sensor_rows compass_rows inertial_rows flight_rows battery_rows attitude_rows rate_rows flight_mode_rows servo_rows rc_rows each_from
length-servo_rows_9_to_12 = refl

pub length-servo_rows_13_to_16 : length (each_from servo_rows 13 4) ≡ 20
unfolding vehicle_rows basic_rows single_rows mission_rows fence_rows rally_rows navigation_rows sensor_rows compass_rows inertial_rows flight_rows battery_rows attitude_rows rate_rows flight_mode_rows servo_rows rc_rows each_from
length-servo_rows_13_to_16 = refl

pub length-rc_rows_1_to_4 : length (each_from rc_rows 1 4) ≡ 24
unfolding vehicle_rows basic_rows single_rows mission_rows fence_rows rally_rows navigation_rows sensor_rows compass_rows inertial_rows flight_rows battery_rows attitude_rows rate_rows flight_mode_rows servo_rows rc_rows each_from
length-rc_rows_1_to_4 = refl

pub length-rc_rows_5_to_8 : length (each_from rc_rows 5 4) ≡ 24
unfolding vehicle_rows basic_rows single_rows mission_rows fence_rows rally_rows navigation_rows sensor_rows compass_rows inertial_rows flight_rows battery_rows attitude_rows rate_rows flight_mode_rows servo_rows rc_rows each_from
length-rc_rows_5_to_8 = refl

pub length-rc_rows_9_to_12 : length (each_from rc_rows 9 4) ≡ 24
unfolding vehicle_rows basic_rows single_rows mission_rows fence_rows rally_rows navigation_rows sensor_rows compass_rows inertial_rows flight_rows battery_rows attitude_rows rate_rows flight_mode_rows servo_rows rc_rows each_from
length-rc_rows_9_to_12 = refl

pub length-rc_rows_13_to_16 : length (each_from rc_rows 13 4) ≡ 24
unfolding vehicle_rows basic_rows single_rows mission_rows fence_rows rally_rows navigation_rows sensor_rows compass_rows inertial_rows flight_rows battery_rows attitude_rows rate_rows flight_mode_rows servo_rows rc_rows each_from
length-rc_rows_13_to_16 = refl

pub parts-vehicle_rows : (((((((((([] ++ basic_rows) ++ sensor_rows) ++ flight_rows) ++ (each_from servo_rows 1 4)) ++ (each_from servo_rows 5 4)) ++ (each_from servo_rows 9 4)) ++ (each_from servo_rows 13 4)) ++ (each_from rc_rows 1 4)) ++ (each_from rc_rows 5 4)) ++ (each_from rc_rows 9 4)) ++ (each_from rc_rows 13 4) ≡ vehicle_rows
unfolding vehicle_rows basic_rows single_rows mission_rows fence_rows rally_rows navigation_rows sensor_rows compass_rows inertial_rows flight_rows battery_rows attitude_rows rate_rows flight_mode_rows servo_rows rc_rows each_from
parts-vehicle_rows = refl
