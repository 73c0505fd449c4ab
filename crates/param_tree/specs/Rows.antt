-- The rows of the vehicle's table, in the order of their indices, by families.
use Rattle.std.specs.Prelude.{ℕ, zero, suc, ◌+◌, ◌*◌, ◌/◌, ◌%◌, List, [], ◌∷◌, ◌++◌, codes, nat_lt, true, false}
use Rattle.param_tree.specs.declared.Var.{Var}
use Rattle.param_tree.specs.declared.Kind.{Kind}
use Rattle.param_tree.specs.declared.Kind.TheVariants.{I8, I16, I32, F32, Vec3}
use Rattle.param_tree.specs.Rules.{name16}

-- an index below the first level: 63 stands for 0, since 0 says that the path ends before this
-- level
abbrev pub below : ℕ → ℕ
below zero = 63
below (suc i) = suc i

-- the group element of a path of up to three indices, each of six bits
abbrev pub element_of : List ℕ → ℕ
element_of [] = 0
element_of (i ∷ []) = i
element_of (i ∷ j ∷ []) = i + 64 * below j
element_of (i ∷ j ∷ k ∷ _) = i + 64 * below j + 4096 * below k

-- a row for one part of a value: name, key, path, kind, part and default
abbrev pub part_row : List ℕ → ℕ → List ℕ → Kind → ℕ → ℕ → Var
part_row n k path t p d = record {
  name = name16 n;
  key = k;
  element = element_of path;
  kind = t;
  part = p;
  default = d;
}

-- a row for a whole value
abbrev pub row : List ℕ → ℕ → List ℕ → Kind → ℕ → Var
row n k path t d = part_row n k path t 0 d

-- the rows of three floats
abbrev pub three_rows : List ℕ → ℕ → List ℕ → ℕ → List Var
three_rows n k path d =
    part_row (n ++ codes "_X") k path Vec3 0 d ∷
    part_row (n ++ codes "_Y") k path Vec3 1 d ∷
    part_row (n ++ codes "_Z") k path Vec3 2 d ∷
    []

-- the decimal digits of a number below 100
abbrev pub digits : ℕ → List ℕ
digits n = elim (nat_lt n 10) [ true ↦ (48 + n) ∷ [] | false ↦ (48 + n / 10) ∷ (48 + n % 10) ∷ [] ]

-- f n, f (n + 1), .. one after another, k of them
unfoldable pub each_from : (ℕ → List Var) → ℕ → ℕ → List Var
each_from f n zero = []
each_from f n (suc k) = f n ++ each_from f (n + 1) k

-- single parameters, each with a key of its own
unfoldable pub single_rows : List Var
single_rows =
    row (codes "FORMAT_VERSION") 0 [] I16 120 ∷
    row (codes "RTL_ALT") 1 [] I32 1500 ∷
    row (codes "LOG_BITMASK") 300 [] I32 176126 ∷
    row (codes "FS_THR_ENABLE") 3 [] I8 1 ∷
    row (codes "DISARM_DELAY") 4 [] I8 10 ∷
    []

-- the mission
unfoldable pub mission_rows : List Var
mission_rows =
    row (codes "MIS_TOTAL") 20 (1 ∷ []) I16 0 ∷
    row (codes "MIS_RESTART") 20 (2 ∷ []) I8 0 ∷
    row (codes "MIS_OPTIONS") 20 (3 ∷ []) I16 0 ∷
    []

-- the fence; its floats are 100, 300 and 2 metres
unfoldable pub fence_rows : List Var
fence_rows =
    row (codes "FENCE_ENABLE") 21 (1 ∷ []) I8 0 ∷
    row (codes "FENCE_TYPE") 21 (2 ∷ []) I8 7 ∷
    row (codes "FENCE_ACTION") 21 (3 ∷ []) I8 1 ∷
    row (codes "FENCE_ALT_MAX") 21 (4 ∷ []) F32 0x42C8_0000 ∷
    row (codes "FENCE_RADIUS") 21 (5 ∷ []) F32 0x4396_0000 ∷
    row (codes "FENCE_MARGIN") 21 (6 ∷ []) F32 0x4000_0000 ∷
    []

-- the rally points; the limit is 0.25 kilometres
unfoldable pub rally_rows : List Var
rally_rows =
    row (codes "RALLY_TOTAL") 22 (1 ∷ []) I8 0 ∷
    row (codes "RALLY_LIMIT_KM") 22 (2 ∷ []) F32 0x3E80_0000 ∷
    []

-- the navigation between waypoints; its floats are 500, 200, 250, 150 and 100
unfoldable pub navigation_rows : List Var
navigation_rows =
    row (codes "WPNAV_SPEED") 23 (1 ∷ []) F32 0x43FA_0000 ∷
    row (codes "WPNAV_RADIUS") 23 (2 ∷ []) F32 0x4348_0000 ∷
    row (codes "WPNAV_SPEED_UP") 23 (3 ∷ []) F32 0x437A_0000 ∷
    row (codes "WPNAV_SPEED_DN") 23 (4 ∷ []) F32 0x4316_0000 ∷
    row (codes "WPNAV_ACCEL") 23 (5 ∷ []) F32 0x42C8_0000 ∷
    []

-- the compass; the diagonal is 1
unfoldable pub compass_rows : List Var
compass_rows =
    three_rows (codes "COMPASS_OFS") 24 (1 ∷ []) 0 ++
    (three_rows (codes "COMPASS_OFS2") 24 (2 ∷ []) 0 ++
    (three_rows (codes "COMPASS_DIA") 24 (3 ∷ []) 0x3F80_0000 ++
    (row (codes "COMPASS_USE") 24 (4 ∷ []) I8 1 ∷
    row (codes "COMPASS_USE2") 24 (5 ∷ []) I8 1 ∷
    row (codes "COMPASS_DEC") 24 (6 ∷ []) F32 0 ∷
    [])))

-- the inertial sensors; the scale is 1
unfoldable pub inertial_rows : List Var
inertial_rows =
    three_rows (codes "INS_ACCOFFS") 25 (1 ∷ []) 0 ++
    (three_rows (codes "INS_ACCSCAL") 25 (2 ∷ []) 0x3F80_0000 ++
    (three_rows (codes "INS_GYROFFS") 25 (3 ∷ []) 0 ++
    (row (codes "INS_GYRO_FILTER") 25 (4 ∷ []) I16 20 ∷
    row (codes "INS_ACCEL_FILTER") 25 (5 ∷ []) I16 20 ∷
    [])))

-- the battery; its low voltage is 10.5
unfoldable pub battery_rows : List Var
battery_rows =
    row (codes "BATT_MONITOR") 26 (1 ∷ []) I8 0 ∷
    row (codes "BATT_CAPACITY") 26 (2 ∷ []) I32 3300 ∷
    row (codes "BATT_LOW_VOLT") 26 (3 ∷ []) F32 0x4128_0000 ∷
    row (codes "BATT_CRT_VOLT") 26 (4 ∷ []) F32 0 ∷
    row (codes "BATT_LOW_MAH") 26 (5 ∷ []) F32 0 ∷
    []

-- the rate controller of the axis with this index: the gains P and I are 0.125, and D is 0
unfoldable pub rate_rows : List ℕ → ℕ → List Var
rate_rows axis i =
    row (codes "ATC_RAT_" ++ (axis ++ codes "_P")) 27 (1 ∷ i ∷ 0 ∷ []) F32 0x3E00_0000 ∷
    row (codes "ATC_RAT_" ++ (axis ++ codes "_I")) 27 (1 ∷ i ∷ 1 ∷ []) F32 0x3E00_0000 ∷
    row (codes "ATC_RAT_" ++ (axis ++ codes "_D")) 27 (1 ∷ i ∷ 2 ∷ []) F32 0 ∷
    []

-- the attitude controller: its rate controllers of roll, pitch and yaw
unfoldable pub attitude_rows : List Var
attitude_rows =
    rate_rows (codes "RLL") 1 ++ (rate_rows (codes "PIT") 2 ++ rate_rows (codes "YAW") 3)

-- FLTMODEn, from the key 40 on
unfoldable pub flight_mode_rows : ℕ → List Var
flight_mode_rows n = row (codes "FLTMODE" ++ digits n) (39 + n) [] I8 0 ∷ []

-- the output SERVOn
unfoldable pub servo_rows : ℕ → List Var
servo_rows n =
    row (codes "SERVO" ++ (digits n ++ codes "_MIN")) 30 (n ∷ 1 ∷ []) I16 1100 ∷
    row (codes "SERVO" ++ (digits n ++ codes "_MAX")) 30 (n ∷ 2 ∷ []) I16 1900 ∷
    row (codes "SERVO" ++ (digits n ++ codes "_TRIM")) 30 (n ∷ 3 ∷ []) I16 1500 ∷
    row (codes "SERVO" ++ (digits n ++ codes "_REVERSED")) 30 (n ∷ 4 ∷ []) I8 0 ∷
    row (codes "SERVO" ++ (digits n ++ codes "_FUNCTION")) 30 (n ∷ 5 ∷ []) I16 0 ∷
    []

-- the input channel RCn
unfoldable pub rc_rows : ℕ → List Var
rc_rows n =
    row (codes "RC" ++ (digits n ++ codes "_MIN")) 31 (n ∷ 0 ∷ []) I16 1100 ∷
    row (codes "RC" ++ (digits n ++ codes "_TRIM")) 31 (n ∷ 1 ∷ []) I16 1500 ∷
    row (codes "RC" ++ (digits n ++ codes "_MAX")) 31 (n ∷ 2 ∷ []) I16 1900 ∷
    row (codes "RC" ++ (digits n ++ codes "_REVERSED")) 31 (n ∷ 3 ∷ []) I8 0 ∷
    row (codes "RC" ++ (digits n ++ codes "_DZ")) 31 (n ∷ 4 ∷ []) I16 0 ∷
    row (codes "RC" ++ (digits n ++ codes "_OPTION")) 31 (n ∷ 5 ∷ []) I16 0 ∷
    []

-- the rows 0 to 20
unfoldable pub basic_rows : List Var
basic_rows = single_rows ++ (mission_rows ++ (fence_rows ++ (rally_rows ++ navigation_rows)))

-- the rows 21 to 43
unfoldable pub sensor_rows : List Var
sensor_rows = compass_rows ++ inertial_rows

-- the rows 44 to 63
unfoldable pub flight_rows : List Var
flight_rows = battery_rows ++ (attitude_rows ++ each_from flight_mode_rows 1 6)

-- all 240 rows
unfoldable pub vehicle_rows : List Var
vehicle_rows = basic_rows
    ++ (sensor_rows ++ (flight_rows ++ (each_from servo_rows 1 16 ++ each_from rc_rows 1 16)))
