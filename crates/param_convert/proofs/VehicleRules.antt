-- The records that the vehicle's rules make are records of the vehicle's table.
use Rattle.std.proofs.Common.{◌≡◌, ℕ, zero, suc, List, [], ◌∷◌, true, refl, sym, subst, arith, Option, Some, None}
use Rattle.std.specs.Prelude.{All, Any, IfSome, IsTrue, codes, flat_map, slice_get}
use Rattle.std.specs.List.{list_any}
use Rattle.std.proofs.lemmas.List.Elements.{All-nil, All-cons}
use Rattle.std.proofs.lemmas.List.Folds.{Any-from_list_any}
use Rattle.param_tree.specs.declared.Var.{Var}
use Rattle.param_tree.specs.Rules.{parts_of}
use Rattle.param_tree.specs.Rows.{vehicle_rows, basic_rows, single_rows, mission_rows, fence_rows, rally_rows, navigation_rows, sensor_rows, compass_rows, inertial_rows, flight_rows, battery_rows, attitude_rows, rate_rows, flight_mode_rows, servo_rows, rc_rows, each_from}
use Rattle.param_records.proofs.StoreLemmas.{get_all}
use Rattle.param_convert.specs.declared.rules.Rule.{Rule}
use Rattle.param_convert.specs.Rules.{is_new_part, HasRows, new_names, to_servo1_trim, to_fence_radius, to_rtl_alt, to_compass_ofs, vehicle_rules}

-- a record of one part, and one of three
one_part : (rows : List Var) (rule : Rule) → parts_of rule.kind ≡ 1 → list_any (is_new_part rule 0) rows ≡ true → HasRows rows rule
one_part rows rule one first part low =
    let same : 0 ≡ part = omega arith in
    subst (λ (p : ℕ). Any (λ row. IsTrue (is_new_part rule p row)) rows) same (Any-from_list_any (is_new_part rule 0) rows first)

three_parts : (rows : List Var) (rule : Rule) → parts_of rule.kind ≡ 3 → list_any (is_new_part rule 0) rows ≡ true → list_any (is_new_part rule 1) rows ≡ true → list_any (is_new_part rule 2) rows ≡ true → HasRows rows rule
three_parts rows rule three first second third zero low = Any-from_list_any (is_new_part rule 0) rows first
three_parts rows rule three first second third (suc zero) low = Any-from_list_any (is_new_part rule 1) rows second
three_parts rows rule three first second third (suc (suc zero)) low = Any-from_list_any (is_new_part rule 2) rows third
three_parts rows rule three first second third (suc (suc (suc part))) low = absurd (omega arith)

pub vehicle_rules_have_rows : All (HasRows vehicle_rows) vehicle_rules
unfolding vehicle_rows basic_rows single_rows mission_rows fence_rows rally_rows navigation_rows sensor_rows compass_rows inertial_rows flight_rows battery_rows attitude_rows rate_rows flight_mode_rows servo_rows rc_rows each_from
vehicle_rules_have_rows =
    All-cons (HasRows vehicle_rows) to_servo1_trim (to_fence_radius ∷ to_rtl_alt ∷ to_compass_ofs ∷ []) (one_part vehicle_rows to_servo1_trim refl refl)
    (All-cons (HasRows vehicle_rows) to_fence_radius (to_rtl_alt ∷ to_compass_ofs ∷ []) (one_part vehicle_rows to_fence_radius refl refl)
    (All-cons (HasRows vehicle_rows) to_rtl_alt (to_compass_ofs ∷ []) (one_part vehicle_rows to_rtl_alt refl refl)
    (All-cons (HasRows vehicle_rows) to_compass_ofs [] (three_parts vehicle_rows to_compass_ofs refl refl refl refl) (All-nil (HasRows vehicle_rows)))))

pub vehicle_rules_named : flat_map (new_names vehicle_rows) vehicle_rules
    ≡ codes "SERVO1_TRIM" ∷ codes "FENCE_RADIUS" ∷ codes "RTL_ALT" ∷ codes "COMPASS_OFS_X" ∷ codes "COMPASS_OFS_Y" ∷ codes "COMPASS_OFS_Z" ∷ []
unfolding vehicle_rows basic_rows single_rows mission_rows fence_rows rally_rows navigation_rows sensor_rows compass_rows inertial_rows flight_rows battery_rows attitude_rows rate_rows flight_mode_rows servo_rows rc_rows each_from
vehicle_rules_named = refl

-- the rule at a step, where a table has the vehicle's rows
pub step_has_rows : (rows : List Var) (rules : List Rule) (step : ℕ) → rows ≡ vehicle_rows → All (HasRows vehicle_rows) rules → IfSome (slice_get rules step) (HasRows rows)
step_has_rows rows rules step same all = at (slice_get rules step) refl
  where
    at : (o : Option Rule) → slice_get rules step ≡ o → IfSome o (HasRows rows)
    at None is = tt
    at (Some rule) is = subst (λ (l : List Var). HasRows l rule) (sym same) (get_all (HasRows vehicle_rows) rules step rule all is)
