use Rattle.std.proofs.Common.{◌≡◌, List, [], ◌∷◌, sym, subst}
use Rattle.std.specs.Prelude.{All, codes, flat_map}
use Rattle.param_tree.specs.Rows.{vehicle_rows}
use Rattle.param_convert.specs.declared.rules.Rule.{Rule}
use Rattle.param_convert.specs.Rules.{HasRows, new_names, vehicle_rules}
use Rattle.param_convert.proofs.VehicleRules.{vehicle_rules_have_rows, vehicle_rules_named}
use Rattle.param_convert.proofs.rules.vehicle_rules.Goals as goal

pub returns-clause-rows : goal.returns-clause-rows
returns-clause-rows c =
    let same : c.from_key.result ∷ c.from_key-2.result ∷ c.from_key-3.result ∷ c.from_key-4.result ∷ [] ≡ vehicle_rules = cc in
    subst (λ (l : List Rule). All (HasRows vehicle_rows) l) (sym same) vehicle_rules_have_rows

pub returns-clause-named : goal.returns-clause-named
returns-clause-named c =
    let same : c.from_key.result ∷ c.from_key-2.result ∷ c.from_key-3.result ∷ c.from_key-4.result ∷ [] ≡ vehicle_rules = cc in
    subst (λ (l : List Rule). flat_map (new_names vehicle_rows) l
    ≡ codes "SERVO1_TRIM" ∷ codes "FENCE_RADIUS" ∷ codes "RTL_ALT" ∷ codes "COMPASS_OFS_X" ∷ codes "COMPASS_OFS_Y" ∷ codes "COMPASS_OFS_Z" ∷ []) (sym same) vehicle_rules_named
