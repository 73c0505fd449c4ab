use Rattle.std.proofs.Common.{◌≡◌, List, length, arith, sym, ◌∙◌, ap, subst, Some, None}
use Rattle.std.specs.Prelude.{slice_get}
use Rattle.std.proofs.lemmas.Bool.{both_ways}
use Rattle.arrayvec.specs.ArrayVec.{ArrayVec}
use Rattle.storage_lines.specs.declared.lines.LineWrite.{LineWrite}
use Rattle.param_tree.specs.declared.Var.{Var}
use Rattle.param_tree.specs.Rows.{vehicle_rows}
use Rattle.storage_lines.specs.Bytes.{IsBytes}
use Rattle.param_service.specs.Setting.{IsSet}
use Rattle.param_service.proofs.Changing.{Taken, taken_by, taken_set, old_value, magic_kept, lines_inside, from_some, total_kept, refused_by, value_there}
use Rattle.param_service.proofs.setting.set_without_limit.Goals as goal

pub returns-then-is_total-clause-value : goal.returns-then-is_total-clause-value
returns-then-is_total-clause-value c =
    let bytes = c.args.current.now in
    let row = c.row-row.result in
    let is : slice_get vehicle_rows c.args.index ≡ Some row = subst (λ (l : List Var). slice_get l c.args.index ≡ Some row) c.requires.rows c.row-row.ensures.row in
    let value = value_there (slice_get vehicle_rows c.args.index) row bytes c.row_value-old.result is c.row_value-old.ensures in
    from_some (slice_get vehicle_rows c.args.index) (λ r. IsSet bytes None r c.args.index c.args.bits c.args.batch.now.items c.row_value-old.result) row is
    (total_kept bytes c.args.index c.args.bits row c.args.batch.now.items c.row_value-old.result is (sym c.is_total.ensures ∙ c.if-is_total.true) c.requires.batch value)

pub returns-in-Ok-clause-value : goal.returns-in-Ok-clause-value
returns-in-Ok-clause-value c =
    let bytes = c.args.current.now in
    let writes = c.set.new.batch.items in
    let row = c.row-row.result in
    let is : slice_get vehicle_rows c.args.index ≡ Some row = subst (λ (l : List Var). slice_get l c.args.index ≡ Some row) c.requires.rows c.row-row.ensures.row in
    let small : IsBytes bytes = λ i. omega (arith, c.type_inv.current i) in
    let t : Taken bytes row c.args.index c.args.bits writes = taken_by c.args.table.now bytes c.args.batch.now.items row c.args.index c.args.bits writes c.in-Ok.field-0 c.requires.rows c.requires.batch small c.row-row.ensures.row c.in-Ok.ensures.ok c.in-Ok.ensures.full c.in-Ok.ensures.steps c.in-Ok.ensures.value in
    let value = sym (c.value_of.ensures _ (t.value (c.has_magic.ensures.0 c.if-has_magic.true))) in
    from_some (slice_get vehicle_rows c.args.index) (λ r. IsSet bytes None r c.args.index c.args.bits writes c.value_of.result) row is
    (taken_set bytes row c.args.index c.args.bits writes c.value_of.result is t (sym c.is_total.ensures ∙ c.if-is_total.false) value)

pub returns-in-Ok-clause-inside : goal.returns-in-Ok-clause-inside
returns-in-Ok-clause-inside c = lines_inside c.args.batch.now.items c.set.new.batch.items c.requires.batch c.in-Ok.ensures.inside

pub returns-in-Ok-clause-few : goal.returns-in-Ok-clause-few
returns-in-Ok-clause-few c = omega (arith, c.in-Ok.ensures.few, ap (λ (l : List LineWrite). length l) c.requires.batch)

pub returns-in-Ok-clause-magic : goal.returns-in-Ok-clause-magic
returns-in-Ok-clause-magic c =
    let bytes = c.args.current.now in
    let writes = c.set.new.batch.items in
    let row = c.row-row.result in
    let is : slice_get vehicle_rows c.args.index ≡ Some row = subst (λ (l : List Var). slice_get l c.args.index ≡ Some row) c.requires.rows c.row-row.ensures.row in
    let small : IsBytes bytes = λ i. omega (arith, c.type_inv.current i) in
    let t : Taken bytes row c.args.index c.args.bits writes = taken_by c.args.table.now bytes c.args.batch.now.items row c.args.index c.args.bits writes c.in-Ok.field-0 c.requires.rows c.requires.batch small c.row-row.ensures.row c.in-Ok.ensures.ok c.in-Ok.ensures.full c.in-Ok.ensures.steps c.in-Ok.ensures.value in
    magic_kept bytes row c.args.index c.args.bits writes t

pub returns-in-Ok-2-clause-value : goal.returns-in-Ok-2-clause-value
returns-in-Ok-2-clause-value c =
    let bytes = c.args.current.now in
    let writes = c.set.new.batch.items in
    let row = c.row-row.result in
    let is : slice_get vehicle_rows c.args.index ≡ Some row = subst (λ (l : List Var). slice_get l c.args.index ≡ Some row) c.requires.rows c.row-row.ensures.row in
    let small : IsBytes bytes = λ i. omega (arith, c.type_inv.current i) in
    let t : Taken bytes row c.args.index c.args.bits writes = taken_by c.args.table.now bytes c.args.batch.now.items row c.args.index c.args.bits writes c.in-Ok-2.field-0 c.requires.rows c.requires.batch small c.row-row.ensures.row c.in-Ok-2.ensures.ok c.in-Ok-2.ensures.full c.in-Ok-2.ensures.steps c.in-Ok-2.ensures.value in
    let was = value_there (slice_get vehicle_rows c.args.index) row bytes c.row_value-old.result is c.row_value-old.ensures in
    let value = was ∙ old_value bytes row c.args.index c.args.bits writes t (λ m. both_ways _ c.if-has_magic.false (c.has_magic.ensures.1 m)) in
    from_some (slice_get vehicle_rows c.args.index) (λ r. IsSet bytes None r c.args.index c.args.bits writes c.row_value-old.result) row is
    (taken_set bytes row c.args.index c.args.bits writes c.row_value-old.result is t (sym c.is_total.ensures ∙ c.if-is_total.false) value)

pub returns-in-Ok-2-clause-inside : goal.returns-in-Ok-2-clause-inside
returns-in-Ok-2-clause-inside c = lines_inside c.args.batch.now.items c.set.new.batch.items c.requires.batch c.in-Ok-2.ensures.inside

pub returns-in-Ok-2-clause-few : goal.returns-in-Ok-2-clause-few
returns-in-Ok-2-clause-few c = omega (arith, c.in-Ok-2.ensures.few, ap (λ (l : List LineWrite). length l) c.requires.batch)

pub returns-in-Err-clause-value : goal.returns-in-Err-clause-value
returns-in-Err-clause-value c =
    let bytes = c.args.current.now in
    let writes = c.set.new.batch.items in
    let row = c.row-row.result in
    let is : slice_get vehicle_rows c.args.index ≡ Some row = subst (λ (l : List Var). slice_get l c.args.index ≡ Some row) c.requires.rows c.row-row.ensures.row in
    let value = value_there (slice_get vehicle_rows c.args.index) row bytes c.row_value-old.result is c.row_value-old.ensures in
    let same : writes ≡ c.args.batch.now.items = ap (λ (b : ArrayVec LineWrite). b.items) c.in-Err.ensures.err in
    from_some (slice_get vehicle_rows c.args.index) (λ r. IsSet bytes None r c.args.index c.args.bits writes c.row_value-old.result) row is
    (refused_by c.args.table.now bytes c.args.batch.now.items row c.args.index c.args.bits writes c.row_value-old.result c.in-Err.field-0 c.requires.rows c.requires.batch c.row-row.ensures.row c.in-Err.ensures.range c.in-Err.ensures.full c.in-Err.ensures.only same value)
