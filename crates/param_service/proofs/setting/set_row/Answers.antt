use Rattle.std.proofs.Common.{sym, ◌∙◌, None}
use Rattle.std.specs.Prelude.{slice_get}
use Rattle.param_tree.specs.Rows.{vehicle_rows}
use Rattle.param_records.proofs.SetLemmas.{is_some}
use Rattle.param_service.specs.Setting.{IsSet}
use Rattle.param_service.proofs.Showing.{there}
use Rattle.param_service.proofs.Changing.{from_some, limit_kept, limit_met, value_there}
use Rattle.param_service.proofs.setting.set_row.Goals as goal

pub returns-then-exceeds-clause-value : goal.returns-then-exceeds-clause-value
returns-then-exceeds-clause-value c =
    let bytes = c.args.current.now in
    let index = c.args.index in
    let set = c.set_without_limit-value in
    let row = there index c.requires.row in
    let is = is_some (slice_get vehicle_rows index) (λ r. IsSet bytes None r index c.args.bits set.new.batch.items set.result) row.0 row.1 set.ensures.value in
    let kept = value_there (slice_get vehicle_rows index) row.0 bytes c.row_value.result row.1 c.row_value.ensures in
    from_some (slice_get vehicle_rows index) (λ r. IsSet bytes c.args.allowed r index c.args.bits c.clear.new.self.items c.row_value.result) row.0 row.1
    (limit_kept bytes c.args.allowed row.0 index c.args.bits set.new.batch.items c.clear.new.self.items set.result c.row_value.result is (sym c.exceeds.ensures ∙ c.if-exceeds.true) c.clear.ensures kept)

pub returns-clause-value : goal.returns-clause-value
returns-clause-value c =
    let bytes = c.args.current.now in
    let index = c.args.index in
    let set = c.set_without_limit-value in
    let row = there index c.requires.row in
    let is = is_some (slice_get vehicle_rows index) (λ r. IsSet bytes None r index c.args.bits set.new.batch.items set.result) row.0 row.1 set.ensures.value in
    from_some (slice_get vehicle_rows index) (λ r. IsSet bytes c.args.allowed r index c.args.bits set.new.batch.items set.result) row.0 row.1
    (limit_met bytes c.args.allowed row.0 index c.args.bits set.new.batch.items set.result is (sym c.exceeds.ensures ∙ c.if-exceeds.false))
