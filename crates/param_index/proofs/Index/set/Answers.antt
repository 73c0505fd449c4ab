use Rattle.std.proofs.Common.{ℕ, refl, subst}
use Rattle.storage_lines.specs.declared.areas.Area.TheVariants.{Param}
use Rattle.storage_lines.specs.Areas.{logical_of}
use Rattle.storage_lines.specs.Lines.{after}
use Rattle.param_records.specs.declared.setting.SetError.{SetError}
use Rattle.param_records.specs.declared.setting.SetError.TheVariants.{Full}
use Rattle.param_records.specs.Records.{records_of, end_of}
use Rattle.param_records.specs.Changes.{IsFull}
use Rattle.param_records.proofs.PatternLemmas.{one_number, err_is, is_err_of}
use Rattle.param_records.proofs.SetLemmas.{steps_of_number, value_of_set}
use Rattle.param_index.proofs.SetLemmas.{still}
use Rattle.param_index.proofs.Index.set.Goals as goal

pub returns-in-Some-clause-full : goal.returns-in-Some-clause-full
returns-in-Some-clause-full g c =
    let B = after c.args.current.now c.args.batch.now.items in
    let row = c.row-row.result in
    let both = rw c.row-row.ensures.row at c.store.ensures.full in
    let refusal : SetError = Full (end_of (logical_of Param B)) in
    rw c.row-row.ensures.row (
      λ e. (c.in-Some.number, c.in-Some.ensures, both.0 (is_err_of c.store.result refusal e)),
      λ x. err_is c.store.result refusal (both.1 (subst (λ (n : ℕ). IsFull (records_of (logical_of Param B)) row n) (one_number row.kind c.args.bits x.0 c.in-Some.number x.1 c.in-Some.ensures) x.2)) c.store.ensures.end,
    )

pub returns-in-Some-clause-steps : goal.returns-in-Some-clause-steps
returns-in-Some-clause-steps g c =
    let old = c.args.batch.now.items in
    steps_of_number c.store.result c.args.table.now c.args.var c.args.bits c.in-Some.number c.row-row.result (after c.args.current.now old) old c.store.new.batch.items c.row-row.ensures.row c.in-Some.ensures c.store.ensures.steps

pub returns-in-Some-clause-value : goal.returns-in-Some-clause-value
returns-in-Some-clause-value g c =
    let old = c.args.batch.now.items in
    value_of_set c.store.result c.args.table.now c.args.var c.args.bits c.in-Some.number c.row-row.result c.args.current.now (after c.args.current.now old) old c.store.new.batch.items c.row-row.ensures.row c.in-Some.ensures refl c.store.ensures.ok c.store.ensures.steps

pub returns-in-None-clause-index : goal.returns-in-None-clause-index
returns-in-None-clause-index g c =
    still c.args.table.now c.args.current.now (after c.args.current.now c.args.batch.now.items) c.args.self.now c.requires.stand c.requires.index
