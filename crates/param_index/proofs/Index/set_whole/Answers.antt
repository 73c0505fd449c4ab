use Rattle.std.proofs.Common.{◌≡◌, ℕ, refl, ◌∙◌, ap, subst}
use Rattle.std.specs.Prelude.{slice_get, IfSome, IsErr, ◌↔◌}
use Rattle.param_records.specs.Changes.{IsFull}
use Rattle.param_records.specs.Steps.{records_in_storage}
use Rattle.std.specs.Int.{w32}
use Rattle.std.proofs.Math.Facts.{to_z-of_z}
use Rattle.storage_lines.specs.Lines.{after}
use Rattle.param_records.specs.Patterns.{number_of_whole}
use Rattle.param_records.proofs.SetLemmas.{steps_of_whole, value_of_whole}
use Rattle.param_index.proofs.Index.set_whole.Goals as goal

pub returns-clause-steps : goal.returns-clause-steps
returns-clause-steps g c =
    let old = c.args.batch.now.items in
    let is : c.cast_unsigned.result ≡ number_of_whole c.args.number = c.cast_unsigned.ensures ∙ ap number_of_whole (to_z-of_z {w = w32} {z = c.args.number} c.ranges.number) in
    steps_of_whole c.store.result c.args.table.now c.args.var c.cast_unsigned.result c.args.number (after c.args.current.now old) old c.store.new.batch.items is c.requires.range c.store.ensures.steps

pub returns-clause-value : goal.returns-clause-value
returns-clause-value g c =
    let old = c.args.batch.now.items in
    let is : c.cast_unsigned.result ≡ number_of_whole c.args.number = c.cast_unsigned.ensures ∙ ap number_of_whole (to_z-of_z {w = w32} {z = c.args.number} c.ranges.number) in
    value_of_whole c.store.result c.args.table.now c.args.var c.cast_unsigned.result c.args.number c.args.current.now (after c.args.current.now old) old c.store.new.batch.items is c.requires.range refl c.store.ensures.ok c.store.ensures.steps

pub returns-clause-full : goal.returns-clause-full
returns-clause-full g c =
    let before = after c.args.current.now c.args.batch.now.items in
    let is : c.cast_unsigned.result ≡ number_of_whole c.args.number = c.cast_unsigned.ensures ∙ ap number_of_whole (to_z-of_z {w = w32} {z = c.args.number} c.ranges.number) in
    subst (λ (n : ℕ). IfSome (slice_get c.args.table.now c.args.var) (λ row. IsErr c.store.result ↔ IsFull (records_in_storage before) row n)) is c.store.ensures.full
