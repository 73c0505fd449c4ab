use Rattle.std.proofs.Common.{List, arith, subst, sym}
use Rattle.storage_lines.specs.Lines.{after}
use Rattle.param_tree.specs.declared.Var.{Var}
use Rattle.param_records.specs.Changes.{SamePlaces}
use Rattle.mission_records.proofs.Setting.{back, in_range, set_ok, set_full}
use Rattle.mission_records.proofs.writing.set_total.Goals as goal

pub set_whole-requires : goal.set_whole-requires
set_whole-requires c =
    let rows = c.vehicle_table.result in (
      omega arith,
      (
        c.requires.size,
        (
          omega arith,
          (
            in_range rows c.args.number _ (back c.from-whole.result c.args.number c.from-whole.ensures c.requires.most) c.vehicle_table.ensures.rows c.requires.most,
            (c.requires.room, subst (λ (l : List Var). SamePlaces l c.args.current.now (after c.args.current.now c.args.batch.now.items)) (sym c.vehicle_table.ensures.rows) c.requires.stand),
          ),
        ),
      ),
    )

pub returns-clause-ok : goal.returns-clause-ok
returns-clause-ok c = set_ok c.set_whole.result c.vehicle_table.result c.args.number _ (back c.from-whole.result c.args.number c.from-whole.ensures c.requires.most) (after c.args.current.now c.args.batch.now.items) c.args.batch.now.items c.set_whole.new.batch.items c.vehicle_table.ensures.rows c.set_whole.ensures.ok

pub returns-clause-full : goal.returns-clause-full
returns-clause-full c = set_full c.set_whole.result c.vehicle_table.result c.args.number _ (back c.from-whole.result c.args.number c.from-whole.ensures c.requires.most) (after c.args.current.now c.args.batch.now.items) c.vehicle_table.ensures.rows c.set_whole.ensures.full
