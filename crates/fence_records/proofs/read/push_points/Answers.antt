use Rattle.std.proofs.Common.{◌≡◌, ◌-◌, ◌+◌, ◌*◌, ◌++◌, [], ◌∷◌, arith, ◌∙◌, sym, ap, drop, map}
use Rattle.std.proofs.lemmas.Grind.{common_steps}
use Rattle.std.proofs.lemmas.List.{take_rest}
use Rattle.fence_records.specs.Fence.{item, point_of, points_from}
use Rattle.fence_records.proofs.Points.{points_from-push, points_from-none, drop_twice}
use Rattle.fence_records.proofs.read.push_points.Goals as goal

pub loop-index-preserved : goal.loop-index-preserved
loop-index-preserved c =
    let k = c.args.count - (c.loop-index.index + 1) in
    let bytes = c.args.bytes.now in
    let further : drop 8 (drop (8 * c.loop-index.index) c.args.bytes.now) ≡ drop (8 * (c.loop-index.index + 1)) c.args.bytes.now =
    drop_twice (8 * c.loop-index.index) 8 c.args.bytes.now ∙ ap (λ n. drop n c.args.bytes.now) (omega arith) in
    let here : c.point_of.result ≡ point_of (drop (8 * c.loop-index.index) c.args.bytes.now) =
    c.point_of.ensures ∙ ap point_of (take_rest c.args.bytes.now (8 * c.loop-index.index)) in
    let pushed = c.push_item.ensures.items ∙ ap (λ z. c.loop-index.items.items ++ item c.args.command c.args.param1 z ∷ []) here in
    record {
      count = grind (arith, common_steps);
      kept = ap (λ t. c.push_item.new.items.items ++ map (item c.args.command c.args.param1) (points_from k t)) (sym further)
          ∙ (points_from-push c.args.command c.args.param1 c.loop-index.items.items c.push_item.new.items.items (c.args.count - c.loop-index.index) k (drop (8 * c.loop-index.index) c.args.bytes.now) (omega arith) pushed
          ∙ c.loop-index.invariant.kept);
    }

pub returns-clause-items : goal.returns-clause-items
returns-clause-items c = grind (arith, common_steps, points_from-none)
