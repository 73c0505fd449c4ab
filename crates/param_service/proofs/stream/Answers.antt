use Rattle.std.proofs.Common.{◌≡◌, ℕ, ◌+◌, ◌-◌, List, ◌∷◌, [], ◌++◌, sym, subst, get_or, arith}
use Rattle.std.specs.List.{flat_map, range_with_len}
use Rattle.mav_messages.specs.declared.messages.To.TheVariants.{Station}
use Rattle.mav_messages.specs.declared.messages.Reply.{Reply}
use Rattle.param_service.specs.Service.{show}
use Rattle.param_service.specs.Replies.{AreRepliesOf}
use Rattle.param_service.proofs.Showing.{shows_more}
use Rattle.param_service.proofs.stream.Goals as goal

pub loop-row-preserved : goal.loop-row-preserved
loop-row-preserved c =
    let next = get_or c.state.inside.next_rows c.args.station 0 in
    let n = c.loop-row.row - next in
    let v = c.row_value-value.ensures in
    let more = shows_more (Station c.args.station) c.args.current.now next n c.loop-row.row v.0 c.row_value-value.result c.reply.result c.loop-row.replies.items (omega arith) v.1 v.2 c.reply.ensures c.loop-row.invariant.0 in
    let count : n + 1 ≡ c.loop-row.row + 1 - next = omega arith in (
      subst (λ (l : List Reply). AreRepliesOf (flat_map (show (Station c.args.station) c.args.current.now) (range_with_len next (c.loop-row.row + 1 - next))) l) (sym c.push.ensures.items)
          (subst (λ (k : ℕ). AreRepliesOf (flat_map (show (Station c.args.station) c.args.current.now) (range_with_len next k)) (c.loop-row.replies.items ++ c.reply.result ∷ [])) count more),
      omega (arith, c.push.ensures.len),
    )
