use Rattle.std.proofs.Common.{◌≡◌, ◌-◌, length}
use Rattle.std.specs.List.{flat_map, range_with_len}
use Rattle.mav_messages.specs.declared.messages.To.TheVariants.{Station}
use Rattle.param_service.specs.Service.{show}
use Rattle.param_service.specs.Replies.{AreRepliesOf}
use Rattle.param_service.proofs.stream.Given as goal

abbrev pub invariant-loop-row : goal.invariant-loop-row
invariant-loop-row l = AreRepliesOf (flat_map (show (Station l.station) l.current) (range_with_len l.next (l.row - l.next))) l.replies.items × (length l.replies.items ≡ l.row - l.next)
