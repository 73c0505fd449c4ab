-- The counts of faults of a script's board, over a reception and over a sending.
use Rattle.std.proofs.Common.{◌≡◌, ℕ, ◌<◌, ◌+◌, min, ◌^◌, ◌-◌, Result, Ok, Err, slice_index, refl, ap, arith}
use Rattle.flash_traits.specs.Causes.{HasCause, HasOneCause}
use Rattle.flash_traits.specs.Counts.{raised}
use Rattle.flash_traits.specs.declared.board.Fault.TheVariants.{Recv, Send}
use Rattle.flash_traits.specs.declared.stream.Source as source
use Rattle.flash_traits.specs.declared.stream.Sink as sink
use Rattle.flash_traits.proofs.Counting.{by_kind}
use Rattle.script_board.specs.Boards.{reception_faults}
use Rattle.script_board.specs.Lists.{failures}
use Rattle.script_board.specs.declared.board.ScriptBoard.{ScriptBoard}

module _ {S K T E : Type 0} (g : source.Ghosts S) (h : sink.Ghosts K) (a b : ScriptBoard S K g h) (others : (k : ℕ) → k < 3 → slice_index b.faults k ≡ slice_index a.faults k) where
  -- a reception
  pub recv_counts : (r : Result T E) → b.out ≡ a.out → HasOneCause (reception_faults g a) (reception_faults g b) r → HasCause Recv (failures g h a) (failures g h b) r
  recv_counts (Ok x) out cause = by_kind (failures g h b) (failures g h a) (others 0 (omega arith)) (others 1 (omega arith)) (others 2 (omega arith)) cause (ap (λ o. h.faults o.now) out)
  recv_counts (Err e) out cause = by_kind (failures g h b) _ (others 0 (omega arith)) (others 1 (omega arith)) (others 2 (omega arith)) cause (ap (λ o. h.faults o.now) out)

  -- a sending
  pub send_counts : (r : Result T E) → reception_faults g b ≡ reception_faults g a → HasOneCause (h.faults a.out.now) (h.faults b.out.now) r → HasCause Send (failures g h a) (failures g h b) r
  send_counts (Ok x) heard cause = by_kind (failures g h b) (failures g h a) (others 0 (omega arith)) (others 1 (omega arith)) (others 2 (omega arith)) heard cause
  send_counts (Err e) heard cause = by_kind (failures g h b) _ (others 0 (omega arith)) (others 1 (omega arith)) (others 2 (omega arith)) heard cause
