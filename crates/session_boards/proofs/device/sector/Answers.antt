use Rattle.std.proofs.Common.{ℕ, List, slice_set, ap}
use Rattle.flash_traits.specs.declared.numbers.TheConstants.{SIGNATURE}
use Rattle.session_boards.proofs.device.sector.Goals as goal

pub returns-clause-items : goal.returns-clause-items
returns-clause-items c = ap (λ (halfwords : List ℕ). slice_set (slice_set halfwords 0 c.args.mark) 1 SIGNATURE) c.in_ok-halfwords.ensures.items
