use Rattle.std.proofs.Common.{ℕ, List, length, ◌<◌, subst, sym}
use Rattle.mav_messages.proofs.NotEmpty.{not_empty}
use Rattle.mav_messages.proofs.encoding.put_payload.Goals as goal

pub trim-requires : goal.trim-requires
trim-requires c =
    subst (λ (bytes : List ℕ). 0 < length bytes) (sym c.put_fields.ensures.bytes_are)
    (not_empty c.args.v2 c.args.message.now)
