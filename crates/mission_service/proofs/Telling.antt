-- What is told of two types.
use Rattle.std.proofs.Common.{ℕ, List, [], ◌∷◌, ◌++◌, sym, subst}
use Rattle.std.specs.List.{AllZip}
use Rattle.std.proofs.lemmas.List.{append-nil}
use Rattle.mav_messages.specs.declared.messages.Reply.{Reply}
use Rattle.mission_service.specs.Service.{Told}
use Rattle.mission_service.specs.Replies.{IsReplyOf, AreRepliesOf}

zipped : {A B : Type 0} (R : A → B → Type 0) (xs vs : List A) (ys ws : List B) → AllZip R xs ys → AllZip R vs ws → AllZip R (xs ++ vs) (ys ++ ws)
zipped R [] vs [] ws h k = k
zipped R [] vs (y ∷ ys) ws h k = absurd h
zipped R (x ∷ xs) vs [] ws h k = absurd h
zipped {A} {B} R (x ∷ xs) vs (y ∷ ys) ws h k = (h.0, zipped R xs vs ys ws h.1 k)

pub two_told : (station : ℕ) (xs vs : List Told) (ys ws : List Reply) → AreRepliesOf station xs ys → AreRepliesOf station vs ws → AreRepliesOf station (xs ++ (vs ++ [])) (ys ++ ws)
two_told station xs vs ys ws h k = zipped (IsReplyOf station) xs (vs ++ []) ys ws h (subst (λ (l : List Told). AreRepliesOf station l ws) (sym (append-nil vs)) k)
