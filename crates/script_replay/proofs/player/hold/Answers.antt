use Rattle.std.proofs.Common.{refl, sym, ap, subst}
use Rattle.script_replay.specs.Steps.Places.{Starts, words_at}
use Rattle.script_replay.proofs.Boards.{begins, anew}
use Rattle.script_replay.proofs.player.hold.Goals as goal

pub returns-clause-lists : goal.returns-clause-lists
returns-clause-lists g c =
    let s = subst (λ p. Starts g.N.Start p) (sym c.in-Some.ensures.value) c.requires.starts in
    begins g.N.Start _ _ refl s.line s.waiting s.unread s.rest s.written s.tells_rest s.tells_written

pub returns-clause-anew : goal.returns-clause-anew
returns-clause-anew g c =
    let s = subst (λ p. Starts g.N.Start p) (sym c.in-Some.ensures.value) c.requires.starts in
    anew g.N.Start _ _ _ s.written

pub returns-clause-words : goal.returns-clause-words
returns-clause-words g c = ap words_at c.in-Some.ensures.value
