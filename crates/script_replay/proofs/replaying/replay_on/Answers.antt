use Rattle.std.proofs.Common.{◌≢◌, ℕ, IfErr, OnOk, sym, ◌∙◌, subst, List}
use Rattle.sector_image.specs.Stands.{Stands}
use Rattle.replay.specs.Breaks.{OnForeign}
use Rattle.replay.specs.declared.Stop.TheVariants as stops
use Rattle.script_replay.specs.Steps.Places.{words_at, TellsRest, TellsWritten}
use Rattle.script_replay.specs.Steps.Replaying.{Begins, ReplaysAt, StopsAt}
use Rattle.script_replay.proofs.Replays.{replays_so, stops_so, foreign_so}
use Rattle.script_replay.proofs.replaying.replay_on.Given as given
use Rattle.script_replay.proofs.replaying.replay_on.Goals as goal

begins : (g : given.Over) (c : goal.Then-printed g) → Begins g.M.Beginning c.take.result
begins g c = subst (λ p. Begins g.M.Beginning p) (sym c.take.ensures.value) c.requires.begins

pub returns-then-printed-clause-replayed : goal.returns-then-printed-clause-replayed
returns-then-printed-clause-replayed g c =
    let player = c.replay-done.new.player in
    subst (λ p. OnOk c.replay-done.result (ReplaysAt g.M.Beginning (words_at c.args.place.now) p)) (c.in-Some.is ∙ sym c.replace.ensures.after)
    (subst (λ p. OnOk c.replay-done.result (ReplaysAt g.M.Beginning (words_at p) player.place)) c.take.ensures.value
    (replays_so g.M.Beginning c.take.result (begins g c) player.place player.printed c.if-printed.true c.replay-done.result c.replay-done.ensures.replayed))

pub returns-then-printed-clause-cut_short : goal.returns-then-printed-clause-cut_short
returns-then-printed-clause-cut_short g c =
    let player = c.replay-done.new.player in
    subst (λ p. IfErr c.replay-done.result (λ stop. stop ≢ stops.Output → StopsAt g.M.Beginning (words_at c.args.place.now) p stop)) (c.in-Some.is ∙ sym c.replace.ensures.after)
    (subst (λ p. IfErr c.replay-done.result (λ stop. stop ≢ stops.Output → StopsAt g.M.Beginning (words_at p) player.place stop)) c.take.ensures.value
    (stops_so g.M.Beginning c.take.result (begins g c) player.place player.printed c.if-printed.true c.replay-done.result c.replay-done.ensures.cut_short c.replay-done.ensures.refused))

pub returns-then-printed-clause-foreign : goal.returns-then-printed-clause-foreign
returns-then-printed-clause-foreign g c =
    let player = c.replay-done.new.player in
    subst (λ p. IfErr c.replay-done.result (OnForeign (λ word. TellsRest p → TellsWritten p → (b : List ℕ) → Stands (words_at c.args.place.now) b → ⊥))) (c.in-Some.is ∙ sym c.replace.ensures.after)
    (subst (λ p. IfErr c.replay-done.result (OnForeign (λ word. TellsRest player.place → TellsWritten player.place → (b : List ℕ) → Stands (words_at p) b → ⊥))) c.take.ensures.value
    (foreign_so g.M.Beginning c.take.result (begins g c) player.place player.printed c.if-printed.true c.replay-done.result c.replay-done.ensures.foreign))
