use Rattle.std.proofs.Common.{◌≢◌, ℕ, List, sym, ◌∙◌, ap, subst, rules}
use Rattle.std.specs.declared.marker.Brand.{Brand}
use Rattle.flash_traits.specs.Budget.{budget_of}
use Rattle.sector_image.specs.Stands.{Stands}
use Rattle.script_board.specs.Image.{words_of}
use Rattle.replay.specs.Breaks.{OnForeign}
use Rattle.replay.specs.declared.Stop.TheVariants as stops
use Rattle.script_replay.specs.Steps.Places.{input_of, out_of, words_at, TellsRest, TellsWritten}
use Rattle.script_replay.specs.Steps.Replaying.{ReplaysAt, StopsAt}
use Rattle.script_replay.specs.Replays.{ReplaysPart}
use Rattle.script_replay.proofs.Replays.{begins_now, begins_at}
use Rattle.script_replay.proofs.Wholes.{placed_so, whole_by, part_never, foreign_never, part_by, foreign_by}
use Rattle.script_replay.proofs.replaying.replay_script.Goals as goal

pub replay_on-done-requires : goal.replay_on-done-requires
replay_on-done-requires g c = record { begins = begins_now c.placed-place.result c.placed-place.ensures.some c.placed-place.ensures.anew }

pub returns-in-Ok-clause-replayed : goal.returns-in-Ok-clause-replayed
returns-in-Ok-clause-replayed g c =
    let made = placed_so c.placed-place.result _ _ _ _ c.placed-place.ensures.some c.placed-place.ensures.these c.placed-place.ensures.image in
    let input_name = sym (ap input_of (sym c.in-Some.is) ∙ c.replay_on-done.ensures.holds.input ∙ made.input) in
    let out_name = sym (ap out_of (sym c.in-Some.is) ∙ c.replay_on-done.ensures.holds.out ∙ made.out) in
    whole_by c.placed-place.result _ _ _ _ made c.in-Some.board _ _ (search rules) (search rules)
    (subst (λ p. ReplaysAt (begins_at {M = Brand} c.placed-place.result) (words_at c.placed-place.result) p) c.in-Some.is c.in-Ok.ensures.replayed) c.one_of_both.ensures
    c.digest_of.result c.digest_of.ensures.digest

pub returns-in-Ok-clause-cut_short : goal.returns-in-Ok-clause-cut_short
returns-in-Ok-clause-cut_short g c =
    let made = placed_so c.placed-place.result _ _ _ _ c.placed-place.ensures.some c.placed-place.ensures.these c.placed-place.ensures.image in
    let input_name = sym (ap input_of (sym c.in-Some.is) ∙ c.replay_on-done.ensures.holds.input ∙ made.input) in
    let out_name = sym (ap out_of (sym c.in-Some.is) ∙ c.replay_on-done.ensures.holds.out ∙ made.out) in
    part_never c.placed-place.result _ _ _ _ made c.in-Some.board _ _ (search rules) (search rules)
    (subst (λ p. ReplaysAt (begins_at {M = Brand} c.placed-place.result) (words_at c.placed-place.result) p) c.in-Some.is c.in-Ok.ensures.replayed) c.one_of_both.ensures
    (λ stop text. ReplaysPart (budget_of c.args.sector_bytes) (words_of c.args.sector_bytes c.args.image.items) (g.S.Source.rest c.args.input.now) (g.S.Source.rest _) text stop)
    c.digest_of.result c.digest_of.ensures.foreign

pub returns-in-Ok-clause-foreign : goal.returns-in-Ok-clause-foreign
returns-in-Ok-clause-foreign g c =
    let made = placed_so c.placed-place.result _ _ _ _ c.placed-place.ensures.some c.placed-place.ensures.these c.placed-place.ensures.image in
    let input_name = sym (ap input_of (sym c.in-Some.is) ∙ c.replay_on-done.ensures.holds.input ∙ made.input) in
    let out_name = sym (ap out_of (sym c.in-Some.is) ∙ c.replay_on-done.ensures.holds.out ∙ made.out) in
    foreign_never c.placed-place.result _ _ _ _ made c.in-Some.board _ _ (search rules) (search rules)
    (subst (λ p. ReplaysAt (begins_at {M = Brand} c.placed-place.result) (words_at c.placed-place.result) p) c.in-Some.is c.in-Ok.ensures.replayed) c.one_of_both.ensures
    c.digest_of.result c.digest_of.ensures.foreign

pub returns-in-Err-clause-cut_short : goal.returns-in-Err-clause-cut_short
returns-in-Err-clause-cut_short g c =
    let made = placed_so c.placed-place.result _ _ _ _ c.placed-place.ensures.some c.placed-place.ensures.these c.placed-place.ensures.image in
    let input_name = sym (ap input_of (sym c.in-Some.is) ∙ c.replay_on-done.ensures.holds.input ∙ made.input) in
    let out_name = sym (ap out_of (sym c.in-Some.is) ∙ c.replay_on-done.ensures.holds.out ∙ made.out) in
    part_by c.placed-place.result _ _ _ _ made c.in-Some.board _ _ (search rules) (search rules) c.in-Err.stop
    (subst (λ p. c.in-Err.stop ≢ stops.Output → StopsAt (begins_at {M = Brand} c.placed-place.result) (words_at c.placed-place.result) p c.in-Err.stop) c.in-Some.is c.in-Err.ensures.cut_short)

pub returns-in-Err-clause-foreign : goal.returns-in-Err-clause-foreign
returns-in-Err-clause-foreign g c =
    let made = placed_so c.placed-place.result _ _ _ _ c.placed-place.ensures.some c.placed-place.ensures.these c.placed-place.ensures.image in
    let input_name = sym (ap input_of (sym c.in-Some.is) ∙ c.replay_on-done.ensures.holds.input ∙ made.input) in
    let out_name = sym (ap out_of (sym c.in-Some.is) ∙ c.replay_on-done.ensures.holds.out ∙ made.out) in
    foreign_by c.placed-place.result _ _ _ _ made c.in-Some.board _ _ (search rules) (search rules) c.in-Err.stop
    (subst (λ p. OnForeign (λ word. TellsRest p → TellsWritten p → (b : List ℕ) → Stands (words_at c.placed-place.result) b → ⊥) c.in-Err.stop) c.in-Some.is c.in-Err.ensures.foreign)
