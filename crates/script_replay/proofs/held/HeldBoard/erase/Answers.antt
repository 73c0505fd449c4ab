use Rattle.std.proofs.Common.{rules, arith, refl, sym, ap, ◌∙◌, subst}
use Rattle.flash_traits.specs.Words.{Erases, EraseMayLeave}
use Rattle.script_board.specs.Waiting.{first_leaves}
use Rattle.script_board.specs.declared.board.ScriptMark.TheVariants.{Lost}
use Rattle.script_board.proofs.Listed.{still_output}
use Rattle.script_board.proofs.Leaving.{leaves_may, erased_may, same_may}
use Rattle.script_replay.proofs.Lists.{none_is, lists_same, lists_device, lists_lost, stands_then}
use Rattle.script_replay.proofs.Left.{left_device}
use Rattle.script_replay.proofs.Steps.{held_changes}
use Rattle.script_replay.proofs.held.HeldBoard.erase.Goals as goal

pub returns-then-is_some-clause-changes : goal.returns-then-is_some-clause-changes
returns-then-is_some-clause-changes g c =
    let leaves = same_may c.args.region _ c.requires.sector c.are_halfwords.ensures in
    held_changes c.args.self.now _ (EraseMayLeave c.args.region) (EraseMayLeave c.args.region) refl leaves leaves
    (λ e f. stands_then g.N.Start c.args.self.now.board _ _ _ _ _ _ _ _ _ _ _ (omega arith) (lists_same g.N.Start c.args.self.now.board _ refl refl refl refl refl refl _ _ _ _))
    (search rules) (search rules) (search rules)
    (left_device g.N.Start c.args.self.now.board _ _ _ _ refl (λ other. other))

pub returns-in-Ok-clause-changes : goal.returns-in-Ok-clause-changes
returns-in-Ok-clause-changes g c =
    let now = c.in-Ok.ensures in
    held_changes c.args.self.now _ (EraseMayLeave c.args.region) (Erases c.args.region) now.others.geometry
    (subst (EraseMayLeave c.args.region _) (sym now.done) (erased_may c.args.region _ c.requires.sector)) now.done
    (λ e f. stands_then g.N.Start c.args.self.now.board _ _ _ _ _ _ _ _ _ _ _ (omega arith)
    (lists_device g.N.Start c.args.self.now.board _ now.others.input now.others.out now.others.buffer now.others.ahead now.others.line now.unmarked now.waits _ _ _ _))
    (search rules) (search rules) (search rules)
    (left_device g.N.Start c.args.self.now.board _ _ _ _ (ap (λ o. o.now) now.others.out) (λ other is. other (now.unmarked ∙ is)))

pub returns-in-Err-clause-changes : goal.returns-in-Err-clause-changes
returns-in-Err-clause-changes g c =
    let now = c.in-Err.ensures in
    let on = none_is c.args.self.now.board.mark _ c.is_some.ensures c.if-is_some.false in
    let leaves = leaves_may (first_leaves c.args.self.now.board.waiting.items) c.args.region _ _ c.requires.sector c.are_halfwords.ensures now.left in
    held_changes c.args.self.now _ (EraseMayLeave c.args.region) (EraseMayLeave c.args.region) now.others.geometry leaves leaves
    (λ e f. stands_then g.N.Start c.args.self.now.board _ _ _ _ _ _ _ _ _ _ _ (omega arith)
    (lists_lost g.N.Start c.args.self.now.board _ now.others.input now.others.out now.others.buffer now.others.ahead now.others.line on now.marked _ (now.lost.0 refl) now.fallen _ _ _ _))
    (search rules) (search rules) (search rules)
    (left_device g.N.Start c.args.self.now.board _ _ _ _ (ap (λ o. o.now) now.others.out) (λ other. still_output c.args.self.now.board.mark Lost (λ is. other (now.marked ∙ is))))
