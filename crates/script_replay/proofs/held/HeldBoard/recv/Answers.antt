use Rattle.std.proofs.Common.{◌≡◌, ◌≤◌, [], ◌∷◌, length, take, length-append, rules, arith, refl, sym, ap, ◌∙◌, subst}
use Rattle.flash_traits.specs.Losses.{received, Unchanged}
use Rattle.script_replay.proofs.Lists.{none_is, none_no_output, lists_same, stands_then}
use Rattle.script_replay.proofs.Hearing.{not_on, none_input, unheard_input, unheard_output, lists_heard, lists_unheard}
use Rattle.script_replay.proofs.Left.{left_same, left_heard, after_either, same_words}
use Rattle.script_replay.proofs.Steps.{held_passes}
use Rattle.script_replay.proofs.held.HeldBoard.recv.Goals as goal

pub returns-then-is_some-clause-lists : goal.returns-then-is_some-clause-lists
returns-then-is_some-clause-lists g c e f =
    stands_then g.N.Start c.args.self.now.board _ _ _ _ _ _ _ _ _ _ _ (omega arith) (lists_same g.N.Start c.args.self.now.board _ refl refl refl refl refl refl _ _ _ _)

pub returns-then-is_some-clause-time : goal.returns-then-is_some-clause-time
returns-then-is_some-clause-time g c =
    held_passes c.args.self.now _ _ _ (search rules)
    (left_same g.N.Start c.args.self.now.board _ _ _ _ refl (λ other. other) refl)
    (left_same g.N.Start c.args.self.now.board _ _ _ _ refl (λ other. other) refl)

pub invariant_of-self-in-Err : goal.invariant_of-self-in-Err
invariant_of-self-in-Err g c =
    let now = c.in-Err.ensures in
    let was = c.args.self.now in
    let on = none_is was.board.mark _ c.is_some.ensures c.if-is_some.false in
    let off = now.marked (was.unfailed on) in
    record {
      same_input = now.same_input ∙ was.same_input;
      same_out = ap (λ o. o.ghost_name) now.others.out ∙ was.same_out;
      same_room = was.same_room;
      size = ap (λ x. x.sector_bytes) now.others.geometry ∙ was.size;
      on = λ is. not_on c.take_event.new.self.mark _ off is;
      unfailed = λ is. not_on c.take_event.new.self.mark _ off is;
      kept = λ told. subst (λ o. take (length g.N.Start.written) (g.K.Sink.written o.now) ≡ g.N.Start.written) (sym now.others.out) (was.kept (subst (λ o. g.K.Sink.tells_written o.now) now.others.out told));
      input_counts = unheard_input was.board.mark _ _ _ _ _ _ _ _ on (was.unfailed on) was.input_counts now.took.6;
      output_counts = ap (λ o. g.K.Sink.faults o.now) now.others.out ∙ unheard_output was.board.mark _ _ _ _ _ _ _ _ on (was.unfailed on) _ was.output_counts now.took.6;
    }

pub returns-in-Ok-clause-lists : goal.returns-in-Ok-clause-lists
returns-in-Ok-clause-lists g c e f =
    let now = c.in-Ok.ensures in
    let on = none_is c.args.self.now.board.mark _ c.is_some.ensures c.if-is_some.false in
    let none = none_is c.args.self.now.heard _ c.is_some-else-not-self.ensures c.if-is_some-2.false in
    stands_then g.N.Start c.args.self.now.board _ _ _ _ _ _ _ _ _ _ _ (omega (arith, length-append e (received c.in-Ok.event c.take_event.new.into ∷ [])))
    (lists_heard g.N.Start c.args.self.now.board _ on now.others.out now.took.0 now.took.1 now.took.2 now.took.4 _ _ _ _ c.in-Ok.event c.take_event.new.into _ none c.copy_from_slice.ensures.after now.took.5 now.took.6 now.unmarked now.took.7)

pub returns-in-Ok-clause-time : goal.returns-in-Ok-clause-time
returns-in-Ok-clause-time g c =
    let now = c.in-Ok.ensures in
    let none = none_is c.args.self.now.heard _ c.is_some-else-not-self.ensures c.if-is_some-2.false in
    let heard = left_heard g.N.Start c.args.self.now.board c.take_event.new.self c.args.self.now.over c.args.self.now.heard c.args.self.now.buffer c.in-Ok.event c.take_event.new.into c.copy_from_slice.new.self none
    c.copy_from_slice.ensures.after now.others.out now.unmarked (same_words c.args.self.now.board c.take_event.new.self now.others.geometry now.others.image) in
    held_passes c.args.self.now _ _ _ (search rules) (λ o left. after_either _ Unchanged _ o (heard o left)) heard

pub returns-in-Err-clause-lists : goal.returns-in-Err-clause-lists
returns-in-Err-clause-lists g c e f =
    let now = c.in-Err.ensures in
    let was = c.args.self.now in
    let on = none_is was.board.mark _ c.is_some.ensures c.if-is_some.false in
    let roomy = sym was.same_room ∙ c.if-not-self.false in
    let none = none_is was.heard _ c.is_some-else-not-self.ensures c.if-is_some-2.false in
    stands_then g.N.Start c.args.self.now.board _ _ _ _ _ _ _ _ _ _ _ (omega arith)
    (lists_unheard g.N.Start c.args.self.now.board _ on now.others.out now.took.0 now.took.1 now.took.2 now.took.4 _ _ _ _ _ roomy none (was.unfailed on) (none_input was.board.mark _ _ on was.input_counts) now.took.5 now.took.6 now.took.7)

pub returns-in-Err-clause-time : goal.returns-in-Err-clause-time
returns-in-Err-clause-time g c =
    let now = c.in-Err.ensures in
    let on = none_is c.args.self.now.board.mark _ c.is_some.ensures c.if-is_some.false in
    let words = same_words c.args.self.now.board c.take_event.new.self now.others.geometry now.others.image in
    held_passes c.args.self.now _ _ _ (search rules)
    (left_same g.N.Start c.args.self.now.board _ _ _ _ (ap (λ o. o.now) now.others.out) (λ other is. none_no_output (sym on ∙ is)) words)
    (left_same g.N.Start c.args.self.now.board _ _ _ _ (ap (λ o. o.now) now.others.out) (λ other is. none_no_output (sym on ∙ is)) words)
