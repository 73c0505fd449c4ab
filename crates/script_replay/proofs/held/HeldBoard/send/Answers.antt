use Rattle.std.proofs.Common.{◌≡◌, ◌∙◌, inl, rules, arith, refl, ap, take, length, Some, sym, subst}
use Rattle.flash_traits.specs.Counts.{raised}
use Rattle.flash_traits.specs.Losses.{sent_frame, Unchanged, Sends}
use Rattle.std.specs.Prelude.{Option, None, List, ℕ, ◌++◌, drop}
use Rattle.std.proofs.lemmas.List.{take-append-drop, append_assoc}
use Rattle.script_board.proofs.Waits.{take_front}
use Rattle.script_board.specs.declared.board.ScriptMark.{ScriptMark}
use Rattle.script_board.specs.declared.board.ScriptMark.TheVariants.{Output}
use Rattle.script_replay.specs.Held.{input_marked, output_marked}
use Rattle.script_replay.proofs.Hearing.{not_on, none_input, none_output}
use Rattle.script_replay.proofs.Frames.{are_bytes}
use Rattle.script_replay.proofs.Lists.{none_is, lists_same, lists_sent, lists_unsent, stands_then}
use Rattle.script_replay.proofs.Left.{left_same, left_sent, left_unsent, after_either, after_unchanged, same_words}
use Rattle.script_replay.proofs.Steps.{held_passes}
use Rattle.script_replay.proofs.held.HeldBoard.send.Goals as goal

-- what was written keeps its front where more is
front_kept : (written old new more : List ℕ) → take (length written) old ≡ written → new ≡ old ++ more → take (length written) new ≡ written
front_kept written old new more kept grew =
    let whole : old ≡ written ++ drop (length written) old = sym (take-append-drop (length written) old) ∙ ap (λ (l : List ℕ). l ++ drop (length written) old) kept in
    let now : new ≡ written ++ (drop (length written) old ++ more) = grew ∙ ap (λ (l : List ℕ). l ++ more) whole ∙ append_assoc written (drop (length written) old) more in
    ap (λ (l : List ℕ). take (length written) l) now ∙ take_front (length written) written (drop (length written) old ++ more) refl

-- a mark of the sink is one
some_output : (m : Option ScriptMark) (P : Type 0) → m ≡ Some Output → m ≡ None → P
some_output m P some none = let both : Some Output ≡ None = sym some ∙ none in cc

pub returns-then-is_some-clause-lists : goal.returns-then-is_some-clause-lists
returns-then-is_some-clause-lists g c e f stood =
    inl (stands_then g.N.Start c.args.self.now.board _ _ _ _ _ _ _ _ _ _ _ (omega arith) (lists_same g.N.Start c.args.self.now.board _ refl refl refl refl refl refl _ _ _ _) stood)

pub returns-then-is_some-clause-time : goal.returns-then-is_some-clause-time
returns-then-is_some-clause-time g c =
    held_passes c.args.self.now _ _ _ (search rules)
    (λ o left. after_unchanged _ (Sends (sent_frame c.args.peer c.args.bytes.now)) o (left_same g.N.Start c.args.self.now.board _ _ _ _ refl (λ other. other) refl o left))
    (λ o left. after_unchanged _ (Sends (sent_frame c.args.peer c.args.bytes.now)) o (left_same g.N.Start c.args.self.now.board _ _ _ _ refl (λ other. other) refl o left))

pub invariant_of-self-in-Err : goal.invariant_of-self-in-Err
invariant_of-self-in-Err g c =
    let now = c.in-Err.ensures in
    let was = c.args.self.now in
    let on = none_is was.board.mark _ c.is_some.ensures c.if-is_some.false in
    record {
      same_input = ap (λ i. i.ghost_name) now.others.input ∙ was.same_input;
      same_out = now.same_out ∙ was.same_out;
      same_room = was.same_room;
      size = ap (λ x. x.sector_bytes) now.others.geometry ∙ was.size;
      on = λ is. some_output _ _ now.marked is;
      unfailed = λ is. some_output _ _ now.marked is;
      kept = λ told. front_kept g.N.Start.written _ _ _ (was.kept (now.told told)) (now.written told).1;
      input_counts = ap (λ i. g.S.Source.faults i.now) now.others.input ∙ none_input was.board.mark _ _ on was.input_counts ∙ ap (λ (m : Option ScriptMark). input_marked m g.N.Start.input_faults) (sym now.marked);
      output_counts = now.cause ∙ ap raised (none_output was.board.mark _ _ on was.output_counts) ∙ ap (λ (m : Option ScriptMark). output_marked m g.N.Start.output_faults) (sym now.marked);
    }

pub returns-in-Ok-clause-lists : goal.returns-in-Ok-clause-lists
returns-in-Ok-clause-lists g c e f =
    let now = c.in-Ok.ensures in
    let on = none_is c.args.self.now.board.mark _ c.is_some.ensures c.if-is_some.false in
    stands_then g.N.Start c.args.self.now.board _ _ _ _ _ _ _ _ _ _ _ (omega arith)
    (lists_sent g.N.Start c.args.self.now.board _ on now.others.input now.others.buffer now.others.ahead now.others.line now.others.waiting now.told
    (sent_frame c.args.peer c.args.bytes.now) (omega arith) (are_bytes c.args.bytes.now (λ k. let fits = c.type_inv.bytes k in omega (arith, fits))) now.unmarked now.written _ _ _ _)

pub returns-in-Ok-clause-time : goal.returns-in-Ok-clause-time
returns-in-Ok-clause-time g c =
    let now = c.in-Ok.ensures in
    let sent = left_sent g.N.Start c.args.self.now.board c.print_frame.new.self c.args.self.now.over c.args.self.now.heard c.args.self.now.buffer (sent_frame c.args.peer c.args.bytes.now) (omega arith)
    (are_bytes c.args.bytes.now (λ k. let fits = c.type_inv.bytes k in omega (arith, fits))) now.told now.unmarked (same_words c.args.self.now.board c.print_frame.new.self now.others.geometry now.others.image) c.args.self.now.kept now.written in
    held_passes c.args.self.now _ _ _ (search rules) (λ o left. after_either _ Unchanged _ o (sent o left)) sent

pub returns-in-Err-clause-lists : goal.returns-in-Err-clause-lists
returns-in-Err-clause-lists g c e f stood =
    let now = c.in-Err.ensures in
    let on = none_is c.args.self.now.board.mark _ c.is_some.ensures c.if-is_some.false in
    inl (stands_then g.N.Start c.args.self.now.board _ _ _ _ _ _ _ _ _ _ _ (omega arith)
    (lists_unsent g.N.Start c.args.self.now.board _ on now.others.input now.others.buffer now.others.ahead now.others.line now.others.waiting now.told now.marked _ _ _ _) stood)

pub returns-in-Err-clause-time : goal.returns-in-Err-clause-time
returns-in-Err-clause-time g c =
    held_passes c.args.self.now _ _ _ (search rules)
    (left_unsent g.N.Start c.args.self.now.board _ _ _ _ c.in-Err.ensures.marked _ _)
    (left_unsent g.N.Start c.args.self.now.board _ _ _ _ c.in-Err.ensures.marked _ _)
