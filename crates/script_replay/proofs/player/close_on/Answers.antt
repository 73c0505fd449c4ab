use Rattle.std.proofs.Common.{◌⊎◌, ◌≡◌, ◌≢◌, ℕ, false, [], Option, Some, Result, Err, IfErr, sym, ◌∙◌, ap, subst}
use Rattle.flash_traits.specs.declared.board.Fault.{Fault}
use Rattle.flash_traits.specs.declared.board.Fault.TheVariants.{Read, Flash}
use Rattle.flash_traits.specs.Budget.{budget_of}
use Rattle.replay.specs.Breaks.{OnStopped, OnRefused, after_break, input_counted, output_counted}
use Rattle.replay.specs.Playing.{CloseEnds, QuietUses}
use Rattle.replay.specs.declared.Break.{Break}
use Rattle.replay.specs.declared.Break.TheVariants.{Stopped}
use Rattle.replay.specs.declared.Stop.TheVariants as stops
use Rattle.script_board.specs.declared.board.ScriptMark.{ScriptMark}
use Rattle.script_replay.specs.Held.{HasLists}
use Rattle.script_replay.specs.Steps.Answers.{ended}
use Rattle.script_replay.specs.Steps.Places.{Returns, Added, Printed, TellsWritten, words_at, waiting_at, input_faults_at, output_faults_at}
use Rattle.script_replay.proofs.Ended.{no_fault, no_attach, no_output, quiet_uses, on_refused, ended_input, ended_output}
use Rattle.script_replay.proofs.Heard.{waits_refused}
use Rattle.script_replay.proofs.Returned.{returned, closed, close_end, quiet_within, quiet_so, quiet_added}
use Rattle.script_replay.proofs.player.close_on.Given as given
use Rattle.script_replay.proofs.player.close_on.Goals as goal

-- how the call ended, by the mark of the board that is back
is_ended : (g : given.Over) (c : goal.After-ended g) → c.ended.result ≡ ended c.close-answer.new.board.board.mark c.close-answer.result
is_ended g c = c.ended.ensures ∙ ap (λ (m : Option ScriptMark). ended m c.close-answer.result) c.put_back.ensures.mark

lists : (g : given.Over) (c : goal.After-ended g)
    → (c.close-answer.new.board.over ≡ false) × HasLists g.N.Start c.close-answer.new.board.board c.close-answer.new.board.heard c.close-answer.new.board.buffer [] []
lists g c =
    quiet_within g.N.Start c.close-answer.new.board (c.close-answer.ensures.lists [] [] c.hold-held.ensures.lists)

pub returns-clause-back : goal.returns-clause-back
returns-clause-back g c = subst (λ p. Returns g.N.Start p) (sym c.put_back.ensures.back) (returned g.N.Start c.close-answer.new.board [] [] (lists g c).1)

pub returns-clause-added : goal.returns-clause-added
returns-clause-added g c = subst (λ p. Added g.N.Start p []) (sym c.put_back.ensures.back) (quiet_added g.N.Start c.close-answer.new.board (lists g c).1 c.requires.no_room)

pub returns-clause-printed : goal.returns-clause-printed
returns-clause-printed g c = λ other. subst (λ p. Printed g.N.Start p []) (sym c.put_back.ensures.back)
    (λ told. ((lists g c).1.printed (no_output c.ended.result c.close-answer.new.board.board.mark c.close-answer.result (is_ended g c) other) told).0)

pub returns-clause-ends : goal.returns-clause-ends
returns-clause-ends g c =
    let l = lists g c in
    let held = c.close-answer.new.board in
    let node = c.close-answer.ensures in
    let fits = c.hold-held.ensures.fits c.args.node c.requires.fits in
    subst (λ (k : ℕ). c.ended.result ≢ Err (Stopped stops.Output) → TellsWritten c.put_back.new.place → CloseEnds k c.ended.result c.args.node (words_at c.put_back.new.place))
    (fits.budget ∙ ap budget_of c.hold-held.result.size)
    (close_end g.N.Start held l.1 c.requires.no_room c.put_back.new.place c.put_back.ensures.back l.0 _ c.hold-held.ensures.anew c.args.node.budget c.args.node c.ended.result c.close-answer.result (is_ended g c)
    (closed _ c.close-answer.result node.done)
    (λ b run sent m stood. (node.losses b run sent m (λ t. stood)).here)
    (λ count b run sent m stays. (node.guard count b run sent m (λ t. stays)).here)
    node.worn_lines)

pub returns-clause-uses : goal.returns-clause-uses
returns-clause-uses g c = subst (λ p. QuietUses c.ended.result g.N.Start.waiting (waiting_at p)) (sym c.put_back.ensures.back)
    (subst (λ (x : Result (Unit {0}) Break). QuietUses x g.N.Start.waiting (waiting_at (Some c.close-answer.new.board.board))) (sym (is_ended g c))
    (quiet_uses c.close-answer.new.board.board.mark c.close-answer.result _ _ (quiet_so g.N.Start c.close-answer.new.board (lists g c).1 c.requires.no_room).1))

pub returns-clause-refused : goal.returns-clause-refused
returns-clause-refused g c = subst (λ (x : Result (Unit {0}) Break). IfErr x (OnStopped (OnRefused (λ line. ⊥)))) (sym (is_ended g c))
    (on_refused (λ line. ⊥) c.close-answer.new.board.board.mark c.close-answer.result
    (λ line is. waits_refused c.close-answer.new.board.board.mark line _ _ is (quiet_so g.N.Start c.close-answer.new.board (lists g c).1 c.requires.no_room).1))

pub returns-clause-input_counts : goal.returns-clause-input_counts
returns-clause-input_counts g c =
    ap input_faults_at c.put_back.ensures.back ∙ c.close-answer.new.board.input_counts ∙ ended_input c.close-answer.new.board.board.mark c.close-answer.result g.N.Start.input_faults
    ∙ ap (λ (x : Result (Unit {0}) Break). after_break input_counted x g.N.Start.input_faults) (sym (is_ended g c))

pub returns-clause-output_counts : goal.returns-clause-output_counts
returns-clause-output_counts g c =
    ap output_faults_at c.put_back.ensures.back ∙ c.close-answer.new.board.output_counts ∙ ended_output c.close-answer.new.board.board.mark c.close-answer.result g.N.Start.output_faults
    ∙ ap (λ (x : Result (Unit {0}) Break). after_break output_counted x g.N.Start.output_faults) (sym (is_ended g c))

pub ended-requires : goal.ended-requires
ended-requires g c = record {
  no_fault = λ none.
      let held = c.close-answer.new.board in
      no_fault (λ (kind : Fault). (kind ≡ Read) ⊎ (kind ≡ Flash)) no_attach held.attaches held.reads held.writes held.receptions held.sendings (held.on (sym c.put_back.ensures.mark ∙ none)) _
      (Unit {0}) c.close-answer.result c.close-answer.ensures.counts c.close-answer.ensures.fault;
}
