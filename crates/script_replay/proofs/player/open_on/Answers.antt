use Rattle.std.proofs.Common.{◌⊎◌, ◌≡◌, ◌≢◌, ℕ, false, [], Option, Some, Result, Err, IfErr, sym, ◌∙◌, ap, subst}
use Rattle.flash_traits.specs.declared.board.Fault.{Fault}
use Rattle.flash_traits.specs.declared.board.Fault.TheVariants.{Read, Flash}
use Rattle.flash_traits.specs.Budget.{budget_of}
use Rattle.flash_traits.specs.Words.{Words}
use Rattle.vehicle_node.specs.Standing.{Node}
use Rattle.replay.specs.Breaks.{OnStopped, OnForeign, OnRefused, after_break, input_counted, output_counted}
use Rattle.sector_image.specs.FirstBad.{FirstBad}
use Rattle.replay.specs.Playing.{OpenEnds, QuietUses}
use Rattle.replay.specs.declared.Break.{Break}
use Rattle.replay.specs.declared.Break.TheVariants.{Stopped}
use Rattle.replay.specs.declared.Stop.TheVariants as stops
use Rattle.script_board.specs.Boards.{words_in}
use Rattle.script_board.specs.declared.board.ScriptMark.{ScriptMark}
use Rattle.script_replay.specs.Held.{HasLists}
use Rattle.script_replay.specs.Steps.Answers.{ended}
use Rattle.script_replay.specs.Steps.Places.{Returns, Added, Printed, TellsWritten, words_at, waiting_at, input_faults_at, output_faults_at}
use Rattle.script_replay.proofs.Ended.{no_fault, no_attach, no_output, quiet_uses, on_foreign, on_refused, ended_input, ended_output}
use Rattle.script_replay.proofs.Heard.{waits_refused}
use Rattle.script_replay.proofs.Returned.{returned, opened, open_end, quiet_within, quiet_so, quiet_added}
use Rattle.script_replay.proofs.player.open_on.Given as given
use Rattle.script_replay.proofs.player.open_on.Goals as goal

-- how the call ended, by the mark of the board that is back
is_ended : (g : given.Over) (c : goal.After-ended g) → c.ended.result ≡ ended c.open-answer.new.board.board.mark c.open-answer.result
is_ended g c = c.ended.ensures ∙ ap (λ (m : Option ScriptMark). ended m c.open-answer.result) c.put_back.ensures.mark

lists : (g : given.Over) (c : goal.After-ended g)
    → (c.open-answer.new.board.over ≡ false) × HasLists g.N.Start c.open-answer.new.board.board c.open-answer.new.board.heard c.open-answer.new.board.buffer [] []
lists g c =
    quiet_within g.N.Start c.open-answer.new.board (c.open-answer.ensures.lists [] [] c.hold-held.ensures.lists)

pub returns-clause-back : goal.returns-clause-back
returns-clause-back g c = subst (λ p. Returns g.N.Start p) (sym c.put_back.ensures.back) (returned g.N.Start c.open-answer.new.board [] [] (lists g c).1)

pub returns-clause-added : goal.returns-clause-added
returns-clause-added g c = subst (λ p. Added g.N.Start p []) (sym c.put_back.ensures.back) (quiet_added g.N.Start c.open-answer.new.board (lists g c).1 c.requires.no_room)

pub returns-clause-printed : goal.returns-clause-printed
returns-clause-printed g c = λ other. subst (λ p. Printed g.N.Start p []) (sym c.put_back.ensures.back)
    (λ told. ((lists g c).1.printed (no_output c.ended.result c.open-answer.new.board.board.mark c.open-answer.result (is_ended g c) other) told).0)

-- how it ended from these words on, with sectors of this size
abbrev Ends : (g : given.Over) (c : goal.After-ended g) → ℕ → Words → Type 0
Ends g c size before = c.ended.result ≢ Err (Stopped stops.Output) → TellsWritten c.put_back.new.place → OpenEnds (budget_of size) c.ended.result before (words_at c.put_back.new.place)

pub returns-clause-ends : goal.returns-clause-ends
returns-clause-ends g c =
    let l = lists g c in
    let held = c.open-answer.new.board in
    let node = c.open-answer.ensures in
    subst (λ (w : Words). Ends g c g.N.Start.sector_bytes w) c.hold-held.ensures.words
    (subst (λ (k : ℕ). Ends g c k (words_in c.hold-held.result.board)) c.hold-held.result.size
    (open_end g.N.Start held l.1 c.requires.no_room c.put_back.new.place c.put_back.ensures.back l.0 _ c.hold-held.ensures.anew _ _ c.ended.result c.open-answer.result (is_ended g c)
    (opened _ held _ _ c.open-answer.result node.geometry node.stands node.within node.fits)
    (λ b stood. (node.losses b (λ t. stood)).here)
    (λ count b row stood. (node.guard count b (λ t. (row, stood))).here)
    node.worn_lines))

pub returns-clause-foreign : goal.returns-clause-foreign
returns-clause-foreign g c = subst (λ (x : Result Node Break). IfErr x (OnStopped (OnForeign (λ word. FirstBad (words_at c.args.place.now) word)))) (sym (is_ended g c))
    (on_foreign (λ word. FirstBad (words_at c.args.place.now) word) _ (λ word bad. subst (λ (w : Words). FirstBad w word) c.hold-held.ensures.words (bad tt)) c.open-answer.new.board.board.mark c.open-answer.result c.open-answer.ensures.foreign)

pub returns-clause-uses : goal.returns-clause-uses
returns-clause-uses g c = subst (λ p. QuietUses c.ended.result g.N.Start.waiting (waiting_at p)) (sym c.put_back.ensures.back)
    (subst (λ (x : Result Node Break). QuietUses x g.N.Start.waiting (waiting_at (Some c.open-answer.new.board.board))) (sym (is_ended g c))
    (quiet_uses c.open-answer.new.board.board.mark c.open-answer.result _ _ (quiet_so g.N.Start c.open-answer.new.board (lists g c).1 c.requires.no_room).1))

pub returns-clause-refused : goal.returns-clause-refused
returns-clause-refused g c = subst (λ (x : Result Node Break). IfErr x (OnStopped (OnRefused (λ line. ⊥)))) (sym (is_ended g c))
    (on_refused (λ line. ⊥) c.open-answer.new.board.board.mark c.open-answer.result
    (λ line is. waits_refused c.open-answer.new.board.board.mark line _ _ is (quiet_so g.N.Start c.open-answer.new.board (lists g c).1 c.requires.no_room).1))

pub returns-clause-input_counts : goal.returns-clause-input_counts
returns-clause-input_counts g c =
    ap input_faults_at c.put_back.ensures.back ∙ c.open-answer.new.board.input_counts ∙ ended_input c.open-answer.new.board.board.mark c.open-answer.result g.N.Start.input_faults
    ∙ ap (λ (x : Result (Node) Break). after_break input_counted x g.N.Start.input_faults) (sym (is_ended g c))

pub returns-clause-output_counts : goal.returns-clause-output_counts
returns-clause-output_counts g c =
    ap output_faults_at c.put_back.ensures.back ∙ c.open-answer.new.board.output_counts ∙ ended_output c.open-answer.new.board.board.mark c.open-answer.result g.N.Start.output_faults
    ∙ ap (λ (x : Result (Node) Break). after_break output_counted x g.N.Start.output_faults) (sym (is_ended g c))

pub ended-requires : goal.ended-requires
ended-requires g c = record {
  no_fault = λ none.
      let held = c.open-answer.new.board in
      no_fault (λ (kind : Fault). (kind ≡ Read) ⊎ (kind ≡ Flash)) no_attach held.attaches held.reads held.writes held.receptions held.sendings (held.on (sym c.put_back.ensures.mark ∙ none)) _
      Node c.open-answer.result c.open-answer.ensures.counts c.open-answer.ensures.fault;
}
