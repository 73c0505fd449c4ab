use Rattle.std.proofs.Common.{◌⊎◌, ◌≡◌, ℕ, false, List, [], Option, Some, Result, IfOk, IfErr, sym, ◌∙◌, ap, subst}
use Rattle.flash_traits.specs.declared.board.Fault.{Fault}
use Rattle.flash_traits.specs.declared.board.Fault.TheVariants.{Read, Flash, Recv, Send}
use Rattle.flash_traits.specs.Budget.{budget_of}
use Rattle.replay.specs.Breaks.{OnStopped, OnRefused, after_break, input_counted, output_counted}
use Rattle.replay.specs.Playing.{GoesOn}
use Rattle.replay.specs.declared.Break.{Break}
use Rattle.script_replay.specs.Held.{HasLists}
use Rattle.script_board.specs.declared.board.ScriptMark.{ScriptMark}
use Rattle.script_replay.specs.Steps.Answers.{ended}
use Rattle.script_replay.specs.Steps.Places.{Plays, RefusesAt, Returns, input_faults_at, output_faults_at}
use Rattle.script_replay.proofs.Boards.{listed}
use Rattle.script_replay.proofs.Played.{event_within, event_end, goes_same, wears_heard}
use Rattle.script_replay.proofs.Uses.{CameBy}
use Rattle.flash_traits.specs.Losses.{Received, SentFrame}
use Rattle.vehicle_node.specs.declared.Turn.{Turn}
use Rattle.script_replay.proofs.Ended.{no_fault, no_attach_of_four, on_refused, ended_input, ended_output}
use Rattle.script_replay.proofs.Heard.{refused_so}
use Rattle.script_replay.proofs.Returned.{returned}
use Rattle.script_replay.proofs.player.event_on.Given as given
use Rattle.script_replay.proofs.player.event_on.Goals as goal

-- how the call ended, by the mark of the board that is back
is_ended : (g : given.Over) (c : goal.After-ended g) → c.ended.result ≡ ended c.event-answer.new.board.board.mark c.event-answer.result
is_ended g c = c.ended.ensures ∙ ap (λ (m : Option ScriptMark). ended m c.event-answer.result) c.put_back.ensures.mark

pub record Heard (g : given.Over) (c : goal.After-ended g) : Type 0 where
  pub events : List Received
  pub frames : List SentFrame
  pub came : CameBy c.event-answer.result events
  pub goes : IfOk c.event-answer.result (λ turn. GoesOn c.args.node.now c.event-answer.new.self events frames)
  pub in_room : c.event-answer.new.board.over ≡ false
  pub lists : HasLists g.N.Start c.event-answer.new.board.board c.event-answer.new.board.heard c.event-answer.new.board.buffer events frames

heard : (g : given.Over) (c : goal.After-ended g) → Heard g c
heard g c =
    let l = listed _ c.args.node.now c.event-answer.new.self _ c.event-answer.new.board c.event-answer.result c.event-answer.ensures.finished c.event-answer.ensures.cut_lists
    c.hold-held.ensures.lists in
    let w = event_within g.N.Start c.event-answer.new.board l.events l.frames c.requires.room l.few l.lists in
    record { events = l.events; frames = l.frames; came = l.came; goes = l.goes; in_room = w.0; lists = w.1 }

pub returns-clause-back : goal.returns-clause-back
returns-clause-back g c =
    let l = heard g c in
    subst (λ p. Returns g.N.Start p) (sym c.put_back.ensures.back) (returned g.N.Start c.event-answer.new.board l.events l.frames l.lists)

pub returns-clause-plays : goal.returns-clause-plays
returns-clause-plays g c =
    let l = heard g c in
    let n = g.N.Start in
    let old = c.args.node.now in
    let new = c.event-answer.new.self in
    let held = c.event-answer.new.board in
    let node = c.event-answer.ensures in
    let fits = c.hold-held.ensures.fits old c.requires.fits in
    subst (λ p. Plays n (budget_of n.sector_bytes) p old new c.ended.result) (sym c.put_back.ensures.back)
    (subst (λ (k : ℕ). Plays n k (Some held.board) old new c.ended.result) (fits.budget ∙ ap budget_of c.hold-held.result.size)
    (event_end n held l.events l.frames _ c.hold-held.ensures.anew old.budget old new c.ended.result c.event-answer.result l.in_room l.lists c.requires.room (is_ended g c) l.came
    (goes_same _ c.hold-held.result held old new l.events l.frames c.event-answer.result node.geometry fits.budget node.fits l.goes)
    (λ b run sent m stood. (node.losses b run sent m (λ t. stood)).here)
    (λ count b run sent m stays. (node.guard count b run sent m (λ t. stays)).here)
    _ (λ full w. wears_heard n held c.requires.room old w.event (w.lists [] [] c.hold-held.ensures.lists) (w.lines tt)) node.worn_lines))

pub returns-clause-refused : goal.returns-clause-refused
returns-clause-refused g c =
    let l = heard g c in
    let b = c.event-answer.new.board.board in
    subst (λ p. IfErr c.ended.result (OnStopped (OnRefused (RefusesAt p)))) (sym c.put_back.ensures.back)
    (subst (λ (x : Result Turn Break). IfErr x (OnStopped (OnRefused (RefusesAt (Some b))))) (sym (is_ended g c))
    (on_refused (RefusesAt (Some b)) b.mark c.event-answer.result
    (λ line is. refused_so c.event-answer.new.board.buffer b.mark _ _ _ _ _ _ l.lists.lines c.event-answer.new.board.heard _ line l.lists.hears is)))

pub returns-clause-input_counts : goal.returns-clause-input_counts
returns-clause-input_counts g c =
    ap input_faults_at c.put_back.ensures.back ∙ c.event-answer.new.board.input_counts ∙ ended_input c.event-answer.new.board.board.mark c.event-answer.result g.N.Start.input_faults
    ∙ ap (λ (x : Result (Turn) Break). after_break input_counted x g.N.Start.input_faults) (sym (is_ended g c))

pub returns-clause-output_counts : goal.returns-clause-output_counts
returns-clause-output_counts g c =
    ap output_faults_at c.put_back.ensures.back ∙ c.event-answer.new.board.output_counts ∙ ended_output c.event-answer.new.board.board.mark c.event-answer.result g.N.Start.output_faults
    ∙ ap (λ (x : Result (Turn) Break). after_break output_counted x g.N.Start.output_faults) (sym (is_ended g c))

pub ended-requires : goal.ended-requires
ended-requires g c = record {
  no_fault = λ none.
      let held = c.event-answer.new.board in
      no_fault (λ (kind : Fault). (kind ≡ Read) ⊎ ((kind ≡ Flash) ⊎ ((kind ≡ Recv) ⊎ (kind ≡ Send)))) no_attach_of_four held.attaches held.reads held.writes held.receptions held.sendings (held.on (sym c.put_back.ensures.mark ∙ none)) _
      Turn c.event-answer.result c.event-answer.ensures.counts c.event-answer.ensures.fault;
}
