use Rattle.std.proofs.Common.{◌≡◌, ◌≢◌, ◌⊎◌, ◌∙◌, ap, subst, refl, inl, inr, arith, append_assoc, take, ℕ, List, ◌++◌, ⊎_elim, Ok}
use Rattle.flash_traits.specs.Causes.{Rose}
use Rattle.storage_cli.specs.declared.replaying.Replayed.{Replayed}
use Rattle.storage_cli.specs.declared.replaying.Replayed.TheVariants as replayed
use Rattle.storage_cli.specs.Steps.Replaying.{OnWhole, OnPrefix, output_after}
use Rattle.storage_cli.specs.Statuses.{ToldOutput}
use Rattle.storage_cli.proofs.Completeness.{none_named, replay_complete}
use Rattle.storage_cli.proofs.Outcomes.{attached, board_same, board_stopped, input_told, output_rose, faults_none, faults_stopped, not_done, stops_early}
use Rattle.storage_cli.proofs.TextEndings.{never_0}
use Rattle.storage_cli.proofs.ReplayLines.{replay_done, prints_nothing, untouched, prints_stop, names_first, stopped, memory_or_part, input_rose, replay_stopped}
use Rattle.storage_cli.proofs.commands.run_replay.Goals as goal

pub returns-in-Ok-Whole-clause-known : goal.returns-in-Ok-Whole-clause-known
returns-in-Ok-Whole-clause-known g c = replay_done c.print.result.0 c.print.ensures.status

pub returns-in-Ok-Whole-clause-faults : goal.returns-in-Ok-Whole-clause-faults
returns-in-Ok-Whole-clause-faults g c = faults_none c.print.result.0 _ _ c.print.ensures.status

pub returns-in-Ok-Whole-clause-input_fault : goal.returns-in-Ok-Whole-clause-input_fault
returns-in-Ok-Whole-clause-input_fault g c = not_done c.print.result.0 9 c.print.ensures.status (λ z. omega (arith, z)) (λ z. omega (arith, z))

pub returns-in-Ok-Whole-clause-told : goal.returns-in-Ok-Whole-clause-told
returns-in-Ok-Whole-clause-told g c =
    let a = c.in-Ok-Whole in
    let before = g.K.Sink.faults c.args.out.now in
    let mid = g.K.Sink.faults c.replay_on.new.out in
    let same : mid ≡ before = subst (λ (r : Replayed). mid ≡ output_after (Ok r) before) a.field-0-is a.ensures.output_counts in
    record {
      board = board_same c.print.result.0 _ _ a.ensures.cause;
      input = inl a.ensures.input_counts;
      output = subst (λ (n : ℕ). ToldOutput c.print.result.0 n (g.K.Sink.faults c.print.new.out)) same c.print.ensures.counts;
    }

pub returns-in-Ok-Whole-clause-output : goal.returns-in-Ok-Whole-clause-output
returns-in-Ok-Whole-clause-output g c = output_rose c.print.result.0 _ _ (returns-in-Ok-Whole-clause-told g c).output

pub returns-in-Ok-Whole-clause-lines : goal.returns-in-Ok-Whole-clause-lines
returns-in-Ok-Whole-clause-lines g c = prints_nothing c.print.result.0 _ _ c.print.ensures.status

pub returns-in-Ok-Whole-clause-cut_short : goal.returns-in-Ok-Whole-clause-cut_short
returns-in-Ok-Whole-clause-cut_short g c = λ failed told.
    let grown = c.replay_on.ensures.grows (c.print.ensures.told told) in
    let part = c.print.ensures.cut failed told in
    let more : List ℕ = take part.0 c.as_slice.result.now in
    (grown.0 ++ more, part.1 ∙ ap (λ (l : List ℕ). l ++ more) grown.1 ∙ append_assoc (g.K.Sink.written c.args.out.now) grown.0 more)

pub returns-in-Ok-Whole-clause-unread : goal.returns-in-Ok-Whole-clause-unread
returns-in-Ok-Whole-clause-unread g c = λ is.
    ⊎_elim (not_done c.print.result.0 4 c.print.ensures.status (λ z. omega (arith, z)) (λ z. omega (arith, z))) (not_done c.print.result.0 13 c.print.ensures.status (λ z. omega (arith, z)) (λ z. omega (arith, z))) is

pub returns-in-Ok-Whole-clause-foreign : goal.returns-in-Ok-Whole-clause-foreign
returns-in-Ok-Whole-clause-foreign g c = not_done c.print.result.0 3 c.print.ensures.status (λ z. omega (arith, z)) (λ z. omega (arith, z))

pub returns-in-Ok-Whole-clause-foreign_where : goal.returns-in-Ok-Whole-clause-foreign_where
returns-in-Ok-Whole-clause-foreign_where g c = λ past told place bad. absurd (c.in-Ok-Whole.ensures.foreign_where told place bad)

-- the digest that was found is that of the script
whole_at : (P : List ℕ → Type 0) (r : Replayed) (digest : List ℕ) → r ≡ replayed.Whole digest → OnWhole r P → P digest
whole_at P r digest is holds = subst (λ (x : Replayed). OnWhole x P) is holds

pub returns-in-Ok-Whole-clause-replayed : goal.returns-in-Ok-Whole-clause-replayed
returns-in-Ok-Whole-clause-replayed g c = λ done tell.
    let a = c.in-Ok-Whole in
    let w = whole_at _ a.field-0 a.digest a.field-0-is a.ensures.whole (tell.0, tell.1, c.print.ensures.told tell.2) in
    record {
      text = w.0;
      digest = a.digest;
      written = c.print.ensures.line (λ z. omega (arith, z, done)) tell.2 ∙ ap (λ (l : List ℕ). l ++ c.as_slice.result.now) w.1
          ∙ append_assoc (g.K.Sink.written c.args.out.now) w.0 c.as_slice.result.now ∙ ap (λ (l : List ℕ). g.K.Sink.written c.args.out.now ++ (w.0 ++ l)) (c.as_slice.ensures.value ∙ c.digest_line-line.ensures);
      whole = w.2;
    }

pub returns-in-Ok-Whole-clause-stopped : goal.returns-in-Ok-Whole-clause-stopped
returns-in-Ok-Whole-clause-stopped g c = λ is.
    let never = λ (n : ℕ) (a : 0 ≢ n) (b : 10 ≢ n) (e : c.print.result.0 ≡ n). not_done c.print.result.0 n c.print.ensures.status a b {P = ⊥} e in
    absurd (⊎_elim (never 7 (λ z. omega (arith, z)) (λ z. omega (arith, z))) (⊎_elim (never 9 (λ z. omega (arith, z)) (λ z. omega (arith, z))) (never 11 (λ z. omega (arith, z)) (λ z. omega (arith, z)))) is)

pub returns-in-Ok-Whole-clause-memory : goal.returns-in-Ok-Whole-clause-memory
returns-in-Ok-Whole-clause-memory g c = not_done c.print.result.0 2 c.print.ensures.status (λ z. omega (arith, z)) (λ z. omega (arith, z))

pub returns-in-Ok-Whole-clause-complete : goal.returns-in-Ok-Whole-clause-complete
returns-in-Ok-Whole-clause-complete g c = λ nothing input tell b stands worn script.
    replay_complete c.print.result.0 _ _ _ _ nothing (returns-in-Ok-Whole-clause-output g c) (returns-in-Ok-Whole-clause-faults g c) (returns-in-Ok-Whole-clause-known g c)
    (not_done c.print.result.0 3 c.print.ensures.status (λ z. omega (arith, z)) (λ z. omega (arith, z))) worn (λ e. input (returns-in-Ok-Whole-clause-input_fault g c e)) script

pub returns-in-Ok-Prefix-clause-told : goal.returns-in-Ok-Prefix-clause-told
returns-in-Ok-Prefix-clause-told g c =
    let a = c.in-Ok-Prefix in
    let before = g.K.Sink.faults c.args.out.now in
    let now = g.K.Sink.faults c.replay_on.new.out in
    record {
      board = board_same 10 _ _ a.ensures.cause;
      input = inl a.ensures.input_counts;
      output = inl (refl, subst (λ (r : Replayed). now ≡ output_after (Ok r) before) a.field-0-is a.ensures.output_counts);
    }

pub returns-in-Ok-Prefix-clause-output : goal.returns-in-Ok-Prefix-clause-output
returns-in-Ok-Prefix-clause-output g c = λ failed.
    let P : Type 0 = Rose (g.K.Sink.faults c.args.out.now) (g.K.Sink.faults c.replay_on.new.out) in
    subst (λ (r : Replayed). OnPrefix r P) c.in-Ok-Prefix.field-0-is c.in-Ok-Prefix.ensures.output

pub returns-in-Ok-Prefix-clause-foreign_where : goal.returns-in-Ok-Prefix-clause-foreign_where
returns-in-Ok-Prefix-clause-foreign_where g c = λ past told place bad. absurd (c.in-Ok-Prefix.ensures.foreign_where told place bad)

pub returns-in-Err-clause-known : goal.returns-in-Err-clause-known
returns-in-Err-clause-known g c =
    replay_stopped g.K.Sink c.args.out.now c.replay_on.new.out c.print_stop.new.out c.print_stop.result.0 c.in-Err.stop c.print_stop.ensures.status c.print_stop.ensures.line c.print_stop.ensures.told c.replay_on.ensures.grows
    _ _ _ _ _ _ _ _ _ c.in-Err.ensures.stops

pub returns-in-Err-clause-faults : goal.returns-in-Err-clause-faults
returns-in-Err-clause-faults g c = faults_stopped c.print_stop.result.0 c.in-Err.stop c.print_stop.ensures.status _ _ c.in-Err.ensures.cause

pub returns-in-Err-clause-input_fault : goal.returns-in-Err-clause-input_fault
returns-in-Err-clause-input_fault g c = λ e.
    input_rose g.K.Sink c.args.out.now c.replay_on.new.out c.print_stop.new.out c.print_stop.result.0 c.in-Err.stop c.print_stop.ensures.status c.print_stop.ensures.line c.print_stop.ensures.told c.replay_on.ensures.grows
    _ _ _ _ _ _ _ _ _ e c.in-Err.ensures.stops

pub returns-in-Err-clause-told : goal.returns-in-Err-clause-told
returns-in-Err-clause-told g c = record {
  board = board_stopped c.print_stop.result.0 c.in-Err.stop c.print_stop.ensures.status _ _ c.in-Err.ensures.cause;
  input = input_told c.print_stop.result.0 c.in-Err.stop c.print_stop.ensures.status _ _ c.in-Err.ensures.input_counts;
  output = subst (λ (n : ℕ). ToldOutput c.print_stop.result.0 n (g.K.Sink.faults c.print_stop.new.out)) c.in-Err.ensures.output_counts c.print_stop.ensures.counts;
}

pub returns-in-Err-clause-output : goal.returns-in-Err-clause-output
returns-in-Err-clause-output g c = output_rose c.print_stop.result.0 _ _ (returns-in-Err-clause-told g c).output

pub returns-in-Err-clause-lines : goal.returns-in-Err-clause-lines
returns-in-Err-clause-lines g c =
    prints_stop g.K.Sink c.args.out.now c.replay_on.new.out c.print_stop.new.out c.print_stop.result.0 c.in-Err.stop c.print_stop.ensures.status c.print_stop.ensures.line c.print_stop.ensures.told c.replay_on.ensures.grows
    _ _ _ _ _ _ _ _ _ c.in-Err.ensures.stops

pub returns-in-Err-clause-cut_short : goal.returns-in-Err-clause-cut_short
returns-in-Err-clause-cut_short g c = λ failed told.
    let grown = c.replay_on.ensures.grows (c.print_stop.ensures.told told) in
    let part = c.print_stop.ensures.cut failed told in
    let more : List ℕ = take part.count part.text in
    (grown.0 ++ more, part.written ∙ ap (λ (l : List ℕ). l ++ more) grown.1 ∙ append_assoc (g.K.Sink.written c.args.out.now) grown.0 more)

pub returns-in-Err-clause-unread : goal.returns-in-Err-clause-unread
returns-in-Err-clause-unread g c = λ is.
    let same = λ (n : ℕ) (at : (n ≡ 4) ⊎ (n ≡ 13)) (e : c.print_stop.result.0 ≡ n).
    (untouched g.K.Sink c.args.out.now c.replay_on.new.out c.print_stop.new.out c.print_stop.result.0 c.in-Err.stop c.print_stop.ensures.status c.print_stop.ensures.line c.print_stop.ensures.told c.replay_on.ensures.grows
    _ _ _ _ _ _ _ _ _ n at e c.in-Err.ensures.stops).0 in
    ⊎_elim (same 4 (inl refl)) (same 13 (inr refl)) is

pub returns-in-Err-clause-foreign : goal.returns-in-Err-clause-foreign
returns-in-Err-clause-foreign g c = λ e tell.
    names_first g.K.Sink c.args.out.now c.replay_on.new.out c.print_stop.new.out c.print_stop.result.0 c.in-Err.stop c.print_stop.ensures.status c.print_stop.ensures.line c.print_stop.ensures.told c.replay_on.ensures.grows
    _ _ _ _ _ _ _ _ _ e c.in-Err.ensures.stops (tell.0, tell.1, c.print_stop.ensures.told tell.2)

pub returns-in-Err-clause-foreign_where : goal.returns-in-Err-clause-foreign_where
returns-in-Err-clause-foreign_where g c = λ past told place bad.
    stops_early Replayed c.print_stop.result.0 c.in-Err.stop c.print_stop.ensures.status (c.in-Err.ensures.foreign_where told place bad) past.attach

pub returns-in-Err-clause-same_words : goal.returns-in-Err-clause-same_words
returns-in-Err-clause-same_words g c = λ past.
    c.in-Err.ensures.same_words (attached Replayed c.print_stop.result.0 (g.B.Board.faults c.args.board.now) (g.B.Board.faults c.replay_on.new.board) c.in-Err.stop c.print_stop.ensures.status c.in-Err.ensures.cause past)

pub returns-in-Err-clause-replayed : goal.returns-in-Err-clause-replayed
returns-in-Err-clause-replayed g c = λ done. absurd (never_0 c.print_stop.result.0 c.in-Err.stop c.print_stop.ensures.status done)

pub returns-in-Err-clause-stopped : goal.returns-in-Err-clause-stopped
returns-in-Err-clause-stopped g c = λ is tell.
    stopped g.K.Sink c.args.out.now c.replay_on.new.out c.print_stop.new.out c.print_stop.result.0 c.in-Err.stop c.print_stop.ensures.status c.print_stop.ensures.line c.print_stop.ensures.told c.replay_on.ensures.grows
    _ _ _ _ _ _ _ _ _ is c.in-Err.ensures.stops (tell.0, tell.1, c.print_stop.ensures.told tell.2) tell.2

pub returns-in-Err-clause-memory : goal.returns-in-Err-clause-memory
returns-in-Err-clause-memory g c = λ e tell.
    memory_or_part g.K.Sink c.args.out.now c.replay_on.new.out c.print_stop.new.out c.print_stop.result.0 c.in-Err.stop c.print_stop.ensures.status c.print_stop.ensures.line c.print_stop.ensures.told c.replay_on.ensures.grows
    _ _ _ _ _ _ _ _ _ e c.in-Err.ensures.stops (tell.0, tell.1, c.print_stop.ensures.told tell.2) tell.2

pub returns-in-Err-clause-complete : goal.returns-in-Err-clause-complete
returns-in-Err-clause-complete g c = λ nothing input tell b stands worn script.
    replay_complete c.print_stop.result.0 _ _ _ _ nothing (returns-in-Err-clause-output g c) (returns-in-Err-clause-faults g c) (returns-in-Err-clause-known g c)
    (λ e. none_named (g.B.Board.tells c.replay_on.new.board) (g.B.Board.words c.args.board.now) _ b tell.0 stands (returns-in-Err-clause-foreign g c e tell)) worn (λ e. input (returns-in-Err-clause-input_fault g c e)) script
