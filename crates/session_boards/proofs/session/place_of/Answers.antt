use Rattle.std.proofs.Common.{◌≡◌, ℕ, ◌+◌, ◌-◌, ◌≤◌, ◌%◌, length, take, sym, ◌∙◌, ap, arith}
use Rattle.session_boards.specs.Session.{messages_of, turns_from, sent_in}
use Rattle.session_boards.proofs.Turns.{here_turn, here_sent, next_turn, next_sent, counted}
use Rattle.session_boards.proofs.session.place_of.Goals as goal

pub returns-then-step-from-clause-some : goal.returns-then-step-from-clause-some
returns-then-step-from-clause-some c =
    let round = c.loop-round.round in
    let step = c.loop-round.step in
    let left : ℕ = c.args.rounds - round in
    let more = c.loop-round-test.true in
    let some : 1 ≤ left = omega (arith, more) in
    let wide = c.from.ensures in
    let many = c.messages_in-messages.ensures in
    let test = c.if-step-from.true in
    let le : step ≤ length (messages_of round) = omega (arith, wide, many, test) in
    record {
      step = le;
      turn = c.loop-round.invariant.turn ∙ here_turn round left step some le;
      sequence = c.loop-round.invariant.sequence ∙ ap (λ (n : ℕ). (c.loop-round.sequence + n) % 256) (here_sent round left step some le);
    }

pub loop-round-preserved : goal.loop-round-preserved
loop-round-preserved c =
    let round = c.loop-round.round in
    let step = c.loop-round.step in
    let left : ℕ = c.args.rounds - round in
    let next : ℕ = c.args.rounds - (round + 1) in
    let later : ℕ = step - (c.from-in-loop-round.result + 1) in
    let more = c.loop-round-test.true in
    let wide = c.from.ensures in
    let wide_too = c.from-in-loop-round.ensures in
    let many = c.messages_in-messages.ensures in
    let test = c.if-step-from.false in
    let rounds : left ≡ next + 1 = omega (arith, more) in
    let past : step ≡ later + (length (messages_of round) + 1) = omega (arith, wide, wide_too, many, test) in
    record {
      turn = c.loop-round.invariant.turn ∙ next_turn round left next step later rounds past;
      sequence = c.loop-round.invariant.sequence
          ∙ ap (λ (n : ℕ). (c.loop-round.sequence + n) % 256) (next_sent round left next step later rounds past)
          ∙ counted c.loop-round.sequence (length (messages_of round)) (sent_in (take later (turns_from (round + 1) next)))
          ∙ ap (λ (n : ℕ). ((c.loop-round.sequence + n) % 256 + sent_in (take later (turns_from (round + 1) next))) % 256) (sym many);
    }
