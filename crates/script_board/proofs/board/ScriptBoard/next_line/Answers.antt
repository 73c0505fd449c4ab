use Rattle.std.proofs.Common.{◌≡◌, inl, inr, ap, sym, ◌∙◌, ◌+◌, ◌≤◌, subst, arith}
use Rattle.std.specs.Prelude.{ℕ, List}
use Rattle.script_lines.specs.Reading.{unread_of}
use Rattle.script_lines.specs.Seen.{script_line_of}
use Rattle.script_board.specs.Taking.{IsAhead, HasNoLine}
use Rattle.script_board.specs.Hearing.{since_taken}
use Rattle.script_board.proofs.Waits.{other_since}
use Rattle.script_lines.specs.declared.line.ScriptLine as read
use Rattle.script_board.specs.Marks.{marked}
use Rattle.script_board.specs.declared.ahead.Ahead.{Ahead}
use Rattle.script_board.specs.declared.board.ScriptMark.TheVariants.{Refused}
use Rattle.script_board.proofs.Unread.{unread_drop}
use Rattle.script_board.proofs.TakenLines.{at_some, at_none, took_same, took_refused, took_none, took_line}
use Rattle.script_board.proofs.board.ScriptBoard.next_line.Goals as goal
use Rattle.script_board.proofs.board.ScriptBoard.next_line.Goals.{in-LossLater+else-len-ge-WAITING_LOSSES, in_default}

pub returns-then-self-ge-SCRIPT_LINES-clause-took : goal.returns-then-self-ge-SCRIPT_LINES-clause-took
returns-then-self-ge-SCRIPT_LINES-clause-took g c = (0, took_same g.S.Source _ _ _ _ (ap (λ i. i.now) c.refuse.ensures.input) c.refuse.ensures.unread, omega (arith, c.refuse.ensures.taken))

pub returns-in-Err-clause-took : goal.returns-in-Err-clause-took
returns-in-Err-clause-took g c = (0, took_none g.S.Source _ _ _ _ c.in-Err.ensures.reads.0 c.in-Err.ensures.reads.1, omega arith)

pub returns-in-Ok-None-clause-took : goal.returns-in-Ok-None-clause-took
returns-in-Ok-None-clause-took g c = (
  0,
  took_refused g.S.Source _ _ _ _ _ _ c.in-Ok-None.ensures.reads.0 c.in-Ok-None.ensures.reads.1
      (ap (λ i. i.now) c.refuse-in-Ok-None.ensures.input) c.refuse-in-Ok-None.ensures.unread,
  omega (arith, c.refuse-in-Ok-None.ensures.taken),
)

pub returns-in-Ok-None-clause-why : goal.returns-in-Ok-None-clause-why
returns-in-Ok-None-clause-why g c =
    let none = at_none c.in-Ok-None.field-0 (HasNoLine (unread_of c.line_ahead.new.buffer.items c.line_ahead.new.ahead) (g.S.Source.tells_rest c.line_ahead.new.input) (g.S.Source.rest c.line_ahead.new.input))
    c.in-Ok-None.field-0-is c.in-Ok-None.ensures.none in
    let same : c.refuse-in-Ok-None.new.self.input.now ≡ c.line_ahead.new.input = ap (λ i. i.now) c.refuse-in-Ok-None.ensures.input in
    inr (
      inr (inl (subst (λ (u : List ℕ). HasNoLine u (g.S.Source.tells_rest c.refuse-in-Ok-None.new.self.input.now) (g.S.Source.rest c.refuse-in-Ok-None.new.self.input.now)) (sym c.refuse-in-Ok-None.ensures.unread)
          (subst (λ s. HasNoLine (unread_of c.line_ahead.new.buffer.items c.line_ahead.new.ahead) (g.S.Source.tells_rest s) (g.S.Source.rest s)) (sym same) none))),
      c.refuse-in-Ok-None.ensures.mark ∙ ap (λ (n : ℕ). marked c.args.self.now.mark (Refused (n + 1))) (sym c.refuse-in-Ok-None.ensures.line),
      ap g.S.Source.faults same ∙ c.in-Ok-None.ensures.cause,
    )

pub returns-then-len-ge-WAITING_LOSSES-clause-took : goal.returns-then-len-ge-WAITING_LOSSES-clause-took
returns-then-len-ge-WAITING_LOSSES-clause-took g c = (
  0,
  took_refused g.S.Source _ _ _ _ _ _ c.in-Ok-Some.ensures.reads.0 c.in-Ok-Some.ensures.reads.1
      (ap (λ i. i.now) c.refuse-then-len-ge-WAITING_LOSSES.ensures.input) c.refuse-then-len-ge-WAITING_LOSSES.ensures.unread,
  omega (arith, c.refuse-then-len-ge-WAITING_LOSSES.ensures.taken),
)

pub returns-clause-took : goal.returns-clause-took
returns-clause-took g c = (
  c.in-Ok-Some.next.bytes,
  took_line g.S.Source _ _ _ _ _ c.in-Ok-Some.ensures.reads.0 (script_line_of c.in-Ok-Some.next.line) c.in-Ok-Some.next.bytes c.in-Ok-Some.ensures.reads.1
      (at_some c.in-Ok-Some.field-0 c.in-Ok-Some.next
      (λ (next : Ahead). IsAhead (script_line_of next.line) next.bytes (unread_of c.line_ahead.new.buffer.items c.line_ahead.new.ahead) (g.S.Source.tells_rest c.line_ahead.new.input) (g.S.Source.rest c.line_ahead.new.input))
      c.in-Ok-Some.field-0-is c.in-Ok-Some.ensures.line)
      (unread_drop c.line_ahead.new.buffer.items c.line_ahead.new.ahead c.in-Ok-Some.next.bytes
      (at_some c.in-Ok-Some.field-0 c.in-Ok-Some.next (λ (next : Ahead). next.bytes ≤ c.line_ahead.new.ahead) c.in-Ok-Some.field-0-is c.in-Ok-Some.ensures.inside) c.in-Ok-Some.ensures.within),
  omega (arith, c.saturating_add-self.ensures, c.from.ensures),
)

pub returns-clause-since : goal.returns-clause-since
returns-clause-since g c = elim c.match-next.branch [
  | in-LossLater+else-len-ge-WAITING_LOSSES w ↦
      ap (λ s. s.1.1.1.1.1.1.1.1.1.1.1.0) w.self-is ∙ w.wait.ensures.since
      ∙ sym (ap (λ (l : read.ScriptLine). since_taken c.args.self.now.waiting.items c.args.self.now.since (script_line_of l)) w.in-LossLater.is)
  | in_default w ↦
      ap (λ s. s.1.1.1.1.1.1.1.1.1.1.1.0) w.self-is
      ∙ sym (other_since c.in-Ok-Some.next.line w.in_default.not-LossLater c.args.self.now.waiting.items c.args.self.now.since)
]
