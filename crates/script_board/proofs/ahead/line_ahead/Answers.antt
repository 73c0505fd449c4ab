use Rattle.std.proofs.Common.{ℕ, List, take, sym, subst, arith}
use Rattle.script_lines.specs.Script.{Spells}
use Rattle.script_lines.specs.Reading.{unread_of}
use Rattle.script_lines.specs.Seen.{script_line_of}
use Rattle.script_board.proofs.Unread.{unread_length, line_fits, line_ahead, last_ahead, no_line, no_last, as_line, as_last}
use Rattle.script_board.proofs.ahead.line_ahead.Goals as goal

pub line_at-requires-clause-inside : goal.line_at-requires-clause-inside
line_at-requires-clause-inside g c =
    let fits = line_fits (unread_of c.next_text.new.buffer.items c.next_text.new.ahead) c.in-Ok-Line.len (as_line (unread_of c.next_text.new.buffer.items c.next_text.new.ahead) c.in-Ok-Line.len _ (g.S.Source.tells_rest c.next_text.new.input) (g.S.Source.rest c.next_text.new.input) c.in-Ok-Line.field-0-is c.in-Ok-Line.ensures.finds) in
    let long = unread_length c.next_text.new.buffer.items c.next_text.new.ahead c.in-Ok-Line.ensures.within in
    omega (arith, fits, long)

pub returns-in-Some-clause-line : goal.returns-in-Some-clause-line
returns-in-Some-clause-line g c =
    line_ahead (unread_of c.next_text.new.buffer.items c.next_text.new.ahead) c.in-Ok-Line.len (script_line_of c.in-Some.line) (g.S.Source.tells_rest c.next_text.new.input) (g.S.Source.rest c.next_text.new.input) (as_line (unread_of c.next_text.new.buffer.items c.next_text.new.ahead) c.in-Ok-Line.len _ (g.S.Source.tells_rest c.next_text.new.input) (g.S.Source.rest c.next_text.new.input) c.in-Ok-Line.field-0-is c.in-Ok-Line.ensures.finds)
    (subst (λ (b : List ℕ). Spells (script_line_of c.in-Some.line) (take c.in-Ok-Line.len (unread_of b c.next_text.new.ahead))) c.as_slice.ensures.value c.in-Some.ensures.some)

pub returns-in-None-clause-none : goal.returns-in-None-clause-none
returns-in-None-clause-none g c =
    no_line (unread_of c.next_text.new.buffer.items c.next_text.new.ahead) c.in-Ok-Line.len (g.S.Source.tells_rest c.next_text.new.input) (g.S.Source.rest c.next_text.new.input) (as_line (unread_of c.next_text.new.buffer.items c.next_text.new.ahead) c.in-Ok-Line.len _ (g.S.Source.tells_rest c.next_text.new.input) (g.S.Source.rest c.next_text.new.input) c.in-Ok-Line.field-0-is c.in-Ok-Line.ensures.finds)
    (λ line spells. c.in-None.ensures.none line (subst (λ (b : List ℕ). Spells line (take c.in-Ok-Line.len (unread_of b c.next_text.new.ahead))) (sym c.as_slice.ensures.value) spells))

pub returns-in-Some-line_at-clause-line : goal.returns-in-Some-line_at-clause-line
returns-in-Some-line_at-clause-line g c =
    last_ahead (unread_of c.next_text.new.buffer.items c.next_text.new.ahead) c.in-Ok-Last.len (script_line_of c.in-Some-line_at.line) (g.S.Source.tells_rest c.next_text.new.input) (g.S.Source.rest c.next_text.new.input) (as_last (unread_of c.next_text.new.buffer.items c.next_text.new.ahead) c.in-Ok-Last.len _ (g.S.Source.tells_rest c.next_text.new.input) (g.S.Source.rest c.next_text.new.input) c.in-Ok-Last.field-0-is c.in-Ok-Last.ensures.finds)
    (subst (λ (b : List ℕ). Spells (script_line_of c.in-Some-line_at.line) (take c.in-Ok-Last.len (unread_of b c.next_text.new.ahead))) c.as_slice-in-Ok-Last.ensures.value c.in-Some-line_at.ensures.some)

pub returns-in-None-line_at-clause-none : goal.returns-in-None-line_at-clause-none
returns-in-None-line_at-clause-none g c =
    no_last (unread_of c.next_text.new.buffer.items c.next_text.new.ahead) c.in-Ok-Last.len (g.S.Source.tells_rest c.next_text.new.input) (g.S.Source.rest c.next_text.new.input) (as_last (unread_of c.next_text.new.buffer.items c.next_text.new.ahead) c.in-Ok-Last.len _ (g.S.Source.tells_rest c.next_text.new.input) (g.S.Source.rest c.next_text.new.input) c.in-Ok-Last.field-0-is c.in-Ok-Last.ensures.finds)
    (λ line spells. c.in-None-line_at.ensures.none line (subst (λ (b : List ℕ). Spells line (take c.in-Ok-Last.len (unread_of b c.next_text.new.ahead))) (sym c.as_slice-in-Ok-Last.ensures.value) spells))
