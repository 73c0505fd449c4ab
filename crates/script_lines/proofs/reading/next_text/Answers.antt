use Rattle.std.proofs.Common.{subst, arith}
use Rattle.script_lines.specs.Reading.{unread_of, HasNoLineFeed}
use Rattle.script_lines.specs.Reading.{FindsTooLong}
use Rattle.script_lines.proofs.Bytes.{too_long, too_many, slice_is_unread, unread_long}
use Rattle.script_lines.proofs.reading.next_text.Goals as goal

pub returns-then-k-clause-finds : goal.returns-then-k-clause-finds
returns-then-k-clause-finds g c =
    let big = c.if-k.true in
    let same = slice_is_unread c.reading.buffer.items c.as_slice.result.now c.len.result c.reading.ahead c.as_slice.ensures.value c.len.ensures.value in
    subst FindsTooLong same (too_long _ c.in-Some.k (omega (arith, big)) c.in-Some.ensures.inside c.in-Some.ensures.first)

pub returns-then-ahead-gt-SCRIPT_LINE_BYTES-clause-finds : goal.returns-then-ahead-gt-SCRIPT_LINE_BYTES-clause-finds
returns-then-ahead-gt-SCRIPT_LINE_BYTES-clause-finds g c =
    let same = slice_is_unread c.reading.buffer.items c.as_slice.result.now c.len.result c.reading.ahead c.as_slice.ensures.value c.len.ensures.value in
    let big = c.if-ahead-gt-SCRIPT_LINE_BYTES.true in
    let long = unread_long c.reading.buffer.items c.reading.ahead c.reading.invariant.within in
    too_many (unread_of c.reading.buffer.items c.reading.ahead) (omega (arith, big, long)) (subst HasNoLineFeed same c.in-None.ensures.none)
