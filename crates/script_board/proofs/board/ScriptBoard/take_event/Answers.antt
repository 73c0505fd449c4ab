use Rattle.std.proofs.Common.{◌≡◌, inl, ◌+◌, ℕ, List, [], ◌∷◌, ◌++◌, length, refl, ap, sym, ◌∙◌, arith, length-append}
use Rattle.flash_traits.specs.Counts.{raised}
use Rattle.flash_traits.specs.Losses as link
use Rattle.script_lines.specs.Script as script
use Rattle.script_lines.specs.Script.{ScriptLine}
use Rattle.script_lines.specs.Seen.{script_line_of}
use Rattle.script_board.specs.Marks.{marked}
use Rattle.script_board.specs.declared.board.ScriptMark.TheVariants.{Lost}
use Rattle.script_board.specs.Taking.{events_in}
use Rattle.script_board.specs.Hearing.{loses_in, since_after}
use Rattle.script_board.proofs.TakenLines.{took_nothing, took_still, took_then}
use Rattle.script_board.proofs.Hearing.{AreLosses-append}
use Rattle.script_board.proofs.Waits.{waits_next, since_next, waits_nothing, since_nothing, taken_after, loses_more, waits_more, take_front, station_fits, only_none, only_then, loses_nothing, unheard_then}
use Rattle.script_board.proofs.board.ScriptBoard.take_event.Goals as goal

pub lines-init : goal.lines-init
lines-init g c = record {
  took = ([], 0, took_nothing g.S.Source _ _, omega arith, tt, omega arith, omega arith, refl, refl);
  few = λ few. few;
  mark = refl;
  hears = refl;
  source = refl;
  failures = refl;
  others = only_none c.args.self.now;
  same_input = refl;
  into = refl;
}

pub lines-preserved : goal.lines-preserved
lines-preserved g c =
    let i = c.lines.invariant.took in
    let t = c.in-Ok.ensures.took in
    let line = script_line_of c.in-Ok.line in
    let is : line ≡ script.LossLater c.in-LossLater.field-0.call c.in-LossLater.field-0.how = ap script_line_of c.in-LossLater.is in
    let long = waits_more line c.lines.self.waiting.items c.next_line.new.self.waiting.items c.in-Ok.ensures.waits in
    record {
      took = (
        i.0 ++ line ∷ [],
        i.1 + t.0,
        took_then g.S.Source _ _ _ _ _ _ i.0 (line ∷ []) i.1 t.0 i.2 t.1,
        omega (arith, i.3, t.2),
        AreLosses-append i.0 (line ∷ []) i.4 (ap loses_in is, tt),
        omega (arith, i.5, c.in-Ok.ensures.counted, length-append i.0 (line ∷ [])),
        omega (arith, i.6, long, loses_more i.0 line),
        waits_next _ _ _ i.0 line i.7 c.in-Ok.ensures.waits,
        since_next _ _ _ _ _ i.0 line i.7 i.8 (c.in-Ok.ensures.since ∙ taken_after _ _ line _ is refl),
      );
      few = λ few. c.in-Ok.ensures.few (c.lines.invariant.few few);
      mark = c.in-Ok.ensures.unmarked ∙ c.lines.invariant.mark;
      hears = c.in-Ok.ensures.cause ∙ c.lines.invariant.hears;
      source = c.in-Ok.ensures.source ∙ c.lines.invariant.source;
      failures = c.in-Ok.ensures.unfailed ∙ c.lines.invariant.failures;
      others = only_then c.args.self.now c.lines.self c.next_line.new.self c.lines.invariant.others c.in-Ok.ensures.others;
      same_input = c.in-Ok.ensures.same_input ∙ c.lines.invariant.same_input;
      into = c.lines.invariant.into;
    }

pub returns-in-LossNow-clause-took : goal.returns-in-LossNow-clause-took
returns-in-LossNow-clause-took g c =
    let i = c.lines.invariant.took in
    let t = c.in-Ok.ensures.took in
    let line = script_line_of c.in-Ok.line in
    let is : line ≡ script.LossNow = ap script_line_of c.in-LossNow.is in
    let long = waits_more line c.lines.self.waiting.items c.next_line.new.self.waiting.items c.in-Ok.ensures.waits in
    let same = ap (λ v. length v.items) c.lose_now.ensures.waits in
    let mark = c.in-Ok.ensures.unmarked ∙ c.lines.invariant.mark in (
      i.0 ++ line ∷ [],
      i.1 + t.0,
      took_still g.S.Source _ _ _ _ _ _ (i.0 ++ line ∷ []) (i.1 + t.0) (took_then g.S.Source _ _ _ _ _ _ i.0 (line ∷ []) i.1 t.0 i.2 t.1) (ap (λ i. i.now) c.lose_now.ensures.input) c.lose_now.ensures.unread,
      omega (arith, i.3, t.2, c.lose_now.ensures.taken),
      omega (arith, i.5, c.in-Ok.ensures.counted, c.lose_now.ensures.line, length-append i.0 (line ∷ [])),
      omega (arith, i.6, long, same, loses_more i.0 line),
      inl (
        i.0,
        ap (λ (l : ScriptLine). i.0 ++ l ∷ []) is,
        i.4,
        c.lose_now.ensures.mark ∙ ap (λ m. marked m Lost) mark,
        ap (λ i. g.S.Source.faults i.now) c.lose_now.ensures.input ∙ c.in-Ok.ensures.source ∙ c.lines.invariant.source,
      ),
      (λ few. let now = c.in-Ok.ensures.few (c.lines.invariant.few few) in omega (arith, now, i.6, long, loses_more i.0 line)),
      ap (λ v. v.items) c.lose_now.ensures.waits ∙ waits_next _ _ _ i.0 line i.7 c.in-Ok.ensures.waits,
      since_next _ c.lines.self.waiting.items _ c.lines.self.since _ i.0 line i.7 i.8 (c.lose_now.ensures.since ∙ sym (ap (λ (l : ScriptLine). since_after c.lines.self.waiting.items c.lines.self.since l) is)),
    )

pub returns-in-LossNow-clause-cause : goal.returns-in-LossNow-clause-cause
returns-in-LossNow-clause-cause g c = c.lose_now.ensures.cause ∙ ap raised (c.in-Ok.ensures.cause ∙ c.lines.invariant.hears)

pub returns-in-Idle-clause-took : goal.returns-in-Idle-clause-took
returns-in-Idle-clause-took g c =
    let i = c.lines.invariant.took in
    let t = c.in-Ok.ensures.took in
    let line = script_line_of c.in-Ok.line in
    let is : line ≡ script.Idle = ap script_line_of c.in-Idle.is in
    let long = waits_more line c.lines.self.waiting.items c.next_line.new.self.waiting.items c.in-Ok.ensures.waits in (
      i.0 ++ line ∷ [],
      i.1 + t.0,
      took_then g.S.Source _ _ _ _ _ _ i.0 (line ∷ []) i.1 t.0 i.2 t.1,
      omega (arith, i.3, t.2),
      omega (arith, i.5, c.in-Ok.ensures.counted, length-append i.0 (line ∷ [])),
      omega (arith, i.6, long, loses_more i.0 line),
      (i.0, line, refl, i.4, ap events_in is),
      (λ few. let now = c.in-Ok.ensures.few (c.lines.invariant.few few) in omega (arith, now, i.6, long, loses_more i.0 line)),
      waits_next _ _ _ i.0 line i.7 c.in-Ok.ensures.waits,
      since_next _ _ _ _ _ i.0 line i.7 i.8 (c.in-Ok.ensures.since ∙ taken_after _ _ line _ is refl),
    )

pub returns-in-End-clause-took : goal.returns-in-End-clause-took
returns-in-End-clause-took g c =
    let i = c.lines.invariant.took in
    let t = c.in-Ok.ensures.took in
    let line = script_line_of c.in-Ok.line in
    let is : line ≡ script.End = ap script_line_of c.in-End.is in
    let long = waits_more line c.lines.self.waiting.items c.next_line.new.self.waiting.items c.in-Ok.ensures.waits in (
      i.0 ++ line ∷ [],
      i.1 + t.0,
      took_then g.S.Source _ _ _ _ _ _ i.0 (line ∷ []) i.1 t.0 i.2 t.1,
      omega (arith, i.3, t.2),
      omega (arith, i.5, c.in-Ok.ensures.counted, length-append i.0 (line ∷ [])),
      ap length c.clear.ensures,
      (i.0, line, refl, i.4, ap events_in is),
      (λ few. let now = c.in-Ok.ensures.few (c.lines.invariant.few few) in omega (arith, now, i.6, long, loses_more i.0 line)),
      c.clear.ensures,
      since_next _ _ _ _ _ i.0 line i.7 i.8 (c.in-Ok.ensures.since ∙ taken_after _ _ line _ is refl),
    )

pub returns-in-Datagram-clause-bounds : goal.returns-in-Datagram-clause-bounds
returns-in-Datagram-clause-bounds g c = (
  station_fits (script_line_of c.in-Ok.line) c.in-Datagram.station c.in-Datagram.bytes.items c.in-Ok.ensures.spells.0 (ap script_line_of c.in-Datagram.is) c.in-Ok.ensures.spells.1,
  c.len-len.ensures.fits,
)

pub returns-in-Datagram-clause-took : goal.returns-in-Datagram-clause-took
returns-in-Datagram-clause-took g c =
    let i = c.lines.invariant.took in
    let t = c.in-Ok.ensures.took in
    let line = script_line_of c.in-Ok.line in
    let is : line ≡ script.Datagram c.in-Datagram.station c.in-Datagram.bytes.items = ap script_line_of c.in-Datagram.is in
    let long = waits_more line c.lines.self.waiting.items c.next_line.new.self.waiting.items c.in-Ok.ensures.waits in
    let copied : c.copy_from_slice.new.self ≡ c.in-Datagram.bytes.items = c.copy_from_slice.ensures.after ∙ c.as_slice.ensures.value in
    let front = take_front c.len-len.result c.copy_from_slice.new.self _ (c.len-len.ensures.value ∙ ap length (sym copied)) ∙ copied in (
      i.0 ++ line ∷ [],
      i.1 + t.0,
      took_then g.S.Source _ _ _ _ _ _ i.0 (line ∷ []) i.1 t.0 i.2 t.1,
      omega (arith, i.3, t.2),
      omega (arith, i.5, c.in-Ok.ensures.counted, length-append i.0 (line ∷ [])),
      omega (arith, i.6, long, loses_more i.0 line),
      (i.0, line, refl, i.4, ap events_in is ∙ ap (λ (b : List ℕ). link.Datagram c.in-Datagram.station b ∷ []) (sym front)),
      (λ few. let now = c.in-Ok.ensures.few (c.lines.invariant.few few) in omega (arith, now, i.6, long, loses_more i.0 line)),
      waits_next _ _ _ i.0 line i.7 c.in-Ok.ensures.waits,
      since_next _ _ _ _ _ i.0 line i.7 i.8 (c.in-Ok.ensures.since ∙ taken_after _ _ line _ is refl),
    )

pub returns-in-Err-clause-took : goal.returns-in-Err-clause-took
returns-in-Err-clause-took g c =
    let i = c.lines.invariant.took in
    let t = c.in-Err.ensures.took in
    let same = ap length c.in-Err.ensures.no_more in (
      i.0 ++ [],
      i.1 + t.0,
      took_then g.S.Source _ _ _ _ _ _ i.0 [] i.1 t.0 i.2 t.1,
      omega (arith, i.3, t.2),
      omega (arith, i.5, c.in-Err.ensures.same_line, length-append i.0 (let none : List ScriptLine = [] in none)),
      omega (arith, i.6, same, loses_nothing i.0),
      unheard_then _ _ _ _ _ _ _ _ _ _ _ c.lines.invariant.mark c.lines.invariant.failures c.lines.invariant.source (AreLosses-append i.0 [] i.4 tt) c.in-Err.ensures.why,
      (λ few. let now = c.lines.invariant.few few in omega (arith, now, i.6, loses_nothing i.0)),
      c.in-Err.ensures.no_more ∙ i.7 ∙ sym (waits_nothing c.args.self.now.waiting.items i.0),
      c.in-Err.ensures.same_since ∙ i.8 ∙ sym (since_nothing c.args.self.now.waiting.items c.args.self.now.since i.0),
    )
