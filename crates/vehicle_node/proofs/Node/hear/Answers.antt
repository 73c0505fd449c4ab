use Rattle.std.proofs.Common.{◌≡◌, ℕ, ◌+◌, ◌-◌, List, length, take, drop, sym, ap, subst, ◌∙◌, arith, Ok, Err}
use Rattle.std.proofs.lemmas.Grind.{common_steps}
use Rattle.std.proofs.lemmas.List.{take_rest}
use Rattle.vehicle_node.specs.Steps.Calls.{Keeps, OfAnswer}
use Rattle.vehicle_node.specs.Steps.Hearing.{IsFront, HearDone}
use Rattle.vehicle_node.proofs.Heard.{hear_none, hear_next, hear_cut, hear_more, hear_more_cut}
use Rattle.vehicle_node.proofs.Keeping.{keeps_none, keeps_then}
use Rattle.vehicle_node.proofs.Passing.{error_passed}
use Rattle.vehicle_node.proofs.Node.hear.Goals as goal

-- so many bytes from a place on, as the code has them
piece : (bytes : List ℕ) (at count : ℕ) → take (at + count - at) (drop at bytes) ≡ take count (drop at bytes)
piece bytes at count =
    let e : at + count - at ≡ count = omega arith in
    ap (λ (n : ℕ). take n (drop at bytes)) e

pub loop-at-init : goal.loop-at-init
loop-at-init g c = record {
  inside = omega arith;
  done = hear_none g.B.Board g.met.B.Board.reads c.args.self.now c.args.board.now c.args.station c.requires.fits c.keeps_a_rest.ensures;
  fits = c.requires.fits;
  keeps = keeps_none g.B.Board OfAnswer c.args.board.now;
}

pub hear_front-requires-clause-front : goal.hear_front-requires-clause-front
hear_front-requires-clause-front g c =
    let bytes = c.args.bytes.now in
    let at = c.loop-at.at in
    let count = c.in-Some.count in
    subst (λ (l : List ℕ). IsFront c.args.station l c.loop-at.self.rests) (ap (take count) (take_rest bytes at) ∙ sym (piece bytes at count)) c.in-Some.ensures.2

pub returns-in_err-hear_front-in-Some-clause-done : goal.returns-in_err-hear_front-in-Some-clause-done
returns-in_err-hear_front-in-Some-clause-done g c =
    let bytes = c.args.bytes.now in
    let at = c.loop-at.at in
    let count = c.in-Some.count in
    hear_more_cut g.B.Board c.args.self.now c.args.board.now c.args.station bytes at count c.loop-at.self c.loop-at.board c.in_err-hear_front-in-Some.field-0.0 c.from_residual.result c.hear_front.new.self c.hear_front.new.board
    c.from_residual.ensures.1 c.loop-at.invariant.done
    (subst (λ (l : List ℕ). HearDone g.B.Board c.loop-at.self c.loop-at.board c.args.station l (Err c.in_err-hear_front-in-Some.field-0.0) c.hear_front.new.self c.hear_front.new.board) (piece bytes at count) c.in_err-hear_front-in-Some.ensures.done)

pub loop-at-preserved-in-Some : goal.loop-at-preserved-in-Some
loop-at-preserved-in-Some g c =
    let bytes = c.args.bytes.now in
    let at = c.loop-at.at in
    let count = c.in-Some.count in
    let i = c.loop-at.invariant in
    let e = c.in_ok-hear_front-in-Some.ensures in
    let long : length (take (length bytes - at) (drop at bytes)) ≡ length bytes - at = grind (arith, common_steps) in
    record {
      inside = omega (arith, c.in-Some.ensures.1, long, i.inside);
      done = hear_more g.B.Board c.args.self.now c.args.board.now c.args.station bytes at count c.loop-at.self c.loop-at.board (Ok tt) c.hear_front.new.self c.hear_front.new.board i.done
          (subst (λ (l : List ℕ). HearDone g.B.Board c.loop-at.self c.loop-at.board c.args.station l (Ok tt) c.hear_front.new.self c.hear_front.new.board) (piece bytes at count) e.done);
      fits = e.fits;
      keeps = keeps_then g.B.Board OfAnswer OfAnswer c.args.board.now c.loop-at.board (Ok tt) c.hear_front.new.board (λ k is. is) i.keeps e.keeps;
    }

pub returns-in_err-hear_byte-in-None-clause-done : goal.returns-in_err-hear_byte-in-None-clause-done
returns-in_err-hear_byte-in-None-clause-done g c =
    hear_cut g.B.Board c.args.self.now c.args.board.now c.args.station c.args.bytes.now c.loop-at.at (omega (arith, c.loop-at-test.true)) c.loop-at.self c.loop-at.board c.in_err-hear_byte-in-None.field-0.0 c.from_residual-in_err-hear_byte-in-None.result c.hear_byte.new.self c.hear_byte.new.board
    c.from_residual-in_err-hear_byte-in-None.ensures.1 c.loop-at.invariant.done c.in_err-hear_byte-in-None.ensures.done

pub loop-at-preserved : goal.loop-at-preserved
loop-at-preserved g c =
    let i = c.loop-at.invariant in
    let e = c.in_ok-hear_byte-in-None.ensures in
    record {
      inside = omega (arith, c.loop-at-test.true);
      done = hear_next g.B.Board c.args.self.now c.args.board.now c.args.station c.args.bytes.now c.loop-at.at (omega (arith, c.loop-at-test.true)) c.loop-at.self c.loop-at.board (Ok tt) c.hear_byte.new.self c.hear_byte.new.board i.done e.done;
      fits = e.fits;
      keeps = keeps_then g.B.Board OfAnswer OfAnswer c.args.board.now c.loop-at.board (Ok tt) c.hear_byte.new.board (λ k is. is) i.keeps e.keeps;
    }

pub returns-in_err-hear_front-in-Some-clause-keeps : goal.returns-in_err-hear_front-in-Some-clause-keeps
returns-in_err-hear_front-in-Some-clause-keeps g c =
    error_passed c.from_residual.result c.in_err-hear_front-in-Some.field-0.0 (λ r. Keeps g.B.Board OfAnswer c.args.board.now r c.hear_front.new.board) c.from_residual.ensures.1
    (keeps_then g.B.Board OfAnswer OfAnswer c.args.board.now c.loop-at.board _ c.hear_front.new.board (λ k is. is) c.loop-at.invariant.keeps c.in_err-hear_front-in-Some.ensures.keeps)

pub returns-in_err-hear_byte-in-None-clause-keeps : goal.returns-in_err-hear_byte-in-None-clause-keeps
returns-in_err-hear_byte-in-None-clause-keeps g c =
    error_passed c.from_residual-in_err-hear_byte-in-None.result c.in_err-hear_byte-in-None.field-0.0 (λ r. Keeps g.B.Board OfAnswer c.args.board.now r c.hear_byte.new.board) c.from_residual-in_err-hear_byte-in-None.ensures.1
    (keeps_then g.B.Board OfAnswer OfAnswer c.args.board.now c.loop-at.board _ c.hear_byte.new.board (λ k is. is) c.loop-at.invariant.keeps c.in_err-hear_byte-in-None.ensures.keeps)
