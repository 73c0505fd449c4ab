use Rattle.std.proofs.Common.{◌≡◌, ℕ, true, ◌-◌, length, arith}
use Rattle.std.specs.Prelude.{◌==◌}
use Rattle.std.proofs.lemmas.Bool.Decides.{nat_tests}
use Rattle.vehicle_node.specs.Steps.Calls.{OfFlash}
use Rattle.vehicle_node.specs.declared.TheConstants.{ROOM_FROM}
use Rattle.vehicle_node.proofs.Putting.{no_items, issue_none, issued_done}
use Rattle.vehicle_node.proofs.Keeping.{keeps_none}
use Rattle.vehicle_node.proofs.Node.issue.Goals as goal

zero_of : (n : ℕ) → true ≡ (n == 0) → n ≡ 0
zero_of n is = grind (arith, nat_tests)

pub returns-then-is_empty-clause-done : goal.returns-then-is_empty-clause-done
returns-then-is_empty-clause-done g c =
    let none : length c.args.batch.now.items ≡ 0 = zero_of (length c.args.batch.now.items) c.if-is_empty.ensures in
    issue_none g.B.Board g.met.B.Board.reads c.args.board.now c.args.self.now c.args.armed c.args.batch.now.items c.requires.fits (no_items c.args.batch.now.items none)

pub returns-then-is_empty-clause-keeps : goal.returns-then-is_empty-clause-keeps
returns-then-is_empty-clause-keeps g c = keeps_none g.B.Board OfFlash c.args.board.now

pub returns-clause-done : goal.returns-clause-done
returns-clause-done g c =
    let e = c.in_ok-make_room.ensures in
    issued_done g.B.Board (length c.args.self.now.lines.pending - ROOM_FROM) c.args.armed c.args.self.now c.args.board.now c.make_room.new.self c.make_room.new.board e.done c.append.new.self c.args.batch.now.items c.append.ensures.issued e.few
