use Rattle.std.proofs.Common.{◌+◌, length}
use Rattle.sector_image.proofs.Keeping.{at_err}
use Rattle.block_store.specs.Steps.Inside.{state_of, due_in}
use Rattle.block_store.specs.Steps.Entries.{PutsEntry}
use Rattle.block_store.proofs.PutLemmas.{keeps_entry, then_may_put, then_puts}
use Rattle.block_store.proofs.puts.put_unarmed.Goals as goal

pub returns-in_err-home-clause-changes : goal.returns-in_err-home-clause-changes
returns-in_err-home-clause-changes g c =
    let most = due_in (state_of c.args.state) (2 + length c.args.bytes.now) in
    at_err g.B.Board c.from_residual.result (PutsEntry most c.args.first c.args.bytes.now) c.from_residual.ensures.0
    (keeps_entry g.B.Board g.met.B.Board.reads most c.args.first c.args.bytes.now c.in_err-home.ensures.changes)

pub returns-in_err-next-clause-changes : goal.returns-in_err-next-clause-changes
returns-in_err-next-clause-changes g c =
    let most = due_in (state_of c.args.state) (2 + length c.args.bytes.now) in
    at_err g.B.Board c.from_residual-in_err-next.result (PutsEntry most c.args.first c.args.bytes.now) c.from_residual-in_err-next.ensures.0
    (then_may_put g.B.Board g.met.B.Board.reads most c.args.first c.args.bytes.now c.in_ok-home.ensures.changes c.in_err-next.ensures.changes)

pub returns-clause-changes : goal.returns-clause-changes
returns-clause-changes g c =
    let most = due_in (state_of c.args.state) (2 + length c.args.bytes.now) in
    then_puts g.B.Board g.met.B.Board.reads most c.args.first c.args.bytes.now c.in_ok-home.ensures.changes c.in_ok-next.ensures.changes
