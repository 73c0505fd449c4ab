use Rattle.sector_image.proofs.Keeping.{at_err}
use Rattle.block_store.specs.Steps.Entries.{PutsEntry}
use Rattle.block_store.proofs.PutLemmas.{keeps_entry, then_may_put, then_puts}
use Rattle.block_store.proofs.puts.put_armed.Goals as goal

pub returns-in_err-ready-clause-changes : goal.returns-in_err-ready-clause-changes
returns-in_err-ready-clause-changes g c = at_err g.B.Board c.from_residual.result (PutsEntry 0 c.args.first c.args.bytes.now) c.from_residual.ensures.0
    (keeps_entry g.B.Board g.met.B.Board.reads 0 c.args.first c.args.bytes.now c.in_err-ready.ensures.changes)

pub returns-in_err-next-clause-changes : goal.returns-in_err-next-clause-changes
returns-in_err-next-clause-changes g c = at_err g.B.Board c.from_residual-in_err-next.result (PutsEntry 0 c.args.first c.args.bytes.now) c.from_residual-in_err-next.ensures.0
    (then_may_put g.B.Board g.met.B.Board.reads 0 c.args.first c.args.bytes.now c.in_ok-ready.ensures.changes c.in_err-next.ensures.changes)

pub returns-clause-changes : goal.returns-clause-changes
returns-clause-changes g c = then_puts g.B.Board g.met.B.Board.reads 0 c.args.first c.args.bytes.now c.in_ok-ready.ensures.changes c.in_ok-next.ensures.changes
