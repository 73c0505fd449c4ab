use Rattle.std.proofs.Common.{◌≡◌, ◌+◌, ◌*◌, [], length, get_or, take, refl, ◌∙◌, ap}
use Rattle.storage_lines.specs.declared.lines.LineWrite.{LineWrite}
use Rattle.sector_image.proofs.Keeping.{at_err}
use Rattle.block_store.specs.Store.{Store, raise}
use Rattle.block_store.specs.Losses.{PutsLines}
use Rattle.block_store.specs.Steps.Inside.{state_of, due_in}
use Rattle.block_store.specs.Steps.Entries.{IsEntryOf}
use Rattle.block_store.proofs.EntryLemmas.{line_is_first, from_first, entry_size}
use Rattle.block_store.proofs.PutLemmas.{err_lines, ok_lines, armed_raise, unarmed_raise}
use Rattle.block_store.proofs.BlockStore.put.Goals as goal
use Rattle.block_store.proofs.BlockStore.put.Goals.{then-armed-2+in_ok-next, else-armed-2+in_ok-next-2}

pub returns-in_err-next-clause-changes : goal.returns-in_err-next-clause-changes
returns-in_err-next-clause-changes g c =
    let lines = c.args.lines.now in
    let most = raise c.args.armed c.args.self.now lines in
    let d : LineWrite = record { line = 0; bytes = [] } in
    let first = (get_or lines 0 d).line in
    let entry = take (8 * length lines) c.bytes_of-entry.result in
    let of : IsEntryOf first entry lines = from_first first entry lines (line_is_first lines d c.requires.entry) c.bytes_of-entry.ensures.lines in
    at_err g.B.Board c.from_residual.result (PutsLines most lines) c.from_residual.ensures.0
    (err_lines g.B.Board g.met.B.Board.reads 0 most first entry lines c.put_armed.result c.in_err-next.field-0.0 c.in_err-next.was
    (armed_raise c.args.armed c.args.self.now lines c.if-armed-2.true) refl of c.put_armed.ensures.changes)

pub returns-in_err-next-2-clause-changes : goal.returns-in_err-next-2-clause-changes
returns-in_err-next-2-clause-changes g c =
    let lines = c.args.lines.now in
    let most = raise c.args.armed c.args.self.now lines in
    let d : LineWrite = record { line = 0; bytes = [] } in
    let first = (get_or lines 0 d).line in
    let entry = take (8 * length lines) c.bytes_of-entry.result in
    let of : IsEntryOf first entry lines = from_first first entry lines (line_is_first lines d c.requires.entry) c.bytes_of-entry.ensures.lines in
    let at : state_of c.replace-state.result ≡ c.args.self.now.state = ap state_of c.replace-state.ensures.value ∙ ap (λ (s : Store). s.state) c.self-2.view_is in
    at_err g.B.Board c.from_residual-in_err-next-2.result (PutsLines most lines) c.from_residual-in_err-next-2.ensures.0
    (err_lines g.B.Board g.met.B.Board.reads (due_in (state_of c.replace-state.result) (2 + length entry)) most first entry lines c.put_unarmed.result c.in_err-next-2.field-0.0 c.in_err-next-2.was
    (unarmed_raise c.args.armed c.args.self.now (state_of c.replace-state.result) (2 + length entry) lines c.if-armed-2.false at (entry_size c.bytes_of-entry.result lines c.bytes_of-entry.ensures.size c.requires.entry))
    refl of c.put_unarmed.ensures.changes)

pub returns-clause-changes : goal.returns-clause-changes
returns-clause-changes g c =
    let lines = c.args.lines.now in
    let most = raise c.args.armed c.args.self.now lines in
    let d : LineWrite = record { line = 0; bytes = [] } in
    let first = (get_or lines 0 d).line in
    let entry = take (8 * length lines) c.bytes_of-entry.result in
    let of : IsEntryOf first entry lines = from_first first entry lines (line_is_first lines d c.requires.entry) c.bytes_of-entry.ensures.lines in
    elim c.if-armed-2.branch [
      | then-armed-2+in_ok-next w ↦ ok_lines g.B.Board g.met.B.Board.reads 0 most first entry lines w.put_armed.result _ w.in_ok-next.was
          (armed_raise c.args.armed c.args.self.now lines w.if-armed-2.true) w.board-is of w.put_armed.ensures.changes
      | else-armed-2+in_ok-next-2 w ↦
          let at : state_of c.replace-state.result ≡ c.args.self.now.state = ap state_of c.replace-state.ensures.value ∙ ap (λ (s : Store). s.state) c.self-2.view_is in
          ok_lines g.B.Board g.met.B.Board.reads (due_in (state_of c.replace-state.result) (2 + length entry)) most first entry lines w.put_unarmed.result _ w.in_ok-next-2.was
          (unarmed_raise c.args.armed c.args.self.now (state_of c.replace-state.result) (2 + length entry) lines w.if-armed-2.false at (entry_size c.bytes_of-entry.result lines c.bytes_of-entry.ensures.size c.requires.entry))
          w.board-is of w.put_unarmed.ensures.changes
    ]
