use Rattle.std.proofs.Common.{◌⊎◌, ℕ, false, List, refl, sym, ◌∙◌, ap, subst, [], inl, inr}
use Rattle.flash_traits.specs.Budget.{budget_of}
use Rattle.flash_traits.specs.Words.{IsSectorSize}
use Rattle.guard_row.specs.Row.{IsGuardRow}
use Rattle.sector_image.specs.FirstBad.{Place, FirstBad}
use Rattle.sector_image.proofs.ImageLaws.{one_value}
use Rattle.block_store.specs.Store.{durable_of}
use Rattle.block_store.specs.Store as store
use Rattle.block_store.proofs.StoreLaws.{fits_attached}
use Rattle.dirty_lines.specs.Lines.{Lines}
use Rattle.vehicle_runs.specs.Guard.{MayWear}
use Rattle.vehicle_node.specs.Refusals.{OnForeign, OnWorn}
use Rattle.vehicle_node.specs.Steps.Errors.{opens_not}
use Rattle.vehicle_node.specs.Standing.{StandsForRun, ceiling}
use Rattle.vehicle_node.specs.Steps.Calls.{IsWornAlone}
use Rattle.sector_image.specs.Stands.{Stands, IsUsedUp}
use Rattle.dirty_lines.specs.Losses.{IsWornForNext}
use Rattle.vehicle_node.proofs.Passing.{adds_both, error_at, worn_more}
use Rattle.vehicle_node.proofs.Putting.{nothing_sent}
use Rattle.vehicle_node.proofs.Boot.{open_losses, boot_losses, open_rises, boot_rises, boot_within, boot_wears, read_wears, stands_booted, booted_fits, booted_unarmed, on_foreign, worn_at, left_alone_by, booted_alone, booted_unworn, read_stands}
use Rattle.vehicle_node.proofs.Node.open.Goals as goal

pub returns-in_err-lines-clause-losses : goal.returns-in_err-lines-clause-losses
returns-in_err-lines-clause-losses g c = λ b told. open_losses g.B.Board g.met.B.Board.reads c.args.board.now c.open.new.board c.open.ensures.changes (budget_of (g.B.Board.sector_bytes c.args.board.now)) b told

pub returns-in_err-lines-clause-foreign : goal.returns-in_err-lines-clause-foreign
returns-in_err-lines-clause-foreign g c =
    let e = c.in_err-lines.field-0.0 in
    let P : Place → Type 0 = λ place. g.B.Board.tells c.open.new.board → FirstBad (g.B.Board.words c.args.board.now) place in
    error_at c.from_residual.result (opens_not e) (λ d. OnForeign d P) c.from_residual.ensures.1 (on_foreign e P c.in_err-lines.ensures.foreign)

pub returns-in_err-flush_all-clause-losses : goal.returns-in_err-flush_all-clause-losses
returns-in_err-flush_all-clause-losses g c = λ b told.
    boot_losses g.B.Board g.met.B.Board.reads c.args.board.now c.open.new.board c.open.ensures.changes (budget_of (g.B.Board.sector_bytes c.args.board.now)) b told c.in_ok-lines.lines c.in_ok-lines.ensures.stands
    c.budget.result c.booted-node.result c.booted-node.ensures _ c.flush_all.result c.flush_all.new.self c.flush_all.new.board c.flush_all.ensures.done

pub returns-clause-losses : goal.returns-clause-losses
returns-clause-losses g c = λ b told.
    boot_losses g.B.Board g.met.B.Board.reads c.args.board.now c.open.new.board c.open.ensures.changes (budget_of (g.B.Board.sector_bytes c.args.board.now)) b told c.in_ok-lines.lines c.in_ok-lines.ensures.stands
    c.budget.result c.booted-node.result c.booted-node.ensures _ c.flush_all.result c.flush_all.new.self c.flush_all.new.board c.flush_all.ensures.done

pub returns-clause-stands : goal.returns-clause-stands
returns-clause-stands g c = λ tells b stands.
    subst (λ (l : List ℕ). StandsForRun c.flush_all.new.self l [] [] 0)
    (one_value (g.B.Board.words c.args.board.now) (durable_of c.in_ok-lines.lines.store) b (c.in_ok-lines.ensures.stands (c.flush_all.ensures.keeps.told tells)) stands)
    (stands_booted c.budget.result c.in_ok-lines.lines c.booted-node.result c.flush_all.new.self c.booted-node.ensures c.in_ok-flush_all.ensures.done.done.flushed.puts c.in_ok-flush_all.ensures.nothing)

pub returns-clause-here : goal.returns-clause-here
returns-clause-here g c = adds_both g.B.Board [] [] [] [] (nothing_sent g.B.Board c.open.ensures.changes).here c.in_ok-flush_all.ensures.done.done.sent.here

pub returns-in_err-lines-clause-worn_image : goal.returns-in_err-lines-clause-worn_image
returns-in_err-lines-clause-worn_image g c =
    worn_at c.in_err-lines.field-0.0 c.from_residual.result _ (λ count. g.B.Board.tells c.open.new.board → (b : List ℕ) × Stands (g.B.Board.words c.args.board.now) b) c.from_residual.ensures.1
    (λ count given tells. let found = given.1 tells in read_stands (g.B.Board.words c.args.board.now) found.0 found.1) c.in_err-lines.ensures.worn

pub returns-in_err-lines-clause-guard : goal.returns-in_err-lines-clause-guard
returns-in_err-lines-clause-guard g c = λ count b told. open_rises g.B.Board g.met.B.Board.reads c.args.board.now c.open.new.board c.open.ensures.changes (budget_of (g.B.Board.sector_bytes c.args.board.now)) count b told

pub returns-in_err-flush_all-clause-guard : goal.returns-in_err-flush_all-clause-guard
returns-in_err-flush_all-clause-guard g c = λ count b told.
    boot_rises g.B.Board g.met.B.Board.reads c.args.board.now c.open.new.board c.open.ensures.changes (budget_of (g.B.Board.sector_bytes c.args.board.now)) count b told c.in_ok-lines.lines c.in_ok-lines.ensures.fits c.in_ok-lines.ensures.alone c.in_ok-lines.ensures.stands
    c.budget.result c.booted-node.result c.booted-node.ensures _ c.flush_all.result c.flush_all.new.self c.flush_all.new.board c.flush_all.ensures.done

pub returns-clause-guard : goal.returns-clause-guard
returns-clause-guard g c = λ count b told.
    boot_rises g.B.Board g.met.B.Board.reads c.args.board.now c.open.new.board c.open.ensures.changes (budget_of (g.B.Board.sector_bytes c.args.board.now)) count b told c.in_ok-lines.lines c.in_ok-lines.ensures.fits c.in_ok-lines.ensures.alone c.in_ok-lines.ensures.stands
    c.budget.result c.booted-node.result c.booted-node.ensures _ c.flush_all.result c.flush_all.new.self c.flush_all.new.board c.flush_all.ensures.done

pub returns-clause-within : goal.returns-clause-within
returns-clause-within g c = λ tells count b row stands.
    boot_within g.B.Board g.met.B.Board.reads c.args.board.now c.open.new.board c.open.ensures.changes (budget_of (g.B.Board.sector_bytes c.args.board.now)) count b (λ told. (row, stands)) c.in_ok-lines.lines c.in_ok-lines.ensures.fits c.in_ok-lines.ensures.alone c.in_ok-lines.ensures.stands
    c.budget.result c.booted-node.result c.booted-node.ensures c.flush_all.new.self c.in_ok-flush_all.ensures.done.done.flushed.puts c.in_ok-flush_all.ensures.nothing (c.flush_all.ensures.keeps.told tells)

pub returns-in_err-lines-clause-worn_where : goal.returns-in_err-lines-clause-worn_where
returns-in_err-lines-clause-worn_where g c = worn_at c.in_err-lines.field-0.0 c.from_residual.result _ _ c.from_residual.ensures.1 (λ count given. inl (λ told. let x = given.1 told in record { reading = x.0; reads = x.1; due = x.2; count = x.3 })) c.in_err-lines.ensures.worn

pub returns-in_err-flush_all-clause-worn_where : goal.returns-in_err-flush_all-clause-worn_where
returns-in_err-flush_all-clause-worn_where g c =
    let last = c.flush_all.new.board in
    let node = c.flush_all.new.self in
    let e = c.in_err-flush_all.field-0.0 in
    let W : Type 0 = (g.B.Board.tells last → IsUsedUp (g.B.Board.words c.args.board.now)) ⊎ ((lines : Lines) × IsWornForNext g.B.Board last lines) in
    error_at c.from_residual-in_err-flush_all.result e (λ e. OnWorn e (λ count. W)) c.from_residual-in_err-flush_all.ensures.1
    (worn_more e (IsWornAlone g.B.Board false (ceiling c.booted-node.result) c.booted-node.result node last) W
    (λ w. inr (node.lines, w.next (booted_alone c.budget.result c.in_ok-lines.lines c.booted-node.result c.booted-node.ensures c.in_ok-lines.ensures.alone))) c.in_err-flush_all.ensures.done.stopped)

pub returns-in_err-lines-clause-worn_lines : goal.returns-in_err-lines-clause-worn_lines
returns-in_err-lines-clause-worn_lines g c =
    let a = c.args.board.now in
    let words = g.B.Board.words a in
    let budget = budget_of (g.B.Board.sector_bytes a) in
    worn_at c.in_err-lines.field-0.0 c.from_residual.result _ (λ n. g.B.Board.tells c.open.new.board → (count : ℕ) (b : List ℕ) → IsGuardRow words.guard count → Stands words b → MayWear budget count b []) c.from_residual.ensures.1
    (λ n given told count b row stands. let x = given.1 told in read_wears words x.0 x.1 x.3 budget count b row) c.in_err-lines.ensures.worn

pub returns-in_err-flush_all-clause-worn_lines : goal.returns-in_err-flush_all-clause-worn_lines
returns-in_err-flush_all-clause-worn_lines g c =
    let a = c.args.board.now in
    let words = g.B.Board.words a in
    let budget = budget_of (g.B.Board.sector_bytes a) in
    let last = c.flush_all.new.board in
    let e = c.in_err-flush_all.field-0.0 in
    let Wears : Type 0 = g.B.Board.tells last → (count : ℕ) (b : List ℕ) → IsGuardRow words.guard count → Stands words b → MayWear budget count b [] in
    error_at c.from_residual-in_err-flush_all.result e (λ e. OnWorn e (λ n. Wears)) c.from_residual-in_err-flush_all.ensures.1
    (worn_more e (IsWornAlone g.B.Board false (ceiling c.booted-node.result) c.booted-node.result c.flush_all.new.self last) Wears
    (λ w told count b row stands.
    boot_wears g.B.Board g.met.B.Board.reads a c.open.new.board c.open.ensures.changes budget count b (λ t. (row, stands)) c.in_ok-lines.lines c.in_ok-lines.ensures.fits c.in_ok-lines.ensures.alone c.in_ok-lines.ensures.stands
    c.budget.result c.booted-node.result c.booted-node.ensures (c.flush_all.ensures.keeps.told told) (w.reached told)) c.in_err-flush_all.ensures.done.stopped)

pub geometry-requires : goal.geometry-requires
geometry-requires g c = fits_attached g.B.Board c.open.new.board c.in_ok-lines.lines.store c.in_ok-lines.ensures.fits

pub budget-requires : goal.budget-requires
budget-requires g c = subst IsSectorSize (sym c.geometry.ensures) (fits_attached g.B.Board c.open.new.board c.in_ok-lines.lines.store c.in_ok-lines.ensures.fits)

pub flush_all-requires-clause-fits : goal.flush_all-requires-clause-fits
flush_all-requires-clause-fits g c = subst (λ (l : Lines). store.Fits g.B.Board c.open.new.board l.store) (sym c.booted-node.ensures.lines_are) c.in_ok-lines.ensures.fits

pub returns-clause-fits : goal.returns-clause-fits
returns-clause-fits g c =
    booted_fits g.B.Board c.budget.result c.in_ok-lines.lines c.booted-node.result c.flush_all.new.self c.flush_all.new.board c.booted-node.ensures c.in_ok-flush_all.ensures.done.done.flushed.puts c.in_ok-flush_all.ensures.fits
    (c.budget.ensures ∙ ap budget_of (c.geometry.ensures ∙ sym c.flush_all.ensures.keeps.geometry))

pub returns-clause-alone : goal.returns-clause-alone
returns-clause-alone g c = λ not. c.in_ok-flush_all.ensures.done.done.flushed.puts.alone refl (booted_alone c.budget.result c.in_ok-lines.lines c.booted-node.result c.booted-node.ensures c.in_ok-lines.ensures.alone)

pub returns-clause-unarmed : goal.returns-clause-unarmed
returns-clause-unarmed g c = booted_unarmed c.budget.result c.in_ok-lines.lines c.booted-node.result c.flush_all.new.self c.booted-node.ensures c.in_ok-flush_all.ensures.done.done.flushed.puts

pub returns-in_err-lines-clause-left_alone : goal.returns-in_err-lines-clause-left_alone
returns-in_err-lines-clause-left_alone g c = λ told place bad.
    left_alone_by g.B.Board c.args.board.now c.open.new.board c.in_err-lines.field-0.0 c.from_residual.result c.from_residual.ensures.1 (c.in_err-lines.ensures.left_alone told place bad)

pub returns-in_err-flush_all-clause-left_alone : goal.returns-in_err-flush_all-clause-left_alone
returns-in_err-flush_all-clause-left_alone g c = λ told place bad. absurd (c.in_ok-lines.ensures.left_alone (c.flush_all.ensures.keeps.told told) place bad).refused

pub returns-clause-left_alone : goal.returns-clause-left_alone
returns-clause-left_alone g c = λ told place bad. absurd (c.in_ok-lines.ensures.left_alone (c.flush_all.ensures.keeps.told told) place bad).refused

pub returns-clause-unworn : goal.returns-clause-unworn
returns-clause-unworn g c = λ tells.
    let told = c.flush_all.ensures.keeps.told tells in
    booted_unworn (g.B.Board.words c.args.board.now) c.budget.result c.in_ok-lines.lines c.booted-node.result c.flush_all.new.self c.booted-node.ensures c.in_ok-lines.ensures.alone (c.in_ok-lines.ensures.stands told)
    (λ reading reads. c.in_ok-lines.ensures.guard told reading reads) (λ reading reads. c.in_ok-lines.ensures.copied told reading reads) _ c.in_ok-flush_all.ensures.done.done.flushed c.in_ok-flush_all.ensures.nothing
