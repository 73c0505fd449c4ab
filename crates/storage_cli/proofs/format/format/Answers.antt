use Rattle.std.proofs.Common.{◌≡◌, ◌∙◌, sym, subst, ℕ}
use Rattle.flash_traits.specs.Words.{HasShape, IsSectorSize}
use Rattle.storage_cli.proofs.Formatting.{on_ok_part, formatted_fresh, geometry_part}
use Rattle.storage_cli.proofs.format.format.Goals as goal

pub returns-clause-fresh : goal.returns-clause-fresh
returns-clause-fresh g c = λ ok told.
    let b = g.B.Board in
    let ok1 = sym c.is_err.ensures.value ∙ c.if-is_err.false in
    let one = c.begin_sector.ensures.changes in
    let two = c.begin_sector-2.ensures.changes in
    let told2 = two.told told in
    let told1 = one.told told2 in
    let size : b.sector_bytes c.begin_sector-2.new.board ≡ c.args.sector_bytes = two.geometry ∙ one.geometry ∙ geometry_part c.attach.result (b.sector_bytes c.attach.new.self) c.args.sector_bytes ok1 c.attach.ensures.geometry in
    let known : IsSectorSize (b.sector_bytes c.begin_sector-2.new.board) = subst IsSectorSize (sym size) c.requires in
    formatted_fresh c.args.sector_bytes (b.words c.attach.new.self) (b.words c.begin_sector.new.board) (b.words c.begin_sector-2.new.board) c.requires
    (on_ok_part c.attach.result _ ok1 c.attach.ensures.words told1)
    (c.in_ok-begin_sector.ensures.changes.content told2) (c.in_ok-begin_sector-2.ensures.changes.content told)
    (subst (λ (n : ℕ). HasShape n (b.words c.begin_sector-2.new.board)) size (g.met.B.Board.shape c.begin_sector-2.new.board told known))
