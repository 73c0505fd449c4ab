use Rattle.std.proofs.Common.{◌≡◌, ◌∙◌, ap, sym, subst, ℕ}
use Rattle.flash_traits.specs.Words.{Words, IsSectorSize}
use Rattle.flash_traits.proofs.Moments.{reads_then}
use Rattle.script_board.specs.Image.{words_of}
use Rattle.storage_cli.proofs.Copies.{regions_copied, on_ok_map}
use Rattle.storage_cli.proofs.copying.copy_image.Goals as goal

pub returns-in_err-copy_region-2-clause-reads : goal.returns-in_err-copy_region-2-clause-reads
returns-in_err-copy_region-2-clause-reads g c = reads_then g.B.Board g.met.B.Board.reads c.copy_region.ensures.reads c.copy_region-2.ensures.reads

pub returns-clause-copied : goal.returns-clause-copied
returns-clause-copied g c =
    let w = g.B.Board.words c.args.board.now in
    let n = c.geometry-sector_bytes.result.sector_bytes in
    let one = c.copy_region.ensures.reads.changes in
    let two = c.copy_region-2.ensures.reads.changes in
    let three = c.copy_region-3.ensures.reads.changes in
    on_ok_map c.copy_region-3.result _ _
    (λ row told.
    let told2 = three.told told in
    let told1 = two.told told2 in
    let same1 = one.content told1 in
    let same2 = two.content told2 ∙ same1 in
    subst (λ (m : ℕ). words_of m c.copy_region-3.new.bytes ≡ w) c.geometry-sector_bytes.ensures
    (regions_copied n w c.copy_region.new.bytes c.copy_region-2.new.bytes c.copy_region-3.new.bytes (subst IsSectorSize (sym c.geometry-sector_bytes.ensures) c.requires.attached)
    (c.in_ok-copy_region.ensures.copied told1) (c.in_ok-copy_region-2.ensures.copied told2 ∙ ap (λ (x : Words). x.s1) same1) (row told ∙ ap (λ (x : Words). x.guard) same2)
    c.copy_region-2.ensures.before c.copy_region-3.ensures.before))
    c.copy_region-3.ensures.copied
