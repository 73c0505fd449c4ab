use Rattle.std.proofs.Common.{ℕ, ◌≡◌, ap, arith}
use Rattle.flash_traits.specs.declared.numbers.TheConstants.{GUARD_HALFWORDS}
use Rattle.sector_log.specs.declared.log.Log.{Log}
use Rattle.sector_image.specs.declared.kept.Kept.{Kept}
use Rattle.sector_image.specs.Fits.{free_of}
use Rattle.sector_switch.specs.States.{FitsCopied}
use Rattle.block_store.specs.Refusals.{IsWornWith}
use Rattle.block_store.proofs.ErrorLemmas.{worn_by}
use Rattle.block_store.proofs.moves.switch.Goals as goal

pub returns-in_err-alone-clause-worn_copied : goal.returns-in_err-alone-clause-worn_copied
returns-in_err-alone-clause-worn_copied g c =
    let board = c.switch.new.board in
    let images = c.switch.new.images in
    let spilled = c.args.spilled in
    worn_by
    (λ (n : ℕ). (kept : Kept) × FitsCopied g.B.Board board kept images × (kept.guard ≡ GUARD_HALFWORDS) × (kept.home ≡ spilled.home) × (kept.sector_bytes ≡ spilled.sector_bytes))
    (λ (n : ℕ). IsWornWith g.B.Board board images (free_of spilled))
    c.in_err-alone.field-0.0 c.from_residual.result
    (λ n worn. (worn.0, worn.1, worn.2, omega (arith, ap (λ (l : Log). l.end) worn.3, worn.4)))
    c.from_residual.ensures.1 c.in_err-alone.ensures.worn_copied
