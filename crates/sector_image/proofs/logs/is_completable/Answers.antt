use Rattle.std.proofs.Common.{inl, inr, ℕ, List, sym, ◌∙◌, ap}
use Rattle.std.proofs.lemmas.Result.{IfOk-weaker}
use Rattle.sector_log.specs.Bytes.{programmable}
use Rattle.flash_traits.specs.Words.{halfwords_of}
use Rattle.sector_image.proofs.SurveyLemmas.{not_torn, not_chunk, is_chunk, lines_slice}
use Rattle.sector_image.proofs.logs.is_completable.Goals.{then-torn-ne8-via-then-torn-ne8, then-torn-ne8-via-else-torn-ne8+then-torn-ne0}
use Rattle.sector_image.proofs.logs.is_completable.Goals as goal

pub returns-in_default-clause-known : goal.returns-in_default-clause-known
returns-in_default-clause-known g c = λ told mark entries of sector. sym (not_torn c.args.whole.now entries (sym of.torn ∙ c.in_default.is))

pub returns-then-torn-ne8-clause-known : goal.returns-then-torn-ne8-clause-known
returns-then-torn-ne8-clause-known g c = λ told mark entries of sector. sym (elim c.then-torn-ne8.branch [
  | then-torn-ne8-via-then-torn-ne8 w ↦ not_chunk c.args.whole.now entries c.in-Some.torn (sym of.torn ∙ c.in-Some.is) (inl w.if-torn-ne8.true)
  | then-torn-ne8-via-else-torn-ne8+then-torn-ne0 w ↦ not_chunk c.args.whole.now entries c.in-Some.torn (sym of.torn ∙ c.in-Some.is) (inr w.if-torn-ne0.true)
])

pub returns-clause-known : goal.returns-clause-known
returns-clause-known g c = IfOk-weaker c.torn_fits.result _ _ (λ fits is told mark entries of sector.
    let torn = c.in-Some.torn in
    let it = is_chunk c.args.whole.now (g.B.Board.words c.args.board.now) mark entries c.args.log torn of sector c.in-Some.is c.if-torn-ne8.false c.if-torn-ne0.false in
    is told mark it.0 torn.line 8 it.1 it.2 ∙ ap (λ (l : List ℕ). programmable it.1 (halfwords_of l)) (lines_slice torn.line c.args.whole.now c.if-torn-ne0.false) ∙ sym it.3) c.torn_fits.ensures.fits
