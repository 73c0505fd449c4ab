use Rattle.std.proofs.Common.{refl, false, None, sym, ◌∙◌, subst}
use Rattle.flash_traits.specs.Words.{Words}
use Rattle.sector_image.specs.declared.kept.Kept.{Kept}
use Rattle.sector_image.specs.declared.kept.Shape.TheVariants.{Marked}
use Rattle.sector_image.specs.Images.{both_bytes}
use Rattle.sector_image.specs.Fits.{OneLogWords}
use Rattle.sector_image.proofs.Standing.{stands_marked}
use Rattle.sector_image.proofs.SurveyLemmas.{found_rules, marked_words}
use Rattle.sector_image.proofs.surveying.survey_marked.Goals as goal

pub returns-clause-finds : goal.returns-clause-finds
returns-clause-finds g c = record {
  fits =
      let reads = c.logs_of.ensures.calls.reads in
      let images = both_bytes c.logs_of.new.whole c.logs_of.new.upper in
      let kept : Kept = record { sector_bytes = c.geometry.result.sector_bytes; guard = c.args.guard; home = c.in_ok-logs.logs.home; other = None; completable = false } in (
        record {
          home = found_rules Marked (g.B.Board.sector_bytes c.args.board.now) (g.B.Board.sector_bytes c.logs_of.new.board) kept images c.requires.given.attached reads.changes.geometry
              c.geometry.ensures c.requires.given.most c.requires.even c.in_ok-logs.ensures.home (c.logs_of.auto.whole ∙ c.requires.given.whole_size) (c.logs_of.auto.upper ∙ c.requires.given.upper_size);
          none = refl;
          plain = refl;
        },
        λ told. subst (λ (w : Words). OneLogWords Marked kept images w) (sym (reads.changes.content told))
            (marked_words (g.B.Board.words c.args.board.now) kept c.in_ok-logs.logs.other c.logs_of.new.whole c.logs_of.new.upper (c.in_ok-logs.ensures.logs told)),
      );
  stands = λ told.
      let kept : Kept = record { sector_bytes = c.geometry.result.sector_bytes; guard = c.args.guard; home = c.in_ok-logs.logs.home; other = None; completable = false } in
      stands_marked kept (both_bytes c.logs_of.new.whole c.logs_of.new.upper) (g.B.Board.words c.args.board.now)
      (marked_words (g.B.Board.words c.args.board.now) kept c.in_ok-logs.logs.other c.logs_of.new.whole c.logs_of.new.upper (c.in_ok-logs.ensures.logs told));
}
