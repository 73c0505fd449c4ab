use Rattle.std.proofs.Common.{sym, subst}
use Rattle.flash_traits.specs.Words.{Words}
use Rattle.sector_image.specs.declared.kept.Shape.{Shape}
use Rattle.sector_image.specs.FirstBad.{AreHeads}
use Rattle.sector_image.specs.Fits.{mark_of, other_mark_of}
use Rattle.sector_image.proofs.SurveyLemmas.{surveys_after, finds_after}
use Rattle.sector_image.proofs.surveying.survey_sectors.Goals as goal

pub survey_alone-requires-clause-heads : goal.survey_alone-requires-clause-heads
survey_alone-requires-clause-heads g c = λ told.
    let same = c.heads_of.ensures.calls.reads.changes.content told in
    subst (λ (s : Shape). AreHeads (g.B.Board.words c.heads_of.new.board) c.args.guard (mark_of s) (other_mark_of s)) c.in-Alone.is
    (subst (λ (w : Words). AreHeads w c.args.guard (mark_of c.in_ok-heads_of.field-0) (other_mark_of c.in_ok-heads_of.field-0)) (sym same) (c.in_ok-heads_of.ensures.heads told))

pub returns-in-Alone-clause-calls : goal.returns-in-Alone-clause-calls
returns-in-Alone-clause-calls g c = surveys_after g.B.Board g.met.B.Board.reads c.survey_alone.result c.heads_of.ensures.calls.reads c.in_ok-heads_of.ensures.calls.counts c.survey_alone.ensures.calls

pub returns-in-Alone-clause-finds : goal.returns-in-Alone-clause-finds
returns-in-Alone-clause-finds g c = finds_after g.B.Board g.met.B.Board.reads c.survey_alone.result c.heads_of.ensures.calls.reads c.survey_alone.ensures.calls.reads c.survey_alone.ensures.finds

pub survey_marked-requires-clause-heads : goal.survey_marked-requires-clause-heads
survey_marked-requires-clause-heads g c = λ told.
    let same = c.heads_of.ensures.calls.reads.changes.content told in
    subst (λ (s : Shape). AreHeads (g.B.Board.words c.heads_of.new.board) c.args.guard (mark_of s) (other_mark_of s)) c.in-Marked.is
    (subst (λ (w : Words). AreHeads w c.args.guard (mark_of c.in_ok-heads_of.field-0) (other_mark_of c.in_ok-heads_of.field-0)) (sym same) (c.in_ok-heads_of.ensures.heads told))

pub returns-in-Marked-clause-calls : goal.returns-in-Marked-clause-calls
returns-in-Marked-clause-calls g c = surveys_after g.B.Board g.met.B.Board.reads c.survey_marked.result c.heads_of.ensures.calls.reads c.in_ok-heads_of.ensures.calls.counts c.survey_marked.ensures.calls

pub returns-in-Marked-clause-finds : goal.returns-in-Marked-clause-finds
returns-in-Marked-clause-finds g c = finds_after g.B.Board g.met.B.Board.reads c.survey_marked.result c.heads_of.ensures.calls.reads c.survey_marked.ensures.calls.reads c.survey_marked.ensures.finds

pub survey_spilled-requires-clause-heads : goal.survey_spilled-requires-clause-heads
survey_spilled-requires-clause-heads g c = λ told.
    let same = c.heads_of.ensures.calls.reads.changes.content told in
    subst (λ (s : Shape). AreHeads (g.B.Board.words c.heads_of.new.board) c.args.guard (mark_of s) (other_mark_of s)) c.in-Spilled.is
    (subst (λ (w : Words). AreHeads w c.args.guard (mark_of c.in_ok-heads_of.field-0) (other_mark_of c.in_ok-heads_of.field-0)) (sym same) (c.in_ok-heads_of.ensures.heads told))

pub returns-in-Spilled-clause-calls : goal.returns-in-Spilled-clause-calls
returns-in-Spilled-clause-calls g c = surveys_after g.B.Board g.met.B.Board.reads c.survey_spilled.result c.heads_of.ensures.calls.reads c.in_ok-heads_of.ensures.calls.counts c.survey_spilled.ensures.calls

pub returns-in-Spilled-clause-finds : goal.returns-in-Spilled-clause-finds
returns-in-Spilled-clause-finds g c = finds_after g.B.Board g.met.B.Board.reads c.survey_spilled.result c.heads_of.ensures.calls.reads c.survey_spilled.ensures.calls.reads c.survey_spilled.ensures.finds
