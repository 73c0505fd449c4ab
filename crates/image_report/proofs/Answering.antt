-- What the two calls know once the image was read.
use Rattle.std.proofs.Common.{◌≡◌, ℕ, ◌*◌, List, length, sym, ◌∙◌, ap, subst}
use Rattle.flash_traits.specs.Words.{Words, HasShape, IsSectorSize}
use Rattle.flash_traits.specs.declared.board.Board.{Ghosts}
use Rattle.sector_log.specs.Bytes.{IsValue}
use Rattle.flash_traits.specs.Calls.{OnlyReads}
use Rattle.sector_image.specs.Images.{Bytes}
use Rattle.sector_image.specs.Fits.{FitsShape}
use Rattle.sector_image.specs.Stands.{Reading, Stands, entries_in, count_in}
use Rattle.sector_image.specs.declared.kept.Kept.{Kept}
use Rattle.sector_image.specs.declared.kept.Shape.{Shape}
use Rattle.sector_image.proofs.ImageLaws.{one_reading}
use Rattle.image_report.specs.declared.findings.Findings.{Findings}
use Rattle.image_report.specs.Dumps.{IsDump, dump_text}
use Rattle.image_report.specs.Reports.{IsFound, IsReport, report_text}
use Rattle.image_report.proofs.Found.{IsState, state_of, size_of}
use Rattle.image_report.proofs.TextLaws.{size_told}

-- the text of words in this state that stand for these bytes
dump_is : (w : Words) (name : Shape) (size count : ℕ) (bytes : List ℕ) → IsState w name count → Stands w bytes → 2 * length w.s0 ≡ size → IsDump w (dump_text size count name bytes)
dump_is w name size count bytes state stands told =
    let same : stands.0 ≡ state.reading = one_reading w stands.0 state.reading stands.1 state.reads in
    record {
      reading = state.reading;
      bytes = bytes;
      reads = state.reads;
      value = subst (λ (r : Reading). IsValue (entries_in r) bytes) same stands.2;
      is = ap (λ (n : ℕ). dump_text n count name bytes) (sym told) ∙ (ap (λ (n : ℕ). dump_text (2 * length w.s0) n name bytes) (sym state.counted) ∙ ap (λ (s : Shape). dump_text (2 * length w.s0) (count_in state.reading) s bytes) (sym state.shape));
    }

module _ {B : Type 0} (g : Ghosts B) (old new : B) (known : IsSectorSize (g.sector_bytes old)) (shaped : g.tells old → IsSectorSize (g.sector_bytes old) → HasShape (g.sector_bytes old) (g.words old)) (reads : OnlyReads g old new) where
  -- the dump of the words that a survey has read
  pub dump_known : (name : Shape) (kept : Kept) (images : Bytes) (whole : List ℕ) → FitsShape name g new kept images → whole ≡ images.whole → (g.tells new → Stands (g.words old) images.whole) → g.tells new
      → IsDump (g.words old) (dump_text kept.sector_bytes kept.guard name whole)
  dump_known name kept images whole fits is stands told =
      let told_before = reads.changes.told told in
      let state = subst (λ (w : Words). IsState w name kept.guard) (reads.changes.content told) (state_of g new name kept images fits told) in
      let size : 2 * length (g.words old).s0 ≡ kept.sector_bytes = size_told (g.words old) (g.sector_bytes old) known (shaped told_before known) ∙ sym (size_of g new name kept images fits ∙ reads.changes.geometry) in
      dump_is (g.words old) name kept.sector_bytes kept.guard whole state (subst (λ (bytes : List ℕ). Stands (g.words old) bytes) (sym is) (stands told)) size

  -- the report of the words that were looked at
  pub report_known : (size : ℕ) (findings : Findings) → size ≡ g.sector_bytes old → (g.tells new → IsFound (g.words old) findings) → g.tells new → IsReport (g.words old) (report_text size findings)
  report_known size findings is found told = record {
    findings = findings;
    found = found told;
    is = ap (λ (n : ℕ). report_text n findings) (is ∙ sym (size_told (g.words old) (g.sector_bytes old) known (shaped (reads.changes.told told) known)));
  }
