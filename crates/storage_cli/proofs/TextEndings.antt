-- How a command ends that prints a text of an image.
use Rattle.std.proofs.Common.{◌≡◌, ◌≢◌, ◌⊎◌, inl, inr, ℕ, List, refl, sym, subst, arith, Result, Ok, Err, Option, Some, ap, true, ◌∙◌}
use Rattle.std.specs.Prelude.{IfOk, IfErr, is_err, option_map}
use Rattle.flash_traits.specs.declared.board.Fault.{Fault}
use Rattle.flash_traits.specs.Causes.{counts_after}
use Rattle.flash_traits.specs.Words.{Words}
use Rattle.command_line.specs.Commands.{command_line_of}
use Rattle.command_line.specs.Lines.{CommandLine}
use Rattle.command_line.specs.declared.Command.{Command}
use Rattle.sector_image.specs.FirstBad.{Place, FirstBad}
use Rattle.sector_image.specs.Stands.{Stands}
use Rattle.image_report.specs.declared.errors.ReportError.{ReportError}
use Rattle.image_report.specs.declared.errors.ReportError.TheVariants as errors
use Rattle.image_report.specs.Refusals.{OnForeign, OnOutput, OnceRead, fault_in}
use Rattle.image_report.specs.Refusals as refusals
use Rattle.image_report.specs.Dumps.{IsDump}
use Rattle.image_report.specs.Reports.{IsReport}
use Rattle.image_report.specs.Writes.{WritesPrefix}
use Rattle.image_report.proofs.TextLaws.{dump_of}
use Rattle.storage_cli.specs.declared.stop.Stop.{Stop}
use Rattle.storage_cli.specs.declared.stop.Stop.TheVariants as stop
use Rattle.storage_cli.specs.declared.printing.ImageText.{ImageText}
use Rattle.storage_cli.specs.declared.printing.ImageText.TheVariants as image_text
use Rattle.storage_cli.specs.declared.printing.Printed.{Printed}
use Rattle.storage_cli.specs.declared.printing.Printed.TheVariants as printed
use Rattle.storage_cli.specs.Steps.Stops.{status_of_stop, IsFirst, StopsByCause}
use Rattle.storage_cli.specs.Statuses.{IsCutShort, IsTextCutShort, ToldOutput}
use Rattle.storage_cli.specs.Texts.{PrintedLine}
use Rattle.storage_cli.specs.Steps.Printing.{IsTextOf, IsTextStatus, IsTextStop, OnWhole, OnPrefix, status_of_printed, sink_count_at, ending_of}
use Rattle.storage_cli.proofs.Causes.{never_both, first_fault, fault_cause}
use Rattle.storage_cli.proofs.Outcomes.{Gives}

-- what holds once the image was read
once_map : {T : Type 0} (r : Result T ReportError) (P Q : Type 0) → (P → Q) → OnceRead r P → OnceRead r Q
once_map (Ok done) P Q f p = f p
once_map (Err errors.Memory) P Q f p = tt
once_map (Err (errors.Fault kind)) P Q f p = tt
once_map (Err (errors.Foreign region offset word)) P Q f p = tt
once_map (Err errors.Output) P Q f p = f p

once_all : {T : Type 0} (r : Result T ReportError) (P : Type 0) → P → OnceRead r P
once_all (Ok done) P p = p
once_all (Err errors.Memory) P p = tt
once_all (Err (errors.Fault kind)) P p = tt
once_all (Err (errors.Foreign region offset word)) P p = tt
once_all (Err errors.Output) P p = p

cut_of : (IsText : List ℕ → Type 0) (old new : List ℕ) → (text : List ℕ) × IsText text → WritesPrefix IsText old new → IsCutShort IsText old new
cut_of IsText old new has part =
    let some = part has.0 has.1 in
    record { text = has.0; is_text = has.1; count = some.0; written = some.1 }

-- where the output failed, the text of the words was cut short
cut_output : {T : Type 0} (told told_out : Type 0) (IsText : List ℕ → Type 0) (old new : List ℕ) (r : Result T ReportError) → OnceRead r (told → (text : List ℕ) × IsText text)
    → (told → told_out → WritesPrefix IsText old new) → IfErr r (λ e. OnOutput e (told → told_out → IsCutShort IsText old new))
cut_output told told_out IsText old new (Ok done) has part = tt
cut_output told told_out IsText old new (Err errors.Memory) has part = tt
cut_output told told_out IsText old new (Err (errors.Fault kind)) has part = tt
cut_output told told_out IsText old new (Err (errors.Foreign region offset word)) has part = tt
cut_output told told_out IsText old new (Err errors.Output) has part = λ t o. cut_of IsText old new (has t) (part t o)

module _ {T : Type 0} (told told_out : Type 0) (w : Words) (old new : List ℕ) (r : Result T ReportError) (text : ImageText) where
  pub cut_dump : text ≡ image_text.Dump → OnceRead r (told → (bytes : List ℕ) × Stands w bytes) → (told → told_out → WritesPrefix (IsDump w) old new)
      → IfErr r (λ e. OnOutput e (told → told_out → IsCutShort (IsTextOf text w) old new))
  cut_dump is stands part =
      let has = once_map r (told → (bytes : List ℕ) × Stands w bytes) (told → (t : List ℕ) × IsDump w t) (λ s t. dump_of w (s t).0 (s t).1) stands in
      subst (λ (x : ImageText). IfErr r (λ e. OnOutput e (told → told_out → IsCutShort (IsTextOf x w) old new))) (sym is) (cut_output told told_out (IsDump w) old new r has part)

  pub cut_report : text ≡ image_text.Report → (told → (t : List ℕ) × IsReport w t) → (told → told_out → WritesPrefix (IsReport w) old new)
      → IfErr r (λ e. OnOutput e (told → told_out → IsCutShort (IsTextOf text w) old new))
  cut_report is has part =
      let once = once_all r (told → (t : List ℕ) × IsReport w t) has in
      subst (λ (x : ImageText). IfErr r (λ e. OnOutput e (told → told_out → IsCutShort (IsTextOf x w) old new))) (sym is) (cut_output told told_out (IsReport w) old new r once part)

-- the stop of an error names the first foreign halfword, and there is one only where the command stops
pub first_ending : (e : ReportError) (told : Type 0) (w : Words) → OnForeign e (λ place. told → FirstBad w place) → told → IfErr (ending_of e) (IsFirst w)
first_ending errors.Memory told w first t = tt
first_ending (errors.Fault kind) told w first t = first_fault kind w
first_ending (errors.Foreign region offset word) told w first t = first t
first_ending errors.Output told w first t = tt

pub stops_ending : (e : ReportError) (told : Type 0) (w : Words) → OnOutput e (told → (bytes : List ℕ) × Stands w bytes) → told → (place : Place) → FirstBad w place → is_err (ending_of e) ≡ true
stops_ending errors.Memory told w stands t place bad = refl
stops_ending (errors.Fault kind) told w stands t place bad = refl
stops_ending (errors.Foreign region offset word) told w stands t place bad = refl
stops_ending errors.Output told w stands t place bad = absurd (never_both w place (stands t) bad)

-- the counts of an ending
pub ending_cause : (e : ReportError) (before now : Fault → ℕ) → now ≡ counts_after (fault_in e) before → StopsByCause before now (ending_of e)
ending_cause errors.Memory before now counts = counts
ending_cause (errors.Fault kind) before now counts = fault_cause kind before now counts
ending_cause (errors.Foreign region offset word) before now counts = counts
ending_cause errors.Output before now counts = counts

pub ending_output : (e : ReportError) (before now : ℕ) → now ≡ refusals.sink_count_at e before → IfOk (ending_of e) (λ p. now ≡ sink_count_at p before)
ending_output errors.Memory before now counts = tt
ending_output (errors.Fault kind) before now counts = tt
ending_output (errors.Foreign region offset word) before now counts = tt
ending_output errors.Output before now counts = counts

-- the status where a text was printed so far
module _ (n : ℕ) where
  pub printed_gives : (p : Printed) → n ≡ status_of_printed p → Gives n 0
  printed_gives printed.Whole is = inl is
  printed_gives printed.Prefix is = inr is

  pub prefix_at_10 : (p : Printed) (P : Type 0) → n ≡ status_of_printed p → OnPrefix p P → n ≡ 10 → P
  prefix_at_10 printed.Whole P is holds e = absurd (omega (arith, is, e))
  prefix_at_10 printed.Prefix P is holds e = holds

  pub whole_at_0 : (p : Printed) (P : Type 0) → n ≡ status_of_printed p → OnWhole p P → n ≡ 0 → P
  whole_at_0 printed.Whole P is holds e = holds
  whole_at_0 printed.Prefix P is holds e = absurd (omega (arith, is, e))

  pub output_at : (p : Printed) (before now : ℕ) → n ≡ status_of_printed p → now ≡ sink_count_at p before → ToldOutput n before now
  output_at printed.Whole before now is same = inr (λ e. omega (arith, is, e), same)
  output_at printed.Prefix before now is same = inl (is, same)

  pub text_done : (text : ImageText) → Gives n 0 → IsTextStatus text n
  text_done image_text.Dump (inl is) = inl is
  text_done image_text.Dump (inr is) = inr (inr (inr (inr (inl is))))
  text_done image_text.Report (inl is) = inl is
  text_done image_text.Report (inr is) = inr (inr (inr (inl is)))

  -- and where its command stopped
  pub text_stopped : (text : ImageText) (why : Stop) → IsTextStop text why → Gives n (status_of_stop why) → IsTextStatus text n
  text_stopped image_text.Dump why stops (inr is) = inr (inr (inr (inr (inl is))))
  text_stopped image_text.Report why stops (inr is) = inr (inr (inr (inl is)))
  text_stopped image_text.Dump stop.Words stops (inl is) = absurd stops
  text_stopped image_text.Dump stop.Memory stops (inl is) = inr (inl is)
  text_stopped image_text.Dump (stop.Foreign found) stops (inl is) = inr (inr (inl is))
  text_stopped image_text.Dump stop.Read stops (inl is) = inr (inr (inr (inl is)))
  text_stopped image_text.Dump stop.Flash stops (inl is) = absurd stops
  text_stopped image_text.Dump stop.Link stops (inl is) = absurd stops
  text_stopped image_text.Dump stop.Worn stops (inl is) = absurd stops
  text_stopped image_text.Dump (stop.Turns count) stops (inl is) = absurd stops
  text_stopped image_text.Dump stop.Attach stops (inl is) = inr (inr (inr (inr (inr is))))
  text_stopped image_text.Dump stop.Input stops (inl is) = absurd stops
  text_stopped image_text.Dump (stop.Script line) stops (inl is) = absurd stops
  text_stopped image_text.Report stop.Words stops (inl is) = absurd stops
  text_stopped image_text.Report stop.Memory stops (inl is) = inr (inl is)
  text_stopped image_text.Report (stop.Foreign found) stops (inl is) = absurd stops
  text_stopped image_text.Report stop.Read stops (inl is) = inr (inr (inl is))
  text_stopped image_text.Report stop.Flash stops (inl is) = absurd stops
  text_stopped image_text.Report stop.Link stops (inl is) = absurd stops
  text_stopped image_text.Report stop.Worn stops (inl is) = absurd stops
  text_stopped image_text.Report (stop.Turns count) stops (inl is) = absurd stops
  text_stopped image_text.Report stop.Attach stops (inl is) = inr (inr (inr (inr is)))
  text_stopped image_text.Report stop.Input stops (inl is) = absurd stops
  text_stopped image_text.Report (stop.Script line) stops (inl is) = absurd stops

  -- a dump that stopped after its attach
  pub dump_stopped : (text : ImageText) (why : Stop) → IsTextStop text why → Gives n (status_of_stop why) → n ≢ 13 → (n ≡ 2) ⊎ (n ≡ 3) ⊎ (n ≡ 4) ⊎ (n ≡ 10)
  dump_stopped text why stops (inr is) past = inr (inr (inr is))
  dump_stopped text stop.Words stops (inl is) past = absurd stops
  dump_stopped text stop.Memory stops (inl is) past = inl is
  dump_stopped text (stop.Foreign found) stops (inl is) past = inr (inl is)
  dump_stopped text stop.Read stops (inl is) past = inr (inr (inl is))
  dump_stopped text stop.Flash stops (inl is) past = absurd stops
  dump_stopped text stop.Link stops (inl is) past = absurd stops
  dump_stopped text stop.Worn stops (inl is) past = absurd stops
  dump_stopped text (stop.Turns count) stops (inl is) past = absurd stops
  dump_stopped text stop.Attach stops (inl is) past = absurd (past is)
  dump_stopped text stop.Input stops (inl is) past = absurd stops
  dump_stopped text (stop.Script line) stops (inl is) past = absurd stops

  -- no stop has status 0
  pub never_0 : (why : Stop) → Gives n (status_of_stop why) → n ≡ 0 → ⊥
  never_0 why (inr is) e = omega (arith, is, e)
  never_0 stop.Words (inl is) e = omega (arith, is, e)
  never_0 stop.Memory (inl is) e = omega (arith, is, e)
  never_0 (stop.Foreign found) (inl is) e = omega (arith, is, e)
  never_0 stop.Read (inl is) e = omega (arith, is, e)
  never_0 stop.Flash (inl is) e = omega (arith, is, e)
  never_0 stop.Link (inl is) e = omega (arith, is, e)
  never_0 stop.Worn (inl is) e = omega (arith, is, e)
  never_0 (stop.Turns count) (inl is) e = omega (arith, is, e)
  never_0 stop.Attach (inl is) e = omega (arith, is, e)
  never_0 stop.Input (inl is) e = omega (arith, is, e)
  never_0 (stop.Script line) (inl is) e = omega (arith, is, e)

-- the command that the words are
pub line_given : (line : Option CommandLine) (r : Option Command) (some command : Command) → option_map command_line_of r ≡ line → r ≡ Some some → some ≡ command → line ≡ Some (command_line_of command)
line_given line r some command value is same = sym value ∙ ap (option_map command_line_of) is ∙ ap (λ (c : Command). Some (command_line_of c)) same

pub cut_short_of : (line other : Option CommandLine) (told : Type 0) (w : Words) (old new : List ℕ) → line ≡ other → IsCutShort PrintedLine old new ⊎ IsTextCutShort other told w old new → IsCutShort PrintedLine old new ⊎ IsTextCutShort line told w old new
cut_short_of line other told w old new is (inl cut) = inl cut
cut_short_of line other told w old new is (inr cut) = inr (subst (λ (l : Option CommandLine). IsTextCutShort l told w old new) (sym is) cut)
