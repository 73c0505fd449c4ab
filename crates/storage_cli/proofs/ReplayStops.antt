-- How a replay stops, by what its survey and its script answer.
use Rattle.std.proofs.Common.{◌≡◌, ◌≢◌, ◌≤◌, ◌⊎◌, inr, ℕ, List, refl, sym, ◌∙◌, ap, subst, Result, Ok, Err}
use Rattle.std.specs.Prelude.{IfOk, IfErr}
use Rattle.flash_traits.specs.Words.{Words}
use Rattle.flash_traits.specs.declared.board.Fault.{Fault}
use Rattle.flash_traits.specs.declared.board.Fault.TheVariants as fault
use Rattle.flash_traits.specs.Causes.{Rose, raised_at, counts_after}
use Rattle.sector_image.specs.FirstBad.{FirstBad, Place, foreign_place}
use Rattle.sector_image.specs.Refusals as image
use Rattle.sector_image.specs.declared.kept.SurveyError.{SurveyError}
use Rattle.sector_image.specs.declared.kept.SurveyError.TheVariants as survey
use Rattle.replay.specs.Breaks.{OnForeign, OnInput, OnOutput, input_counted, output_counted}
use Rattle.replay.specs.declared.Stop as script
use Rattle.replay.specs.declared.Stop.TheVariants as script_stop
use Rattle.storage_cli.specs.declared.stop.Stop.{Stop}
use Rattle.storage_cli.specs.declared.stop.Stop.TheVariants as stop
use Rattle.storage_cli.specs.declared.replaying.Replayed.{Replayed}
use Rattle.storage_cli.specs.declared.replaying.Replayed.TheVariants as replayed
use Rattle.storage_cli.specs.Steps.Stops.{stop_of_fault, stop_of_survey, IsFirst, IsCausedBy, StopsByCause, StopsEarly}
use Rattle.storage_cli.specs.Steps.Replaying.{ending_of, OnWhole, OnPrefix, HasPart, IsReadStop, IsEarly, StopsBefore, StopsInside, input_at, input_after, output_after}
use Rattle.storage_cli.proofs.Causes.{first_fault, fault_cause}

-- the stop of a survey
pub survey_first : (e : SurveyError) (told : Type 0) (words : Words) → image.OnForeign e (λ place. told → FirstBad words place) → told → IsFirst words (stop_of_survey e)
survey_first (survey.Fault kind) told words bad t = first_fault kind words
survey_first (survey.Foreign region offset word) told words bad t = bad t

pub read_stop : (kind : Fault) → kind ≡ fault.Read → IsReadStop (stop_of_fault kind)
read_stop fault.Read is = tt
read_stop fault.Attach is = absurd (cc)
read_stop fault.Flash is = absurd (cc)
read_stop fault.Recv is = absurd (cc)
read_stop fault.Send is = absurd (cc)

pub read_cause : (kind : Fault) (before now : Fault → ℕ) → kind ≡ fault.Read → now ≡ raised_at fault.Read before → IsCausedBy (stop_of_fault kind) before now
read_cause kind before now is raised = fault_cause kind before now (subst (λ (k : Fault). now ≡ raised_at k before) (sym is) raised)

pub survey_stop : (e : SurveyError) → image.OnSurveyFault e (λ kind. kind ≡ fault.Read) → IsReadStop (stop_of_survey e)
survey_stop (survey.Fault kind) is = read_stop kind is
survey_stop (survey.Foreign region offset word) is = tt

pub survey_cause : (e : SurveyError) (before now : Fault → ℕ) → now ≡ counts_after (image.fault_in e) before → IsCausedBy (stop_of_survey e) before now
survey_cause (survey.Fault kind) before now counts = fault_cause kind before now counts
survey_cause (survey.Foreign region offset word) before now counts = counts

pub early_read : (why : Stop) → IsReadStop why → IsEarly why
early_read stop.Read reads = tt
early_read (stop.Foreign found) reads = tt
early_read _ reads = absurd reads

-- what an ending is, by the stop of the script
never_ok : (r : Replayed) (a : Stop) → (let x : Result Replayed Stop = Ok r in x ≡ Err a) → ⊥
never_ok r a e = cc

ending_caused : (why : script.Stop) (before now : Fault → ℕ) → now ≡ before → StopsByCause before now (ending_of why)
ending_caused script_stop.Memory before now same = same
ending_caused (script_stop.Foreign region offset word) before now same = same
ending_caused (script_stop.Worn count) before now same = same
ending_caused (script_stop.Refused line) before now same = same
ending_caused script_stop.Input before now same = same
ending_caused script_stop.Output before now same = same

ending_input : (why : script.Stop) (before now : ℕ) → now ≡ input_counted why before → now ≡ input_after (ending_of why) before
ending_input script_stop.Memory before now same = same
ending_input (script_stop.Foreign region offset word) before now same = same
ending_input (script_stop.Worn count) before now same = same
ending_input (script_stop.Refused line) before now same = same
ending_input script_stop.Input before now same = same
ending_input script_stop.Output before now same = same

ending_output : (why : script.Stop) (before now : ℕ) → now ≡ output_counted why before → now ≡ output_after (ending_of why) before
ending_output script_stop.Memory before now same = same
ending_output (script_stop.Foreign region offset word) before now same = same
ending_output (script_stop.Worn count) before now same = same
ending_output (script_stop.Refused line) before now same = same
ending_output script_stop.Input before now same = same
ending_output script_stop.Output before now same = same

-- the source wasn't read before the image was
pub read_input : (why : Stop) (n : ℕ) → IsReadStop why → n ≡ input_at why n
read_input stop.Read n reads = refl
read_input (stop.Foreign found) n reads = refl
read_input _ n reads = absurd reads

never_whole_in : (why : script.Stop) (P : List ℕ → Type 0) → IfOk (ending_of why) (λ r. OnWhole r P)
never_whole_in script_stop.Memory P = tt
never_whole_in (script_stop.Foreign region offset word) P = tt
never_whole_in (script_stop.Worn count) P = tt
never_whole_in (script_stop.Refused line) P = tt
never_whole_in script_stop.Input P = tt
never_whole_in script_stop.Output P = tt

output_in : (why : script.Stop) (P : Type 0) → OnOutput P why → IfOk (ending_of why) (λ r. OnPrefix r P)
output_in script_stop.Memory P p = tt
output_in (script_stop.Foreign region offset word) P p = tt
output_in (script_stop.Worn count) P p = tt
output_in (script_stop.Refused line) P p = tt
output_in script_stop.Input P p = tt
output_in script_stop.Output P p = p

pub foreign_map : (why : script.Stop) (P : Place → Type 0) (Q : Type 0) → ((place : Place) → P place → Q) → OnForeign P why → OnForeign (λ place. Q) why
foreign_map script_stop.Memory P Q f p = tt
foreign_map (script_stop.Foreign region offset word) P Q f p = f (foreign_place region offset word) p
foreign_map (script_stop.Worn count) P Q f p = tt
foreign_map (script_stop.Refused line) P Q f p = tt
foreign_map script_stop.Input P Q f p = tt
foreign_map script_stop.Output P Q f p = tt

-- an error of an ending
if_err : (r : Result Replayed Stop) (P : Stop → Type 0) → ((own : Stop) → r ≡ Err own → P own) → IfErr r P
if_err (Ok x) P each = tt
if_err (Err own) P each = each own refl

not_output : (why : script.Stop) (own : Stop) → ending_of why ≡ Err own → why ≢ script_stop.Output
not_output why own is same = never_ok replayed.Prefix own (ap ending_of (sym same) ∙ is)

module _ (why : script.Stop) (result : Result Replayed Stop) (is : result ≡ ending_of why) where
  pub never_whole : (P : List ℕ → Type 0) → IfOk result (λ r. OnWhole r P)
  never_whole P = subst (λ (r : Result Replayed Stop). IfOk r (λ x. OnWhole x P)) (sym is) (never_whole_in why P)

  pub output_failed : (P : Type 0) → OnOutput P why → IfOk result (λ r. OnPrefix r P)
  output_failed P p = subst (λ (r : Result Replayed Stop). IfOk r (λ x. OnPrefix x P)) (sym is) (output_in why P p)

  pub ending_causes : (before now : Fault → ℕ) → now ≡ before → StopsByCause before now result
  ending_causes before now same = subst (λ (r : Result Replayed Stop). StopsByCause before now r) (sym is) (ending_caused why before now same)

  pub input_ends : (before now : ℕ) → now ≡ input_counted why before → now ≡ input_after result before
  input_ends before now same = subst (λ (r : Result Replayed Stop). now ≡ input_after r before) (sym is) (ending_input why before now same)

  pub output_ends : (before now : ℕ) → now ≡ output_counted why before → now ≡ output_after result before
  output_ends before now same = subst (λ (r : Result Replayed Stop). now ≡ output_after r before) (sym is) (ending_output why before now same)

  pub stops_inside : (told : Type 0) (budget : ℕ) (words : Words) (same : Type 0) (rest_before rest_now written_before written_now : List ℕ) (faults_before faults_now : ℕ)
      → (why ≢ script_stop.Output → told → HasPart budget words rest_before rest_now written_before written_now why)
      → OnForeign (λ place. told → ⊥) why → OnInput (Rose faults_before faults_now) why
      → (told_words : Type 0) → IfErr result (λ own. StopsBefore told_words words same own ⊎ StopsInside told budget words rest_before rest_now written_before written_now faults_before faults_now own)
  stops_inside told budget words same rest_before rest_now written_before written_now faults_before faults_now has foreign input told_words =
      if_err result _ (λ own ends. inr (record {
        script_why = why;
        ends = sym is ∙ ends;
        has = has (not_output why own (sym is ∙ ends));
        never_foreign = foreign;
        input = input;
      }))

-- a failed read of the image is an early stop
pub read_early : (T : Type 0) (why : Stop) → IsReadStop why → (let r : Result T Stop = Err why in StopsEarly r)
read_early T stop.Read reads = tt
read_early T (stop.Foreign found) reads = tt
read_early T _ reads = absurd reads
