-- Steps of which none wears the guard row, one after another.
use Rattle.std.proofs.Common.{◌≡◌, Bool, false, List, [], ◌∷◌, ◌++◌, refl, sym, ◌∙◌, ap, subst, append_assoc, append-nil}
use Rattle.storage_lines.specs.declared.lines.LineWrite.{LineWrite}
use Rattle.dirty_lines.specs.Lines.{Lines, lines_of}
use Rattle.dirty_lines.specs.Entries.{CutIntoEntries}
use Rattle.dirty_lines.specs.Wearing.{NoneWears}
use Rattle.vehicle_core.specs.Acts.{Act}
use Rattle.vehicle_runs.specs.Arming.{is_armed_after, is_armed_after_all}
use Rattle.vehicle_node.specs.Wearing.{LineStep, Issue, Put, Compact, Compacts, AreSteps, issued_by, Unworn, ActsUnworn}

steps_then : (armed : Bool) (xs ys : List LineStep) (old mid new : Lines) → AreSteps armed xs old mid → AreSteps armed ys mid new → AreSteps armed (xs ++ ys) old new
steps_then armed [] ys old mid new first second = subst (λ (l : Lines). AreSteps armed ys l new) first second
steps_then armed (x ∷ xs) ys old mid new first second = (first.0, first.1, steps_then armed xs ys first.0 mid new first.2 second)

issued-append : (xs ys : List LineStep) → issued_by (xs ++ ys) ≡ issued_by xs ++ issued_by ys
issued-append [] ys = refl
issued-append (Issue writes ∷ xs) ys = ap (λ (l : List LineWrite). writes ++ l) (issued-append xs ys) ∙ sym (append_assoc writes (issued_by xs) (issued_by ys))
issued-append (Put entries ∷ xs) ys = issued-append xs ys
issued-append (Compact ∷ xs) ys = issued-append xs ys

-- nothing is done
pub unworn_none : (armed : Bool) (lines : Lines) → Unworn armed [] lines lines
unworn_none armed lines = record { steps = []; issued = refl; done = refl }

-- more is done
pub unworn_then : (armed : Bool) (first more : List LineWrite) (old mid new : Lines) → Unworn armed first old mid → Unworn armed more mid new → Unworn armed (first ++ more) old new
unworn_then armed first more old mid new p q = record {
  steps = p.steps ++ q.steps;
  issued = issued-append p.steps q.steps ∙ ap (λ (l : List LineWrite). l ++ issued_by q.steps) p.issued ∙ ap (λ (l : List LineWrite). first ++ l) q.issued;
  done = steps_then armed p.steps q.steps old mid new p.done q.done;
}

-- entries are put
pub unworn_put : (armed : Bool) (old new : Lines) (entries : List (List LineWrite)) → CutIntoEntries entries new.pending old.pending → NoneWears armed entries old.store new.store → Unworn armed [] old new
unworn_put armed old new entries cut each = record { steps = Put entries ∷ []; issued = refl; done = (new, (cut, each), refl) }

-- the store is made to stand alone
pub unworn_compact : (armed : Bool) (old new : Lines) → armed ≡ false → Compacts old new → Unworn armed [] old new
unworn_compact armed old new not compacts = record { steps = Compact ∷ []; issued = refl; done = (new, (not, compacts), refl) }

-- lines are issued
pub unworn_issue : (armed : Bool) (old : Lines) (writes : List LineWrite) → Unworn armed writes old (lines_of old.store (old.pending ++ writes))
unworn_issue armed old writes = record { steps = Issue writes ∷ []; issued = append-nil writes; done = (lines_of old.store (old.pending ++ writes), refl, refl) }

-- acts one after another
pub acts_unworn : (armed : Bool) (xs ys : List Act) (first more : List LineWrite) (old mid new : Lines)
    → ActsUnworn armed xs first old mid → ActsUnworn (is_armed_after_all armed xs) ys more mid new → ActsUnworn armed (xs ++ ys) (first ++ more) old new
acts_unworn armed [] ys first more old mid new p q =
    subst (λ (l : List LineWrite). ActsUnworn armed ys (l ++ more) old new) (sym p.0) (subst (λ (l : Lines). ActsUnworn armed ys more l new) p.1 q)
acts_unworn armed (x ∷ xs) ys first more old mid new p q = (
  p.0,
  p.1 ++ more,
  p.2,
  ap (λ (l : List LineWrite). l ++ more) p.3 ∙ append_assoc p.0 p.1 more,
  p.4,
  acts_unworn (is_armed_after armed x) xs ys p.1 more p.2 mid new p.5 q,
)
