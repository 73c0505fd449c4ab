-- The one reception of a call of a node.
use Rattle.std.proofs.Common.{◌≡◌, inl, inr, ℕ, ◌+◌, ◌≤◌, Bool, true, false, List, [], ◌∷◌, ◌++◌, length, Option, Some, None, Ok, refl, sym, ◌∙◌, ap, subst, arith, append_assoc}
use Rattle.std.specs.Option.{IsSome}
use Rattle.flash_traits.specs.declared.stream.Source as source
use Rattle.flash_traits.specs.declared.stream.Sink as sink
use Rattle.flash_traits.specs.Counts.{raised}
use Rattle.flash_traits.specs.Losses.{Received, received, SentFrame}
use Rattle.flash_traits.specs.declared.board.Event.{Event}
use Rattle.script_lines.specs.Script.{ScriptLine}
use Rattle.script_board.specs.Marks.{marked}
use Rattle.script_board.specs.Taking.{AreTaken, Took}
use Rattle.script_board.specs.Boards.{unread_in}
use Rattle.script_board.specs.Hearing.{IsEventHeard, IsUnheard, IsRefused, FewWait, waiting_behind, loses}
use Rattle.script_board.specs.declared.board.ScriptMark.{ScriptMark}
use Rattle.script_board.specs.declared.board.ScriptMark.TheVariants.{Lost, Refused, Input}
use Rattle.script_board.specs.declared.board.ScriptBoard.{ScriptBoard}
use Rattle.script_replay.specs.Calls.{Takes, ArePrinted, WaitsBy, HasHeard}
use Rattle.script_replay.specs.Held.{HasLists, input_marked, output_marked}
use Rattle.script_replay.specs.declared.start.Start as start
use Rattle.script_replay.proofs.Lists.{on_heard, none_no_output}

-- no line takes no byte
no_lines : (bytes rest : List ℕ) → AreTaken [] bytes rest → bytes ≡ []
no_lines bytes rest (inl none) = none
no_lines [] rest (inr (is, end)) = absurd (cc)
no_lines (b ∷ bytes) rest (inr (is, end)) = absurd (cc)

-- taking lines where none was taken before
pub takes_first : {S : Type 0} (g : source.Ghosts S) (a b : S) (before rest was now : List ℕ) (none lines : List ScriptLine) (count : ℕ) → none ≡ []
    → Took g a b was now lines count → g.tells_rest b → Takes before rest was (g.rest a) none → Takes before rest now (g.rest b) lines
takes_first g a b before rest was now none lines count empty took told had =
    let nothing : had.bytes ≡ [] = no_lines had.bytes _ (subst (λ (l : List ScriptLine). AreTaken l had.bytes (was ++ g.rest a)) empty had.whole) in
    record {
      bytes = took.bytes;
      split = had.split ∙ ap (λ (l : List ℕ). l ++ (was ++ g.rest a)) nothing ∙ ap (λ (l : List ℕ). was ++ l) (took.rest told) ∙ sym (append_assoc was took.fresh (g.rest b))
          ∙ ap (λ (l : List ℕ). l ++ g.rest b) took.unread ∙ append_assoc took.bytes now (g.rest b);
      whole = took.whole told;
    }

some_mark : (m : Option ScriptMark) → IsSome m → m ≡ None → ⊥
some_mark None some is = let both : false ≡ true = some in cc
some_mark (Some mark) some is = cc

pub not_on : (m : Option ScriptMark) (P : Type 0) → IsSome m → m ≡ None → P
not_on m P some is = absurd (some_mark m some is)

-- the counts of the source and of the sink before a call failed
pub none_input : (m : Option ScriptMark) (before now : ℕ) → m ≡ None → now ≡ input_marked m before → now ≡ before
none_input m before now none counts = counts ∙ ap (λ (m : Option ScriptMark). input_marked m before) none

pub none_output : (m : Option ScriptMark) (before now : ℕ) → m ≡ None → now ≡ output_marked m before → now ≡ before
none_output m before now none counts = counts ∙ ap (λ (m : Option ScriptMark). output_marked m before) none

-- and where no event came
module _ (old now : Option ScriptMark) (failures next start : ℕ) (lines : List ScriptLine) (was here : ℕ) (refused : Type 0) (none : old ≡ None) (few : failures ≡ 0) where
  to_mark : (m : ScriptMark) → now ≡ marked old m → now ≡ Some m
  to_mark m is = is ∙ ap (λ (o : Option ScriptMark). marked o m) none

  pub unheard_input : was ≡ input_marked old start → IsUnheard old now failures lines was here next refused → here ≡ input_marked now start
  unheard_input counts (inl (front, ends, losses, mark, still)) = still ∙ none_input old start was none counts ∙ ap (λ (m : Option ScriptMark). input_marked m start) (sym (to_mark Lost mark))
  unheard_input counts (inr (inl (losses, fault, mark))) = fault ∙ ap raised (none_input old start was none counts) ∙ ap (λ (m : Option ScriptMark). input_marked m start) (sym (to_mark Input (mark few)))
  unheard_input counts (inr (inr (losses, refusal, mark, still))) = still ∙ none_input old start was none counts ∙ ap (λ (m : Option ScriptMark). input_marked m start) (sym (to_mark (Refused next) mark))

  pub unheard_output : (sent : ℕ) → sent ≡ output_marked old start → IsUnheard old now failures lines was here next refused → sent ≡ output_marked now start
  unheard_output sent counts (inl (front, ends, losses, mark, still)) = none_output old start sent none counts ∙ ap (λ (m : Option ScriptMark). output_marked m start) (sym (to_mark Lost mark))
  unheard_output sent counts (inr (inl (losses, fault, mark))) = none_output old start sent none counts ∙ ap (λ (m : Option ScriptMark). output_marked m start) (sym (to_mark Input (mark few)))
  unheard_output sent counts (inr (inr (losses, refusal, mark, still))) = none_output old start sent none counts ∙ ap (λ (m : Option ScriptMark). output_marked m start) (sym (to_mark (Refused next) mark))

-- no event, from the start of a node's call
unheard_since : (old now : Option ScriptMark) (failures next faults was : ℕ) (lines : List ScriptLine) (here : ℕ) (refused : Type 0) → old ≡ None → failures ≡ 0 → was ≡ faults
    → IsUnheard old now failures lines was here next refused → IsUnheard None now 0 lines faults here next refused
unheard_since old now failures next faults was lines here refused none few same (inl (front, ends, losses, mark, still)) = inl (front, ends, losses, mark ∙ ap (λ m. marked m Lost) none, still ∙ same)
unheard_since old now failures next faults was lines here refused none few same (inr (inl (losses, fault, mark))) =
    inr (inl (losses, fault ∙ ap raised same, λ zero. mark few ∙ ap (λ m. marked m Input) none))
unheard_since old now failures next faults was lines here refused none few same (inr (inr (losses, refusal, mark, still))) = inr (inr (losses, refusal, mark ∙ ap (λ m. marked m (Refused next)) none, still ∙ same))

-- nothing was heard before
pub nothing_yet : (room : Bool) (buffer : List ℕ) (mark : Option ScriptMark) (before now next was here : ℕ) (refused : Type 0) (lines : List ScriptLine) → mark ≡ None → HasHeard room None buffer mark before now was here next refused lines
    → (lines ≡ []) × (now ≡ before)
nothing_yet room buffer mark before now next was here refused lines on (inl (none, waits)) = (none, subst (λ (m : Option ScriptMark). WaitsBy m before now) on waits)
nothing_yet room buffer mark before now next was here refused lines on (inr (roomy, unheard, waits)) =
    absurd (on_heard was here refused next lines (subst (λ (m : Option ScriptMark). IsUnheard None m 0 lines was here next refused) on unheard))

module _ {S K N : Type 0} {g : source.Ghosts S} {h : sink.Ghosts K} (n : start.Ghosts N) (a b : ScriptBoard S K g h) (on : a.mark ≡ None) (out : b.out ≡ a.out) (lines : List ScriptLine) (count : ℕ)
    (took : Took g a.input.now b.input.now (unread_in a) (unread_in b) lines count) (line : b.line ≡ a.line + length lines) (heard : Option Event) (buffer : List ℕ) (e : List Received) (f : List SentFrame) where
  pub lists_heard : (event : Event) (into later : List ℕ) → heard ≡ None → later ≡ into → length b.waiting.items ≡ waiting_behind (Ok event) (length a.waiting.items) lines → IsEventHeard event into lines → b.mark ≡ a.mark → FewWait (length a.waiting.items) lines
      → HasLists n a heard buffer e f → HasLists n b (Some event) later (e ++ received event into ∷ []) f
  lists_heard event into later none copied waits hears mark few_wait stood = more (subst (λ (x : Option Event). HasLists n a x buffer e f) none stood)
    where
      more : HasLists n a None buffer e f → HasLists n b (Some event) later (e ++ received event into ∷ []) f
      more had =
          let yet = nothing_yet n.room buffer a.mark n.waiting (length a.waiting.items) _ _ _ _ had.lines on had.hears in
          record {
            told_rest = λ told. had.told_rest (took.told_rest told);
            told_written = λ told. had.told_written (subst (λ o. h.tells_written o.now) out told);
            events_are = ap (λ (l : List Received). l ++ received event into ∷ []) had.events_are ∙ ap (λ (l : List ℕ). received event l ∷ []) (sym copied);
            printed = λ other told. subst (λ o. ArePrinted n.written (h.written o.now) f) (sym out) (had.printed (λ is. other (mark ∙ is)) (subst (λ o. h.tells_written o.now) out told));
            lines = lines;
            line = line ∙ omega (arith, had.line, ap length yet.0);
            hears = (
              subst (λ (l : List ℕ). IsEventHeard event l lines) (sym copied) hears,
              subst (λ (m : Option ScriptMark). WaitsBy m (waiting_behind (Ok event) n.waiting lines) (length b.waiting.items)) (sym (mark ∙ on))
                  (waits ∙ ap (λ (k : ℕ). waiting_behind (Ok event) k lines) yet.1),
            );
            takes = λ told. takes_first g a.input.now b.input.now n.unread n.rest (unread_in a) (unread_in b) had.lines lines count yet.0 took told (had.takes (took.told_rest told));
            few = subst (λ (k : ℕ). FewWait k lines) yet.1 few_wait;
          }

  pub lists_unheard : (failures : ℕ) → n.room ≡ true → heard ≡ None → failures ≡ 0 → g.faults a.input.now ≡ n.input_faults → length b.waiting.items ≡ length a.waiting.items + loses lines
      → IsUnheard a.mark b.mark failures lines (g.faults a.input.now) (g.faults b.input.now) (b.line + 1) (IsRefused b.line b.waiting.items (unread_in b) (g.tells_rest b.input.now) (g.rest b.input.now))
      → FewWait (length a.waiting.items) lines → HasLists n a heard buffer e f → HasLists n b heard buffer e f
  lists_unheard failures roomy none few low waits unheard few_wait stood =
      subst (λ (x : Option Event). HasLists n b x buffer e f) (sym none) (more (subst (λ (x : Option Event). HasLists n a x buffer e f) none stood))
    where
      more : HasLists n a None buffer e f → HasLists n b None buffer e f
      more had =
          let yet = nothing_yet n.room buffer a.mark n.waiting (length a.waiting.items) _ _ _ _ had.lines on had.hears in
          record {
            told_rest = λ told. had.told_rest (took.told_rest told);
            told_written = λ told. had.told_written (subst (λ o. h.tells_written o.now) out told);
            events_are = had.events_are;
            printed = λ other told. subst (λ o. ArePrinted n.written (h.written o.now) f) (sym out) (had.printed (λ is. none_no_output (sym on ∙ is)) (subst (λ o. h.tells_written o.now) out told));
            lines = lines;
            line = line ∙ omega (arith, had.line, ap length yet.0);
            hears = inr (roomy, unheard_since a.mark b.mark failures (b.line + 1) n.input_faults (g.faults a.input.now) lines (g.faults b.input.now) _ on few low unheard, omega (arith, waits, yet.1));
            takes = λ told. takes_first g a.input.now b.input.now n.unread n.rest (unread_in a) (unread_in b) had.lines lines count yet.0 took told (had.takes (took.told_rest told));
            few = subst (λ (k : ℕ). FewWait k lines) yet.1 few_wait;
          }
