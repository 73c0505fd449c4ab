-- The lists that a board stands for during a call of a node, from one of its calls to the next.
use Rattle.std.proofs.Common.{◌≡◌, ◌≢◌, inl, inr, ℕ, ◌+◌, ◌≤◌, ◌<◌, Bool, true, false, List, [], ◌∷◌, ◌++◌, length, drop, Option, Some, None, refl, sym, ◌∙◌, ap, subst, arith}
use Rattle.std.specs.Option.{is_some}
use Rattle.flash_traits.specs.declared.stream.Source as source
use Rattle.flash_traits.specs.declared.stream.Sink as sink
use Rattle.flash_traits.specs.Losses.{Received, SentFrame}
use Rattle.flash_traits.specs.declared.board.Event.{Event}
use Rattle.script_lines.specs.Script.{ScriptLine}
use Rattle.script_lines.specs.declared.line.Waiting.{Waiting}
use Rattle.script_board.specs.Boards.{unread_in}
use Rattle.script_board.specs.Hearing.{IsUnheard, IsRefused}
use Rattle.script_board.specs.Marks.{marked}
use Rattle.script_board.specs.Waiting.{falls_now}
use Rattle.script_board.specs.declared.board.ScriptMark.{ScriptMark}
use Rattle.script_board.specs.declared.board.ScriptMark.TheVariants.{Lost, Output}
use Rattle.script_board.specs.declared.board.ScriptBoard.{ScriptBoard}
use Rattle.script_board.specs.Printing.{frame_line}
use Rattle.script_board.proofs.Listed.{unread_by}
use Rattle.script_replay.specs.Calls.{Takes, AreBytes, ArePrinted, WaitsBy, HasHeard}
use Rattle.script_replay.specs.Held.{HasLists, StandsFor}
use Rattle.script_replay.specs.declared.start.Start as start
use Rattle.script_replay.proofs.Frames.{printed_more}

pub none_no_output : (let none : Option ScriptMark = None in none) ≡ Some Output → ⊥
none_no_output is = cc

-- a script without a failure heard the event that it was asked for
pub on_heard : (was here : ℕ) (refused : Type 0) (next : ℕ) (lines : List ScriptLine) → IsUnheard None None 0 lines was here next refused → ⊥
on_heard was here refused next lines (inl (front, ends, losses, mark, still)) = cc
on_heard was here refused next lines (inr (inl (losses, fault, mark))) = let is = mark refl in cc
on_heard was here refused next lines (inr (inr (losses, refusal, mark, still))) = cc

-- what a call that takes no line does to the losses that wait, where the script had not failed
pub heard_then : (room : Bool) (heard : Option Event) (buffer : List ℕ) (mark : Option ScriptMark) (before now later next more was here first last : ℕ) (refused refusal : Type 0) (lines : List ScriptLine)
    → ((would : ℕ) → now ≡ would → WaitsBy mark would later)
    → HasHeard room heard buffer None before now was here next refused lines → HasHeard room heard buffer mark before later first last more refusal lines
heard_then room None buffer mark before now later next more was here first last refused refusal lines waits (inl (none, same)) = inl (none, waits before same)
heard_then room None buffer mark before now later next more was here first last refused refusal lines waits (inr (roomy, unheard, same)) = absurd (on_heard was here refused next lines unheard)
heard_then room (Some event) buffer mark before now later next more was here first last refused refusal lines waits (heard, same) = (heard, waits _ same)

-- what was heard, by the parts of the board that tell it
abbrev HasHeardOf : {S : Type 0} → Bool → ℕ → ℕ → source.Ghosts S → Option Event → List ℕ → List ScriptLine → S → List ℕ → ℕ → Option ScriptMark → List Waiting → Type 0
HasHeardOf room waited faults g heard buffer lines s unread line mark waiting =
    HasHeard room heard buffer mark waited (length waiting) faults (g.faults s) (line + 1) (IsRefused line waiting unread (g.tells_rest s) (g.rest s)) lines

module _ {S K N : Type 0} {g : source.Ghosts S} {h : sink.Ghosts K} (n : start.Ghosts N) (a b : ScriptBoard S K g h) where
  -- the board is the same
  pub lists_same : b.input.now ≡ a.input.now → b.out.now ≡ a.out.now → unread_in b ≡ unread_in a → b.line ≡ a.line → b.mark ≡ a.mark → b.waiting.items ≡ a.waiting.items
      → (heard : Option Event) (buffer : List ℕ) (e : List Received) (f : List SentFrame) → HasLists n a heard buffer e f → HasLists n b heard buffer e f
  lists_same input out unread line mark waiting heard buffer e f had = record {
    told_rest = λ told. had.told_rest (subst (λ (s : S). g.tells_rest s) input told);
    told_written = λ told. had.told_written (subst (λ (k : K). h.tells_written k) out told);
    events_are = had.events_are;
    printed = λ other told. subst (λ (k : K). ArePrinted n.written (h.written k) f) (sym out) (had.printed (λ is. other (mark ∙ is)) (subst (λ (k : K). h.tells_written k) out told));
    lines = had.lines;
    line = line ∙ had.line;
    hears = by_parts b.input.now (unread_in b) b.line b.mark b.waiting.items input unread line mark waiting;
    takes = λ told. subst (λ (s : S). Takes n.unread n.rest (unread_in b) (g.rest s) had.lines) (sym input)
        (subst (λ (u : List ℕ). Takes n.unread n.rest u (g.rest a.input.now) had.lines) (sym unread) (had.takes (subst (λ (s : S). g.tells_rest s) input told)));
    few = had.few;
  }
    where
      by_parts : (s : S) (u : List ℕ) (l : ℕ) (m : Option ScriptMark) (w : List Waiting) → s ≡ a.input.now → u ≡ unread_in a → l ≡ a.line → m ≡ a.mark → w ≡ a.waiting.items
          → HasHeardOf n.room n.waiting n.input_faults g heard buffer had.lines s u l m w
      by_parts s u l m w si ui li mi wi =
          subst (λ (s : S). HasHeardOf n.room n.waiting n.input_faults g heard buffer had.lines s u l m w) (sym si)
          (subst (λ (u : List ℕ). HasHeardOf n.room n.waiting n.input_faults g heard buffer had.lines a.input.now u l m w) (sym ui)
          (subst (λ (l : ℕ). HasHeardOf n.room n.waiting n.input_faults g heard buffer had.lines a.input.now (unread_in a) l m w) (sym li)
          (subst (λ (m : Option ScriptMark). HasHeardOf n.room n.waiting n.input_faults g heard buffer had.lines a.input.now (unread_in a) a.line m w) (sym mi)
          (subst (λ (w : List Waiting). HasHeardOf n.room n.waiting n.input_faults g heard buffer had.lines a.input.now (unread_in a) a.line a.mark w) (sym wi) had.hears))))

  -- a call of the device or of the sink, where the script had not failed
  pub lists_then : a.mark ≡ None → b.input.now ≡ a.input.now → unread_in b ≡ unread_in a → b.line ≡ a.line
      → ((would : ℕ) → length a.waiting.items ≡ would → WaitsBy b.mark would (length b.waiting.items))
      → (h.tells_written b.out.now → h.tells_written a.out.now) → (f fs : List SentFrame)
      → (b.mark ≢ Some Output → h.tells_written b.out.now → ArePrinted n.written (h.written a.out.now) f → ArePrinted n.written (h.written b.out.now) fs)
      → (heard : Option Event) (buffer : List ℕ) (e : List Received) → HasLists n a heard buffer e f → HasLists n b heard buffer e fs
  lists_then on input unread line waits told f fs prints heard buffer e had = record {
    told_rest = λ told. had.told_rest (subst (λ (s : S). g.tells_rest s) input told);
    told_written = λ tells. had.told_written (told tells);
    events_are = had.events_are;
    printed = λ other tells. prints other tells (had.printed (λ is. none_no_output (sym on ∙ is)) (told tells));
    lines = had.lines;
    line = line ∙ had.line;
    hears = heard_then n.room heard buffer b.mark n.waiting (length a.waiting.items) (length b.waiting.items) _ _ _ _ _ _ _ _ had.lines waits
        (subst (λ (m : Option ScriptMark). HasHeard n.room heard buffer m n.waiting (length a.waiting.items) n.input_faults (g.faults a.input.now) (a.line + 1)
        (IsRefused a.line a.waiting.items (unread_in a) (g.tells_rest a.input.now) (g.rest a.input.now)) had.lines) on had.hears);
    takes = λ told. subst (λ (s : S). Takes n.unread n.rest (unread_in b) (g.rest s) had.lines) (sym input)
        (subst (λ (u : List ℕ). Takes n.unread n.rest u (g.rest a.input.now) had.lines) (sym unread) (had.takes (subst (λ (s : S). g.tells_rest s) input told)));
    few = had.few;
  }

pub none_is : {A : Type 0} (o : Option A) (r : Bool) → r ≡ is_some o → r ≡ false → o ≡ None
none_is None r is off = refl
none_is (Some x) r is off = let both : true ≡ false = sym is ∙ off in cc

fewer_wait : (waiting : List Waiting) (since : ℕ) → falls_now waiting since ≡ true → length (drop 1 waiting) + 1 ≡ length waiting
fewer_wait [] since falls = cc
fewer_wait (first ∷ waiting) since falls = omega arith

lost_waits : (waiting later : List Waiting) (since would : ℕ) (old new : Option ScriptMark) → old ≡ None → new ≡ marked old Lost → falls_now waiting since ≡ true → later ≡ drop 1 waiting → length waiting ≡ would
    → WaitsBy new would (length later)
lost_waits waiting later since would old new none lost falls fewer long =
    subst (λ (m : Option ScriptMark). WaitsBy m would (length later)) (sym (lost ∙ ap (λ (m : Option ScriptMark). marked m Lost) none)) (omega (arith, long, ap length fewer, fewer_wait waiting since falls))

-- calls of the device
module _ {S K N : Type 0} {g : source.Ghosts S} {h : sink.Ghosts K} (n : start.Ghosts N) (a b : ScriptBoard S K g h)
    (input : b.input ≡ a.input) (out : b.out ≡ a.out) (buffer : b.buffer ≡ a.buffer) (ahead : b.ahead ≡ a.ahead) (line : b.line ≡ a.line) where
  pub lists_device : b.mark ≡ a.mark → b.waiting.items ≡ a.waiting.items
      → (heard : Option Event) (into : List ℕ) (e : List Received) (f : List SentFrame) → HasLists n a heard into e f → HasLists n b heard into e f
  lists_device mark waiting = lists_same n a b (ap (λ i. i.now) input) (ap (λ o. o.now) out) (unread_by _ _ _ _ (ap (λ l. l.items) buffer) ahead) line mark waiting

  pub lists_lost : a.mark ≡ None → b.mark ≡ marked a.mark Lost → (since : ℕ) → falls_now a.waiting.items since ≡ true → b.waiting.items ≡ drop 1 a.waiting.items
      → (heard : Option Event) (into : List ℕ) (e : List Received) (f : List SentFrame) → HasLists n a heard into e f → HasLists n b heard into e f
  lists_lost on lost since falls fewer heard into e f = lists_then n a b on (ap (λ i. i.now) input) (unread_by _ _ _ _ (ap (λ l. l.items) buffer) ahead) line
      (λ would long. lost_waits a.waiting.items b.waiting.items since would a.mark b.mark on lost falls fewer long)
      (λ told. subst (λ o. h.tells_written o.now) out told) f f
      (λ other told printed. subst (λ o. ArePrinted n.written (h.written o.now) f) (sym out) printed) heard into e

kept_waits : (old new : Option ScriptMark) (waiting later : List Waiting) (would : ℕ) → old ≡ None → new ≡ old → later ≡ waiting → length waiting ≡ would → WaitsBy new would (length later)
kept_waits old new waiting later would none same is long =
    subst (λ (m : Option ScriptMark). WaitsBy m would (length later)) (sym (same ∙ none)) (ap length is ∙ long)

failed_waits : (new : Option ScriptMark) (waiting later : List Waiting) (would : ℕ) → new ≡ Some Output → later ≡ waiting → length waiting ≡ would → WaitsBy new would (length later)
failed_waits new waiting later would marked is long =
    subst (λ (m : Option ScriptMark). WaitsBy m would (length later)) (sym marked) (ap length is ∙ long)

-- calls of the sink
module _ {S K N : Type 0} {g : source.Ghosts S} {h : sink.Ghosts K} (n : start.Ghosts N) (a b : ScriptBoard S K g h) (on : a.mark ≡ None)
    (input : b.input ≡ a.input) (buffer : b.buffer ≡ a.buffer) (ahead : b.ahead ≡ a.ahead) (line : b.line ≡ a.line) (waiting : b.waiting ≡ a.waiting)
    (told : h.tells_written b.out.now → h.tells_written a.out.now) where
  pub lists_sent : (x : SentFrame) → x.peer < 256 → AreBytes x.bytes → b.mark ≡ a.mark → (h.tells_written b.out.now → h.written b.out.now ≡ h.written a.out.now ++ frame_line x)
      → (heard : Option Event) (into : List ℕ) (e : List Received) (f : List SentFrame) → HasLists n a heard into e f → HasLists n b heard into e (f ++ x ∷ [])
  lists_sent x peer bytes mark written heard into e f = lists_then n a b on (ap (λ i. i.now) input) (unread_by _ _ _ _ (ap (λ l. l.items) buffer) ahead) line
      (λ would long. kept_waits a.mark b.mark a.waiting.items b.waiting.items would on mark (ap (λ w. w.items) waiting) long)
      told f (f ++ x ∷ []) (λ other tells printed. printed_more n.written (h.written a.out.now) (h.written b.out.now) f x peer bytes (written tells) printed) heard into e

  pub lists_unsent : b.mark ≡ Some Output
      → (heard : Option Event) (into : List ℕ) (e : List Received) (f : List SentFrame) → HasLists n a heard into e f → HasLists n b heard into e f
  lists_unsent mark heard into e f = lists_then n a b on (ap (λ i. i.now) input) (unread_by _ _ _ _ (ap (λ l. l.items) buffer) ahead) line
      (λ would long. failed_waits b.mark a.waiting.items b.waiting.items would mark (ap (λ w. w.items) waiting) long)
      told f f (λ other tells printed. absurd (other mark)) heard into e

-- a call where only the number of receptions may be told
pub stands_then : {S K N : Type 0} {g : source.Ghosts S} {h : sink.Ghosts K} (n : start.Ghosts N) (a b : ScriptBoard S K g h) (room over : Bool) (heard later : Option Event) (buffer more : List ℕ)
    (e es : List Received) (f fs : List SentFrame) → length e ≤ length es → (HasLists n a heard buffer e f → HasLists n b later more es fs)
    → StandsFor n room over a heard buffer e f → StandsFor n room over b later more es fs
stands_then n a b room true heard later buffer more e es f fs long step many = omega (arith, long, many)
stands_then n a b room false heard later buffer more e es f fs long step had = step had
