-- Calls of a node over a board that runs a script, one after another.
use Rattle.std.proofs.Common.{◌≡◌, ℕ, ◌+◌, List, [], ◌∷◌, ◌++◌, length, length-append, refl, sym, ◌∙◌, ap, subst, arith, append_assoc, append-nil}
use Rattle.flash_traits.specs.Words.{Words}
use Rattle.flash_traits.specs.Losses.{Received, SentFrame}
use Rattle.guard_row.specs.Row.{IsGuardRow}
use Rattle.sector_image.specs.Stands.{Stands}
use Rattle.vehicle_runs.specs.Guard.{MayWear}
use Rattle.vehicle_runs.specs.Safe.{Safe}
use Rattle.vehicle_node.specs.Standing.{Node, StandsForRun, StaysWithin}
use Rattle.script_lines.specs.Script.{ScriptLine}
use Rattle.script_board.specs.Taking.{events_in, events_of}
use Rattle.script_board.specs.Printing.{frame_line, frame_lines}
use Rattle.replay.specs.Guard.{Rises}
use Rattle.replay.specs.Histories.{AreNext}
use Rattle.replay.specs.Playing.{AddsLines, GoesOn, Breaks, BreaksFrom}
use Rattle.replay.specs.declared.Break.{Break}
use Rattle.replay.proofs.Causes.{worn_in}

pub events_of-append : (ls ms : List ScriptLine) → events_of (ls ++ ms) ≡ events_of ls ++ events_of ms
events_of-append [] ms = refl
events_of-append (l ∷ ls) ms = ap (λ (es : List Received). events_in l ++ es) (events_of-append ls ms) ∙ sym (append_assoc (events_in l) (events_of ls) (events_of ms))

pub frame_lines-append : (fs gs : List SentFrame) → frame_lines (fs ++ gs) ≡ frame_lines fs ++ frame_lines gs
frame_lines-append [] gs = refl
frame_lines-append (f ∷ fs) gs = ap (λ (bs : List ℕ). frame_line f ++ bs) (frame_lines-append fs gs) ∙ sym (append_assoc (frame_line f) (frame_lines fs) (frame_lines gs))

-- what two calls took, one after another
pub next_none : (took : List ScriptLine → Type 0) → AreNext took took []
next_none took before is = subst took (sym (append-nil before)) is

pub next_then : (t0 t1 t2 : List ScriptLine → Type 0) (a b : List ScriptLine) → AreNext t0 t1 a → AreNext t1 t2 b → AreNext t0 t2 (a ++ b)
next_then t0 t1 t2 a b first second before is = subst t2 (append_assoc before a b) (second (before ++ a) (first before is))

pub next_quiet : (t0 t1 t2 : List ScriptLine → Type 0) (a : List ScriptLine) → AreNext t0 t1 a → AreNext t1 t2 [] → AreNext t0 t2 a
next_quiet t0 t1 t2 a first second = subst (AreNext t0 t2) (append-nil a) (next_then t0 t1 t2 a [] first second)

pub adds_none : (took : List ScriptLine → Type 0) (p : List ℕ) → AddsLines took took p p [] []
adds_none took p = record { lines_are = next_none took; printed_are = sym (append-nil p) }

pub adds_then : (t0 t1 t2 : List ScriptLine → Type 0) (p0 p1 p2 : List ℕ) (a b : List ScriptLine) (f g : List SentFrame) → AddsLines t0 t1 p0 p1 a f → AddsLines t1 t2 p1 p2 b g → AddsLines t0 t2 p0 p2 (a ++ b) (f ++ g)
adds_then t0 t1 t2 p0 p1 p2 a b f g first second = record {
  lines_are = next_then t0 t1 t2 a b first.lines_are second.lines_are;
  printed_are = second.printed_are ∙ ap (λ (l : List ℕ). l ++ frame_lines g) first.printed_are ∙ append_assoc p0 (frame_lines f) (frame_lines g)
      ∙ ap (λ (l : List ℕ). p0 ++ l) (sym (frame_lines-append f g));
}

-- a quiet call after it adds nothing
pub adds_quiet : (t0 t1 t2 : List ScriptLine → Type 0) (p0 p1 p2 : List ℕ) (a : List ScriptLine) (f : List SentFrame) → AddsLines t0 t1 p0 p1 a f → AddsLines t1 t2 p1 p2 [] [] → AddsLines t0 t2 p0 p2 a f
adds_quiet t0 t1 t2 p0 p1 p2 a f first second = record {
  lines_are = next_quiet t0 t1 t2 a first.lines_are second.lines_are;
  printed_are = second.printed_are ∙ append-nil p1 ∙ first.printed_are;
}

-- what is said of a run's events, of its frames and of how many are finished, where none come after it, and where two calls do
after_none : (P : List Received → List SentFrame → ℕ → Type 0) (e : List Received) (f : List SentFrame) (m : ℕ) → P e f m → P (e ++ []) (f ++ []) (m + 0)
after_none P e f m is = subst (λ (l : List Received). P l (f ++ []) (m + 0)) (sym (append-nil e)) (subst (λ (l : List SentFrame). P e l (m + 0)) (sym (append-nil f)) (subst (λ (k : ℕ). P e f k) (omega arith) is))

pub goes_on_none : (node : Node) → GoesOn node node [] []
goes_on_none node = record {
  stands = λ b e f m run. after_none (StandsForRun node b) e f m run;
  within = λ count b e f m run. after_none (StaysWithin count node b) e f m run;
}

pub events_length : (a b : List ScriptLine) → length (events_of (a ++ b)) ≡ length (events_of a) + length (events_of b)
events_length a b = ap length (events_of-append a b) ∙ length-append (events_of a) (events_of b)

events_then : (P : List Received → Type 0) (e : List Received) (a b : List ScriptLine) → P ((e ++ events_of a) ++ events_of b) → P (e ++ events_of (a ++ b))
events_then P e a b is = subst (λ (l : List Received). P (e ++ l)) (sym (events_of-append a b)) (subst P (append_assoc e (events_of a) (events_of b)) is)

after_then : (P : List Received → List SentFrame → ℕ → Type 0) (e : List Received) (s : List SentFrame) (m : ℕ) (a b : List ScriptLine) (f g : List SentFrame) (n : ℕ)
    → P ((e ++ events_of a) ++ events_of b) ((s ++ f) ++ g) (m + length (events_of a) + n) → P (e ++ events_of (a ++ b)) (s ++ (f ++ g)) (m + (length (events_of a) + n))
after_then P e s m a b f g n is =
    subst (λ (k : ℕ). P (e ++ events_of (a ++ b)) (s ++ (f ++ g)) k) (omega arith)
    (events_then (λ (l : List Received). P l (s ++ (f ++ g)) (m + length (events_of a) + n)) e a b
    (subst (λ (l : List SentFrame). P ((e ++ events_of a) ++ events_of b) l (m + length (events_of a) + n)) (append_assoc s f g) is))

goes_on_after : (P : List Received → List SentFrame → ℕ → Type 0) (e : List Received) (s : List SentFrame) (m : ℕ) (a b : List ScriptLine) (f g : List SentFrame)
    → P ((e ++ events_of a) ++ events_of b) ((s ++ f) ++ g) (m + length (events_of a) + length (events_of b)) → P (e ++ events_of (a ++ b)) (s ++ (f ++ g)) (m + length (events_of (a ++ b)))
goes_on_after P e s m a b f g is = subst (λ (k : ℕ). P (e ++ events_of (a ++ b)) (s ++ (f ++ g)) k) (omega (arith, events_length a b)) (after_then P e s m a b f g (length (events_of b)) is)

pub goes_on_then : (x y z : Node) (a b : List ScriptLine) (f g : List SentFrame) → GoesOn x y (events_of a) f → GoesOn y z (events_of b) g → GoesOn x z (events_of (a ++ b)) (f ++ g)
goes_on_then x y z a b f g first second = record {
  stands = λ by e s m run. goes_on_after (StandsForRun z by) e s m a b f g
      (second.stands by (e ++ events_of a) (s ++ f) (m + length (events_of a)) (first.stands by e s m run));
  within = λ count by e s m run. goes_on_after (StaysWithin count z by) e s m a b f g
      (second.within count by (e ++ events_of a) (s ++ f) (m + length (events_of a)) (first.within count by e s m run));
}

pub breaks_then : (budget : ℕ) (how : Break) (x y : Node) (a b : List ScriptLine) (f g : List SentFrame) (n : ℕ) (w : Words) → GoesOn x y (events_of a) f → Breaks budget how y (events_of b) g n w
    → Breaks budget how x (events_of (a ++ b)) (f ++ g) (length (events_of a) + n) w
breaks_then budget how x y a b f g n w first second = record {
  safe = λ by e s m run. after_then (λ (l : List Received) (k : List SentFrame) (j : ℕ). Safe budget by l k j w) e s m a b f g n
      (second.safe by (e ++ events_of a) (s ++ f) (m + length (events_of a)) (first.stands by e s m run));
  rises = λ count by e s m run. events_then (λ (l : List Received). Rises budget count by l w) e a b
      (second.rises count by (e ++ events_of a) (s ++ f) (m + length (events_of a)) (first.within count by e s m run));
  worn = worn_in how (λ full wears count by e s m run. events_then (MayWear budget count by) e a b
      (wears count by (e ++ events_of a) (s ++ f) (m + length (events_of a)) (first.within count by e s m run))) second.worn;
}

-- a run that stands from these words on breaks off
pub breaks_from : (budget : ℕ) (how : Break) (before : Words) (node : Node) (es events : List Received) (fs frames : List SentFrame) (n finished : ℕ) (now : Words)
    → ((b : List ℕ) → Stands before b → StandsForRun node b es fs n)
    → ((count : ℕ) (b : List ℕ) → IsGuardRow before.guard count → Stands before b → StaysWithin count node b es fs n)
    → Breaks budget how node events frames finished now → BreaksFrom budget how before (es ++ events) (fs ++ frames) (n + finished) now
breaks_from budget how before node es events fs frames n finished now runs within broke = record {
  safe = λ b began. broke.safe b es fs n (runs b began);
  rises = λ count b row began. broke.rises count b es fs n (within count b row began);
  worn = worn_in how (λ full wears count b row began. wears count b es fs n (within count b row began)) broke.worn;
}

pub breaks_from_by : (budget : ℕ) (how why : Break) (before : Words) (events : List Received) (frames : List SentFrame) (n : ℕ) (now : Words) → how ≡ why
    → BreaksFrom budget how before events frames n now → BreaksFrom budget why before events frames n now
breaks_from_by budget how why before events frames n now is broke = subst (λ (h : Break). BreaksFrom budget h before events frames n now) is broke
