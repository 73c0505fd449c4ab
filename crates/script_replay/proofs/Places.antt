-- From one place of the board to the next.
use Rattle.std.proofs.Common.{◌≡◌, ◌⊎◌, inl, inr, ℕ, Bool, true, false, List, [], ◌++◌, length, drop, Option, IsSome, Result, Ok, Err, IfErr, refl, sym, ◌∙◌, ap, subst, arith, length-append, append_assoc}
use Rattle.std.proofs.lemmas.List.{take-append-drop}
use Rattle.flash_traits.specs.Losses.{SentFrame}
use Rattle.flash_traits.specs.declared.stream.Source as source
use Rattle.flash_traits.specs.declared.stream.Sink as sink
use Rattle.sector_image.specs.FirstBad.{Place}
use Rattle.script_lines.specs.Script.{ScriptLine}
use Rattle.script_board.specs.declared.board.ScriptBoard.{ScriptBoard}
use Rattle.replay.specs.Breaks.{OnStopped, OnForeign}
use Rattle.replay.specs.Histories.{AreNext}
use Rattle.replay.specs.Playing.{AddsLines}
use Rattle.replay.specs.declared.Break.{Break}
use Rattle.replay.specs.declared.Break.TheVariants.{Lost, Stopped}
use Rattle.replay.specs.declared.Stop.TheVariants as stops
use Rattle.script_replay.specs.Steps.Places.{input_of, out_of, size_of, unread_at, rest_at, TellsRest, written_at, TellsWritten, line_at, waiting_at, input_faults_at, output_faults_at, TookAt, Starts, Returns, Added, Printed, HoldsAt, ToldAt}
use Rattle.script_replay.specs.declared.start.Start as start
use Rattle.script_replay.specs.declared.start.Beginning as beginning
use Rattle.script_replay.proofs.Scripts.{takes_then}

module _ {S K : Type 0} {g : source.Ghosts S} {h : sink.Ghosts K} where
  -- what stands of the board in a place before a call
  abbrev pub now_at : {N : Type 0} → Bool → Option (ScriptBoard S K g h) → start.Ghosts N
  now_at room place = record {
    input = input_of place;
    out = out_of place;
    sector_bytes = size_of place;
    room = room;
    unread = unread_at place;
    rest = rest_at place;
    tells_rest = TellsRest place;
    written = written_at place;
    tells_written = TellsWritten place;
    line = line_at place;
    waiting = waiting_at place;
    input_faults = input_faults_at place;
    output_faults = output_faults_at place;
  }

  pub starts_now : {N : Type 0} (room : Bool) (place : Option (ScriptBoard S K g h)) → IsSome place → Starts (now_at {N = N} room place) place
  starts_now room place some = record {
    some = some;
    input = refl;
    out = refl;
    size = refl;
    unread = refl;
    rest = refl;
    tells_rest = λ t. t;
    written = refl;
    tells_written = λ t. t;
    line = refl;
    waiting = refl;
    input_faults = refl;
    output_faults = refl;
  }

  module _ {N : Type 0} (room : Bool) (old new : Option (ScriptBoard S K g h)) (back : Returns (now_at {N = N} room old) new) where
    pub grows_then : {M : Type 0} (m : beginning.Ghosts M) → HoldsAt m old → TellsWritten new → (text : List ℕ) × (written_at new ≡ m.written ++ text)
    grows_then m holds told =
        let was = holds.grows (back.told_written told) in
        let more = drop (length (written_at old)) (written_at new) in (
          was.0 ++ more,
          sym (take-append-drop (length (written_at old)) (written_at new)) ∙ ap (λ (l : List ℕ). l ++ more) (back.grows told ∙ was.1) ∙ append_assoc m.written was.0 more,
        )

    -- the player still holds its board
    pub holds_then : {M : Type 0} (m : beginning.Ghosts M) → HoldsAt m old → HoldsAt m new
    holds_then m holds = record {
      some = back.some;
      input = back.input ∙ holds.input;
      out = back.out ∙ holds.out;
      size = back.size ∙ holds.size;
      told_rest = λ t. holds.told_rest (back.told_rest t);
      told_written = λ t. holds.told_written (back.told_written t);
      grows = λ t. grows_then m holds t;
    }

    pub told_then : (before now : Bool) → (now ≡ true → before ≡ true) → ToldAt now new → ToldAt before old
    told_then before now so told = record { unfailed = so told.unfailed; rest = back.told_rest told.rest; written = back.told_written told.written }

    -- the lines that were taken before, and these
    pub next_then : (rest : List ℕ) (lines : List ScriptLine) → Added (now_at {N = N} room old) new lines → TellsRest new → AreNext (TookAt rest old) (TookAt rest new) lines
    next_then rest lines added told before took = (
      let long = length-append before lines in omega (arith, long, added.line, took.0),
      takes_then [] rest (unread_at old) (rest_at old) (unread_at new) (rest_at new) before lines took.1 (added.takes told),
    )

    pub adds_then : (rest : List ℕ) (lines : List ScriptLine) (frames : List SentFrame) → Added (now_at {N = N} room old) new lines → Printed (now_at {N = N} room old) new frames → TellsRest new → TellsWritten new
        → AddsLines (TookAt rest old) (TookAt rest new) (written_at old) (written_at new) lines frames
    adds_then rest lines frames added printed tells told = record { lines_are = next_then rest lines added tells; printed_are = printed told }

-- words that are no image, said of less
pub foreign_less : {T : Type 0} (P Q : Place → Type 0) → ((p : Place) → P p → Q p) → (r : Result T Break) → IfErr r (OnStopped (OnForeign P)) → IfErr r (OnStopped (OnForeign Q))
foreign_less P Q so (Ok t) is = tt
foreign_less P Q so (Err Lost) is = tt
foreign_less P Q so (Err (Stopped stops.Memory)) is = tt
foreign_less P Q so (Err (Stopped (stops.Foreign region offset word))) is = so _ is
foreign_less P Q so (Err (Stopped (stops.Worn count))) is = tt
foreign_less P Q so (Err (Stopped (stops.Refused line))) is = tt
foreign_less P Q so (Err (Stopped stops.Input)) is = tt
foreign_less P Q so (Err (Stopped stops.Output)) is = tt
