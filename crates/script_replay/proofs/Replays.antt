-- A replay of the board in a place, from what the player's calls give.
use Rattle.std.proofs.Common.{◌≡◌, ◌≢◌, ℕ, Bool, true, false, List, [], ◌++◌, length, Option, Some, None, IsSome, IfSome, Result, Ok, Err, IfErr, OnOk, refl, sym, ◌∙◌, ap, subst, arith, append-nil}
use Rattle.flash_traits.specs.Budget.{budget_of}
use Rattle.flash_traits.specs.declared.stream.Source as source
use Rattle.flash_traits.specs.declared.stream.Sink as sink
use Rattle.sector_image.specs.Stands.{Stands}
use Rattle.script_lines.specs.Script.{ScriptLine}
use Rattle.script_board.specs.declared.board.ScriptBoard.{ScriptBoard}
use Rattle.replay.specs.Breaks.{OnForeign, OnRefused}
use Rattle.replay.specs.Histories.{AreNext, Replayed, CutShort}
use Rattle.replay.specs.declared.Stop.{Stop}
use Rattle.replay.specs.declared.Stop.TheVariants as stops
use Rattle.script_replay.specs.Calls.{Takes}
use Rattle.script_lines.specs.Reading.{unread_of}
use Rattle.script_board.proofs.Listed.{unread_none}
use Rattle.script_replay.specs.Steps.Places.{input_of, out_of, size_of, input_faults_at, output_faults_at, words_at, unread_at, rest_at, written_at, waiting_at, TellsRest, TellsWritten, TookAt, HoldsAt, ToldAt, RefusesAt}
use Rattle.script_replay.specs.Steps.Replaying.{Begins, RanSo, ReplaysAt, StopsAt}
use Rattle.script_replay.specs.declared.start.Beginning as beginning
use Rattle.script_replay.proofs.Scripts.{takes_none}

module _ {S K : Type 0} {g : source.Ghosts S} {h : sink.Ghosts K} {M : Type 0} (m : beginning.Ghosts M) (old : Option (ScriptBoard S K g h)) (begins : Begins m old) where
  -- the player holds the board at the start, and no loss waits
  pub holds_begins : HoldsAt m old
  holds_begins = record {
    some = begins.some;
    input = begins.input;
    out = begins.out;
    size = begins.size;
    told_rest = begins.tells_rest;
    told_written = begins.tells_written;
    grows = λ told. ([], begins.written ∙ sym (append-nil m.written));
  }

  pub none_waits : waiting_at old ≡ 0
  none_waits = ap length begins.waiting

  took_none : TookAt m.rest old []
  took_none = (
    begins.line,
    subst (λ (u : List ℕ). Takes u m.rest (unread_at old) (rest_at old) []) begins.unread (subst (λ (r : List ℕ). Takes (unread_at old) r (unread_at old) (rest_at old) []) begins.rest (takes_none (unread_at old) (rest_at old))),
  )

  module _ (new : Option (ScriptBoard S K g h)) (printed : Bool) (unfailed : printed ≡ true) where
    ran_so : (H : List ScriptLine → List ℕ → Type 0)
        → (ToldAt printed new → (b : List ℕ) → Stands (words_at old) b → (lines : List ScriptLine) × (text : List ℕ) × AreNext (TookAt m.rest old) (TookAt m.rest new) lines
        × (written_at new ≡ written_at old ++ text) × H lines text) → RanSo m (words_at old) new H
    ran_so H history rest written b stands =
        let ran = history (record { unfailed = unfailed; rest = rest; written = written }) b stands in
        let took = ran.2 [] took_none in
        record {
          text = ran.1;
          written = ran.3 ∙ ap (λ (l : List ℕ). l ++ ran.1) begins.written;
          lines = ran.0;
          count = took.0;
          takes = took.1;
          is = ran.4;
        }

    pub replays_so : (r : Result (Unit {0}) Stop) → OnOk r (ToldAt printed new → (b : List ℕ) → Stands (words_at old) b → (lines : List ScriptLine) × (text : List ℕ)
        × AreNext (TookAt m.rest old) (TookAt m.rest new) lines × (written_at new ≡ written_at old ++ text)
        × Replayed (budget_of m.sector_bytes) (words_at old) lines text (words_at new)) → OnOk r (ReplaysAt m (words_at old) new)
    replays_so (Ok t) history = ran_so _ history
    replays_so (Err e) history = tt

    pub stops_so : (r : Result (Unit {0}) Stop) → IfErr r (λ stop. stop ≢ stops.Output → ToldAt printed new → (b : List ℕ) → Stands (words_at old) b → (lines : List ScriptLine) × (text : List ℕ)
        × AreNext (TookAt m.rest old) (TookAt m.rest new) lines × (written_at new ≡ written_at old ++ text)
        × CutShort (budget_of m.sector_bytes) (words_at old) lines text stop (waiting_at new) (words_at new)) → IfErr r (OnRefused (RefusesAt new))
        → IfErr r (λ stop. stop ≢ stops.Output → StopsAt m (words_at old) new stop)
    stops_so (Ok t) history refused = tt
    stops_so (Err stop) history refused = λ other. ran_so _ (λ told b stands. let ran = history other told b stands in (ran.0, ran.1, ran.2, ran.3, (ran.4, refused)))

    pub foreign_so : (r : Result (Unit {0}) Stop) → IfErr r (OnForeign (λ word. ToldAt printed new → (b : List ℕ) → Stands (words_at old) b → ⊥))
        → IfErr r (OnForeign (λ word. TellsRest new → TellsWritten new → (b : List ℕ) → Stands (words_at old) b → ⊥))
    foreign_so (Ok t) bad = tt
    foreign_so (Err stops.Memory) bad = tt
    foreign_so (Err (stops.Foreign region offset word)) bad = λ rest written. bad (record { unfailed = unfailed; rest = rest; written = written })
    foreign_so (Err (stops.Worn count)) bad = tt
    foreign_so (Err (stops.Refused line)) bad = tt
    foreign_so (Err stops.Input) bad = tt
    foreign_so (Err stops.Output) bad = tt

module _ {S K : Type 0} {g : source.Ghosts S} {h : sink.Ghosts K} where
  -- what stands of the board in a place before a replay
  abbrev pub begins_at : {M : Type 0} → Option (ScriptBoard S K g h) → beginning.Ghosts M
  begins_at place = record {
    input = input_of place;
    out = out_of place;
    sector_bytes = size_of place;
    rest = rest_at place;
    tells_rest = TellsRest place;
    written = written_at place;
    tells_written = TellsWritten place;
    input_faults = input_faults_at place;
    output_faults = output_faults_at place;
  }

  -- a board before the first line of its script
  pub begins_now : {M : Type 0} (place : Option (ScriptBoard S K g h)) → IsSome place
      → IfSome place (λ b. (b.buffer.items ≡ []) × (b.ahead ≡ 0) × (b.line ≡ 0) × (b.waiting.items ≡ [])) → Begins (begins_at {M = M} place) place
  begins_now None some anew = absurd (nobody some)
    where
      nobody : false ≡ true → ⊥
      nobody is = cc
  begins_now (Some b) some anew = record {
    some = some;
    input = refl;
    out = refl;
    size = refl;
    unread = ap (λ (n : ℕ). unread_of b.buffer.items n) anew.1 ∙ unread_none b.buffer.items anew.0;
    rest = refl;
    tells_rest = λ t. t;
    written = refl;
    tells_written = λ t. t;
    line = anew.2;
    waiting = anew.3;
    input_faults = refl;
    output_faults = refl;
  }
