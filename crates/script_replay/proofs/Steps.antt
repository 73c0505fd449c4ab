-- The clauses of a held board's calls.
use Rattle.std.proofs.Common.{◌≡◌, inr, ℕ, ◌≤◌, List, Err, ap, arith}
use Rattle.flash_traits.specs.declared.stream.Source as source
use Rattle.flash_traits.specs.declared.stream.Sink as sink
use Rattle.flash_traits.specs.Words.{Words}
use Rattle.flash_traits.specs.Losses.{Received, SentFrame, Moment, IsUpTo, Outcome, After, OnWords, ChangesWords, Elapses}
use Rattle.script_board.specs.Boards.{words_in}
use Rattle.script_board.specs.Lists.{moment_of}
use Rattle.script_replay.specs.Held.{StandsFor, HasLeft}
use Rattle.script_replay.specs.declared.start.Start as start
use Rattle.script_replay.specs.declared.held.Held.{Held}

module _ {S K N : Type 0} {g : source.Ghosts S} {h : sink.Ghosts K} {n : start.Ghosts N} (old new : Held S K N g h n) where
  -- the clause of a call of the device
  abbrev pub HeldChanges : (Words → Words → Type 0) → (Words → Words → Type 0) → Type 0
  HeldChanges lost done = ChangesWords ⊥
      (λ (x : Held S K N g h n). x.board.geometry.sector_bytes)
      (λ (x : Held S K N g h n). Unit {0})
      (λ (x : Held S K N g h n). words_in x.board)
      (λ (x : Held S K N g h n). StandsFor n x.room x.over x.board x.heard x.buffer)
      (λ (x : Held S K N g h n). moment_of x.board)
      (λ (x : Held S K N g h n). HasLeft n x.over x.board x.heard x.buffer)
      (λ (x : Held S K N g h n) (t : Moment). HasLeft n x.over x.board x.heard x.buffer)
      old new lost done

  pub held_changes : (lost done : Words → Words → Type 0) → new.board.geometry ≡ old.board.geometry → lost (words_in old.board) (words_in new.board) → done (words_in old.board) (words_in new.board)
      → ((e : List Received) (f : List SentFrame) → StandsFor n old.room old.over old.board old.heard old.buffer e f → StandsFor n new.room new.over new.board new.heard new.buffer e f)
      → (moment_of new.board).receptions ≡ (moment_of old.board).receptions → (moment_of new.board).sendings ≡ (moment_of old.board).sendings → IsUpTo (moment_of old.board) (moment_of new.board)
      → ((step : Words → Words → Type 0) → step (words_in old.board) (words_in new.board) → (o : Outcome) → HasLeft n new.over new.board new.heard new.buffer o
      → After (HasLeft n old.over old.board old.heard old.buffer) (OnWords step) o)
      → HeldChanges lost done
  held_changes lost done geometry loses does lists receptions sendings later left = record {
    geometry = ap (λ x. x.sector_bytes) geometry;
    told = λ told. tt;
    content = λ told. does;
    lists = lists;
    receptions = receptions;
    sendings = sendings;
    later = later;
    inside = λ t o le was. inr (left lost loses o was);
    here = λ o was. left done does o was;
    keeps = λ none. absurd none;
  }

  -- the clause of a call of the link
  abbrev pub HeldPasses : (Outcome → Outcome → Type 0) → (Outcome → Outcome → Type 0) → Type 0
  HeldPasses lost done = Elapses ⊥
      (λ (x : Held S K N g h n). moment_of x.board)
      (λ (x : Held S K N g h n). HasLeft n x.over x.board x.heard x.buffer)
      (λ (x : Held S K N g h n) (t : Moment). HasLeft n x.over x.board x.heard x.buffer)
      old new lost done

  pub held_passes : (lost done : Outcome → Outcome → Type 0) → IsUpTo (moment_of old.board) (moment_of new.board)
      → ((o : Outcome) → HasLeft n new.over new.board new.heard new.buffer o → After (HasLeft n old.over old.board old.heard old.buffer) lost o)
      → ((o : Outcome) → HasLeft n new.over new.board new.heard new.buffer o → After (HasLeft n old.over old.board old.heard old.buffer) done o)
      → HeldPasses lost done
  held_passes lost done later loses does = record {
    later = later;
    inside = λ t o le was. inr (loses o was);
    here = does;
    keeps = λ none. absurd none;
  }
