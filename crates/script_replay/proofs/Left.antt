-- What a loss leaves of a board during a call of a node, from one of its calls to the next.
use Rattle.std.proofs.Common.{◌≡◌, ◌≢◌, ◌⊎◌, inl, inr, ℕ, zero, suc, ◌<◌, Bool, List, [], ◌∷◌, ◌++◌, length, take, Option, Some, None, refl, sym, ◌∙◌, ap, subst}
use Rattle.flash_traits.specs.declared.stream.Source as source
use Rattle.flash_traits.specs.declared.stream.Sink as sink
use Rattle.flash_traits.specs.Words.{Words}
use Rattle.flash_traits.specs.Losses.{received, SentFrame, Outcome, After, OnWords, Either, Receives, Sends, Unchanged}
use Rattle.flash_traits.specs.declared.board.Event.{Event}
use Rattle.script_board.specs.Image.{words_of}
use Rattle.script_board.specs.Boards.{words_in, after_loss}
use Rattle.script_board.specs.declared.board.ScriptMark.TheVariants.{Output}
use Rattle.script_board.specs.declared.board.ScriptBoard.{ScriptBoard}
use Rattle.script_board.specs.Printing.{frame_line}
use Rattle.script_replay.specs.Calls.{AreBytes, ArePrinted, events_heard}
use Rattle.script_replay.specs.Held.{HasLeft}
use Rattle.script_replay.specs.declared.start.Start as start
use Rattle.script_replay.proofs.Frames.{front_fits, printed_last}

-- what a loss in a program leaves, by the way of the loss
pub program_leaves : (how : ℕ) (before later now : Words) → now ≡ after_loss how before later → (now ≡ before) ⊎ (now ≡ later)
program_leaves zero before later now is = inl is
program_leaves (suc zero) before later now is = inr is
program_leaves (suc (suc how)) before later now is = inl is

pub same_words : {S K : Type 0} {g : source.Ghosts S} {h : sink.Ghosts K} (a b : ScriptBoard S K g h) → b.geometry ≡ a.geometry → b.image ≡ a.image → words_in b ≡ words_in a
same_words a b geometry image = ap (λ x. words_of x.sector_bytes b.image.items) geometry ∙ ap (λ v. words_of a.geometry.sector_bytes v.items) image

-- the step of the one kind is one of either kind
pub after_either : (start : Outcome → Type 0) (other step : Outcome → Outcome → Type 0) (o : Outcome) → After start step o → After start (Either other step) o
after_either start other step o x = record { from = x.from; was = x.was; steps = inr x.steps }

pub after_unchanged : (start : Outcome → Type 0) (other : Outcome → Outcome → Type 0) (o : Outcome) → After start Unchanged o → After start (Either Unchanged other) o
after_unchanged start other o x = record { from = x.from; was = x.was; steps = inl x.steps }

module _ {S K N : Type 0} {g : source.Ghosts S} {h : sink.Ghosts K} (n : start.Ghosts N) (a b : ScriptBoard S K g h) (over : Bool) (heard : Option Event) (buffer : List ℕ) where
  -- a call of the device
  pub left_device : b.out.now ≡ a.out.now → (b.mark ≢ Some Output → a.mark ≢ Some Output) → (step : Words → Words → Type 0) → step (words_in a) (words_in b)
      → (o : Outcome) → HasLeft n over b heard buffer o → After (HasLeft n over a heard buffer) (OnWords step) o
  left_device out mark step does o left = record {
    from = record { words = words_in a; events = o.events; frames = o.frames };
    was = record {
      within = left.within;
      told = subst (λ (k : K). h.tells_written k) out left.told;
      unfailed = mark left.unfailed;
      words = refl;
      events = left.events;
      frames = subst (λ (k : K). ArePrinted n.written (h.written k) o.frames) out left.frames;
    };
    steps = record { words = subst (step (words_in a)) (sym left.words) does; events = refl; frames = refl };
  }

  -- a call that does nothing to the words
  pub left_same : b.out.now ≡ a.out.now → (b.mark ≢ Some Output → a.mark ≢ Some Output) → words_in b ≡ words_in a
      → (o : Outcome) → HasLeft n over b heard buffer o → After (HasLeft n over a heard buffer) Unchanged o
  left_same out mark words o left = record {
    from = o;
    was = record {
      within = left.within;
      told = subst (λ (k : K). h.tells_written k) out left.told;
      unfailed = mark left.unfailed;
      words = left.words ∙ words;
      events = left.events;
      frames = subst (λ (k : K). ArePrinted n.written (h.written k) o.frames) out left.frames;
    };
    steps = refl;
  }

  -- a frame was printed
  pub left_sent : (x : SentFrame) → x.peer < 256 → AreBytes x.bytes → (h.tells_written b.out.now → h.tells_written a.out.now) → b.mark ≡ a.mark → words_in b ≡ words_in a
      → (h.tells_written a.out.now → take (length n.written) (h.written a.out.now) ≡ n.written) → (h.tells_written b.out.now → h.written b.out.now ≡ h.written a.out.now ++ frame_line x)
      → (o : Outcome) → HasLeft n over b heard buffer o → After (HasLeft n over a heard buffer) (Sends x) o
  left_sent x peer bytes told mark words kept written o left =
      let last = printed_last n.written (h.written a.out.now) (h.written b.out.now) o.frames x (front_fits n.written (h.written a.out.now) (kept (told left.told))) peer bytes (written left.told) left.frames in
      record {
        from = record { words = o.words; events = o.events; frames = last.0 };
        was = record {
          within = left.within;
          told = told left.told;
          unfailed = λ is. left.unfailed (mark ∙ is);
          words = left.words ∙ words;
          events = left.events;
          frames = last.2;
        };
        steps = λ i. record { words = o.words; events = o.events; frames = last.1 i };
      }

  -- a line that failed leaves nothing
  pub left_unsent : b.mark ≡ Some Output → (start : Outcome → Type 0) (step : Outcome → Outcome → Type 0) (o : Outcome) → HasLeft n over b heard buffer o → After start step o
  left_unsent mark start step o left = absurd (left.unfailed mark)

  -- an event was heard
  pub left_heard : (event : Event) (into later : List ℕ) → heard ≡ None → later ≡ into → b.out ≡ a.out → b.mark ≡ a.mark → words_in b ≡ words_in a
      → (o : Outcome) → HasLeft n over b (Some event) later o → After (HasLeft n over a heard buffer) (Receives (received event into)) o
  left_heard event into later none copied out mark words o left = record {
    from = record { words = o.words; events = []; frames = o.frames };
    was = record {
      within = left.within;
      told = subst (λ r. h.tells_written r.now) out left.told;
      unfailed = λ is. left.unfailed (mark ∙ is);
      words = left.words ∙ words;
      events = sym (ap (λ (x : Option Event). events_heard x buffer) none);
      frames = subst (λ r. ArePrinted n.written (h.written r.now) o.frames) out left.frames;
    };
    steps = λ i. record { words = o.words; events = (left.events ∙ ap (λ (l : List ℕ). received event l ∷ []) copied) i; frames = o.frames };
  }
