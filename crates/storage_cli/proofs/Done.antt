-- What a serve has done, by its ending.
use Rattle.std.proofs.Common.{◌≡◌, ◌≢◌, ◌⊎◌, inl, inr, ℕ, List, length, refl, subst, arith, Ok, Err}
use Rattle.std.specs.Prelude.{⊤}
use Rattle.flash_traits.specs.declared.board.Board.{Ghosts}
use Rattle.flash_traits.specs.Words.{Words}
use Rattle.flash_traits.specs.Counts.{counts}
use Rattle.storage_cli.specs.declared.stop.Served.{Served}
use Rattle.storage_cli.specs.declared.stop.Stop.{Stop}
use Rattle.storage_cli.specs.declared.stop.Stop.TheVariants as stop
use Rattle.storage_cli.specs.Texts.{served_line, turns_line}
use Rattle.storage_cli.specs.Serving.{Serves}
use Rattle.storage_cli.specs.Steps.Stops.{status_of_stop, line_of_stop, IsDone}
use Rattle.storage_cli.specs.Steps.Progress.{CompletesServe}
use Rattle.storage_cli.proofs.Outcomes.{Gives, other, ends_turns}

module _ {B : Type 0} (g : Ghosts B) (budget : ℕ) (board : B) (before : Words) (turns status : ℕ) (printed : List ℕ → Type 0) where
  pub serves_done : (served : Served) → Gives status 0 → CompletesServe g budget before ⊤ board turns (Ok served) → (status ≢ 10 → printed (served_line served.events served.frames))
      → Serves g budget before board turns status printed
  serves_done served gives p line = record {
    events = p.events;
    frames = p.frames;
    are_these = p.lists tt;
    ends = λ e. p.ends.0;
    over = λ e. absurd (other status 0 8 gives (λ z. omega (arith, z)) (λ z. omega (arith, z)) e);
    whole = λ t b stands. (p.whole t b stands).whole;
    unworn = p.unworn;
    sent = served.frames;
    count = p.counted;
    line = λ e. subst (λ (n : ℕ). printed (served_line n served.frames)) p.ends.1 (line (λ z. omega (arith, z, e)));
  }

  -- the turns are over
  serves_turns : (n : ℕ) → Gives status 8 → CompletesServe g budget before ⊤ board turns (Err (stop.Turns n)) → Serves g budget before board turns status printed
  serves_turns n gives p = record {
    events = p.events;
    frames = p.frames;
    are_these = p.lists tt;
    ends = λ e. absurd (other status 8 0 gives (λ z. omega (arith, z)) (λ z. omega (arith, z)) e);
    over = λ e. (p.ends.0, p.ends.1);
    whole = λ t b stands. (p.whole t b stands).whole;
    unworn = p.unworn;
    sent = counts (length p.frames);
    count = λ t. refl;
    line = λ e. absurd (other status 8 0 gives (λ z. omega (arith, z)) (λ z. omega (arith, z)) e);
  }

  no_stop : (n : ℕ) (why : Stop) → status_of_stop why ≡ n → n ≡ 0 → ⊥
  no_stop n stop.Words is zero = omega (arith, is, zero)
  no_stop n stop.Memory is zero = omega (arith, is, zero)
  no_stop n (stop.Foreign found) is zero = omega (arith, is, zero)
  no_stop n stop.Read is zero = omega (arith, is, zero)
  no_stop n stop.Flash is zero = omega (arith, is, zero)
  no_stop n stop.Link is zero = omega (arith, is, zero)
  no_stop n stop.Worn is zero = omega (arith, is, zero)
  no_stop n (stop.Turns m) is zero = omega (arith, is, zero)
  no_stop n stop.Attach is zero = omega (arith, is, zero)
  no_stop n stop.Input is zero = omega (arith, is, zero)
  no_stop n (stop.Script line) is zero = omega (arith, is, zero)

  pub serves_stopped : (why : Stop) → Gives status (status_of_stop why) → (IsDone (Err why) → CompletesServe g budget before ⊤ board turns (Err why)) → (status ≡ 0) ⊎ (status ≡ 8)
      → Serves g budget before board turns status printed
  serves_stopped why gives done (inl e) = absurd (other status (status_of_stop why) 0 gives (λ z. no_stop (status_of_stop why) why refl z) (λ z. omega (arith, z)) e)
  serves_stopped why gives done (inr e) =
      let is = ends_turns status why gives e in
      let P : Stop → Type 0 = λ w. IsDone (Err w) → CompletesServe g budget before ⊤ board turns (Err w) in
      serves_turns is.0 (inl e) (subst P is.1 done tt)

  pub turns_printed : (why : Stop) → Gives status (status_of_stop why) → (IsDone (Err why) → CompletesServe g budget before ⊤ board turns (Err why)) → (status ≢ 10 → printed (line_of_stop why)) → status ≡ 8 → printed (turns_line turns)
  turns_printed why gives done line e =
      let is = ends_turns status why gives e in
      let P : Stop → Type 0 = λ w. IsDone (Err w) → CompletesServe g budget before ⊤ board turns (Err w) in
      let same = (subst P is.1 done tt).ends.2 in
      subst (λ (n : ℕ). printed (turns_line n)) same (subst (λ (w : Stop). printed (line_of_stop w)) is.1 (line (λ z. omega (arith, z, e))))
