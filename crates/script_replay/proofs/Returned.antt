-- What one call leaves of the board that was held for it.
use Rattle.std.proofs.Common.{◌≡◌, ◌≢◌, ℕ, ◌+◌, ◌≤◌, Bool, true, false, List, [], ◌++◌, length, Option, Some, Result, Ok, Err, IfOk, IfErr, OnOk, refl, sym, ◌∙◌, ap, subst, arith, append-nil}
use Rattle.flash_traits.specs.Budget.{budget_of}
use Rattle.flash_traits.specs.Losses.{Received, SentFrame, Outcome, After}
use Rattle.flash_traits.specs.declared.board.Board as board
use Rattle.flash_traits.specs.declared.stream.Source as source
use Rattle.flash_traits.specs.declared.stream.Sink as sink
use Rattle.sector_image.specs.Stands.{Stands}
use Rattle.flash_traits.specs.Words.{Words}
use Rattle.guard_row.specs.Row.{IsGuardRow}
use Rattle.vehicle_runs.specs.Guard.{MayWear, RisesWithin}
use Rattle.vehicle_runs.specs.Safe.{Safe, SafeSince}
use Rattle.vehicle_node.specs.Refusals as refusals
use Rattle.vehicle_node.specs.Standing.{Node, Fits, StandsForRun, StaysWithin}
use Rattle.vehicle_node.specs.declared.NodeError.{NodeError}
use Rattle.script_lines.specs.Script.{ScriptLine}
use Rattle.script_board.specs.Boards.{words_in, unread_in}
use Rattle.script_board.specs.Hearing.{IsRefused}
use Rattle.script_board.specs.declared.board.ScriptBoard.{ScriptBoard}
use Rattle.script_board.specs.declared.board.ScriptMark.TheVariants.{Output}
use Rattle.script_replay.specs.Calls.{Takes, WaitsBy, events_heard, too_many}
use Rattle.script_replay.specs.Held.{HasLists, StandsFor, HasLeft}
use Rattle.script_replay.specs.Steps.Answers.{ended}
use Rattle.script_replay.specs.Steps.Places.{Returns, Added, TellsWritten, words_at}
use Rattle.replay.specs.Guard.{Rises}
use Rattle.replay.specs.Playing.{Opens, OpenEnds, CloseEnds}
use Rattle.replay.specs.declared.Break.{Break}
use Rattle.replay.specs.declared.Break.TheVariants.{Stopped}
use Rattle.replay.specs.declared.Stop.TheVariants as stops
use Rattle.script_replay.specs.declared.held.Held.{Held}
use Rattle.script_replay.specs.declared.start.Start as start
use Rattle.script_replay.proofs.Boards.{within, left_now, outcome, safe_of, rises_of}
use Rattle.script_replay.proofs.Ended.{Wears, no_output, on_ok, on_worn, open_ends, close_ends}
use Rattle.script_replay.proofs.Heard.{quiet}

room_for : (room : Bool) → 1 ≤ too_many room
room_for true = omega arith
room_for false = omega arith

-- a node that is opened fits its board and stands for the run's start
pub opened : {B : Type 0} (g : board.Ghosts B) (b : B) (before : Words) (size : ℕ) (a : Result Node NodeError) → g.sector_bytes b ≡ size
    → IfOk a (λ node. Unit {0} → (bytes : List ℕ) → Stands before bytes → StandsForRun node bytes [] [] 0)
    → IfOk a (λ node. Unit {0} → (count : ℕ) (bytes : List ℕ) → IsGuardRow before.guard count → Stands before bytes → StaysWithin count node bytes [] [] 0)
    → IfOk a (λ node. Fits g b node) → IfOk a (Opens (budget_of size) before)
opened g b before size (Ok node) is stands within fits = record { stands = stands tt; within = within tt; same_budget = fits.budget ∙ ap budget_of is }
opened g b before size (Err e) is stands within fits = tt

pub closed : (P : Type 0) (a : Result (Unit {0}) NodeError) → OnOk a (Unit {0} → P) → IfOk a (λ t. P)
closed P (Ok t) is = is tt
closed P (Err e) is = tt

module _ {S K N : Type 0} {g : source.Ghosts S} {h : sink.Ghosts K} (n : start.Ghosts N) (held : Held S K N g h n) where
  pub returned : (e : List Received) (f : List SentFrame) → HasLists n held.board held.heard held.buffer e f → Returns n (Some held.board)
  returned e f lists = record {
    some = refl;
    input = held.same_input;
    out = held.same_out;
    size = held.size;
    told_rest = lists.told_rest;
    told_written = lists.told_written;
    grows = held.kept;
  }

  -- a loss at the end of the call leaves what is safe, whatever run it went on with
  pub safe_now : (was : Outcome → Type 0) → ((o : Outcome) → was o → (o.events ≡ []) × (o.frames ≡ [])) → (budget : ℕ) (b : List ℕ) (run : List Received) (sent : List SentFrame) (m : ℕ)
      (e : List Received) (f : List SentFrame) → held.over ≡ false → HasLists n held.board held.heard held.buffer e f → held.board.mark ≢ Some Output → h.tells_written held.board.out.now
      → ((o : Outcome) → HasLeft n held.over held.board held.heard held.buffer o → After was (SafeSince budget b run sent m) o)
      → Safe budget b (run ++ events_heard held.heard held.buffer) (sent ++ f) m (words_in held.board)
  safe_now was anew budget b run sent m e f in_room lists unfailed told here =
      let o = outcome n held.board held.heard held.buffer f in
      safe_of was anew budget b run sent m o (here o (left_now n held.over held.board held.heard held.buffer e f in_room lists unfailed told))

  -- and its guard count is at most what that run may have raised it to
  pub rises_now : (was : Outcome → Type 0) → ((o : Outcome) → was o → (o.events ≡ []) × (o.frames ≡ [])) → (budget count : ℕ) (b : List ℕ) (run : List Received)
      (e : List Received) (f : List SentFrame) → held.over ≡ false → HasLists n held.board held.heard held.buffer e f → held.board.mark ≢ Some Output → h.tells_written held.board.out.now
      → ((o : Outcome) → HasLeft n held.over held.board held.heard held.buffer o → After was (RisesWithin budget count b run) o)
      → Rises budget count b (run ++ events_heard held.heard held.buffer) (words_in held.board)
  rises_now was anew budget count b run e f in_room lists unfailed told here =
      let o = outcome n held.board held.heard held.buffer f in
      rises_of was anew budget count b run o (here o (left_now n held.over held.board held.heard held.buffer e f in_room lists unfailed told))

  module _ (stands : StandsFor n held.room held.over held.board held.heard held.buffer [] []) where
    pub quiet_within : (held.over ≡ false) × HasLists n held.board held.heard held.buffer [] []
    quiet_within = within n held.over held.room held.board held.heard held.buffer [] [] stands (room_for held.room)

  module _ (lists : HasLists n held.board held.heard held.buffer [] []) (shut : n.room ≡ false) where
    pub quiet_so : (lists.lines ≡ []) × WaitsBy held.board.mark n.waiting (length held.board.waiting.items)
    quiet_so = quiet held.buffer held.board.mark n.waiting (length held.board.waiting.items) n.input_faults (g.faults held.board.input.now)
        (IsRefused held.board.line held.board.waiting.items (unread_in held.board) (g.tells_rest held.board.input.now) (g.rest held.board.input.now)) (held.board.line + 1) lists.lines held.heard n.room
        lists.events_are shut lists.hears

    pub quiet_added : Added n (Some held.board) []
    quiet_added = record {
      line = subst (λ (l : List ScriptLine). held.board.line ≡ n.line + length l) quiet_so.0 lists.line;
      takes = λ told. subst (λ (l : List ScriptLine). Takes n.unread n.rest (unread_in held.board) (g.rest held.board.input.now) l) quiet_so.0 (lists.takes told);
    }

    -- nothing was received or printed
    pub quiet_safe : (was : Outcome → Type 0) → ((o : Outcome) → was o → (o.events ≡ []) × (o.frames ≡ [])) → (budget : ℕ) (b : List ℕ) (run : List Received) (sent : List SentFrame) (m : ℕ)
        → held.over ≡ false → held.board.mark ≢ Some Output → h.tells_written held.board.out.now
        → ((o : Outcome) → HasLeft n held.over held.board held.heard held.buffer o → After was (SafeSince budget b run sent m) o)
        → Safe budget b (run ++ []) (sent ++ []) m (words_in held.board)
    quiet_safe was anew budget b run sent m in_room unfailed told here =
        subst (λ (l : List Received). Safe budget b (run ++ l) (sent ++ []) m (words_in held.board)) (sym lists.events_are) (safe_now was anew budget b run sent m [] [] in_room lists unfailed told here)

    pub quiet_rises : (was : Outcome → Type 0) → ((o : Outcome) → was o → (o.events ≡ []) × (o.frames ≡ [])) → (budget count : ℕ) (b : List ℕ) (run : List Received)
        → held.over ≡ false → held.board.mark ≢ Some Output → h.tells_written held.board.out.now
        → ((o : Outcome) → HasLeft n held.over held.board held.heard held.buffer o → After was (RisesWithin budget count b run) o)
        → Rises budget count b (run ++ []) (words_in held.board)
    quiet_rises was anew budget count b run in_room unfailed told here =
        subst (λ (l : List Received). Rises budget count b (run ++ l) (words_in held.board)) (sym lists.events_are) (rises_now was anew budget count b run [] [] in_room lists unfailed told here)

    module _ (q : Option (ScriptBoard S K g h)) (is_q : q ≡ Some held.board) (in_room : held.over ≡ false)
        (was : Outcome → Type 0) (none : (o : Outcome) → was o → (o.events ≡ []) × (o.frames ≡ [])) (budget : ℕ) where
      -- an opening
      pub open_end : (before : Words) (r : Result Node Break) (a : Result Node NodeError) → r ≡ ended held.board.mark a → IfOk a (Opens budget before)
          → ((b : List ℕ) → Stands before b → (o : Outcome) → HasLeft n held.over held.board held.heard held.buffer o → After was (SafeSince budget b [] [] 0) o)
          → ((count : ℕ) (b : List ℕ) → IsGuardRow before.guard count → Stands before b → (o : Outcome) → HasLeft n held.over held.board held.heard held.buffer o
          → After was (RisesWithin budget count b []) o)
          → IfErr a (λ e. refusals.OnWorn e (λ full. Unit {0} → (count : ℕ) (b : List ℕ) → IsGuardRow before.guard count → Stands before b → MayWear budget count b []))
          → r ≢ Err (Stopped stops.Output) → TellsWritten q → OpenEnds budget r before (words_at q)
      open_end before r a is opens here rises worn other = subst (λ (x : Option (ScriptBoard S K g h)). TellsWritten x → OpenEnds budget r before (words_at x)) (sym is_q) (λ told.
          subst (λ (x : Result Node Break). OpenEnds budget x before (words_in held.board)) (sym is)
          (open_ends budget before (words_in held.board) (ended held.board.mark a) (on_ok (Opens budget before) held.board.mark a opens)
          (λ b stood. quiet_safe was none budget b [] [] 0 in_room (no_output r held.board.mark a is other) told (here b stood))
          (λ count b row stood. quiet_rises was none budget count b [] in_room (no_output r held.board.mark a is other) told (rises count b row stood))
          (on_worn (λ full. (count : ℕ) (b : List ℕ) → IsGuardRow before.guard count → Stands before b → MayWear budget count b []) _ (λ full wears. wears tt) held.board.mark a worn)))

      -- a close
      pub close_end : (node : Node) (r : Result (Unit {0}) Break) (a : Result (Unit {0}) NodeError) → r ≡ ended held.board.mark a
          → IfOk a (λ t. CloseEnds {T = Unit {0}} budget (Ok tt) node (words_in held.board))
          → ((b : List ℕ) (run : List Received) (sent : List SentFrame) (m : ℕ) → StandsForRun node b run sent m → (o : Outcome) → HasLeft n held.over held.board held.heard held.buffer o
          → After was (SafeSince budget b run sent m) o)
          → ((count : ℕ) (b : List ℕ) (run : List Received) (sent : List SentFrame) (m : ℕ) → StaysWithin count node b run sent m → (o : Outcome)
          → HasLeft n held.over held.board held.heard held.buffer o → After was (RisesWithin budget count b run) o)
          → IfErr a (λ e. refusals.OnWorn e (λ full. Unit {0} → (count : ℕ) (b : List ℕ) (run : List Received) (sent : List SentFrame) (m : ℕ) → StaysWithin count node b run sent m
          → MayWear budget count b run))
          → r ≢ Err (Stopped stops.Output) → TellsWritten q → CloseEnds budget r node (words_at q)
      close_end node r a is closes here rises worn other = subst (λ (x : Option (ScriptBoard S K g h)). TellsWritten x → CloseEnds budget r node (words_at x)) (sym is_q) (λ told.
          subst (λ (x : Result (Unit {0}) Break). CloseEnds budget x node (words_in held.board)) (sym is)
          (close_ends budget node (words_in held.board) (ended held.board.mark a) (on_ok (λ t. CloseEnds {T = Unit {0}} budget (Ok tt) node (words_in held.board)) held.board.mark a closes)
          (λ b run sent m stood. subst (λ (k : ℕ). Safe budget b (run ++ []) (sent ++ []) k (words_in held.board)) (omega arith)
          (quiet_safe was none budget b run sent m in_room (no_output r held.board.mark a is other) told (here b run sent m stood)))
          (λ count b run sent m stays. quiet_rises was none budget count b run in_room (no_output r held.board.mark a is other) told (rises count b run sent m stays))
          (on_worn (λ full. Wears budget node []) _ (λ full wears count b run sent m stays. subst (λ (l : List Received). MayWear budget count b l) (sym (append-nil run)) (wears tt count b run sent m stays)) held.board.mark a worn)))
