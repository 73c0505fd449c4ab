-- A run of events, and the run over all their acts.
use Rattle.std.proofs.Common.{◌≡◌, ℕ, List, [], ◌∷◌, refl, sym, ◌∙◌, ap}
use Rattle.vehicle_core.specs.Acts.{Act}
use Rattle.vehicle_runs.specs.Runs.{Run, act_done, all_acts, finish, start, run_from, run_of}
use Rattle.vehicle_runs.proofs.RunLaws.{all_acts-append}
use Rattle.vehicle_laws.specs.Laws.{acts_of, RunsByActs}

abbrev with_floor : Run → ℕ → Run
with_floor r n = record r { floor = n }

acts_with_floor : (budget : ℕ) (b : List ℕ) (r : Run) (n : ℕ) (acts : List Act) → all_acts budget b (with_floor r n) acts ≡ with_floor (all_acts budget b r acts) n
acts_with_floor budget b r n [] = refl
acts_with_floor budget b r n (act ∷ acts) = acts_with_floor budget b (act_done budget b r act) n acts

by_acts : (budget : ℕ) (b : List ℕ) (r : Run) (events : List (List Act)) → run_from budget b r events ≡ with_floor (all_acts budget b r (acts_of events)) (run_from budget b r events).floor
by_acts budget b r [] = refl
by_acts budget b r (acts ∷ events) =
    let s = all_acts budget b r acts in
    let n = (run_from budget b (finish s) events).floor in
    by_acts budget b (finish s) events
    ∙ ap (λ (x : Run). with_floor x n) (acts_with_floor budget b s (finish s).floor (acts_of events))
    ∙ ap (λ (x : Run). with_floor x n) (sym (all_acts-append budget b r acts (acts_of events)))

pub runs_by_acts : RunsByActs
unfolding run_of
runs_by_acts budget b events =
    let e = by_acts budget b (start b) events in
    record { machine = ap (λ (r : Run). r.machine) e; issued = ap (λ (r : Run). r.issued) e; answers = ap (λ (r : Run). r.answers) e }
