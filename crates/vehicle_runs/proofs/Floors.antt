-- What an event flushes for certain: its own storage acknowledgements alone count.
use Rattle.std.proofs.Common.{◌≡◌, ℕ, ◌+◌, ◌≤◌, min, max, List, [], ◌∷◌, length, sym, ◌∙◌, ap, subst, arith, length-append}
use Rattle.vehicle_core.specs.Acts.{Act}
use Rattle.vehicle_runs.specs.Frames.{acknowledged, deliveries}
use Rattle.vehicle_runs.specs.Runs.{Run, did_in, take_act, act_done, all_acts, event_done, start, run_from, run_of}
use Rattle.vehicle_runs.specs.Laws.{FlooredByEvent, FloorsByEvents}
use Rattle.vehicle_runs.proofs.RunLaws.{run_of_push, all_acts_floor, extends_all, answers_in}
use Rattle.vehicle_runs.proofs.Acknowledging.{acknowledged-append, acknowledged_most}

-- no storage acknowledgement is counted after more lines than were issued
acts_counted : (budget : ℕ) (b : List ℕ) (r : Run) (acts : List Act) → acknowledged r.answers ≤ length r.issued → acknowledged (all_acts budget b r acts).answers ≤ length (all_acts budget b r acts).issued
acts_counted budget b r [] le = le
acts_counted budget b r (act ∷ acts) le = acts_counted budget b (act_done budget b r act) acts
    (omega (
      arith,
      le,
      length-append r.issued (did_in budget b r act).writes,
      acknowledged-append r.answers (answers_in budget b r act),
      acknowledged_most (length (take_act budget b r act).issued) (take_act budget b r act).machine (deliveries (did_in budget b r act).vehicle (did_in budget b r act).told),
    ))

-- between two events
record Counted (r : Run) : Type 0 where
  issued : acknowledged r.answers ≤ length r.issued
  floor : acknowledged r.answers ≤ r.floor

event_counted : (budget : ℕ) (b : List ℕ) (r : Run) (acts : List Act) → Counted r → Counted (event_done budget b r acts)
event_counted budget b r acts c =
    let le = acts_counted budget b r acts c.issued in
    record { issued = le; floor = omega (arith, le) }

run_counted : (budget : ℕ) (b : List ℕ) (r : Run) (events : List (List Act)) → Counted r → Counted (run_from budget b r events)
run_counted budget b r [] c = c
run_counted budget b r (acts ∷ events) c = run_counted budget b (event_done budget b r acts) events (event_counted budget b r acts c)

all_counted : (budget : ℕ) (b : List ℕ) (events : List (List Act)) → Counted (run_of budget b events)
unfolding run_of
all_counted budget b events = run_counted budget b (start b) events (record { issued = omega arith; floor = omega arith })

own_alone : (issued now floor before own both : ℕ) → now ≡ floor → before ≤ floor → both ≡ max before own → min issued (max now both + 8) ≡ min issued (max floor own + 8)
own_alone issued now floor before own both same le is = omega arith

pub floors_by_events : FloorsByEvents
floors_by_events budget b events acts =
    let r = run_of budget b events in
    let x = extends_all budget b r acts in
    let now = all_acts budget b r acts in
    subst (λ (s : Run). FlooredByEvent r s) (sym (run_of_push budget b events acts)) (record {
      answers = x.answers.rest;
      whole = x.answers.whole;
      floor = own_alone (length now.issued) now.floor r.floor (acknowledged r.answers) (acknowledged x.answers.rest) (acknowledged now.answers) (all_acts_floor budget b r acts) (all_counted budget b events).floor
          (ap acknowledged (sym x.answers.whole) ∙ acknowledged-append r.answers x.answers.rest);
    })
