-- What is safe is safe with one event fewer finished: fewer events of a run have fewer answers and a lower floor.
use Rattle.std.proofs.Common.{◌≡◌, ◌⊎◌, inl, inr, ℕ, zero, suc, ◌+◌, ◌-◌, ◌≤◌, List, [], ◌∷◌, length, take, refl, ap, subst, arith, length-append}
use Rattle.std.proofs.lemmas.List.{take_all}
use Rattle.flash_traits.specs.Words.{Words}
use Rattle.flash_traits.specs.Losses.{Received, SentFrame}
use Rattle.sector_image.specs.Stands.{Stands}
use Rattle.vehicle_core.specs.Acts.{Act}
use Rattle.vehicle_runs.specs.Frames.{deliveries, numbered}
use Rattle.vehicle_runs.specs.Reading.{Reads, no_rests}
use Rattle.vehicle_runs.specs.Runs.{Run, did_in, take_act, act_done, all_acts, event_done, start, run_from, run_of, floor_of}
use Rattle.vehicle_runs.specs.Safe.{Safe}

-- as many lists of acts as events
pub length-acts : (old : List (List ℕ)) (events : List Received) (all : List (List Act)) (rests : List (List ℕ)) → Reads old events all rests → length all ≡ length events
length-acts old [] all rests r = ap length r.0
length-acts old (e ∷ events) all rests r = omega (arith, ap length r.5, length-acts r.1 events r.2 rests r.4)

-- no more lines are flushed for certain than were issued
abbrev IsSound : Run → Type 0
IsSound r = r.floor ≤ length r.issued

-- A run goes on: the answers and the floor grow.
record Grows (r s : Run) : Type 0 where
  sound : IsSound s
  answers : length r.answers ≤ length s.answers
  floor : r.floor ≤ s.floor

grows_same : (r : Run) → IsSound r → Grows r r
grows_same r sound = record { sound = sound; answers = omega arith; floor = omega arith }

grows_then : (r s t : Run) → Grows r s → Grows s t → Grows r t
grows_then r s t first second = record { sound = second.sound; answers = omega (arith, first.answers, second.answers); floor = omega (arith, first.floor, second.floor) }

grows_act : (budget : ℕ) (b : List ℕ) (r : Run) (act : Act) → IsSound r → Grows r (act_done budget b r act)
grows_act budget b r act sound =
    let taken = take_act budget b r act in
    record {
      sound = omega (arith, sound, length-append r.issued (did_in budget b r act).writes);
      answers = omega (arith, length-append r.answers (numbered (length taken.issued) taken.machine (deliveries taken.machine.vehicle (did_in budget b r act).told)));
      floor = omega arith;
    }

grows_acts : (budget : ℕ) (b : List ℕ) (r : Run) (acts : List Act) → IsSound r → Grows r (all_acts budget b r acts)
grows_acts budget b r [] sound = grows_same r sound
grows_acts budget b r (act ∷ acts) sound =
    let one = grows_act budget b r act sound in
    grows_then r (act_done budget b r act) (all_acts budget b (act_done budget b r act) acts) one (grows_acts budget b (act_done budget b r act) acts one.sound)

grows_event : (budget : ℕ) (b : List ℕ) (r : Run) (acts : List Act) → IsSound r → Grows r (event_done budget b r acts)
grows_event budget b r acts sound =
    let all = grows_acts budget b r acts sound in
    record { sound = omega arith; answers = all.answers; floor = omega (arith, all.floor, all.sound) }

grows_from : (budget : ℕ) (b : List ℕ) (r : Run) (events : List (List Act)) → IsSound r → Grows r (run_from budget b r events)
grows_from budget b r [] sound = grows_same r sound
grows_from budget b r (acts ∷ events) sound =
    let one = grows_event budget b r acts sound in
    grows_then r (event_done budget b r acts) (run_from budget b (event_done budget b r acts) events) one (grows_from budget b (event_done budget b r acts) events one.sound)

grows_front : (budget : ℕ) (b : List ℕ) (r : Run) (n : ℕ) (events : List (List Act)) → IsSound r → Grows (run_from budget b r (take n events)) (run_from budget b r events)
grows_front budget b r zero events sound = grows_from budget b r events sound
grows_front budget b r (suc n) [] sound = grows_same r sound
grows_front budget b r (suc n) (acts ∷ events) sound = grows_front budget b (event_done budget b r acts) n events (grows_event budget b r acts sound).sound

run_grows : (budget : ℕ) (b : List ℕ) (n : ℕ) (all : List (List Act)) → Grows (run_of budget b (take n all)) (run_of budget b all)
unfolding run_of
run_grows budget b n all = grows_front budget b (start b) n all (omega arith)

floor_grows : (budget : ℕ) (b : List ℕ) (all : List (List Act)) (n m : ℕ) → length all ≤ m → floor_of budget b all n ≤ floor_of budget b all m
floor_grows budget b [] n m long = omega arith
floor_grows budget b (acts ∷ all) n m long = omega (arith, (run_grows budget b n (acts ∷ all)).floor, ap (λ (l : List (List Act)). (run_of budget b l).floor) (take_all m (acts ∷ all) long))

fewer_count : (events : List Received) → (length events - 1 ≡ length events) ⊎ (length events - 1 + 1 ≡ length events)
fewer_count [] = inl (omega arith)
fewer_count (e ∷ events) = inr (omega arith)

pub one_fewer : (budget : ℕ) (b : List ℕ) (events : List Received) (frames : List SentFrame) (m : ℕ) (words : Words) → Safe budget b events frames m words → Safe budget b events frames (length events - 1) words
one_fewer budget b events frames m words s = elim s.count [
  | inl all ↦
      let long : length s.acts ≤ m = omega (arith, all, length-acts no_rests events s.acts s.rests s.reads) in
      record {
        acts = s.acts;
        rests = s.rests;
        reads = s.reads;
        count = fewer_count events;
        finished = omega (arith, s.finished, (run_grows budget b (length events - 1) s.acts).answers, ap (λ (l : List (List Act)). length (run_of budget b l).answers) (take_all m s.acts long));
        at = record {
          first = s.at.first;
          kept = s.at.kept;
          enough = omega (arith, s.at.enough, floor_grows budget b s.acts (length events - 1) m long);
          few = s.at.few;
          stands = s.at.stands;
        };
      }
  | inr fewer ↦ let same : m ≡ length events - 1 = omega (arith, fewer) in subst (λ (n : ℕ). Safe budget b events frames n words) same s
]

-- before the first event nothing is sent, and no line needs to be put
pub safe_none : (budget : ℕ) (b : List ℕ) (words : Words) → Stands words b → Safe budget b [] [] 0 words
unfolding run_of
safe_none budget b words stands = record {
  acts = [];
  rests = no_rests;
  reads = (refl, refl);
  count = inl refl;
  finished = omega arith;
  at = record { first = tt; kept = 0; enough = omega arith; few = omega arith; stands = stands };
}
