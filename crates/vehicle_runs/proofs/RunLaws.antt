-- How a run goes on, by one act and by one event.
use Rattle.std.proofs.Common.{◌≡◌, ℕ, ◌+◌, ◌≤◌, max, List, [], ◌∷◌, ◌++◌, length, take, refl, sym, ◌∙◌, ap, subst, arith, append_assoc, length-append, append-nil}
use Rattle.std.proofs.lemmas.List.{take_at, take-append-le, take_all, length-take}
use Rattle.std.proofs.lemmas.Slice.Zip.{AllZip-long}
use Rattle.std.proofs.Math.Seq.{take-append-add}
use Rattle.flash_traits.specs.Words.{Words}
use Rattle.flash_traits.specs.Losses.{SentFrame}
use Rattle.storage_lines.specs.declared.lines.LineWrite.{LineWrite}
use Rattle.storage_lines.specs.Lines.{put_line, after}
use Rattle.sector_image.specs.Stands.{Stands}
use Rattle.vehicle_core.specs.Acts.{Act}
use Rattle.vehicle_runs.specs.Frames.{Answer, IsFrameOf, AreFramesOf, acknowledged, deliveries, numbered}
use Rattle.vehicle_runs.specs.Runs.{Run, did_in, take_act, act_done, all_acts, finish, event_done, start, run_from, run_of, floor_of}
use Rattle.vehicle_runs.specs.Safe.{SafeAt}

run_from_push : (budget : ℕ) (b : List ℕ) (r : Run) (events : List (List Act)) (ps : List Act) → run_from budget b r (events ++ ps ∷ []) ≡ event_done budget b (run_from budget b r events) ps
run_from_push budget b r [] ps = refl
run_from_push budget b r (x ∷ events) ps = run_from_push budget b (event_done budget b r x) events ps

pub run_of_none : (budget : ℕ) (b : List ℕ) → run_of budget b [] ≡ start b
unfolding run_of
run_of_none budget b = refl

pub run_of_push : (budget : ℕ) (b : List ℕ) (events : List (List Act)) (ps : List Act) → run_of budget b (events ++ ps ∷ []) ≡ event_done budget b (run_of budget b events) ps
unfolding run_of
run_of_push budget b events ps = run_from_push budget b (start b) events ps

pub floor_of_le : (budget : ℕ) (b : List ℕ) (events : List (List Act)) (m : ℕ) → floor_of budget b events m ≤ (run_of budget b (take m events)).floor
floor_of_le budget b [] m = omega arith
floor_of_le budget b (ps ∷ events) m = omega arith

pub all_acts_floor : (budget : ℕ) (b : List ℕ) (r : Run) (ps : List Act) → (all_acts budget b r ps).floor ≡ r.floor
all_acts_floor budget b r [] = refl
all_acts_floor budget b r (p ∷ ps) = all_acts_floor budget b (act_done budget b r p) ps

pub all_acts-append : (budget : ℕ) (b : List ℕ) (r : Run) (xs ys : List Act) → all_acts budget b r (xs ++ ys) ≡ all_acts budget b (all_acts budget b r xs) ys
all_acts-append budget b r [] ys = refl
all_acts-append budget b r (x ∷ xs) ys = all_acts-append budget b (act_done budget b r x) xs ys

pub after-append : (b : List ℕ) (xs ys : List LineWrite) → after b (xs ++ ys) ≡ after (after b xs) ys
after-append b [] ys = refl
after-append b (x ∷ xs) ys = after-append (put_line b x) xs ys

-- the rest of a longer list
pub record Front {X : Type 0} (xs ys : List X) : Type 0 where
  pub rest : List X
  pub whole : xs ++ rest ≡ ys

pub front_same : {X : Type 0} (xs : List X) → Front xs xs
front_same xs = record { rest = []; whole = append-nil xs }

pub front_then : {X : Type 0} (xs ys zs : List X) → Front xs ys → Front ys zs → Front xs zs
front_then {X} xs ys zs p q = record { rest = p.rest ++ q.rest; whole = sym (append_assoc xs p.rest q.rest) ∙ ap (λ (l : List X). l ++ q.rest) p.whole ∙ q.whole }

-- a run goes on
pub record Extends (r s : Run) : Type 0 where
  pub issued : Front r.issued s.issued
  pub answers : Front r.answers s.answers

pub extends_same : (r : Run) → Extends r r
extends_same r = record { issued = front_same r.issued; answers = front_same r.answers }

pub extends_finish : (r s : Run) → Extends r s → Extends r (finish s)
extends_finish r s x = record { issued = x.issued; answers = x.answers }

pub extends_then : (r s t : Run) → Extends r s → Extends s t → Extends r t
extends_then r s t x y = record { issued = front_then r.issued s.issued t.issued x.issued y.issued; answers = front_then r.answers s.answers t.answers x.answers y.answers }

-- the answers of the next act
abbrev pub answers_in : ℕ → List ℕ → Run → Act → List Answer
answers_in budget b r act =
    numbered (length (take_act budget b r act).issued) (take_act budget b r act).machine (deliveries (did_in budget b r act).vehicle (did_in budget b r act).told)

extends_act : (budget : ℕ) (b : List ℕ) (r : Run) (p : Act) → Extends r (act_done budget b r p)
extends_act budget b r p = record {
  issued = record { rest = (did_in budget b r p).writes; whole = refl };
  answers = record { rest = answers_in budget b r p; whole = refl };
}

pub extends_all : (budget : ℕ) (b : List ℕ) (r : Run) (ps : List Act) → Extends r (all_acts budget b r ps)
extends_all budget b r [] = extends_same r
extends_all budget b r (p ∷ ps) = extends_then r (act_done budget b r p) (all_acts budget b (act_done budget b r p) ps) (extends_act budget b r p) (extends_all budget b (act_done budget b r p) ps)

pub extends_more : (budget : ℕ) (b : List ℕ) (r : Run) (ps qs : List Act) → Extends (all_acts budget b r ps) (all_acts budget b r (ps ++ qs))
extends_more budget b r ps qs = subst (Extends (all_acts budget b r ps)) (sym (all_acts-append budget b r ps qs)) (extends_all budget b (all_acts budget b r ps) qs)

take_front : {X : Type 0} (n : ℕ) (xs ys : List X) → (f : Front xs ys) → n ≤ length xs → take n ys ≡ take n xs
take_front {X} n xs ys f le = ap (λ (l : List X). take n l) (sym f.whole) ∙ take-append-le n xs f.rest le

-- as many as there are frames
pub frames_long : (answers : List Answer) (frames : List SentFrame) → AreFramesOf answers frames → length frames ≡ length answers
frames_long answers frames are = AllZip-long IsFrameOf answers frames are

front_long : (n : ℕ) (xs : List Answer) (frames : List SentFrame) → n ≡ length frames → AreFramesOf (take n xs) frames → n ≤ length xs
front_long n xs frames is are = omega (arith, is, frames_long (take n xs) frames are, length-take n xs)

-- what is safe in a run is safe where it goes on
pub safe_extends : (b : List ℕ) (r s : Run) (floor : ℕ) (frames : List SentFrame) (words : Words) → SafeAt b r floor frames words → Extends r s → SafeAt b s floor frames words
safe_extends b r s floor frames words a x = record {
  first = subst (λ (l : List Answer). AreFramesOf l frames) (sym same) a.first;
  kept = a.kept;
  enough = subst (λ (l : List Answer). max floor (acknowledged l) ≤ a.kept) (sym same) a.enough;
  few = omega (arith, a.few, ap length x.issued.whole, length-append r.issued x.issued.rest);
  stands = subst (λ (l : List LineWrite). Stands words (after b l)) (sym (take_front a.kept r.issued s.issued x.issued a.few)) a.stands;
}
  where
    same : take (length frames) s.answers ≡ take (length frames) r.answers
    same = take_front (length frames) r.answers s.answers x.answers (front_long (length frames) r.answers frames refl a.first)

pub safe_lower : (b : List ℕ) (r : Run) (low floor : ℕ) (frames : List SentFrame) (words : Words) → low ≤ floor → SafeAt b r floor frames words → SafeAt b r low frames words
safe_lower b r low floor frames words le a = record { first = a.first; kept = a.kept; enough = lower low floor (acknowledged (take (length frames) r.answers)) a.kept le a.enough; few = a.few; stands = a.stands }
  where
    lower : (low floor n kept : ℕ) → low ≤ floor → max floor n ≤ kept → max low n ≤ kept
    lower low floor n kept le enough = omega arith

-- by the lines that were put and those that were not
pub safe_by : (b : List ℕ) (r : Run) (floor : ℕ) (frames : List SentFrame) (words : Words) (put rest : List LineWrite)
    → AreFramesOf (take (length frames) r.answers) frames → put ++ rest ≡ r.issued → max floor (acknowledged (take (length frames) r.answers)) ≤ length put → Stands words (after b put) → SafeAt b r floor frames words
safe_by b r floor frames words put rest first split enough stands = record {
  first = first;
  kept = length put;
  enough = enough;
  few = omega (arith, ap length split, length-append put rest);
  stands = subst (λ (l : List LineWrite). Stands words (after b l)) (sym (ap (λ (l : List LineWrite). take (length put) l) (sym split) ∙ take_at put rest (length put) refl)) stands;
}

-- all frames of a run
pub all_answers : (answers : List Answer) (frames : List SentFrame) → AreFramesOf answers frames → take (length frames) answers ≡ answers
all_answers answers frames are = take_all (length frames) answers (omega (arith, frames_long answers frames are))

pub all_sent : (answers : List Answer) (frames : List SentFrame) → AreFramesOf answers frames → AreFramesOf (take (length frames) answers) frames
all_sent answers frames are = subst (λ (l : List Answer). AreFramesOf l frames) (sym (all_answers answers frames are)) are

pub frames-append : (xs ys : List Answer) (fs gs : List SentFrame) → AreFramesOf xs fs → AreFramesOf ys gs → AreFramesOf (xs ++ ys) (fs ++ gs)
frames-append [] ys [] gs a c = c
frames-append [] ys (f ∷ fs) gs a c = absurd a
frames-append (x ∷ xs) ys [] gs a c = absurd a
frames-append (x ∷ xs) ys (f ∷ fs) gs a c = (a.0, frames-append xs ys fs gs a.1 c)

-- all frames of a run, and a prefix of those after them
pub first_answers : (xs ys : List Answer) (fs gs : List SentFrame) → AreFramesOf xs fs → take (length (fs ++ gs)) (xs ++ ys) ≡ xs ++ take (length gs) ys
first_answers xs ys fs gs a =
    let n : length (fs ++ gs) ≡ length xs + length gs = omega (arith, length-append fs gs, frames_long xs fs a) in
    ap (λ (k : ℕ). take k (xs ++ ys)) n ∙ take-append-add xs ys (length gs)

pub first_sent : (xs ys : List Answer) (fs gs : List SentFrame) → AreFramesOf xs fs → AreFramesOf (take (length gs) ys) gs → AreFramesOf (take (length (fs ++ gs)) (xs ++ ys)) (fs ++ gs)
first_sent xs ys fs gs a c = subst (λ (l : List Answer). AreFramesOf l (fs ++ gs)) (sym (first_answers xs ys fs gs a)) (frames-append xs (take (length gs) ys) fs gs a c)
