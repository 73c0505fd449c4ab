-- Turns of a round and of those after it, by their numbers.
use Rattle.std.proofs.Common.{◌≡◌, ℤ, pos, ℕ, zero, suc, ◌+◌, ◌-◌, ◌<◌, ◌≤◌, ◌%◌, List, [], ◌∷◌, ◌++◌, length, take, slice_get, Some, refl, sym, ◌∙◌, ap, arith}
use Rattle.std.proofs.Math.Nat.{mod-add-mod}
use Rattle.session_boards.specs.Session.{Sending, Turn, Sends, Waits, messages_of, waits_after, turns_from, upload, Gives, sent_in, IsBitsOf, SaysItem}
use Rattle.mav_messages.specs.declared.messages.Message.TheVariants.{MissionItemInt}

-- a step of a round is the same whatever follows the round
pub step_of : (ms : List Sending) (rest : List Turn) (n : ℕ) → n ≤ length ms → slice_get (waits_after ms ++ rest) n ≡ slice_get (waits_after ms) n
step_of [] rest zero le = refl
step_of [] rest (suc n) le = absurd (omega (arith, le))
step_of (m ∷ ms) rest zero le = refl
step_of (m ∷ ms) rest (suc n) le = step_of ms rest n (omega (arith, le))

-- what comes after a round
pub past_round : (ms : List Sending) (rest : List Turn) (n k : ℕ) → n ≡ k + (length ms + 1) → slice_get (waits_after ms ++ rest) n ≡ slice_get rest k
past_round [] rest zero k is = absurd (omega (arith, is))
past_round [] rest (suc n) k is = let same : n ≡ k = omega (arith, is) in ap (slice_get rest) same
past_round (m ∷ ms) rest zero k is = absurd (omega (arith, is))
past_round (m ∷ ms) rest (suc n) k is = past_round ms rest n k (omega (arith, is))

-- each step of a round has its message, and before it come as many as there are steps
pub sent_in_round : (ms : List Sending) (rest : List Turn) (n : ℕ) → n ≤ length ms → sent_in (take n (waits_after ms ++ rest)) ≡ n
sent_in_round ms rest zero le = refl
sent_in_round [] rest (suc n) le = absurd (omega (arith, le))
sent_in_round (m ∷ ms) rest (suc n) le = ap suc (sent_in_round ms rest n (omega (arith, le)))

-- the messages of a round come before all that follows it
pub sent_past_round : (ms : List Sending) (rest : List Turn) (n k : ℕ) → n ≡ k + (length ms + 1) → sent_in (take n (waits_after ms ++ rest)) ≡ length ms + sent_in (take k rest)
sent_past_round [] rest zero k is = absurd (omega (arith, is))
sent_past_round [] rest (suc n) k is =
    let same : n ≡ k = omega (arith, is) in
    let later = ap (λ (i : ℕ). sent_in (take i rest)) same in
    omega (arith, later)
sent_past_round (m ∷ ms) rest zero k is = absurd (omega (arith, is))
sent_past_round (m ∷ ms) rest (suc n) k is =
    let later = sent_past_round ms rest n k (omega (arith, is)) in
    omega (arith, later)

-- a step of a round has its message, and the last one has none
pub step_sends : (ms : List Sending) (n : ℕ) (m : Sending) → slice_get ms n ≡ Some m → slice_get (waits_after ms) n ≡ Some (Sends m)
step_sends [] n m is = absurd (cc)
step_sends (x ∷ ms) zero m is = cc
step_sends (x ∷ ms) (suc n) m is = step_sends ms n m is

pub step_waits : (ms : List Sending) (n : ℕ) → n ≡ length ms → slice_get (waits_after ms) n ≡ Some Waits
step_waits [] zero is = refl
step_waits [] (suc n) is = absurd (omega (arith, is))
step_waits (x ∷ ms) zero is = absurd (omega (arith, is))
step_waits (x ∷ ms) (suc n) is = step_waits ms n (omega (arith, is))

-- messages before others, and those after them
pub later_steps : (xs ys : List Sending) (n k : ℕ) → n ≡ k + length xs → slice_get (waits_after (xs ++ ys)) n ≡ slice_get (waits_after ys) k
later_steps [] ys n k is = ap (slice_get (waits_after ys)) (the_same n k is)
  where
    the_same : (n k : ℕ) → n ≡ k + 0 → n ≡ k
    the_same n k is = omega (arith, is)
later_steps (x ∷ xs) ys zero k is = absurd (omega (arith, is))
later_steps (x ∷ xs) ys (suc n) k is = later_steps xs ys n k (omega (arith, is))

pub first_steps : (xs ys : List Sending) (n : ℕ) (m : Sending) → slice_get xs n ≡ Some m → slice_get (waits_after (xs ++ ys)) n ≡ Some (Sends m)
first_steps [] ys n m is = absurd (cc)
first_steps (x ∷ xs) ys zero m is = cc
first_steps (x ∷ xs) ys (suc n) m is = first_steps xs ys n m is

-- a step of the first of some rounds
pub here_turn : (round left step : ℕ) → 1 ≤ left → step ≤ length (messages_of round) → slice_get (turns_from round left) step ≡ slice_get (waits_after (messages_of round)) step
here_turn round zero step some le = absurd (omega (arith, some))
here_turn round (suc left) step some le = step_of (messages_of round) (turns_from (round + 1) left) step le

pub here_sent : (round left step : ℕ) → 1 ≤ left → step ≤ length (messages_of round) → sent_in (take step (turns_from round left)) ≡ step
here_sent round zero step some le = absurd (omega (arith, some))
here_sent round (suc left) step some le = sent_in_round (messages_of round) (turns_from (round + 1) left) step le

-- what comes after the first of some rounds
pub next_turn : (round left next step k : ℕ) → left ≡ next + 1 → step ≡ k + (length (messages_of round) + 1) → slice_get (turns_from round left) step ≡ slice_get (turns_from (round + 1) next) k
next_turn round zero next step k more is = absurd (omega (arith, more))
next_turn round (suc left) next step k more is =
    let same : left ≡ next = omega (arith, more) in
    past_round (messages_of round) (turns_from (round + 1) left) step k is ∙ ap (λ (n : ℕ). slice_get (turns_from (round + 1) n) k) same

pub next_sent : (round left next step k : ℕ) → left ≡ next + 1 → step ≡ k + (length (messages_of round) + 1) → sent_in (take step (turns_from round left)) ≡ length (messages_of round) + sent_in (take k (turns_from (round + 1) next))
next_sent round zero next step k more is = absurd (omega (arith, more))
next_sent round (suc left) next step k more is =
    let same : left ≡ next = omega (arith, more) in
    sent_past_round (messages_of round) (turns_from (round + 1) left) step k is ∙ ap (λ (n : ℕ). length (messages_of round) + sent_in (take k (turns_from (round + 1) n))) same

-- messages that are counted before others, modulo 256
pub counted : (before here after : ℕ) → (before + (here + after)) % 256 ≡ ((before + here) % 256 + after) % 256
counted before here after = ap (λ (n : ℕ). n % 256) (regroup before here after) ∙ sym (mod-add-mod (before + here) 256 after)
  where
    regroup : (a b c : ℕ) → a + (b + c) ≡ a + b + c
    regroup a b c = omega arith

-- the items of an upload
pub item_at : (round step : ℕ) → 1 ≤ step → step < 6 → slice_get (upload round) step ≡ Some (Gives round (step - 1))
item_at round zero low high = absurd (omega (arith, low))
item_at round (suc zero) low high = refl
item_at round (suc (suc zero)) low high = refl
item_at round (suc (suc (suc zero))) low high = refl
item_at round (suc (suc (suc (suc zero)))) low high = refl
item_at round (suc (suc (suc (suc (suc zero))))) low high = refl
item_at round (suc (suc (suc (suc (suc (suc step)))))) low high = absurd (omega (arith, high))

-- the item that is sent, by its fields
pub item_says : (round seq number pattern : ℕ) (x y : ℤ) → x ≡ pos (473977420 + round) → y ≡ pos (85455970 + seq) → IsBitsOf (10 + seq) pattern → number ≡ seq → SaysItem round seq (MissionItemInt 0 0 0 0 x y pattern number 16 1 1 3 0 1 0)
item_says round seq number pattern x y x_is y_is bits same = record {
  pattern = pattern;
  bits = bits;
  message_is = ap (λ (x : ℤ). MissionItemInt 0 0 0 0 x y pattern number 16 1 1 3 0 1 0) x_is
      ∙ ap (λ (y : ℤ). MissionItemInt 0 0 0 0 (pos (473977420 + round)) y pattern number 16 1 1 3 0 1 0) y_is
      ∙ ap (λ (n : ℕ). MissionItemInt 0 0 0 0 (pos (473977420 + round)) (pos (85455970 + seq)) pattern n 16 1 1 3 0 1 0) same;
}
