-- Events of the session, one after another, and where they end.
use Rattle.std.proofs.Common.{Bool, true, false, ◌*◌, map, lit≤, ◌≡◌, ◌≢◌, ◌⊎◌, inl, inr, ℕ, zero, suc, ◌+◌, ◌-◌, ◌^◌, ◌%◌, ◌<◌, ◌≤◌, List, [], ◌∷◌, ◌++◌, length, take, slice_get, Option, Some, MatchOption, refl, sym, ◌∙◌, ap, subst, arith, length-append}
use Rattle.std.specs.Prelude.{if◌then◌else◌, ◌==◌}
use Rattle.std.proofs.lemmas.List.{length-map}
use Rattle.std.proofs.lemmas.Option.{slice_get_past}
use Rattle.flash_traits.specs.Losses.{Received, End}
use Rattle.flash_traits.specs.Counts.{counts}
use Rattle.session_boards.specs.Session.{Flushes, set_of, upload as upload_list, waits_after, Turn, Sends, Waits, messages_of, turns_from, session, sent_in, IsEventOf, IsEventAt, AreFirst, IsGenerated, HasNoEnd, EndsOnce}

-- an element of a list with one more is an earlier one or the last
last_or : (xs : List Received) (y x : Received) (k : ℕ) → slice_get (xs ++ y ∷ []) k ≡ Some x → (slice_get xs k ≡ Some x) ⊎ ((k ≡ length xs) × (y ≡ x))
last_or [] y x zero is = inr (refl, cc)
last_or [] y x (suc k) is = absurd (cc)
last_or (z ∷ xs) y x zero is = inl is
last_or (z ∷ xs) y x (suc k) is = elim (last_or xs y x k is) [
  | inl here ↦ inl here
  | inr last ↦ inr (ap suc last.0, last.1)
]

-- one event more
pub one_more : (rounds : ℕ) (events : List Received) (event : Received) → AreFirst rounds events → IsEventAt rounds (length events) event → AreFirst rounds (events ++ event ∷ [])
one_more rounds events event are is = record {
  each = λ k x at. elim (last_or events event x k at) [
    | inl here ↦ are.each k x here
    | inr last ↦ subst (λ (n : ℕ). IsEventAt rounds n x) (sym last.0) (subst (IsEventAt rounds (length events)) last.1 is)
  ];
}

none_in : (k : ℕ) (x : Received) → slice_get {X = Received} [] k ≡ Some x → ⊥
none_in k x at = cc

-- none yet
pub no_events : (rounds : ℕ) → AreFirst rounds []
no_events rounds = record { each = λ k x at. absurd (none_in k x at) }

-- the event of a turn is no end
turn_goes_on : (sequence : ℕ) (turn : Turn) (event : Received) → IsEventOf sequence turn event → event ≢ End
turn_goes_on sequence (Sends sending) event is end = let one = is.event_is in cc
turn_goes_on sequence Waits event is end = cc

-- an event is the end exactly where its number is past the turns
end_is_past : (rounds number : ℕ) (event : Received) → IsEventAt rounds number event → event ≡ End → length (session rounds) ≤ number
end_is_past rounds number event is end = past (session rounds) number (sent_in (take number (session rounds)) % 256) is
  where
    past : (turns : List Turn) (n sequence : ℕ) → MatchOption (slice_get turns n) (event ≡ End) (λ turn. IsEventOf sequence turn event) → length turns ≤ n
    past [] n sequence is = omega arith
    past (turn ∷ turns) zero sequence is = absurd (turn_goes_on sequence turn event is end)
    past (turn ∷ turns) (suc n) sequence is = let le = past turns n sequence is in omega (arith, le)

past_is_end : (rounds number : ℕ) (event : Received) → IsEventAt rounds number event → length (session rounds) ≤ number → event ≡ End
past_is_end rounds number event is le = subst (λ (o : Option Turn). MatchOption o (event ≡ End) (λ turn. IsEventOf (sent_in (take number (session rounds)) % 256) turn event)) (slice_get_past (session rounds) number le) is

-- events without an end have none at any place
none_ends : (events : List Received) (k : ℕ) (x : Received) → HasNoEnd events → slice_get events k ≡ Some x → x ≢ End
none_ends [] k x none at = absurd (cc)
none_ends (e ∷ events) zero x none at = λ end. let first = none.0 in let same : e ≡ x = cc in first (same ∙ end)
none_ends (e ∷ events) (suc k) x none at = none_ends events k x none.1 at

at_last : (xs : List Received) (y : Received) → slice_get (xs ++ y ∷ []) (length xs) ≡ Some y
at_last [] y = refl
at_last (x ∷ xs) y = at_last xs y

front_get : (xs : List Received) (y : Received) (k : ℕ) (x : Received) → slice_get xs k ≡ Some x → slice_get (xs ++ y ∷ []) k ≡ Some x
front_get [] y k x at = absurd (none_in k x at)
front_get (z ∷ xs) y zero x at = at
front_get (z ∷ xs) y (suc k) x at = front_get xs y k x at

-- the event with a number past all turns is the end, whatever stands in its place
pub later_end : (rounds number later : ℕ) (event : Received) → IsEventAt rounds number event → length (session rounds) ≤ number → length (session rounds) ≤ later → IsEventAt rounds later event
later_end rounds number later event is past so =
    subst (λ (o : Option Turn). MatchOption o (event ≡ End) (λ turn. IsEventOf (sent_in (take later (session rounds)) % 256) turn event)) (sym (slice_get_past (session rounds) later so)) (past_is_end rounds number event is past)

-- each round has at most nine turns
few_messages : (round : ℕ) → length (messages_of round) ≤ 8
few_messages round = go (round % 10 == 0) (round % 16 == 15)
  where
    go : (upload flush : Bool) → length (set_of round ∷ ((if upload then upload_list round else []) ++ (if flush then Flushes ∷ [] else []))) ≤ 8
    go true true = lit≤ tt
    go true false = lit≤ tt
    go false true = lit≤ tt
    go false false = lit≤ tt

turns_few : (first rounds : ℕ) → length (turns_from first rounds) ≤ 9 * rounds
turns_few first zero = omega arith
turns_few first (suc rounds) =
    let here = few_messages first in
    let later = turns_few (first + 1) rounds in
    let all = length-append (waits_after (messages_of first)) (turns_from (first + 1) rounds) in
    let turns = length-append (map Sends (messages_of first)) (Waits ∷ []) in
    let sent = length-map (messages_of first) (λ m. Sends m) in
    omega (arith, here, later, all, turns, sent)

pub session_few : (rounds : ℕ) → length (session rounds) ≤ 9 * rounds
session_few rounds = turns_few 0 rounds

-- events of the session without an end are no more than its turns
get_some : (events : List Received) (n : ℕ) → n < length events → (x : Received) × (slice_get events n ≡ Some x)
get_some [] n lt = absurd (omega (arith, lt))
get_some (e ∷ events) zero lt = (e, refl)
get_some (e ∷ events) (suc n) lt = get_some events n (omega (arith, lt))

lt_or : (r k : ℕ) → (r < k) ⊎ (k ≤ r)
lt_or r k = grind arith

pub no_more : (rounds : ℕ) (events : List Received) → AreFirst rounds events → HasNoEnd events → length events ≤ length (session rounds)
no_more rounds events are none = elim (lt_or (length (session rounds)) (length events)) [
  | inl lt ↦
      let found = get_some events (length (session rounds)) lt in
      let is = are.each (length (session rounds)) found.0 found.1 in
      absurd (none_ends events (length (session rounds)) found.0 none found.1 (past_is_end rounds (length (session rounds)) found.0 is (omega arith)))
  | inr le ↦ le
]

-- events from the first one on that end once are as many as the turns, and one more
pub whole_session : (rounds : ℕ) (events : List Received) → AreFirst rounds events → EndsOnce events → IsGenerated rounds events
whole_session rounds events are once =
    let before = once.0 in
    let all : length events ≡ length before + 1 = let whole = ap length once.1 in let more = length-append before (End ∷ []) in omega (arith, whole, more) in
    let here = are.each (length before) End (subst (λ (es : List Received). slice_get es (length before) ≡ Some End) (sym once.1) (at_last before End)) in
    let low = end_is_past rounds (length before) End here refl in
    let first : AreFirst rounds before = record { each = λ k x at. are.each k x (subst (λ (es : List Received). slice_get es k ≡ Some x) (sym once.1) (front_get before End k x at)) } in
    let high = no_more rounds before first once.2 in
    record { first = are; whole = omega (arith, all, low, high) }

-- one event more, by a count of those before it that stands still at its end
pub event_counted : (rounds number : ℕ) (events : List Received) (event : Received) → rounds < 2 ^ 16 → AreFirst rounds events → number ≡ counts (length events) → IsEventAt rounds number event → AreFirst rounds (events ++ event ∷ [])
event_counted rounds number events event small are count is = one_more rounds events event are (elim (lt_or (2 ^ 64 - 1) (length events)) [
  | inl lt ↦
      let few = session_few rounds in
      later_end rounds number (length events) event is (omega (arith, few, small, count, lt)) (omega (arith, few, small, lt))
  | inr le ↦ let same : number ≡ length events = omega (arith, count, le) in subst (λ (n : ℕ). IsEventAt rounds n event) same is
])
