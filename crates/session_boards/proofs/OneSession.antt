-- There is one session of each number of rounds: each event is decided by its number.
use Rattle.std.proofs.Common.{Bool, true, false, ◌≡◌, ◌≢◌, inl, inr, ℕ, zero, suc, ◌+◌, ◌-◌, ◌*◌, ◌%◌, ◌^◌, ◌<◌, ◌≤◌, ℤ, pos, List, [], ◌∷◌, ◌++◌, length, get_or, take, replicate, slice_get, Option, Some, None, MatchOption, refl, sym, ◌∙◌, ap, subst, arith, le-leb}
use Rattle.std.specs.Prelude.{neg_ℤ, ◌*ℤ◌}
use Rattle.std.proofs.Math.Seq.{take-append_seam}
use Rattle.std.proofs.lemmas.Bool.{cases_lt, cases_order}
use Rattle.std.proofs.lemmas.Int.{ints}
use Rattle.std.proofs.lemmas.List.{get_or_append_left, get_or-append_right}
use Rattle.flash_traits.specs.Losses.{Received, Datagram, End}
use Rattle.word_bits.specs.Pattern.{magnitude, signed, is_negative, IsWhole}
use Rattle.word_bits.proofs.Magnitude.{magnitude-lt}
use Rattle.param_tree.specs.MavTypes.{mav_type_of}
use Rattle.param_tree.specs.declared.Var.{Var}
use Rattle.mav_messages.specs.Fields.{layout_of}
use Rattle.mav_messages.specs.Messages.{description_of, field_values}
use Rattle.mav_messages.specs.Payload.{IsTrimmed, wire_bytes}
use Rattle.mav_messages.specs.declared.messages.Message.{Message}
use Rattle.mav_messages.specs.declared.messages.Message.TheVariants.{ParamSet, MissionItemInt}
use Rattle.mav_frames.specs.Frames.{IsSent, framed, head_bytes}
use Rattle.session_boards.specs.Laws.{OneSession}
use Rattle.session_boards.specs.Session.{Sending, Sets, Counts, Gives, Flushes, Turn, Sends, Waits, IsBitsOf, SaysSending, IsDatagramOf, IsEventOf, IsEventAt, session, sent_in}
use Rattle.session_boards.specs.declared.messages.TheConstants.{STATION_COMPONENT, STATION_SYSTEM}

same_some : {X : Type 0} → (x y : X) → (let left : Option X = Some x in left ≡ Some y) → x ≡ y
same_some x y e = cc

-- the value of a whole number's pattern that isn't negative, whatever the sign
whole_parts : (m n : ℕ) (b : Bool) → signed b m ≡ (pos n *ℤ pos (2 ^ 149)) → m ≡ n * 2 ^ 149
whole_parts m n true e = below m n e
  where
    below : (m n : ℕ) → neg_ℤ (pos m) ≡ (pos n *ℤ pos (2 ^ 149)) → m ≡ n * 2 ^ 149
    below m n e = omega (arith, ints, e)
whole_parts m n false e = above m n e
  where
    above : (m n : ℕ) → pos m ≡ (pos n *ℤ pos (2 ^ 149)) → m ≡ n * 2 ^ 149
    above m n e = omega (arith, ints, e)

value_of : (p n : ℕ) → IsWhole p (pos n) → magnitude (p % 2 ^ 31) ≡ n * 2 ^ 149
value_of p n w = whole_parts (magnitude (p % 2 ^ 31)) n (is_negative p) w.equal

none_below : (m n : ℕ) → 0 < m → neg_ℤ (pos m) ≢ (pos n *ℤ pos (2 ^ 149))
none_below m n some e = omega (arith, ints, some, e)

-- the pattern of a number has no sign
no_sign : (n p : ℕ) → IsBitsOf n p → p < 2 ^ 31
no_sign n p bits = elim (cases_lt p (2 ^ 31)) [
  | inl less ↦ less
  | inr more ↦
      let sign : is_negative p ≡ true = le-leb (2 ^ 31) p more in
      let value : signed true (magnitude (p % 2 ^ 31)) ≡ (pos n *ℤ pos (2 ^ 149)) = ap (λ (b : Bool). signed b (magnitude (p % 2 ^ 31))) (sym sign) ∙ bits.whole.equal in
      elim (cases_lt 0 (p % 2 ^ 31)) [
        | inl some ↦
            let grows = magnitude-lt 0 (p % 2 ^ 31) some in
            absurd (none_below (magnitude (p % 2 ^ 31)) n (omega (arith, grows)) value)
        | inr none ↦
            let fits : p < 2 ^ 32 = bits.whole.finite.0 in
            absurd (bits.plus (omega (arith, none, fits, more)))
      ]
]

same_magnitude : (m n : ℕ) → magnitude m ≡ magnitude n → m ≡ n
same_magnitude m n e = elim (cases_order m n) [
  | inl same ↦ same
  | inr other ↦ elim other [
    | inl less ↦ absurd (omega (arith, e, magnitude-lt m n less))
    | inr more ↦ absurd (omega (arith, e, magnitude-lt n m more))
  ]
]

-- a number has one pattern
one_pattern : (n p q : ℕ) → IsBitsOf n p → IsBitsOf n q → p ≡ q
one_pattern n p q a b =
    let low = no_sign n p a in
    let other = no_sign n q b in
    let same = same_magnitude (p % 2 ^ 31) (q % 2 ^ 31) (value_of p n a.whole ∙ sym (value_of q n b.whole)) in
    omega (arith, low, other, same)

all_zeros : (n k : ℕ) → get_or {A = ℕ} (replicate n 0) k 0 ≡ 0
all_zeros zero k = refl
all_zeros (suc n) zero = refl
all_zeros (suc n) (suc k) = all_zeros n k

-- bytes without their trailing zeros are no longer than others that are so
no_longer : (whole a b : List ℕ) → IsTrimmed whole a → IsTrimmed whole b → length b ≤ length a
no_longer whole a b p q = elim (cases_lt (length a) (length b)) [
  | inr le ↦ le
  | inl less ↦
      let last : ℕ = length b - 1 in
      let own : get_or whole last 0 ≡ get_or b last 0 = ap (λ (l : List ℕ). get_or l last 0) q.whole_is ∙ get_or_append_left b (replicate q.zeros 0) 0 last (omega (arith, less)) in
      let none : get_or whole last 0 ≡ 0 = ap (λ (l : List ℕ). get_or l last 0) p.whole_is ∙ get_or-append_right a (replicate p.zeros 0) (length a) last 0 refl (omega (arith, less)) ∙ all_zeros p.zeros (last - length a) in
      elim q.last [
        | inl one ↦ absurd (omega (arith, one, less, p.some))
        | inr not_zero ↦ absurd (not_zero (sym own ∙ none))
      ]
]

one_trimmed : (whole a b : List ℕ) → IsTrimmed whole a → IsTrimmed whole b → a ≡ b
one_trimmed whole a b p q =
    let more = no_longer whole a b p q in
    let less = no_longer whole b a q p in
    let same : length a ≡ length b = omega (arith, more, less) in
    sym (take-append_seam a (replicate p.zeros 0)) ∙ ap (take (length a)) (sym p.whole_is) ∙ ap (λ (n : ℕ). take n whole) same ∙ ap (take (length b)) q.whole_is ∙ take-append_seam b (replicate q.zeros 0)

-- a message is sent as one frame
one_frame : (sequence system component : ℕ) (m : Message) (x y : List ℕ) → IsSent true sequence system component m x → IsSent true sequence system component m y → x ≡ y
one_frame sequence system component m x y a b =
    let same = one_trimmed (wire_bytes true (layout_of (description_of m)) (field_values m)) a.payload b.payload a.payload_is b.payload_is in
    a.bytes_are
    ∙ ap (λ (l : List ℕ). framed (head_bytes true (length l) sequence system component (description_of m).id ++ l) (description_of m).extra) same
    ∙ sym b.bytes_are

-- what the station sends is one message
one_message : (s : Sending) (m n : Message) → SaysSending s m → SaysSending s n → m ≡ n
one_message (Sets row number) m n a b =
    let var : a.var ≡ b.var = same_some a.var b.var (sym a.row_is ∙ b.row_is) in
    let pattern = one_pattern number a.pattern b.pattern a.bits b.bits in
    a.message_is
    ∙ ap (λ (p : ℕ). ParamSet p 1 1 a.var.name (mav_type_of a.var.kind)) pattern
    ∙ ap (λ (v : Var). ParamSet b.pattern 1 1 v.name (mav_type_of v.kind)) var
    ∙ sym b.message_is
one_message Counts m n a b = a ∙ sym b
one_message (Gives round seq) m n a b =
    let pattern = one_pattern (10 + seq) a.pattern b.pattern a.bits b.bits in
    a.message_is
    ∙ ap (λ (p : ℕ). MissionItemInt 0 0 0 0 (pos (473977420 + round)) (pos (85455970 + seq)) p seq 16 1 1 3 0 1 0) pattern
    ∙ sym b.message_is
one_message Flushes m n a b = a ∙ sym b

one_datagram : (sequence : ℕ) (s : Sending) (e f : Received) → IsDatagramOf sequence s e → IsDatagramOf sequence s f → e ≡ f
one_datagram sequence s e f a b =
    let message = one_message s a.message b.message a.says b.says in
    let sent = subst (λ (m : Message). IsSent true sequence STATION_SYSTEM STATION_COMPONENT m a.bytes) message a.sent in
    let bytes = one_frame sequence STATION_SYSTEM STATION_COMPONENT b.message a.bytes b.bytes sent b.sent in
    a.event_is ∙ ap (Datagram 0) bytes ∙ sym b.event_is

-- a turn has one event
one_event : (sequence : ℕ) (turn : Turn) (e f : Received) → IsEventOf sequence turn e → IsEventOf sequence turn f → e ≡ f
one_event sequence (Sends s) e f a b = one_datagram sequence s e f a b
one_event sequence Waits e f a b = a ∙ sym b

one_turn : (o : Option Turn) (sequence : ℕ) (e f : Received) → MatchOption o (e ≡ End) (λ turn. IsEventOf sequence turn e) → MatchOption o (f ≡ End) (λ turn. IsEventOf sequence turn f) → e ≡ f
one_turn None sequence e f a b = a ∙ sym b
one_turn (Some turn) sequence e f a b = one_event sequence turn e f a b

one_at : (rounds k : ℕ) (e f : Received) → IsEventAt rounds k e → IsEventAt rounds k f → e ≡ f
one_at rounds k e f a b = one_turn (slice_get (session rounds) k) (sent_in (take k (session rounds)) % 256) e f a b

-- lists of one length, whose elements are decided by their places
one_list : (P : ℕ → Received → Type 0) → ((k : ℕ) (x y : Received) → P k x → P k y → x ≡ y) → (xs ys : List Received) → length xs ≡ length ys
    → ((k : ℕ) (x : Received) → slice_get xs k ≡ Some x → P k x) → ((k : ℕ) (y : Received) → slice_get ys k ≡ Some y → P k y) → xs ≡ ys
one_list P one [] [] long a b = refl
one_list P one [] (y ∷ ys) long a b = absurd (omega (arith, long))
one_list P one (x ∷ xs) [] long a b = absurd (omega (arith, long))
one_list P one (x ∷ xs) (y ∷ ys) long a b =
    let first = one 0 x y (a 0 x refl) (b 0 y refl) in
    let later = one_list (λ k. P (suc k)) (λ k. one (suc k)) xs ys (omega (arith, long)) (λ k. a (suc k)) (λ k. b (suc k)) in
    ap (λ (z : Received). z ∷ xs) first ∙ ap (λ (l : List Received). y ∷ l) later

pub one_session : OneSession
one_session rounds events others a b = one_list (IsEventAt rounds) (one_at rounds) events others (a.whole ∙ sym b.whole) a.first.each b.first.each
