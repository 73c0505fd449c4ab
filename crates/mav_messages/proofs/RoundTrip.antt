-- What is read from a payload that was written.
use Rattle.std.proofs.Common.{ℕ, zero, suc, max, ◌≡◌, ◌+◌, ◌-◌, ◌*◌, ◌%◌, ◌<◌, ◌≤◌, ◌^◌, ◌==◌, ◌⊎◌, Bool, true, false, cond, List, [], ◌∷◌, ◌++◌, length, take, replicate, refl, sym, ap, subst, ◌∙◌, arith, inl, inr, append_assoc, length-append, eqb-true}
use Rattle.std.proofs.lemmas.List.{take_at, drop_at, take_all, length-replicate, replicate-append-replicate}
use Rattle.byteorder.specs.Endian.{little_number}
use Rattle.std.proofs.Math.Nat.{zero-div}
use Rattle.byteorder.specs.Numbers.{little_number-reads_back}
use Rattle.std.specs.Int.{bytes_low_first, byte_at}
use Rattle.mav_messages.specs.declared.layouts.Row.{Row}
use Rattle.mav_messages.specs.Fields.{Field, field_size, row_at, rows_from}
use Rattle.mav_messages.specs.Payload.{Value, Number, Bytes, offset_number, offset_bytes, value_at, values_in, filled, number_bytes, value_bytes, wire_bytes, plain_values, Suits, Suit}
use Rattle.mav_messages.proofs.Spelling.{length-number_bytes}

number_there : (w n o : ℕ) (front rest : List ℕ) → length front ≡ o → n < 256 ^ w → offset_number w o (front ++ (number_bytes w n ++ rest)) ≡ n
unfolding offset_number number_bytes
number_there w n o front rest e h = ap (little_number w) (drop_at front (number_bytes w n ++ rest) o e) ∙ little_number-reads_back w n rest h

bytes_there : (a o : ℕ) (bs front rest : List ℕ) → length front ≡ o → length bs ≡ a → offset_bytes a o (front ++ (bs ++ rest)) ≡ bs
unfolding offset_bytes
bytes_there a o bs front rest e h = ap (take a) (drop_at front (bs ++ rest) o e) ∙ take_at bs rest a h

not_zero : (b : Bool) (a : ℕ) → b ≡ (a == 0) → 0 < a → (a == 0) ≡ false
not_zero true a e h = absurd (let z = eqb-true a 0 (sym e) in omega (arith, z))
not_zero false a e h = sym e

value_there : (r : Row) (v : Value) (front rest : List ℕ) → length front ≡ r.offset → Suits r v → value_at (front ++ (value_bytes r v ++ rest)) r ≡ v
value_there r (Number n) front rest e h =
    let p = front ++ (number_bytes r.width n ++ rest) in
    ap (λ (a : ℕ). cond (a == 0) (Number (offset_number r.width r.offset p)) (Bytes (offset_bytes r.array r.offset p))) h.0
    ∙ ap Number (number_there r.width n r.offset front rest e h.2)
value_there r (Bytes bs) front rest e h =
    let p = front ++ (bs ++ rest) in
    ap (λ (b : Bool). cond b (Number (offset_number r.width r.offset p)) (Bytes (offset_bytes r.array r.offset p))) (not_zero (r.array == 0) r.array refl h.0)
    ∙ ap Bytes (bytes_there r.array r.offset bs front rest e h.1)

one : (w a : ℕ) → a ≡ 0 → w ≡ w * max 1 a
one w a e = rw e (omega arith)

many : (w a : ℕ) → 0 < a → w ≡ 1 → a ≡ w * max 1 a
many w a h e = rw e (omega arith)

pub value_length : (r : Row) (v : Value) → Suits r v → length (value_bytes r v) ≡ r.width * max 1 r.array
value_length r (Number n) h = length-number_bytes r.width n ∙ one r.width r.array h.0
value_length r (Bytes bs) h = h.1 ∙ many r.width r.array h.0 h.2

-- the values that were written are read
pub values_there : (fs : List Field) (o : ℕ) (vs : List Value) (front rest : List ℕ) → length front ≡ o → Suit (rows_from o fs) vs
    → values_in (rows_from o fs) (front ++ (wire_bytes true (rows_from o fs) vs ++ rest)) ≡ vs
unfolding wire_bytes
values_there [] o [] front rest e h = refl
values_there [] o (v ∷ vs) front rest e h = absurd h
values_there (f ∷ fs) o [] front rest e h = absurd h
values_there (f ∷ fs) o (v ∷ vs) front rest e h =
    let r = row_at o f in
    let b = value_bytes r v in
    let tail = wire_bytes true (rows_from (o + field_size f) fs) vs in
    let p : front ++ ((b ++ tail) ++ rest) ≡ front ++ (b ++ (tail ++ rest)) = ap (λ (l : List ℕ). front ++ l) (append_assoc b tail rest) in
    let q : front ++ ((b ++ tail) ++ rest) ≡ (front ++ b) ++ (tail ++ rest) = p ∙ sym (append_assoc front b (tail ++ rest)) in
    let head : value_at (front ++ ((b ++ tail) ++ rest)) r ≡ v = ap (λ (l : List ℕ). value_at l r) p ∙ value_there r v front (tail ++ rest) e h.0 in
    let long : length (front ++ b) ≡ o + field_size f = length-append front b ∙ ap (λ (n : ℕ). n + length b) e ∙ ap (λ (n : ℕ). o + n) (value_length r v h.0) in
    let more : values_in (rows_from (o + field_size f) fs) (front ++ ((b ++ tail) ++ rest)) ≡ vs = ap (values_in (rows_from (o + field_size f) fs)) q ∙ values_there fs (o + field_size f) vs (front ++ b) rest long h.1 in
    ap (λ (x : Value). x ∷ values_in (rows_from (o + field_size f) fs) (front ++ ((b ++ tail) ++ rest))) head ∙ ap (λ (l : List Value). v ∷ l) more

filled_by : (k zeros : ℕ) (whole bytes : List ℕ) → whole ≡ bytes ++ replicate zeros 0 → length whole ≤ k → take k bytes ++ replicate (k - length bytes) 0 ≡ whole ++ replicate (k - length whole) 0
filled_by k zeros whole bytes e h =
    let n : length whole ≡ length bytes + zeros = ap length e ∙ length-append bytes (replicate zeros 0) ∙ ap (λ (m : ℕ). length bytes + m) (length-replicate zeros 0) in
    let m : k - length bytes ≡ zeros + (k - length whole) = omega (arith, n) in
    ap (λ (l : List ℕ). l ++ replicate (k - length bytes) 0) (take_all k bytes (omega (arith, n)))
    ∙ ap (λ (j : ℕ). bytes ++ replicate j 0) m
    ∙ ap (λ (l : List ℕ). bytes ++ l) (sym (replicate-append-replicate zeros (k - length whole) 0))
    ∙ sym (append_assoc bytes (replicate zeros 0) (replicate (k - length whole) 0))
    ∙ ap (λ (l : List ℕ). l ++ replicate (k - length whole) 0) (sym e)

-- bytes without their trailing zeros, filled again
pub filled_zeros : (zeros : ℕ) (whole bytes : List ℕ) → whole ≡ bytes ++ replicate zeros 0 → length whole ≤ 64 → (rest : List ℕ) × (filled bytes ≡ whole ++ rest)
unfolding filled
filled_zeros zeros whole bytes e h = (replicate (64 - length whole) 0, filled_by 64 zeros whole bytes e h)

-- each is an extension, and a number
abbrev pub Extra : List Row → Type 0
Extra [] = Unit {0}
Extra (r ∷ rs) = (r.extension ≡ true) × (r.array ≡ 0) × Extra rs

-- extensions stand last
abbrev pub Last : List Row → Type 0
Last [] = Unit {0}
Last (r ∷ rs) = ((r.extension ≡ false) × Last rs) ⊎ Extra (r ∷ rs)

zero_byte : (i : ℕ) → byte_at i 0 ≡ 0
zero_byte zero = refl
zero_byte (suc i) = ap (λ (n : ℕ). n % 256) (zero-div (256 ^ suc i))

zero_bytes : (i w : ℕ) → bytes_low_first i w 0 ≡ replicate w 0
zero_bytes i zero = refl
zero_bytes i (suc w) = ap (λ (b : ℕ). b ∷ bytes_low_first (suc i) w 0) (zero_byte i) ∙ ap (λ (l : List ℕ). 0 ∷ l) (zero_bytes (suc i) w)

number_zero : (w : ℕ) → number_bytes w 0 ≡ replicate w 0
unfolding number_bytes
number_zero w = zero_bytes 0 w

none_spelled : (rs : List Row) (vs : List Value) → Extra rs → wire_bytes false rs vs ≡ []
unfolding wire_bytes
none_spelled [] vs h = refl
none_spelled (r ∷ rs) [] h = refl
none_spelled (r ∷ rs) (v ∷ vs) h = ap (λ (b : Bool). cond b [] (value_bytes r v) ++ wire_bytes false rs vs) h.0 ∙ none_spelled rs vs h.2

zeros_spelled : (rs : List Row) (vs : List Value) → Extra rs → (k : ℕ) × (wire_bytes true rs (plain_values rs vs) ≡ replicate k 0)
unfolding wire_bytes
zeros_spelled [] vs h = (0, refl)
zeros_spelled (r ∷ rs) [] h = (0, refl)
zeros_spelled (r ∷ rs) (v ∷ vs) h =
    let more = zeros_spelled rs vs h.2 in (
      r.width + more.0,
      ap (λ (b : Bool). value_bytes r (cond b (Number 0) v) ++ wire_bytes true rs (plain_values rs vs)) h.0
          ∙ ap (λ (l : List ℕ). l ++ wire_bytes true rs (plain_values rs vs)) (number_zero r.width) ∙ ap (λ (l : List ℕ). replicate r.width 0 ++ l) more.1 ∙ replicate-append-replicate r.width more.0 0,
    )

-- what is sent without extensions is what is sent with extensions 0, without trailing zeros
pub padded : (rs : List Row) (vs : List Value) → Last rs → (k : ℕ) × (wire_bytes true rs (plain_values rs vs) ≡ wire_bytes false rs vs ++ replicate k 0)
unfolding wire_bytes
padded [] vs h = (0, refl)
padded (r ∷ rs) [] h = (0, refl)
padded (r ∷ rs) (v ∷ vs) (inl h) =
    let more = padded rs vs h.1 in (
      more.0,
      ap (λ (b : Bool). value_bytes r (cond b (Number 0) v) ++ wire_bytes true rs (plain_values rs vs)) h.0
          ∙ ap (λ (l : List ℕ). value_bytes r v ++ l) more.1 ∙ sym (append_assoc (value_bytes r v) (wire_bytes false rs vs) (replicate more.0 0))
          ∙ ap (λ (b : Bool). (cond b [] (value_bytes r v) ++ wire_bytes false rs vs) ++ replicate more.0 0) (sym h.0),
    )
padded (r ∷ rs) (v ∷ vs) (inr h) =
    let more = zeros_spelled (r ∷ rs) (v ∷ vs) h in
    (more.0, more.1 ∙ ap (λ (l : List ℕ). l ++ replicate more.0 0) (sym (none_spelled (r ∷ rs) (v ∷ vs) h)))

zero_suits : (r : Row) (v : Value) → r.array ≡ 0 → Suits r v → Suits r (Number 0)
zero_suits r (Number n) e h = (e, h.1, omega (arith, h.2))
zero_suits r (Bytes bs) e h = absurd (omega (arith, e, h.0))

extra_suit : (rs : List Row) (vs : List Value) → Extra rs → Suit rs vs → Suit rs (plain_values rs vs)
extra_suit [] [] e h = tt
extra_suit [] (v ∷ vs) e h = absurd h
extra_suit (r ∷ rs) [] e h = absurd h
extra_suit (r ∷ rs) (v ∷ vs) e h = (subst (λ (b : Bool). Suits r (cond b (Number 0) v)) (sym e.0) (zero_suits r v e.1 h.0), extra_suit rs vs e.2 h.1)

pub plain_suit : (rs : List Row) (vs : List Value) → Last rs → Suit rs vs → Suit rs (plain_values rs vs)
plain_suit [] [] e h = tt
plain_suit [] (v ∷ vs) e h = absurd h
plain_suit (r ∷ rs) [] e h = absurd h
plain_suit (r ∷ rs) (v ∷ vs) (inl e) h = (subst (λ (b : Bool). Suits r (cond b (Number 0) v)) (sym e.0) h.0, plain_suit rs vs e.1 h.1)
plain_suit (r ∷ rs) (v ∷ vs) (inr e) h = extra_suit (r ∷ rs) (v ∷ vs) e h
