-- Fields one behind another.
use Rattle.std.proofs.Common.{ℕ, max, ◌≡◌, ◌*◌, ◌<◌, ◌≤◌, Bool, true, false, not, ◌&&◌, cond, List, [], ◌∷◌, length, arith, length-append}
use Rattle.byteorder.specs.Numbers.{length-bytes_low_first}
use Rattle.mav_messages.specs.declared.layouts.Row.{Row}
use Rattle.mav_messages.specs.Payload.{Value, Number, Bytes, number_bytes, value_bytes, wire_bytes, Suits, Suit, total_width}

pub length-number_bytes : (w n : ℕ) → length (number_bytes w n) ≡ w
unfolding number_bytes
length-number_bytes w n = length-bytes_low_first 0 w n

-- what a value takes
abbrev pub size : Row → ℕ
size r = r.width * max 1 r.array

number_size : (w a : ℕ) → a ≡ 0 → w ≤ w * max 1 a
number_size w a e = rw e (omega arith)

bytes_size : (w a : ℕ) → 0 < a → w ≡ 1 → a ≤ w * max 1 a
bytes_size w a h e = rw e (omega arith)

pub length-value : (r : Row) (v : Value) → Suits r v → length (value_bytes r v) ≤ size r
length-value r (Number n) h = rw (length-number_bytes r.width n) (number_size r.width r.array h.0)
length-value r (Bytes bytes) h = rw h.1 (bytes_size r.width r.array h.0 h.2)

skipped : (b : Bool) (xs : List ℕ) → length (cond b [] xs) ≤ length xs
skipped true xs = omega arith
skipped false xs = omega arith

pub length-spelling : (v2 : Bool) (rs : List Row) (vs : List Value) → Suit rs vs → length (wire_bytes v2 rs vs) ≤ total_width rs
unfolding wire_bytes
length-spelling v2 [] vs h = omega arith
length-spelling v2 (r ∷ rs) [] h = absurd h
length-spelling v2 (r ∷ rs) (v ∷ vs) h =
    let a = length-value r v h.0 in
    let b = skipped (not v2 && r.extension) (value_bytes r v) in
    let c = length-spelling v2 rs vs h.1 in
    omega (arith, length-append (cond (not v2 && r.extension) [] (value_bytes r v)) (wire_bytes v2 rs vs), a, b, c)
