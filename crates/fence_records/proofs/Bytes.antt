-- Bytes as numbers, and back.
use Rattle.std.proofs.Common.{◌≡◌, ℕ, zero, suc, ◌+◌, ◌-◌, ◌*◌, ◌/◌, ◌%◌, ◌^◌, ◌<◌, ◌≤◌, Bool, true, false, nat_lt, List, [], ◌∷◌, length, get_or, take, drop, refl, ap, ◌∙◌, subst, arith}
use Rattle.std.proofs.Common.{ltb-true, ltb-false}
use Rattle.std.specs.Prelude.{pos, neg_ℤ, FitsSigned}
use Rattle.std.specs.Int.{w32}
use Rattle.std.proofs.lemmas.Int.{ints}
use Rattle.storage_lines.specs.Numbers.{bytes_of_number, number_of, unsigned, signed_of}

abbrev pub IsBytes : List ℕ → Type 0
IsBytes bs = (i : ℕ) → get_or bs i 0 < 256

pub take-IsBytes : (n : ℕ) (bs : List ℕ) → IsBytes bs → IsBytes (take n bs)
take-IsBytes zero bs h i = omega arith
take-IsBytes (suc n) [] h i = omega arith
take-IsBytes (suc n) (b ∷ bs) h zero = h zero
take-IsBytes (suc n) (b ∷ bs) h (suc i) = take-IsBytes n bs (λ j. h (suc j)) i

pub drop-IsBytes : (n : ℕ) (bs : List ℕ) → IsBytes bs → IsBytes (drop n bs)
drop-IsBytes zero bs h i = h i
drop-IsBytes (suc n) [] h i = omega arith
drop-IsBytes (suc n) (b ∷ bs) h i = drop-IsBytes n bs (λ j. h (suc j)) i

pub bytes_of-number_of : (bs : List ℕ) → IsBytes bs → bytes_of_number (length bs) (number_of bs) ≡ bs
unfolding bytes_of_number number_of
bytes_of-number_of [] h = refl
bytes_of-number_of (b ∷ bs) h =
    let small : b < 256 = h zero in
    let low : (b + 256 * number_of bs) % 256 ≡ b = omega arith in
    let high : (b + 256 * number_of bs) / 256 ≡ number_of bs = omega arith in
    let rest : bytes_of_number (length bs) (number_of bs) ≡ bs = bytes_of-number_of bs (λ i. h (suc i)) in
    rw (low, high, rest) refl

pub number_of-small : (bs : List ℕ) → IsBytes bs → number_of bs < 256 ^ length bs
unfolding number_of
number_of-small [] h = omega arith
number_of-small (b ∷ bs) h =
    let small : b < 256 = h zero in
    let rest : number_of bs < 256 ^ length bs = number_of-small bs (λ i. h (suc i)) in
    let whole : b + 256 * number_of bs < 256 ^ suc (length bs) = omega arith in
    whole

half_signed : (n : ℕ) (b : Bool) → nat_lt (2 * n) (2 ^ 32) ≡ b → n < 2 ^ 32 → unsigned 4 (signed_of 4 n) ≡ n
half_signed n true e h = rw e refl
half_signed n false e h = rw e (upper n (2 ^ 32 - n) (omega arith) (omega arith))
  where
    upper : (n d : ℕ) → n + d ≡ 2 ^ 32 → 0 < d → unsigned 4 (neg_ℤ (pos d)) ≡ n
    upper n zero e h = absurd (omega arith)
    upper n (suc d) e h = omega arith

pub unsigned-signed_of : (n : ℕ) → n < 2 ^ 32 → unsigned 4 (signed_of 4 n) ≡ n
unsigned-signed_of n h = half_signed n (nat_lt (2 * n) (2 ^ 32)) refl h

-- four bytes are those of their number in two's complement
pub four_bytes : (bs : List ℕ) → length bs ≡ 4 → IsBytes bs → bytes_of_number 4 (unsigned 4 (signed_of 4 (number_of bs))) ≡ bs
four_bytes bs e h =
    let small : number_of bs < 2 ^ 32 = rw e at (number_of-small bs h) in
    ap (bytes_of_number 4) (unsigned-signed_of (number_of bs) small) ∙ subst (λ w. bytes_of_number w (number_of bs) ≡ bs) e (bytes_of-number_of bs h)

signed_fits : (n : ℕ) (b : Bool) → nat_lt (2 * n) (2 ^ 32) ≡ b → n < 2 ^ 32 → FitsSigned w32 (signed_of 4 n)
signed_fits n true e h = let less : 2 * n < 2 ^ 32 = ltb-true (2 * n) (2 ^ 32) e in rw e (omega (arith, ints))
signed_fits n false e h = let more : 2 ^ 32 ≤ 2 * n = ltb-false (2 * n) (2 ^ 32) e in rw e (omega (arith, ints))

pub signed_of-fits : (n : ℕ) → n < 2 ^ 32 → FitsSigned w32 (signed_of 4 n)
signed_of-fits n h = signed_fits n (nat_lt (2 * n) (2 ^ 32)) refl h
