-- Two bytes in one step are two steps of a byte.
use Rattle.std.proofs.Common.{ℕ, zero, suc, ◌≡◌, ◌+◌, ◌*◌, ◌/◌, ◌%◌, ◌^◌, ◌<◌, refl, sym, ap, ◌∙◌, arith, Bool, true, false, cond, ◌==◌, bit_xor, eqb-true}
use Rattle.std.specs.Int.Bits.{xor_assoc, xor_zero_r}
use Rattle.std.proofs.lemmas.Bool.{agree_below, agree_below_at}
use Rattle.std.proofs.lemmas.Nat.{xor_comm, xor_shr, xor_mod, xor_block, xor_lt}
use Rattle.mav_crc.specs.Register.{step_of, steps, register_after}
use Rattle.mav_crc.proofs.Register.{xor-lowest}
use Rattle.mav_crc.proofs.Usual.{steps_split, halves}

-- the function of an exclusive or is the exclusive or of its values
abbrev pub IsLinear : (ℕ → ℕ) → Type 0
IsLinear f = (a b : ℕ) → f (bit_xor a b) ≡ bit_xor (f a) (f b)

-- the inner two of four change places
exchanged : (a b c d : ℕ) → bit_xor (bit_xor a b) (bit_xor c d) ≡ bit_xor (bit_xor a c) (bit_xor b d)
exchanged a b c d =
    xor_assoc a b (bit_xor c d)
    ∙ ap (bit_xor a) (sym (xor_assoc b c d) ∙ ap (λ v. bit_xor v d) (xor_comm b c) ∙ xor_assoc c b d)
    ∙ sym (xor_assoc a c (bit_xor b d))

sum_linear : (f g : ℕ → ℕ) → IsLinear f → IsLinear g → IsLinear (λ x. bit_xor (f x) (g x))
sum_linear f g p q a b =
    ap (λ v. bit_xor v (g (bit_xor a b))) (p a b)
    ∙ ap (bit_xor (bit_xor (f a) (f b))) (q a b)
    ∙ exchanged (f a) (f b) (g a) (g b)

xor_shl : (k a b : ℕ) → 0 < 2 ^ k → bit_xor a b * 2 ^ k ≡ bit_xor (a * 2 ^ k) (b * 2 ^ k)
xor_shl k a b some =
    let e : a * 2 ^ k + 0 ≡ a * 2 ^ k = omega arith in
    let f : b * 2 ^ k + 0 ≡ b * 2 ^ k = omega arith in
    let g : bit_xor a b * 2 ^ k + 0 ≡ bit_xor a b * 2 ^ k = omega arith in
    sym (ap (λ v. bit_xor v (b * 2 ^ k)) (sym e) ∙ ap (bit_xor (a * 2 ^ k + 0)) (sym f) ∙ xor_block k a b 0 0 some some ∙ g)

shl_linear : (k : ℕ) → 0 < 2 ^ k → IsLinear (λ x. x * 2 ^ k % 2 ^ 16)
shl_linear k some a b = ap (λ v. v % 2 ^ 16) (xor_shl k a b some) ∙ xor_mod (a * 2 ^ k) (b * 2 ^ k) 16

-- what is subtracted as a bit leaves
subtrahend : ℕ → ℕ
subtrahend bit = cond (bit == 1) 0x8408 0

subtrahend_sum : (m n : ℕ) → m < 2 → n < 2 → subtrahend ((m + n) % 2) ≡ bit_xor (subtrahend m) (subtrahend n)
unfolding subtrahend
subtrahend_sum zero zero p q = refl
subtrahend_sum zero (suc zero) p q = refl
subtrahend_sum (suc zero) zero p q = refl
subtrahend_sum (suc zero) (suc zero) p q = refl
subtrahend_sum zero (suc (suc n)) p q = absurd (omega arith)
subtrahend_sum (suc zero) (suc (suc n)) p q = absurd (omega arith)
subtrahend_sum (suc (suc m)) n p q = absurd (omega arith)

step_by : (b : Bool) (x : ℕ) → cond b (bit_xor x 0x8408) x ≡ bit_xor x (cond b 0x8408 0)
step_by true x = refl
step_by false x = sym (xor_zero_r x)

step_is : (c : ℕ) → step_of c ≡ bit_xor (c / 2) (subtrahend (c % 2))
unfolding subtrahend
step_is c = step_by (c % 2 == 1) (c / 2)

step_linear : IsLinear step_of
step_linear a b =
    step_is (bit_xor a b)
    ∙ ap (λ v. bit_xor v (subtrahend (bit_xor a b % 2))) (xor_shr a b 1)
    ∙ ap (bit_xor (bit_xor (a / 2) (b / 2)))
    (ap subtrahend (xor-lowest a b) ∙ subtrahend_sum (a % 2) (b % 2) (omega arith) (omega arith))
    ∙ exchanged (a / 2) (b / 2) (subtrahend (a % 2)) (subtrahend (b % 2))
    ∙ ap (λ v. bit_xor v (bit_xor (b / 2) (subtrahend (b % 2)))) (sym (step_is a))
    ∙ ap (bit_xor (step_of a)) (sym (step_is b))

steps_linear : (k : ℕ) → IsLinear (steps k)
steps_linear zero a b = refl
steps_linear (suc k) a b = ap (steps k) (step_linear a b) ∙ steps_linear k (step_of a) (step_of b)

-- what the step of two bytes makes of them and the register
abbrev pub multiples_of : ℕ → ℕ
multiples_of x = bit_xor (bit_xor (bit_xor (bit_xor x (x * 16 % 65536)) (x * 256 % 65536)) (x * 2048 % 65536)) (x * 4096 % 65536)

abbrev pub quotients_of : ℕ → ℕ
quotients_of q = bit_xor (bit_xor q (q / 32)) (q / 4096)

multiples_of_linear : IsLinear multiples_of
multiples_of_linear =
    sum_linear (λ x. bit_xor (bit_xor (bit_xor x (x * 16 % 65536)) (x * 256 % 65536)) (x * 2048 % 65536)) (λ x. x * 4096 % 65536)
    (sum_linear (λ x. bit_xor (bit_xor x (x * 16 % 65536)) (x * 256 % 65536)) (λ x. x * 2048 % 65536)
    (sum_linear (λ x. bit_xor x (x * 16 % 65536)) (λ x. x * 256 % 65536)
    (sum_linear (λ x. x) (λ x. x * 16 % 65536) (λ a b. refl) (shl_linear 4 (omega arith)))
    (shl_linear 8 (omega arith)))
    (shl_linear 11 (omega arith)))
    (shl_linear 12 (omega arith))

quotients_of_linear : IsLinear quotients_of
quotients_of_linear =
    sum_linear (λ q. bit_xor q (q / 32)) (λ q. q / 4096)
    (sum_linear (λ q. q) (λ q. q / 32) (λ a b. refl) (λ a b. xor_shr a b 5))
    (λ a b. xor_shr a b 12)

form_linear : IsLinear (λ x. quotients_of (multiples_of x))
form_linear a b = ap quotients_of (multiples_of_linear a b) ∙ quotients_of_linear (multiples_of a) (multiples_of b)

low_bytes : agree_below (λ l. steps 16 l == quotients_of (multiples_of l)) (λ _. true) 256 ≡ true
low_bytes = refl

high_bytes : agree_below (λ h. steps 16 (h * 256) == quotients_of (multiples_of (h * 256))) (λ _. true) 256 ≡ true
high_bytes = refl

of_low : (l : ℕ) → l < 256 → steps 16 l ≡ quotients_of (multiples_of l)
of_low l h = eqb-true (steps 16 l) (quotients_of (multiples_of l)) (agree_below_at (λ n. steps 16 n == quotients_of (multiples_of n)) (λ _. true) 256 l low_bytes h)

of_high : (l : ℕ) → l < 256 → steps 16 (l * 256) ≡ quotients_of (multiples_of (l * 256))
of_high l h = eqb-true (steps 16 (l * 256)) (quotients_of (multiples_of (l * 256))) (agree_below_at (λ n. steps 16 (n * 256) == quotients_of (multiples_of (n * 256))) (λ _. true) 256 l high_bytes h)

of_pair : (x : ℕ) → x < 2 ^ 16 → steps 16 x ≡ quotients_of (multiples_of x)
of_pair x h =
    ap (steps 16) (halves x)
    ∙ steps_linear 16 (x / 256 * 256) (x % 256)
    ∙ ap (λ v. bit_xor v (steps 16 (x % 256))) (of_high (x / 256) (omega arith))
    ∙ ap (bit_xor (quotients_of (multiples_of (x / 256 * 256)))) (of_low (x % 256) (omega arith))
    ∙ sym (form_linear (x / 256 * 256) (x % 256))
    ∙ ap (λ v. quotients_of (multiples_of v)) (sym (halves x))

joined : (first second : ℕ) → first < 256 → second * 256 + first ≡ bit_xor (second * 256) first
joined first second h =
    let x = second * 256 + first in
    let e : x / 256 ≡ second = omega arith in
    let f : x % 256 ≡ first = omega arith in
    halves x ∙ ap (λ v. bit_xor (v * 256) (x % 256)) e ∙ ap (bit_xor (second * 256)) f

-- two bytes, the first in the low half of a pair
pub two_bytes : (c first second : ℕ) → c < 2 ^ 16 → first < 256 → second < 256
    → quotients_of (multiples_of (bit_xor c (second * 256 + first))) ≡ register_after (register_after c first) second
unfolding register_after
two_bytes c first second h f s =
    let y = bit_xor c first in
    let e : bit_xor c (second * 256 + first) ≡ bit_xor (second * 256) y
    = ap (bit_xor c) (joined first second f ∙ xor_comm (second * 256) first) ∙ sym (xor_assoc c first (second * 256)) ∙ xor_comm y (second * 256) in
    sym (of_pair (bit_xor c (second * 256 + first)) (xor_lt 16 c (second * 256 + first) h (omega arith)))
    ∙ ap (steps 16) e ∙ ap (steps 8) (steps_split 8 second y ∙ xor_comm second (steps 8 y))
