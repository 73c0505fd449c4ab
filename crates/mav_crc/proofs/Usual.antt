-- The usual step by whole bytes is eight steps by bits.
use Rattle.std.proofs.Common.{ℕ, zero, suc, ◌≡◌, ◌+◌, ◌*◌, ◌/◌, ◌%◌, ◌^◌, ◌<◌, refl, sym, ap, ◌∙◌, arith, Bool, true, false, cond, ◌==◌, bit_xor, add-one, eqb-true}
use Rattle.std.specs.Int.Bits.{xor_assoc, xor_zero_l, xor_zero_r}
use Rattle.std.proofs.lemmas.Bool.{agree_below, agree_below_at}
use Rattle.std.proofs.lemmas.Nat.{xor_shr, xor_mod, xor_block}
use Rattle.std.proofs.lemmas.Grind.{pow_more}
use Rattle.mav_crc.specs.Register.{step_of, steps, register_after}
use Rattle.mav_crc.proofs.Register.{xor-lowest}

chosen : (b : Bool) (a y p : ℕ) → cond b (bit_xor (bit_xor a y) p) (bit_xor a y) ≡ bit_xor a (cond b (bit_xor y p) y)
chosen true a y p = xor_assoc a y p
chosen false a y p = refl

step_split : (a y : ℕ) → a % 2 ≡ 0 → step_of (bit_xor a y) ≡ bit_xor (a / 2) (step_of y)
step_split a y e =
    let r : bit_xor a y % 2 ≡ y % 2 = omega (arith, xor-lowest a y, e) in
    let s : bit_xor a y / 2 ≡ bit_xor (a / 2) (y / 2) = xor_shr a y 1 in
    ap (λ v. cond (v == 1) (bit_xor (bit_xor a y / 2) 0x8408) (bit_xor a y / 2)) r
    ∙ ap (λ v. cond (y % 2 == 1) (bit_xor v 0x8408) v) s
    ∙ chosen (y % 2 == 1) (a / 2) (y / 2) 0x8408

pub steps_split : (k h y : ℕ) → steps k (bit_xor (h * 2 ^ k) y) ≡ bit_xor h (steps k y)
steps_split zero h y = ap (λ v. bit_xor v y) (let e : h * 2 ^ 0 ≡ h = omega arith in e)
steps_split (suc k) h y =
    let p : 2 ^ suc k ≡ 2 ^ k * 2 = ap (λ j. 2 ^ j) (sym (add-one k)) ∙ pow_more 2 k in
    let e : h * 2 ^ suc k ≡ h * 2 ^ k * 2 = ap (λ v. h * v) p ∙ (omega arith) in
    ap (steps k) (step_split (h * 2 ^ suc k) y (omega (arith, e)) ∙ ap (λ v. bit_xor v (step_of y)) (let f : h * 2 ^ suc k / 2 ≡ h * 2 ^ k = omega (arith, e) in f))
    ∙ steps_split k h (step_of y)

-- what the usual step makes of the low byte
abbrev pub spread : ℕ → ℕ
spread t = bit_xor (bit_xor (t * 256) (t * 8)) (t / 16)

abbrev pub folded : ℕ → ℕ
folded l = bit_xor l (l * 16 % 256)

every_byte : agree_below (λ l. steps 8 l == spread (folded l)) (λ _. true) 256 ≡ true
every_byte = refl

of_byte : (l : ℕ) → l < 256 → steps 8 l ≡ spread (folded l)
of_byte l h = eqb-true (steps 8 l) (spread (folded l)) (agree_below_at (λ n. steps 8 n == spread (folded n)) (λ _. true) 256 l every_byte h)

pub halves : (x : ℕ) → x ≡ bit_xor (x / 256 * 2 ^ 8) (x % 256)
halves x =
    let b = xor_block 8 (x / 256) 0 0 (x % 256) (omega arith) (omega arith) in
    let e : x / 256 * 2 ^ 8 + 0 ≡ x / 256 * 2 ^ 8 = omega arith in
    let f : 0 * 2 ^ 8 + x % 256 ≡ x % 256 = omega arith in
    let g : bit_xor (x / 256 * 2 ^ 8) (x % 256) ≡ bit_xor (x / 256) 0 * 2 ^ 8 + bit_xor 0 (x % 256) = ap (λ v. bit_xor v (x % 256)) (sym e) ∙ ap (λ v. bit_xor (x / 256 * 2 ^ 8 + 0) v) (sym f) ∙ b in
    sym (g ∙ ap (λ v. v * 2 ^ 8 + bit_xor 0 (x % 256)) (xor_zero_r (x / 256)) ∙ ap (λ v. x / 256 * 2 ^ 8 + v) (xor_zero_l (x % 256)) ∙ (omega arith))

pub usual : (c b : ℕ) → b < 256 → register_after c b ≡ bit_xor (c / 256) (spread (folded (bit_xor (c % 256) b)))
unfolding register_after
usual c b h =
    let high : bit_xor c b / 256 ≡ c / 256 = xor_shr c b 8 ∙ ap (bit_xor (c / 256)) (let z : b / 256 ≡ 0 = omega arith in z) ∙ xor_zero_r (c / 256) in
    let low : bit_xor c b % 256 ≡ bit_xor (c % 256) b = xor_mod c b 8 ∙ ap (bit_xor (c % 256)) (let z : b % 256 ≡ b = omega arith in z) in
    ap (steps 8) (halves (bit_xor c b))
    ∙ steps_split 8 (bit_xor c b / 256) (bit_xor c b % 256)
    ∙ ap (bit_xor (bit_xor c b / 256)) (of_byte (bit_xor c b % 256) (omega arith))
    ∙ ap (λ v. bit_xor v (spread (folded (bit_xor c b % 256)))) high
    ∙ ap (λ v. bit_xor (c / 256) (spread (folded v))) low

pub joined : (h t : ℕ) → bit_xor (bit_xor (bit_xor h (t * 256)) (t * 8)) (t / 16) ≡ bit_xor h (spread t)
joined h t = ap (λ v. bit_xor v (t / 16)) (xor_assoc h (t * 256) (t * 8)) ∙ xor_assoc h (bit_xor (t * 256) (t * 8)) (t / 16)
