-- The register of the code, and the division that it runs.
use Rattle.std.proofs.Common.{ℕ, zero, suc, ◌≡◌, ◌+◌, ◌*◌, ◌/◌, ◌%◌, ◌^◌, ◌<◌, ◌≤◌, inl, inr, refl, sym, ap, ◌∙◌, arith, List, [], ◌∷◌, ◌++◌, length, replicate, bit_xor, cond, ◌==◌, add-one, zero-add}
use Rattle.std.proofs.lemmas.Bool.{cases_lt}
use Rattle.std.proofs.lemmas.Nat.{xor_lt, xor_shr}
use Rattle.std.proofs.lemmas.Bool.{cond_both}
use Rattle.std.proofs.lemmas.Nat.Bits.{bit_at_xor, bit_at_lowest}
use Rattle.std.proofs.lemmas.Grind.{pow_more}
use Rattle.mav_crc.specs.Division.{add, scale, product, low_bits, AreBits, IsRemainder}
use Rattle.mav_crc.specs.Register.{step_of, steps, register_after}
use Rattle.mav_crc.proofs.Lists.{ap2, add-assoc, add-comm, add-twice, AreBits-add, length-add}

-- n places of the long division by 1 and then t
abbrev pub divide : List ℕ → ℕ → List ℕ → List ℕ
divide t zero v = v
divide t (suc n) [] = []
divide t (suc n) (d ∷ w) = divide t n (add (scale d t) w)

pub AreBits-scale : (c : ℕ) (xs : List ℕ) → c < 2 → AreBits xs → AreBits (scale c xs)
AreBits-scale c [] h b = tt
AreBits-scale c (x ∷ xs) h b = (
  elim (cases_lt c 1) [
    | inl p ↦ let z : c ≡ 0 = omega arith in let e : c * x ≡ 0 * x = ap (λ v. v * x) z in omega (arith, e)
    | inr p ↦ let z : c ≡ 1 = omega arith in let e : c * x ≡ 1 * x = ap (λ v. v * x) z in omega (arith, e, b.0)
  ],
  AreBits-scale c xs h b.1,
)

pub length-scale : (c : ℕ) (xs : List ℕ) → length (scale c xs) ≡ length xs
length-scale c [] = refl
length-scale c (x ∷ xs) = omega (arith, length-scale c xs)

rejoin : (s p z w : List ℕ) → length s ≤ length w → AreBits w → add s w ≡ add p z → add (add s p) z ≡ w
rejoin s p z w len b e = add-assoc s p z ∙ ap (add s) (sym e) ∙ add-twice s w len b

pub divides : (t : List ℕ) → AreBits t → (n : ℕ) (v : List ℕ) → length v ≡ n + length t → AreBits v → IsRemainder (1 ∷ t) v (divide t n v)
divides t tb zero v l b = record { quotient = []; bits = tt; width = omega (arith, l); lengths = omega (arith, l); sum = refl }
divides t tb (suc n) [] l b = absurd (omega arith)
divides t tb (suc n) (d ∷ w) l b =
    let len : length (scale d t) ≤ length w = omega (arith, length-scale d t, l) in
    let lw : length (add (scale d t) w) ≡ n + length t = omega (arith, length-add (scale d t) w len, l) in
    let r = divides t tb n (add (scale d t) w) lw (AreBits-add (scale d t) w (AreBits-scale d t b.0 tb) b.1) in
    record {
      quotient = d ∷ r.quotient;
      bits = (b.0, r.bits);
      width = r.width;
      lengths = omega (arith, r.lengths, lw, l);
      sum = ap2 d (((d * 1 + 0) % 2 + 0) % 2) w (add (add (scale d t) (product r.quotient (1 ∷ t))) (replicate (length r.quotient) 0 ++ divide t n (add (scale d t) w))) (omega (arith, b.0))
          (sym (rejoin (scale d t) (product r.quotient (1 ∷ t)) (replicate (length r.quotient) 0 ++ divide t n (add (scale d t) w)) w len b.1 r.sum));
    }

-- ---- numbers and their bits

pub xor-lowest : (a b : ℕ) → bit_xor a b % 2 ≡ (a % 2 + b % 2) % 2
xor-lowest a b = omega (arith, bit_at_xor a b 0, bit_at_lowest (bit_xor a b), bit_at_lowest a, bit_at_lowest b)

pub low-xor : (k a b : ℕ) → low_bits k (bit_xor a b) ≡ add (low_bits k a) (low_bits k b)
low-xor zero a b = refl
low-xor (suc k) a b =
    ap2 (bit_xor a b % 2) ((a % 2 + b % 2) % 2) (low_bits k (bit_xor a b / 2)) (add (low_bits k (a / 2)) (low_bits k (b / 2))) (xor-lowest a b)
    (ap (low_bits k) (xor_shr a b 1) ∙ low-xor k (a / 2) (b / 2))

-- zeros above
pub low-zeros : (k x : ℕ) → x < 2 ^ k → add (replicate (suc k) 0) (low_bits k x) ≡ low_bits (suc k) x
low-zeros zero x h = ap2 0 (x % 2) [] [] (omega arith) refl
low-zeros (suc k) x h =
    let p : 2 ^ suc k ≡ 2 ^ k * 2 = ap (λ j. 2 ^ j) (sym (add-one k)) ∙ pow_more 2 k in
    ap2 ((0 + x % 2) % 2) (x % 2) (add (replicate (suc k) 0) (low_bits k (x / 2))) (low_bits (suc k) (x / 2)) (omega arith) (low-zeros k (x / 2) (omega (arith, h, p)))

-- ---- one step of the register is one place of the division

abbrev pub tail : List ℕ
tail = 0 ∷ 0 ∷ 0 ∷ 1 ∷ 0 ∷ 0 ∷ 0 ∷ 0 ∷ 0 ∷ 0 ∷ 1 ∷ 0 ∷ 0 ∷ 0 ∷ 0 ∷ 1 ∷ []

one_place : (t : List ℕ) (k n c e : ℕ) (ms : List ℕ) → add (scale ((c % 2 + 0) % 2) t) (low_bits k (c / 2)) ≡ low_bits (suc k) e → divide t (suc n) (add (low_bits (suc k) c) (0 ∷ ms)) ≡ divide t n (add (low_bits (suc k) e) ms)
one_place t k n c e ms h = ap (divide t n) (sym (add-assoc (scale ((c % 2 + 0) % 2) t) (low_bits k (c / 2)) ms) ∙ ap (λ u. add u ms) h)

pub step_fits : (c : ℕ) → c < 2 ^ 16 → step_of c < 2 ^ 16
step_fits c h = cond_both (c % 2 == 1) (bit_xor (c / 2) 0x8408) (c / 2) (λ v. v < 2 ^ 16) (λ _. xor_lt 16 (c / 2) 0x8408 (omega arith) (omega arith)) (λ _. omega arith)

step_even : (c : ℕ) → c < 2 ^ 16 → c % 2 ≡ 0 → add (scale ((c % 2 + 0) % 2) tail) (low_bits 15 (c / 2)) ≡ low_bits 16 (step_of c)
step_even c h e =
    ap (λ d. add (scale ((d + 0) % 2) tail) (low_bits 15 (c / 2))) e
    ∙ low-zeros 15 (c / 2) (omega arith)
    ∙ ap (λ d. low_bits 16 (cond (d == 1) (bit_xor (c / 2) 0x8408) (c / 2))) (sym e)

xor_tail : (x : ℕ) → x < 2 ^ 15 → add tail (low_bits 15 x) ≡ low_bits 16 (bit_xor x 0x8408)
xor_tail x h =
    sym (low-xor 16 x 0x8408
    ∙ add-comm (low_bits 16 x) tail
    ∙ ap (add tail) (sym (low-zeros 15 x h))
    ∙ sym (add-assoc tail (replicate 16 0) (low_bits 15 x)))

step_odd : (c : ℕ) → c < 2 ^ 16 → c % 2 ≡ 1 → add (scale ((c % 2 + 0) % 2) tail) (low_bits 15 (c / 2)) ≡ low_bits 16 (step_of c)
step_odd c h e =
    ap (λ d. add (scale ((d + 0) % 2) tail) (low_bits 15 (c / 2))) e
    ∙ xor_tail (c / 2) (omega arith)
    ∙ ap (λ d. low_bits 16 (cond (d == 1) (bit_xor (c / 2) 0x8408) (c / 2))) (sym e)

pub step_divides : (n c : ℕ) (ms : List ℕ) → c < 2 ^ 16 → divide tail (suc n) (add (low_bits 16 c) (0 ∷ ms)) ≡ divide tail n (add (low_bits 16 (step_of c)) ms)
step_divides n c ms h =
    one_place tail 15 n c (step_of c) ms
    (elim (cases_lt (c % 2) 1) [ inl x ↦ step_even c h (omega arith) | inr x ↦ step_odd c h (omega arith) ])

pub steps_divide : (k n c : ℕ) (ms : List ℕ) → c < 2 ^ 16 → divide tail (k + n) (add (low_bits 16 c) (replicate k 0 ++ ms)) ≡ divide tail n (add (low_bits 16 (steps k c)) ms)
steps_divide zero n c ms h = ap (λ j. divide tail j (add (low_bits 16 c) ms)) (zero-add n)
steps_divide (suc k) n c ms h =
    ap (λ j. divide tail j (add (low_bits 16 c) (0 ∷ (replicate k 0 ++ ms)))) (let e : suc k + n ≡ suc (k + n) = omega arith in e)
    ∙ step_divides (k + n) c (replicate k 0 ++ ms) h
    ∙ steps_divide k n (step_of c) ms (step_fits c h)

pub steps_fit : (k c : ℕ) → c < 2 ^ 16 → steps k c < 2 ^ 16
steps_fit zero c h = h
steps_fit (suc k) c h = steps_fit k (step_of c) (step_fits c h)

-- ---- a byte

zeros_add : (j : ℕ) (ms : List ℕ) → j ≤ length ms → AreBits ms → add (low_bits j 0) ms ≡ ms
zeros_add zero ms h b = refl
zeros_add (suc j) [] h b = absurd (omega arith)
zeros_add (suc j) (m ∷ ms) h b = ap2 ((0 + m) % 2) m (add (low_bits j 0) ms) ms (omega (arith, b.0)) (zeros_add j ms (omega arith) b.1)

byte_add : (k j b : ℕ) (ms : List ℕ) → b < 2 ^ k → j ≤ length ms → AreBits ms → add (low_bits (k + j) b) (replicate k 0 ++ ms) ≡ low_bits k b ++ ms
byte_add zero j b ms h l bits =
    let e : b ≡ 0 = omega arith in
    ap (λ i. add (low_bits i b) ms) (zero-add j) ∙ ap (λ v. add (low_bits j v) ms) e ∙ zeros_add j ms l bits
byte_add (suc k) j b ms h l bits =
    let p : 2 ^ suc k ≡ 2 ^ k * 2 = ap (λ i. 2 ^ i) (sym (add-one k)) ∙ pow_more 2 k in
    ap (λ i. add (low_bits i b) (0 ∷ (replicate k 0 ++ ms))) (let e : suc k + j ≡ suc (k + j) = omega arith in e)
    ∙ ap2 ((b % 2 + 0) % 2) (b % 2) (add (low_bits (k + j) (b / 2)) (replicate k 0 ++ ms)) (low_bits k (b / 2) ++ ms) (omega arith) (byte_add k j (b / 2) ms (omega (arith, h, p)) l bits)

byte_in : (c b : ℕ) (ms : List ℕ) → b < 256 → 8 ≤ length ms → AreBits ms → add (low_bits 16 c) (low_bits 8 b ++ ms) ≡ add (low_bits 16 (bit_xor c b)) (replicate 8 0 ++ ms)
byte_in c b ms h l bits =
    sym (ap (λ u. add u (replicate 8 0 ++ ms)) (low-xor 16 c b)
    ∙ add-assoc (low_bits 16 c) (low_bits 16 b) (replicate 8 0 ++ ms)
    ∙ ap (add (low_bits 16 c)) (byte_add 8 8 b ms h l bits))

pub byte_divides : (n c b : ℕ) (ms : List ℕ) → c < 2 ^ 16 → b < 256 → 8 ≤ length ms → AreBits ms → divide tail (8 + n) (add (low_bits 16 c) (low_bits 8 b ++ ms)) ≡ divide tail n (add (low_bits 16 (register_after c b)) ms)
unfolding register_after
byte_divides n c b ms h f l bits =
    ap (divide tail (8 + n)) (byte_in c b ms f l bits) ∙ steps_divide 8 n (bit_xor c b) ms (xor_lt 16 c b h (omega arith))

pub register_fits : (c b : ℕ) → c < 2 ^ 16 → b < 256 → register_after c b < 2 ^ 16
unfolding register_after
register_fits c b h f = steps_fit 8 (bit_xor c b) (xor_lt 16 c b h (omega arith))

pub steps_more : (k c : ℕ) → steps (k + 1) c ≡ step_of (steps k c)
steps_more zero c = refl
steps_more (suc k) c =
    ap (λ j. steps j c) (let e : suc k + 1 ≡ suc (k + 1) = omega arith in e) ∙ steps_more k (step_of c)
