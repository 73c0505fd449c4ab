-- A dividend has one remainder.
use Rattle.std.proofs.Common.{ℕ, zero, suc, ◌≡◌, ◌+◌, ◌*◌, ◌/◌, ◌%◌, ◌^◌, ◌<◌, ◌≤◌, sym, ap, subst, ◌∙◌, arith, List, [], ◌∷◌, ◌++◌, length, replicate, add-one}
use Rattle.std.proofs.lemmas.Grind.{pow_more}
use Rattle.mav_crc.specs.Division.{add, scale, product, low_bits, AreBits, IsCrc}
use Rattle.mav_crc.proofs.Lists.{add-assoc, add-twice, AreBits-add, length-add, AreBits-low, length-low}
use Rattle.mav_crc.proofs.Register.{AreBits-scale, length-scale, tail}
use Rattle.mav_crc.proofs.Bytes.{AreBits-tail}

-- a quotient's multiple of 1 and then t, and the rest in the last places
abbrev sum_of : List ℕ → List ℕ → List ℕ → List ℕ
sum_of t q r = add (product q (1 ∷ t)) (replicate (length q) 0 ++ r)

sum_of-cons : (t : List ℕ) (c : ℕ) (q r : List ℕ) → sum_of t (c ∷ q) r ≡ ((c * 1 + 0) % 2 + 0) % 2 ∷ add (scale c t) (sum_of t q r)
sum_of-cons t c q r = ap (λ v. ((c * 1 + 0) % 2 + 0) % 2 ∷ v) (add-assoc (scale c t) (product q (1 ∷ t)) (replicate (length q) 0 ++ r))

record IsSum (t q r : List ℕ) : Type 0 where
  bits : AreBits (sum_of t q r)
  long : length t ≤ length (sum_of t q r)

is_sum : (t q r : List ℕ) → AreBits t → AreBits q → AreBits r → length r ≡ length t → IsSum t q r
is_sum t [] r tb qb rb n = record { bits = rb; long = omega arith }
is_sum t (c ∷ q) r tb qb rb n =
    let more = is_sum t q r tb qb.1 rb n in
    let long : length t ≤ length (sum_of t q r) = more.long in
    let e = sum_of-cons t c q r in
    let within : length (scale c t) ≤ length (sum_of t q r) = omega (arith, length-scale c t) in
    let l = length-add (scale c t) (sum_of t q r) within in
    let m : length (sum_of t (c ∷ q) r) ≡ suc (length (add (scale c t) (sum_of t q r))) = ap length e in
    record {
      bits = subst AreBits (sym e) (omega arith, AreBits-add (scale c t) (sum_of t q r) (AreBits-scale c t qb.0 tb) more.bits);
      long = omega (arith, l, m);
    }

same_head : (x y : ℕ) (xs ys : List ℕ) → x ∷ xs ≡ y ∷ ys → x ≡ y
same_head x y xs ys e = cc

same_tail : (x y : ℕ) (xs ys : List ℕ) → x ∷ xs ≡ y ∷ ys → xs ≡ ys
same_tail x y xs ys e = cc

same_rest : (t q p r s : List ℕ) → AreBits t → AreBits q → AreBits p → AreBits r → AreBits s → length r ≡ length t → length s ≡ length t → length q ≡ length p → sum_of t q r ≡ sum_of t p s → r ≡ s
same_rest t [] [] r s tb qb pb rb sb m n l e = e
same_rest t [] (d ∷ p) r s tb qb pb rb sb m n l e = absurd (omega arith)
same_rest t (c ∷ q) [] r s tb qb pb rb sb m n l e = absurd (omega arith)
same_rest t (c ∷ q) (d ∷ p) r s tb qb pb rb sb m n l e =
    let both = sym (sum_of-cons t c q r) ∙ e ∙ sum_of-cons t d p s in
    let head = same_head (((c * 1 + 0) % 2 + 0) % 2) (((d * 1 + 0) % 2 + 0) % 2) (add (scale c t) (sum_of t q r)) (add (scale d t) (sum_of t p s)) both in
    let tails = same_tail (((c * 1 + 0) % 2 + 0) % 2) (((d * 1 + 0) % 2 + 0) % 2) (add (scale c t) (sum_of t q r)) (add (scale d t) (sum_of t p s)) both in
    let equal : c ≡ d = omega (arith, head, qb.0, pb.0) in
    let a = is_sum t q r tb qb.1 rb m in
    let b = is_sum t p s tb pb.1 sb n in
    let al = a.long in
    let bl = b.long in
    same_rest t q p r s tb qb.1 pb.1 rb sb m n (omega arith)
    (sym (add-twice (scale c t) (sum_of t q r) (omega (arith, length-scale c t, al)) a.bits)
    ∙ ap (add (scale c t)) (tails ∙ ap (λ x. add (scale x t) (sum_of t p s)) (sym equal))
    ∙ add-twice (scale c t) (sum_of t p s) (omega (arith, length-scale c t, bl)) b.bits)

same_number : (k m n : ℕ) → m < 2 ^ k → n < 2 ^ k → low_bits k m ≡ low_bits k n → m ≡ n
same_number zero m n h g e = omega arith
same_number (suc k) m n h g e =
    let p : 2 ^ suc k ≡ 2 ^ k * 2 = ap (λ j. 2 ^ j) (sym (add-one k)) ∙ pow_more 2 k in
    let head = same_head (m % 2) (n % 2) (low_bits k (m / 2)) (low_bits k (n / 2)) e in
    let half = same_number k (m / 2) (n / 2) (omega (arith, h, p)) (omega (arith, g, p)) (same_tail (m % 2) (n % 2) (low_bits k (m / 2)) (low_bits k (n / 2)) e) in
    omega (arith, head, half)

pub one_crc : (start : ℕ) (bytes : List ℕ) (m n : ℕ) → IsCrc start bytes m → IsCrc start bytes n → m ≡ n
one_crc start bytes m n a b =
    let x = a.remainder in
    let y = b.remainder in
    let i = x.lengths in
    let j = y.lengths in
    let s : length x.quotient ≡ length y.quotient = omega (arith, i, j, length-low 16 m, length-low 16 n) in
    same_number 16 m n a.fits b.fits
    (same_rest tail x.quotient y.quotient (low_bits 16 m) (low_bits 16 n) AreBits-tail x.bits y.bits (AreBits-low 16 m) (AreBits-low 16 n) (length-low 16 m) (length-low 16 n) s (sym x.sum ∙ y.sum))
