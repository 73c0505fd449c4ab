-- Numbers as bytes.
use Rattle.std.proofs.Common.{◌≡◌, ℕ, zero, suc, ◌+◌, ◌*◌, ◌/◌, ◌%◌, ◌^◌, ◌<◌, List, [], ◌∷◌, length, get_or, drop, refl, sym, ap, ◌∙◌, arith}
use Rattle.std.proofs.Math.Nat.{div-one, div-div-eq-div-mul, pow-suc}
use Rattle.std.specs.Int.{byte_at, bytes_low_first}
use Rattle.byteorder.specs.Endian.{little_bytes, little_number}
use Rattle.byteorder.specs.Numbers.{little_from-cons}
use Rattle.storage_lines.specs.Numbers.{bytes_of_number, number_of}

pub length-bytes_of : (w n : ℕ) → length (bytes_of_number w n) ≡ w
unfolding bytes_of_number
length-bytes_of zero n = refl
length-bytes_of (suc w) n = let e = length-bytes_of w (n / 256) in ap suc e

-- one byte, and then the others
pub bytes_of-next : (w k n : ℕ) → w ≡ suc k → bytes_of_number w n ≡ (n % 256) ∷ bytes_of_number k (n / 256)
unfolding bytes_of_number
bytes_of-next w k n e = rw e refl

pub number_of-next : (bs : List ℕ) → 0 < length bs → number_of bs ≡ get_or bs 0 0 + 256 * number_of (drop 1 bs)
unfolding number_of
number_of-next [] h = absurd (omega arith)
number_of-next (b ∷ bs) h = refl

-- a number is that of its bytes
pub number_of-bytes_of : (w n : ℕ) → n < 256 ^ w → number_of (bytes_of_number w n) ≡ n
unfolding number_of bytes_of_number
number_of-bytes_of zero n h = omega arith
number_of-bytes_of (suc w) n h =
    let less : n / 256 < 256 ^ w = omega arith in
    let e : number_of (bytes_of_number w (n / 256)) ≡ n / 256 = number_of-bytes_of w (n / 256) less in
    rw e (omega arith)

byte_at-div : (i n : ℕ) → n / 256 ^ i % 256 ≡ byte_at i n
byte_at-div zero n = ap (λ (t : ℕ). t % 256) (div-one n)
byte_at-div (suc i) n = refl

bytes_of-from : (i w n : ℕ) → bytes_of_number w (n / 256 ^ i) ≡ bytes_low_first i w n
unfolding bytes_of_number
bytes_of-from i zero n = refl
bytes_of-from i (suc w) n =
    let above : n / 256 ^ i / 256 ≡ n / 256 ^ suc i = div-div-eq-div-mul n (256 ^ i) 256 ∙ ap (λ (t : ℕ). n / t) (sym (pow-suc 256 i)) in
    rw (byte_at-div i n, above) (ap (λ (t : List ℕ). byte_at i n ∷ t) (bytes_of-from (suc i) w n))

-- the bytes of a number are those that the little byte order writes
pub bytes_of-little : (w n : ℕ) → bytes_of_number w n ≡ little_bytes w n
bytes_of-little w n = ap (bytes_of_number w) (sym (div-one n)) ∙ bytes_of-from 0 w n

-- the number of bytes is the one that the little byte order reads
pub number_of-little : (bs : List ℕ) → number_of bs ≡ little_number (length bs) bs
unfolding number_of
number_of-little [] = refl
number_of-little (b ∷ bs) =
    ap (λ (t : ℕ). b + 256 * t) (number_of-little bs ∙ sym (little_from-cons 0 (length bs) b bs))
