-- The register after all bytes is the remainder of the dividend.
use Rattle.std.proofs.Common.{ℕ, zero, suc, ◌≡◌, ◌+◌, ◌*◌, ◌%◌, ◌^◌, ◌<◌, refl, sym, ap, ◌∙◌, arith, subst, List, [], ◌∷◌, ◌++◌, length, replicate, fold, append_assoc, length-append, All}
use Rattle.std.proofs.lemmas.List.Elements.{All-head, All-tail}
use Rattle.mav_crc.specs.Division.{add, low_bits, divisor, AreBits, IsRemainder, IsCrc, dividend, bits_of_bytes}
use Rattle.mav_crc.specs.Register.{register_after, crc_of}
use Rattle.mav_crc.proofs.Lists.{ap2, AreBits-add, length-add, AreBits-low, length-low}
use Rattle.mav_crc.proofs.Register.{tail, divide, divides, byte_divides, register_fits}

AreBytes : List ℕ → Type 0
AreBytes bs = All (λ b. b < 256) bs

first_byte : (b : ℕ) (bs : List ℕ) → AreBytes (b ∷ bs) → b < 256
unfolding AreBytes
first_byte b bs h = All-head (λ x. x < 256) b bs h

other_bytes : (b : ℕ) (bs : List ℕ) → AreBytes (b ∷ bs) → AreBytes bs
unfolding AreBytes
other_bytes b bs h = All-tail (λ x. x < 256) b bs h

AreBits-append : (a b : List ℕ) → AreBits a → AreBits b → AreBits (a ++ b)
AreBits-append [] b p q = q
AreBits-append (x ∷ a) b p q = (p.0, AreBits-append a b p.1 q)

AreBits-zeros : (k : ℕ) → AreBits (replicate k 0)
AreBits-zeros zero = tt
AreBits-zeros (suc k) = (omega arith, AreBits-zeros k)

AreBits-bytes : (bs : List ℕ) → AreBits (bits_of_bytes bs)
AreBits-bytes [] = tt
AreBits-bytes (b ∷ bs) = AreBits-append (low_bits 8 b) (bits_of_bytes bs) (AreBits-low 8 b) (AreBits-bytes bs)

length-bytes : (bs : List ℕ) → length (bits_of_bytes bs) ≡ 8 * length bs
length-bytes [] = refl
length-bytes (b ∷ bs) = length-append (low_bits 8 b) (bits_of_bytes bs) ∙ (omega (arith, length-low 8 b, length-bytes bs))

add-zeros : (a : List ℕ) (k : ℕ) → AreBits a → length a ≡ k → add a (replicate k 0) ≡ a
add-zeros [] zero b l = refl
add-zeros [] (suc k) b l = absurd (omega arith)
add-zeros (x ∷ a) zero b l = absurd (omega arith)
add-zeros (x ∷ a) (suc k) b l = ap2 ((x + 0) % 2) x (add a (replicate k 0)) a (omega (arith, b.0)) (add-zeros a k b.1 (omega arith))

rest : List ℕ → List ℕ
rest bs = bits_of_bytes bs ++ replicate 16 0

length-rest : (bs : List ℕ) → length (rest bs) ≡ 8 * length bs + 16
unfolding rest
length-rest bs = length-append (bits_of_bytes bs) (replicate 16 0) ∙ ap (λ n. n + 16) (length-bytes bs)

AreBits-rest : (bs : List ℕ) → AreBits (rest bs)
unfolding rest
AreBits-rest bs = AreBits-append (bits_of_bytes bs) (replicate 16 0) (AreBits-bytes bs) (AreBits-zeros 16)

rest-cons : (b : ℕ) (bs : List ℕ) → rest (b ∷ bs) ≡ low_bits 8 b ++ rest bs
unfolding rest
rest-cons b bs = append_assoc (low_bits 8 b) (bits_of_bytes bs) (replicate 16 0)

rest-nil : rest [] ≡ replicate 16 0
unfolding rest
rest-nil = refl

fold_divides : (bs : List ℕ) (c : ℕ) → c < 2 ^ 16 → AreBytes bs → divide tail (8 * length bs) (add (low_bits 16 c) (rest bs)) ≡ low_bits 16 (fold register_after c bs)
fold_divides [] c h f = ap (add (low_bits 16 c)) rest-nil ∙ add-zeros (low_bits 16 c) 16 (AreBits-low 16 c) (length-low 16 c)
fold_divides (b ∷ bs) c h f =
    let fb = first_byte b bs f in
    ap (λ n. divide tail n (add (low_bits 16 c) (rest (b ∷ bs)))) (let e : 8 * suc (length bs) ≡ 8 + 8 * length bs = omega arith in e)
    ∙ ap (λ v. divide tail (8 + 8 * length bs) (add (low_bits 16 c) v)) (rest-cons b bs)
    ∙ byte_divides (8 * length bs) c b (rest bs) h fb (omega (arith, length-rest bs)) (AreBits-rest bs)
    ∙ fold_divides bs (register_after c b) (register_fits c b h fb) (other_bytes b bs f)

pub AreBits-tail : AreBits tail
AreBits-tail = AreBits-low 16 0x8408

same_dividend : (start : ℕ) (bs : List ℕ) → dividend start bs ≡ add (low_bits 16 start) (rest bs)
unfolding rest
same_dividend start bs = refl

register_after_all_fits : (bs : List ℕ) (c : ℕ) → c < 2 ^ 16 → AreBytes bs → fold register_after c bs < 2 ^ 16
register_after_all_fits [] c h f = h
register_after_all_fits (b ∷ bs) c h f =
    let fb = first_byte b bs f in
    register_after_all_fits bs (register_after c b) (register_fits c b h fb) (other_bytes b bs f)

pub crc_divides : (start : ℕ) (bs : List ℕ) → start < 2 ^ 16 → All (λ b. b < 256) bs → IsCrc start bs (crc_of start bs)
unfolding AreBytes crc_of
crc_divides start bs h f =
    let len : length (add (low_bits 16 start) (rest bs)) ≡ 8 * length bs + 16 = length-add (low_bits 16 start) (rest bs) (omega (arith, length-low 16 start, length-rest bs)) ∙ length-rest bs in
    let P : List ℕ → Type 0 = λ v. IsRemainder divisor v (low_bits 16 (fold register_after start bs)) in
    let Q : List ℕ → Type 0 = λ r. IsRemainder divisor (add (low_bits 16 start) (rest bs)) r in
    record {
      fits = register_after_all_fits bs start h f;
      remainder = subst P (sym (same_dividend start bs))
          (subst Q (fold_divides bs start h f)
          (divides tail AreBits-tail (8 * length bs) (add (low_bits 16 start) (rest bs)) len (AreBits-add (low_bits 16 start) (rest bs) (AreBits-low 16 start) (AreBits-rest bs))));
    }
