-- The CRC of pieces one after another.
use Rattle.std.proofs.Common.{ℕ, ◌≡◌, ◌+◌, ◌*◌, ◌<◌, arith, refl, sym, ap, ◌∙◌, List, [], ◌∷◌, ◌++◌, append_assoc, take, get_or, length}
use Rattle.std.proofs.lemmas.List.{take_more}
use Rattle.std.proofs.lemmas.List.Sums.{fold-append}
use Rattle.std.proofs.Common.{append-nil}
use Rattle.mav_crc.specs.declared.Field.{Field}
use Rattle.mav_crc.specs.Register.{register_after, crc_of}
use Rattle.mav_crc.specs.Extra.{field_bytes, fields_bytes}

pub crc_of-append : (r : ℕ) (xs ys : List ℕ) → crc_of r (xs ++ ys) ≡ crc_of (crc_of r xs) ys
unfolding crc_of
crc_of-append r xs ys = fold-append register_after r xs ys

pub crc_of-cons : (r b : ℕ) (ys : List ℕ) → crc_of r (b ∷ ys) ≡ crc_of (register_after r b) ys
unfolding crc_of
crc_of-cons r b ys = refl

pub crc_of-nil : (r : ℕ) → crc_of r [] ≡ r
unfolding crc_of
crc_of-nil r = refl

pub fields_bytes-append : (fs gs : List Field) → fields_bytes (fs ++ gs) ≡ fields_bytes fs ++ fields_bytes gs
fields_bytes-append [] gs = refl
fields_bytes-append (f ∷ fs) gs = ap (λ v. field_bytes f ++ v) (fields_bytes-append fs gs) ∙ sym (append_assoc (field_bytes f) (fields_bytes fs) (fields_bytes gs))

pub crc_of-piece : (r b : ℕ) (xs ys : List ℕ) → crc_of r (xs ++ (b ∷ ys)) ≡ crc_of (register_after (crc_of r xs) b) ys
crc_of-piece r b xs ys = crc_of-append r xs (b ∷ ys) ∙ crc_of-cons (crc_of r xs) b ys

pub crc_of-push : (r b : ℕ) (xs : List ℕ) → crc_of r (xs ++ (b ∷ [])) ≡ register_after (crc_of r xs) b
crc_of-push r b xs = crc_of-piece r b xs [] ∙ crc_of-nil (register_after (crc_of r xs) b)

-- one byte more of a list
pub byte_more : (r i : ℕ) (bs : List ℕ) → i < length bs
    → crc_of r (take (i + 1) bs) ≡ register_after (crc_of r (take i bs)) (get_or bs i 0)
byte_more r i bs less = ap (crc_of r) (take_more bs i 0 less) ∙ crc_of-push r (get_or bs i 0) (take i bs)

-- two bytes more of a list
pub pair_more : (r c i : ℕ) (bs : List ℕ) → 2 * i + 1 < length bs → c ≡ crc_of r (take (2 * i) bs)
    → register_after (register_after c (get_or bs (2 * i) 0)) (get_or bs (2 * i + 1) 0) ≡ crc_of r (take (2 * (i + 1)) bs)
pair_more r c i bs less e =
    ap (λ v. register_after (register_after v (get_or bs (2 * i) 0)) (get_or bs (2 * i + 1) 0)) e
    ∙ ap (λ v. register_after v (get_or bs (2 * i + 1) 0)) (sym (byte_more r (2 * i) bs (omega arith)))
    ∙ sym (byte_more r (2 * i + 1) bs less)
    ∙ ap (λ n. crc_of r (take n bs)) (let n : 2 * i + 1 + 1 ≡ 2 * (i + 1) = omega arith in n)

pub field_step : (r k n : ℕ) (kind name last : List ℕ) → k ≡ register_after (crc_of r kind) 32 → n ≡ register_after (crc_of k name) 32 → crc_of r (kind ++ (32 ∷ (name ++ (32 ∷ last)))) ≡ crc_of n last
field_step r k n kind name last e f =
    crc_of-piece r 32 kind (name ++ (32 ∷ last))
    ∙ crc_of-piece (register_after (crc_of r kind) 32) 32 name last
    ∙ ap (λ v. crc_of (register_after (crc_of v name) 32) last) (sym e)
    ∙ ap (λ v. crc_of v last) (sym f)

pub one_more : (r s t i : ℕ) (fs : List Field) (d : Field) → i < length fs → s ≡ crc_of r (fields_bytes (take i fs)) → t ≡ crc_of s (field_bytes (get_or fs i d)) → t ≡ crc_of r (fields_bytes (take (i + 1) fs))
one_more r s t i fs d less e f =
    f ∙ ap (λ v. crc_of v (field_bytes (get_or fs i d))) e
    ∙ sym (crc_of-append r (fields_bytes (take i fs)) (field_bytes (get_or fs i d)))
    ∙ ap (crc_of r) (sym (ap fields_bytes (take_more fs i d less) ∙ fields_bytes-append (take i fs) (get_or fs i d ∷ []) ∙ ap (λ v. fields_bytes (take i fs) ++ v) (append-nil (field_bytes (get_or fs i d)))))
