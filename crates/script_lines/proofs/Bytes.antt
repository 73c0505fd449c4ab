-- The first end of a line among bytes.
use Rattle.std.proofs.Common.{◌≡◌, ◌==◌, true, ℕ, zero, suc, ◌<◌, ◌≤◌, ◌-◌, length-drop, List, [], ◌∷◌, ◌++◌, length, take, drop, slice_index, Option, None, Some, IfSome, IfNone, refl, ◌∙◌, ap, arith}
use Rattle.memchr.specs.Find.{Nowhere, NoneBefore, IsFirstByte, Passes, is_byte}
use Rattle.script_lines.specs.Reading.{HasNoLineFeed, unread_of}
use Rattle.script_lines.specs.Reading.{FindsTooLong}

pub split_here : (bs : List ℕ) (i : ℕ) → i < length bs → bs ≡ take i bs ++ slice_index bs i ∷ drop (suc i) bs
split_here [] i lt = absurd (omega (arith, lt))
split_here (b ∷ bs) zero lt = refl
split_here (b ∷ bs) (suc i) lt = ap (λ (l : List ℕ). b ∷ l) (split_here bs i (omega (arith, lt)))

-- no byte before a place is an LF, where a search from the start found none
pub none_before : (bs : List ℕ) (n : ℕ) → n ≤ length bs → Nowhere (Passes (is_byte 10) bs) 0 n → HasNoLineFeed (take n bs)
none_before bs zero le none = tt
none_before [] (suc n) le none = absurd (omega (arith, le))
none_before (b ∷ bs) (suc n) le none = (
  λ is. none 0 (omega arith) (omega arith) (ap (λ (x : ℕ). x == 10) is),
  none_before bs n (omega (arith, le)) (λ k low lt. none (suc k) (omega arith) (omega (arith, lt))),
)

pub no_end_all : (bs : List ℕ) → HasNoLineFeed (take (length bs) bs) → HasNoLineFeed bs
no_end_all [] none = tt
no_end_all (b ∷ bs) none = (none.0, no_end_all bs none.1)

-- where the first LF stands
pub first_end : (bs : List ℕ) (k : ℕ) → NoneBefore (Passes (is_byte 10) bs) 0 (length bs) k → Passes (is_byte 10) bs k → bs ≡ take k bs ++ 10 ∷ drop (suc k) bs
first_end bs k before here = split_here bs k before.high ∙ ap (λ (x : ℕ). take k bs ++ x ∷ drop (suc k) bs) (is_ten (slice_index bs k) here)
  where
    is_ten : (x : ℕ) → (x == 10) ≡ true → x ≡ 10
    is_ten x same = grind (arith)

-- what a search for the first LF found
pub found : (bs : List ℕ) (r : Option ℕ) → IsFirstByte (is_byte 10) bs r → IfSome r (λ k. (later : List ℕ) × (bs ≡ take k bs ++ 10 ∷ later))
found bs None is = tt
found bs (Some k) is = (drop (suc k) bs, first_end bs k is.0 is.1)

pub first : (bs : List ℕ) (r : Option ℕ) → IsFirstByte (is_byte 10) bs r → IfSome r (λ k. HasNoLineFeed (take k bs))
first bs None is = tt
first bs (Some k) is = let high = is.0.high in none_before bs k (omega (arith, high)) is.0.before

pub not_found : (bs : List ℕ) (r : Option ℕ) → IsFirstByte (is_byte 10) bs r → IfNone r (HasNoLineFeed bs)
not_found bs None is = no_end_all bs (none_before bs (length bs) (omega arith) is)
not_found bs (Some k) is = tt

pub no_end_fewer : (bs : List ℕ) (m n : ℕ) → m ≤ n → HasNoLineFeed (take n bs) → HasNoLineFeed (take m bs)
no_end_fewer bs zero n le none = tt
no_end_fewer [] (suc m) n le none = tt
no_end_fewer (b ∷ bs) (suc m) zero le none = absurd (omega (arith, le))
no_end_fewer (b ∷ bs) (suc m) (suc n) le none = (none.0, no_end_fewer bs m n (omega (arith, le)) none.1)

pub no_end_front : (bs : List ℕ) (m : ℕ) → HasNoLineFeed bs → HasNoLineFeed (take m bs)
no_end_front bs zero none = tt
no_end_front [] (suc m) none = tt
no_end_front (b ∷ bs) (suc m) none = (none.0, no_end_front bs m none.1)

-- too many bytes before the first end, or before the last byte
pub too_long : (bs : List ℕ) (k : ℕ) → 4201 ≤ k → k < length bs → HasNoLineFeed (take k bs) → FindsTooLong bs
too_long bs k le lt none = record { long = omega (arith, le, lt); no_end = no_end_fewer bs 4201 k le none }

pub too_many : (bs : List ℕ) → 4201 ≤ length bs → HasNoLineFeed bs → FindsTooLong bs
too_many bs le none = record { long = le; no_end = no_end_front bs 4201 none }

take_whole : (xs : List ℕ) (n : ℕ) → length xs ≤ n → take n xs ≡ xs
take_whole [] zero le = refl
take_whole [] (suc n) le = refl
take_whole (x ∷ xs) zero le = absurd (omega (arith, le))
take_whole (x ∷ xs) (suc n) le = ap (λ (l : List ℕ). x ∷ l) (take_whole xs n (omega (arith, le)))

-- the slice from there on is the unread bytes
pub slice_is_unread : (buffer slice : List ℕ) (len ahead : ℕ) → slice ≡ buffer → len ≡ length buffer → take (length slice - (len - ahead)) (drop (len - ahead) slice) ≡ unread_of buffer ahead
slice_is_unread buffer slice len ahead same long =
    take_whole (drop (len - ahead) slice) (length slice - (len - ahead)) (omega (arith, length-drop (len - ahead) slice))
    ∙ ap (λ (l : List ℕ). drop (len - ahead) l) same ∙ ap (λ (n : ℕ). drop (n - ahead) buffer) long

pub unread_long : (buffer : List ℕ) (ahead : ℕ) → ahead ≤ length buffer → length (unread_of buffer ahead) ≡ ahead
unread_long buffer ahead le = omega (arith, le, length-drop (length buffer - ahead) buffer)
