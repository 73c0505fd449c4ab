-- What the texts of lines have, as they are parsed.
use Rattle.std.proofs.Common.{◌≡◌, ℕ, zero, suc, ◌+◌, ◌-◌, ◌*◌, ◌<◌, ◌≤◌, drop, take, List, [], ◌∷◌, ◌++◌, length, slice_index, sym, ◌∙◌, ap, subst, arith, refl}
use Rattle.std.specs.Char.{digit_value}
use Rattle.std.specs.Str.Parse.{digits_value, digits_value_after}
use Rattle.script_lines.specs.Script.{ScriptLine, Datagram, Idle, LossNow, LossLater, End, IsNumeral, SpellsLossLater, Spells}
use Rattle.script_lines.proofs.OneReading.{same_back}

-- the parts of a line `l`
pub loss_parts : (k h how : ℕ) (digits : List ℕ) → SpellsLossLater k h ((108 ∷ 32 ∷ digits) ++ 32 ∷ how ∷ []) → IsNumeral digits k × (how ≡ 48 + h)
loss_parts k h how digits is =
    let same = same_back (108 ∷ 32 ∷ digits) (108 ∷ 32 ∷ is.digits) 32 32 how (48 + h) is.text_is in
    let digits_same : digits ≡ is.digits = ap (drop 2) same.0 in
    (subst (λ (ds : List ℕ). IsNumeral ds k) (sym digits_same) is.numeral, same.1)

drop_here : (bs : List ℕ) (i : ℕ) → i < length bs → drop i bs ≡ slice_index bs i ∷ drop (suc i) bs
drop_here [] i lt = absurd (omega (arith, lt))
drop_here (b ∷ bs) zero lt = refl
drop_here (b ∷ bs) (suc i) lt = drop_here bs i (omega (arith, lt))

digit_is : (d : ℕ) → 48 ≤ d → d ≤ 57 → digit_value d ≡ d - 48
digit_is d low high = grind (arith)

grows : (ds : List ℕ) (v : ℕ) → v ≤ digits_value_after 10 v ds
grows [] v = omega arith
grows (d ∷ ds) v = let more = grows ds (v * 10 + digit_value d) in omega (arith, more)

-- a value that is too big stays so
pub too_big : (digits : List ℕ) (i v next n : ℕ) → i < length digits → digits_value 10 digits ≡ digits_value_after 10 v (drop i digits) → 48 ≤ slice_index digits i → slice_index digits i ≤ 57
    → next ≡ slice_index digits i - 48 → 1000000 < v * 10 + next → digits_value 10 digits ≡ n → n ≤ 1000000 → ⊥
too_big digits i v next n lt value low high is big whole few =
    let d = digit_is (slice_index digits i) low high in
    let rest = ap (digits_value_after 10 v) (drop_here digits i lt) in
    let more = grows (drop (suc i) digits) (v * 10 + digit_value (slice_index digits i)) in
    omega (arith, whole, few, value, rest, more, d, is, big)

-- what begins with `l` is no other line
pub is_loss : (l : ScriptLine) (text : List ℕ) → slice_index text 0 ≡ 108 → Spells l text → (k : ℕ) × (h : ℕ) × SpellsLossLater k h text
is_loss (LossLater k h) text is spells = (k, h, spells)
is_loss (Datagram s b) text is spells = absurd (let one = ap (λ (t : List ℕ). slice_index t 0) spells.text_is in omega (arith, is, one))
is_loss Idle text is spells = absurd (let one = ap (λ (t : List ℕ). slice_index t 0) spells in omega (arith, is, one))
is_loss LossNow text is spells = absurd (let one = ap (λ (t : List ℕ). slice_index t 0) spells in omega (arith, is, one))
is_loss End text is spells = absurd (let one = ap (λ (t : List ℕ). slice_index t 0) spells in omega (arith, is, one))

last_two : (bs : List ℕ) (n : ℕ) → length bs ≡ suc (suc n) → bs ≡ take n bs ++ slice_index bs n ∷ slice_index bs (suc n) ∷ []
last_two [] n long = absurd (omega (arith, long))
last_two (a ∷ []) n long = absurd (omega (arith, long))
last_two (a ∷ b ∷ []) zero long = refl
last_two (a ∷ b ∷ c ∷ bs) zero long = absurd (omega (arith, long))
last_two (a ∷ b ∷ bs) (suc n) long = ap (λ (l : List ℕ). a ∷ l) (last_two (b ∷ bs) n (omega (arith, long)))

-- a text by its first two and last two bytes
pub text_parts : (text : List ℕ) (n : ℕ) → length text ≡ n → 4 ≤ n → slice_index text 0 ≡ 108 → slice_index text 1 ≡ 32 → slice_index text (n - 2) ≡ 32
    → text ≡ (108 ∷ 32 ∷ take (n - 2 - 2) (drop 2 text)) ++ 32 ∷ slice_index text (n - 1) ∷ []
text_parts (a ∷ b ∷ rest) n long some one two three =
    let m : ℕ = n - 4 in
    let size : length rest ≡ suc (suc m) = omega (arith, long, some) in
    let place : n - 2 ≡ suc (suc m) = omega (arith, some) in
    let last : n - 1 ≡ suc (suc (suc m)) = omega (arith, some) in
    let short : n - 2 - 2 ≡ m = omega (arith, some) in
    let three_at : slice_index rest m ≡ 32 = ap (λ (k : ℕ). slice_index (a ∷ b ∷ rest) k) (sym place) ∙ three in
    let end_at : slice_index rest (suc m) ≡ slice_index (a ∷ b ∷ rest) (n - 1) = ap (λ (k : ℕ). slice_index (a ∷ b ∷ rest) k) (sym last) in
    let whole = last_two rest m size in
    let front : take m rest ≡ take (n - 2 - 2) rest = ap (λ (k : ℕ). take k rest) (sym short) in
    let tail : rest ≡ take (n - 2 - 2) rest ++ 32 ∷ slice_index (a ∷ b ∷ rest) (n - 1) ∷ [] = whole ∙ ap (λ (l : List ℕ). l ++ slice_index rest m ∷ slice_index rest (suc m) ∷ []) front
    ∙ ap (λ (x : ℕ). take (n - 2 - 2) rest ++ x ∷ slice_index rest (suc m) ∷ []) three_at ∙ ap (λ (x : ℕ). take (n - 2 - 2) rest ++ 32 ∷ x ∷ []) end_at in
    ap (λ (x : ℕ). x ∷ b ∷ rest) one ∙ ap (λ (x : ℕ). 108 ∷ x ∷ rest) two ∙ ap (λ (l : List ℕ). 108 ∷ 32 ∷ l) tail
text_parts [] n long some one two three = absurd (omega (arith, long, some))
text_parts (a ∷ []) n long some one two three = absurd (omega (arith, long, some))
