-- Hexadecimal digits in upper case.
use Rattle.std.proofs.Common.{◌≡◌, ◌<◌, ◌≤◌, ◌+◌, ◌*◌, ◌++◌, ◌/◌, ◌%◌, ◌∙◌, ℕ, List, [], ◌∷◌, length, take, refl, sym, ap, arith, get_or, append_assoc, length-append}
use Rattle.std.specs.Char.{to_ascii_uppercase}
use Rattle.std.proofs.lemmas.List.{get_or-map, length-take-le, take_more}
use Rattle.hex.specs.Hex.{encode_with, encode_lower, encode_upper, lower_digits, upper_digits}
use Rattle.hex.proofs.HexLemmas.{length-encode_with}

-- the digits of bytes and of more bytes
encode_with-append : (table xs ys : List ℕ) → encode_with table (xs ++ ys) ≡ encode_with table xs ++ encode_with table ys
unfolding encode_with
encode_with-append table [] ys = refl
encode_with-append table (x ∷ xs) ys =
    ap (λ (l : List ℕ). get_or table (x / 16) 0 ∷ get_or table (x % 16) 0 ∷ l) (encode_with-append table xs ys)

upper_digit : (n : ℕ) → n < 16 → to_ascii_uppercase (get_or lower_digits n 0) ≡ get_or upper_digits n 0
upper_digit n less = sym (get_or-map to_ascii_uppercase lower_digits n 0 0 less)

-- a byte's two lower-case digits in upper case are its upper-case digits
upper_byte : (b : ℕ) → b < 256
    → to_ascii_uppercase (get_or (encode_lower (b ∷ [])) 0 0) ∷ to_ascii_uppercase (get_or (encode_lower (b ∷ [])) 1 0) ∷ [] ≡ encode_upper (b ∷ [])
unfolding encode_with
upper_byte b less =
    let high : b / 16 < 16 = omega arith in
    let low : b % 16 < 16 = omega arith in
    rw (upper_digit (b / 16) high, upper_digit (b % 16) low) refl

-- how long a line is with the digits of a prefix of the bytes
pub pushed_length : (line done bytes : List ℕ) (i : ℕ) → i ≤ length bytes → done ≡ line ++ encode_upper (take i bytes)
    → length done ≡ length line + 2 * i
pushed_length line done bytes i within is =
    omega (arith, ap length is, length-append line (encode_upper (take i bytes)), length-encode_with upper_digits (take i bytes), length-take-le i bytes within)

-- the digits of one byte more
pub pushed_byte : (line done next bytes digits : List ℕ) (i high low : ℕ) → i < length bytes → get_or bytes i 0 < 256
    → done ≡ line ++ encode_upper (take i bytes) → digits ≡ encode_lower (get_or bytes i 0 ∷ [])
    → high ≡ to_ascii_uppercase (get_or digits 0 0) → low ≡ to_ascii_uppercase (get_or digits 1 0) → next ≡ done ++ (high ∷ low ∷ [])
    → next ≡ line ++ encode_upper (take (i + 1) bytes)
pushed_byte line done next bytes digits i high low within byte so_far is is_high is_low pushed =
    let b = get_or bytes i 0 in
    let pair : high ∷ low ∷ [] ≡ encode_upper (b ∷ []) =
    ap (λ (n : ℕ). n ∷ low ∷ []) is_high ∙ ap (λ (n : ℕ). to_ascii_uppercase (get_or digits 0 0) ∷ n ∷ []) is_low ∙ ap (λ (l : List ℕ). to_ascii_uppercase (get_or l 0 0) ∷ to_ascii_uppercase (get_or l 1 0) ∷ []) is ∙ upper_byte b byte in
    let joined : encode_upper (take (i + 1) bytes) ≡ encode_upper (take i bytes) ++ encode_upper (b ∷ []) =
    ap encode_upper (take_more bytes i 0 within) ∙ encode_with-append upper_digits (take i bytes) (b ∷ []) in
    pushed ∙ ap (λ (l : List ℕ). done ++ l) pair ∙ ap (λ (l : List ℕ). l ++ encode_upper (b ∷ [])) so_far
    ∙ append_assoc line (encode_upper (take i bytes)) (encode_upper (b ∷ [])) ∙ ap (λ (l : List ℕ). line ++ l) (sym joined)
