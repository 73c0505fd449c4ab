-- Bytes are lines in one way, and an input begins with one script.
use Rattle.std.proofs.Common.{◌≡◌, ◌≢◌, inl, inr, ℕ, ◌+◌, ◌<◌, Bool, true, false, ◌&&◌, drop, IsTrue, List, [], ◌∷◌, ◌++◌, length, slice_index, Ok, refl, sym, ◌∙◌, ap, subst, arith, length-append, append_assoc}
use Rattle.std.specs.List.{AllPass}
use Rattle.std.proofs.lemmas.List.Elements.{All-head, All-tail}
use Rattle.std.specs.Char.{is_ascii_digit}
use Rattle.std.specs.Str.{all_ascii_digits}
use Rattle.std.specs.Str.Parse.{digits_value}
use Rattle.hex.specs.Hex.{decode_of, is_hex_digit}
use Rattle.hex.proofs.HexLemmas.{decode_of-ok}
use Rattle.script_lines.specs.Script.{ScriptLine, Datagram, Idle, LossNow, LossLater, End, Spells, AreLines, HasNoEnd, IsScript}
use Rattle.script_lines.specs.Reading.{HasNoLineFeed}

-- the first byte
abbrev pub first : List ℕ → ℕ
first [] = 0
first (b ∷ bytes) = b

abbrev pub letter : ScriptLine → ℕ
letter (Datagram station bytes) = 100
letter Idle = 105
letter LossNow = 120
letter (LossLater call how) = 108
letter End = 101

first_of : (l : ScriptLine) (text : List ℕ) → Spells l text → first text ≡ letter l
first_of (Datagram s b) text is = ap first is.text_is
first_of Idle text is = ap first is
first_of LossNow text is = ap first is
first_of (LossLater k h) text is = ap first is.text_is
first_of End text is = ap first is

no_end-append : (xs ys : List ℕ) → HasNoLineFeed xs → HasNoLineFeed ys → HasNoLineFeed (xs ++ ys)
no_end-append [] ys a b = b
no_end-append (x ∷ xs) ys a b = (a.0, no_end-append xs ys a.1 b)

-- where the first LF stands is where the first line ends
same_border : (a b x y : List ℕ) → HasNoLineFeed a → HasNoLineFeed b → a ++ 10 ∷ x ≡ b ++ 10 ∷ y → (a ≡ b) × (x ≡ y)
same_border [] [] x y m n is = (refl, cc)
same_border [] (c ∷ b) x y m n is = absurd (n.0 (cc))
same_border (c ∷ a) [] x y m n is = absurd (m.0 (cc))
same_border (c ∷ a) (d ∷ b) x y m n is =
    let heads : c ≡ d = cc in
    let tails : a ++ 10 ∷ x ≡ b ++ 10 ∷ y = cc in
    let rest = same_border a b x y m.1 n.1 tails in
    (cc, rest.1)

-- a digit is no LF
hex_no_end : (c : ℕ) → is_hex_digit c ≡ true → c ≢ 10
hex_no_end c digit is = let no : is_hex_digit 10 ≡ true = subst (λ (n : ℕ). is_hex_digit n ≡ true) is digit in cc

digit_no_end : (c : ℕ) → is_ascii_digit c ≡ true → c ≢ 10
digit_no_end c digit is = let no : is_ascii_digit 10 ≡ true = subst (λ (n : ℕ). is_ascii_digit n ≡ true) is digit in cc

hex_digits_no_end : (digits : List ℕ) → AllPass is_hex_digit digits → HasNoLineFeed digits
hex_digits_no_end [] all = tt
hex_digits_no_end (c ∷ digits) all = (hex_no_end c (All-head (λ (n : ℕ). is_hex_digit n ≡ true) c digits all), hex_digits_no_end digits (All-tail (λ (n : ℕ). is_hex_digit n ≡ true) c digits all))

both : (a b : Bool) → IsTrue (a && b) → (a ≡ true) × IsTrue b
both true b is = (refl, is)
both false b is = absurd (cc)

digits_no_end : (digits : List ℕ) → IsTrue (all_ascii_digits digits) → HasNoLineFeed digits
digits_no_end [] all = tt
digits_no_end (c ∷ digits) all = let two = both (is_ascii_digit c) (all_ascii_digits digits) all in (digit_no_end c two.0, digits_no_end digits two.1)

above : (a n : ℕ) → 10 < a → a + n ≢ 10
above a n le is = omega (arith)

spelled_no_end : (l : ScriptLine) (text : List ℕ) → Spells l text → HasNoLineFeed text
spelled_no_end (Datagram s b) text is = subst HasNoLineFeed (sym is.text_is)
    (above 100 0 (omega arith), (above 32 0 (omega arith), (above 48 s (omega arith), (above 32 0 (omega arith), hex_digits_no_end is.digits (decode_of-ok is.digits b is.decoded).1))))
spelled_no_end Idle text is = subst HasNoLineFeed (sym is) (above 105 0 (omega arith), tt)
spelled_no_end LossNow text is = subst HasNoLineFeed (sym is) (above 120 0 (omega arith), tt)
spelled_no_end (LossLater k h) text is = subst HasNoLineFeed (sym is.text_is)
    (no_end-append (108 ∷ 32 ∷ is.digits) (32 ∷ (48 + h) ∷ []) (above 108 0 (omega arith), (above 32 0 (omega arith), digits_no_end is.digits is.numeral.each)) (above 32 0 (omega arith), (above 48 h (omega arith), tt)))
spelled_no_end End text is = subst HasNoLineFeed (sym is) (above 101 0 (omega arith), tt)

-- two digits lists before two bytes
pub same_back : (a b : List ℕ) (x y u v : ℕ) → a ++ x ∷ u ∷ [] ≡ b ++ y ∷ v ∷ [] → (a ≡ b) × (u ≡ v)
same_back [] [] x y u v is = (refl, cc)
same_back [] (c ∷ []) x y u v is = absurd (cc)
same_back [] (c ∷ d ∷ b) x y u v is = absurd (let n = ap length is in omega (arith, n, length-append b (y ∷ v ∷ [])))
same_back (c ∷ []) [] x y u v is = absurd (cc)
same_back (c ∷ d ∷ a) [] x y u v is = absurd (let n = ap length is in omega (arith, n, length-append a (x ∷ u ∷ [])))
same_back (c ∷ a) (d ∷ b) x y u v is =
    let heads : c ≡ d = cc in
    let tails : a ++ x ∷ u ∷ [] ≡ b ++ y ∷ v ∷ [] = cc in
    let rest = same_back a b x y u v tails in
    (cc, rest.1)

same_bytes : (a b digits other : List ℕ) → decode_of digits ≡ Ok a → decode_of other ≡ Ok b → digits ≡ other → a ≡ b
same_bytes a b digits other first second same = cc

-- a text spells one line
one_line : (l m : ScriptLine) (text : List ℕ) → Spells l text → Spells m text → l ≡ m
one_line (Datagram s b) (Datagram t c) text is other =
    let same = sym is.text_is ∙ other.text_is in
    let station : s ≡ t = omega (arith, ap (λ (bs : List ℕ). slice_index bs 2) same) in
    let digits : is.digits ≡ other.digits = ap (drop 4) same in
    let bytes = same_bytes b c is.digits other.digits is.decoded other.decoded digits in
    cc
one_line (Datagram s b) Idle text is other = absurd (omega (arith, first_of (Datagram s b) text is, first_of Idle text other))
one_line (Datagram s b) LossNow text is other = absurd (omega (arith, first_of (Datagram s b) text is, first_of LossNow text other))
one_line (Datagram s b) (LossLater j i) text is other = absurd (omega (arith, first_of (Datagram s b) text is, first_of (LossLater j i) text other))
one_line (Datagram s b) End text is other = absurd (omega (arith, first_of (Datagram s b) text is, first_of End text other))
one_line Idle (Datagram t c) text is other = absurd (omega (arith, first_of Idle text is, first_of (Datagram t c) text other))
one_line Idle Idle text is other = refl
one_line Idle LossNow text is other = absurd (omega (arith, first_of Idle text is, first_of LossNow text other))
one_line Idle (LossLater j i) text is other = absurd (omega (arith, first_of Idle text is, first_of (LossLater j i) text other))
one_line Idle End text is other = absurd (omega (arith, first_of Idle text is, first_of End text other))
one_line LossNow (Datagram t c) text is other = absurd (omega (arith, first_of LossNow text is, first_of (Datagram t c) text other))
one_line LossNow Idle text is other = absurd (omega (arith, first_of LossNow text is, first_of Idle text other))
one_line LossNow LossNow text is other = refl
one_line LossNow (LossLater j i) text is other = absurd (omega (arith, first_of LossNow text is, first_of (LossLater j i) text other))
one_line LossNow End text is other = absurd (omega (arith, first_of LossNow text is, first_of End text other))
one_line (LossLater k h) (Datagram t c) text is other = absurd (omega (arith, first_of (LossLater k h) text is, first_of (Datagram t c) text other))
one_line (LossLater k h) Idle text is other = absurd (omega (arith, first_of (LossLater k h) text is, first_of Idle text other))
one_line (LossLater k h) LossNow text is other = absurd (omega (arith, first_of (LossLater k h) text is, first_of LossNow text other))
one_line (LossLater k h) (LossLater j i) text is other =
    let same = same_back (108 ∷ 32 ∷ is.digits) (108 ∷ 32 ∷ other.digits) 32 32 (48 + h) (48 + i) (sym is.text_is ∙ other.text_is) in
    let how : h ≡ i = omega (arith, same.1) in
    let digits : is.digits ≡ other.digits = ap (drop 2) same.0 in
    let call : k ≡ j = sym is.numeral.is ∙ ap (digits_value 10) digits ∙ other.numeral.is in
    cc
one_line (LossLater k h) End text is other = absurd (omega (arith, first_of (LossLater k h) text is, first_of End text other))
one_line End (Datagram t c) text is other = absurd (omega (arith, first_of End text is, first_of (Datagram t c) text other))
one_line End Idle text is other = absurd (omega (arith, first_of End text is, first_of Idle text other))
one_line End LossNow text is other = absurd (omega (arith, first_of End text is, first_of LossNow text other))
one_line End (LossLater j i) text is other = absurd (omega (arith, first_of End text is, first_of (LossLater j i) text other))
one_line End End text is other = refl

not_empty : (text rest : List ℕ) → text ++ 10 ∷ rest ≡ [] → ⊥
not_empty [] rest is = cc
not_empty (t ∷ text) rest is = cc

pub one_reading : (ls ms : List ScriptLine) (bytes : List ℕ) → AreLines ls bytes → AreLines ms bytes → ls ≡ ms
one_reading [] [] bytes is other = refl
one_reading [] (m ∷ ms) bytes is other = absurd (not_empty other.0 other.1 (sym other.3 ∙ is))
one_reading (l ∷ ls) [] bytes is other = absurd (not_empty is.0 is.1 (sym is.3 ∙ other))
one_reading (l ∷ ls) (m ∷ ms) bytes is other =
    let border = same_border is.0 other.0 is.1 other.1 (spelled_no_end l is.0 is.2) (spelled_no_end m other.0 other.2) (sym is.3 ∙ other.3) in
    let line : l ≡ m = one_line l m is.0 is.2 (subst (λ (t : List ℕ). Spells m t) (sym border.0) other.2) in
    let lines : ls ≡ ms = one_reading ls ms is.1 is.4 (subst (λ (r : List ℕ). AreLines ms r) (sym border.1) other.4) in
    cc

-- two lines that begin the same bytes, each followed by its own
same_line : (l m : ScriptLine) (t u r s x y a b : List ℕ) → Spells l t → Spells m u → a ≡ t ++ 10 ∷ r → b ≡ u ++ 10 ∷ s → a ++ x ≡ b ++ y → (l ≡ m) × (r ++ x ≡ s ++ y)
same_line l m t u r s x y a b is other a_is b_is same =
    let left : a ++ x ≡ t ++ 10 ∷ (r ++ x) = ap (λ (l : List ℕ). l ++ x) a_is ∙ append_assoc t (10 ∷ r) x in
    let right : b ++ y ≡ u ++ 10 ∷ (s ++ y) = ap (λ (l : List ℕ). l ++ y) b_is ∙ append_assoc u (10 ∷ s) y in
    let border = same_border t u (r ++ x) (s ++ y) (spelled_no_end l t is) (spelled_no_end m u other) (sym left ∙ same ∙ right) in
    (one_line l m t is (subst (λ (t : List ℕ). Spells m t) (sym border.0) other), border.1)

-- two lists of lines up to their end that begin the same bytes
same_prefix : (ls ms : List ScriptLine) (a b x y : List ℕ) → HasNoEnd ls → HasNoEnd ms → AreLines (ls ++ End ∷ []) a → AreLines (ms ++ End ∷ []) b → a ++ x ≡ b ++ y → (ls ≡ ms) × (x ≡ y)
same_prefix [] [] a b x y none no_other is other same =
    let line = same_line End End is.0 other.0 is.1 other.1 x y a b is.2 other.2 is.3 other.3 same in
    let after : x ≡ y = subst (λ (s : List ℕ). x ≡ s ++ y) other.4 (subst (λ (r : List ℕ). r ++ x ≡ other.1 ++ y) is.4 line.1) in
    (refl, after)
same_prefix [] (m ∷ ms) a b x y none no_other is other same =
    let line = same_line End m is.0 other.0 is.1 other.1 x y a b is.2 other.2 is.3 other.3 same in
    absurd (no_other.0 (sym line.0))
same_prefix (l ∷ ls) [] a b x y none no_other is other same =
    let line = same_line l End is.0 other.0 is.1 other.1 x y a b is.2 other.2 is.3 other.3 same in
    absurd (none.0 line.0)
same_prefix (l ∷ ls) (m ∷ ms) a b x y none no_other is other same =
    let line = same_line l m is.0 other.0 is.1 other.1 x y a b is.2 other.2 is.3 other.3 same in
    let lines = same_prefix ls ms is.1 other.1 x y none.1 no_other.1 is.4 other.4 line.1 in
    let head : l ≡ m = line.0 in
    let tail : ls ≡ ms = lines.0 in
    (cc, lines.1)

-- an input with its last end, where that is whole
ended : (bytes rest input : List ℕ) → input ≡ bytes ++ rest → input ++ 10 ∷ [] ≡ bytes ++ (rest ++ 10 ∷ [])
ended bytes rest input is = ap (λ (l : List ℕ). l ++ 10 ∷ []) is ∙ append_assoc bytes rest (10 ∷ [])

appended_nil : (xs : List ℕ) → xs ≡ xs ++ []
appended_nil [] = refl
appended_nil (x ∷ xs) = ap (λ (l : List ℕ). x ∷ l) (appended_nil xs)

pub one_script : (ls ms : List ScriptLine) (x y input : List ℕ) → IsScript ls x input → IsScript ms y input → (ls ≡ ms) × (x ≡ y)
one_script ls ms x y input is other = elim is.whole [
  | inl whole ↦ elim other.whole [
    | inl too ↦ same_prefix ls ms is.bytes other.bytes x y is.before other.before is.reads other.reads (sym whole ∙ too)
    | inr cut ↦
        let both = same_prefix ls ms is.bytes other.bytes (x ++ 10 ∷ []) [] is.before other.before is.reads other.reads (sym (ended is.bytes x input whole) ∙ cut.0 ∙ appended_nil other.bytes) in
        absurd (not_empty x [] both.1)
  ]
  | inr cut ↦ elim other.whole [
    | inl too ↦
        let both = same_prefix ls ms is.bytes other.bytes [] (y ++ 10 ∷ []) is.before other.before is.reads other.reads (sym (appended_nil is.bytes) ∙ sym cut.0 ∙ ended other.bytes y input too) in
        absurd (not_empty y [] (sym both.1))
    | inr also ↦
        let both = same_prefix ls ms is.bytes other.bytes [] [] is.before other.before is.reads other.reads (sym (appended_nil is.bytes) ∙ sym cut.0 ∙ also.0 ∙ appended_nil other.bytes) in
        (both.0, cut.1 ∙ sym also.1)
  ]
]
