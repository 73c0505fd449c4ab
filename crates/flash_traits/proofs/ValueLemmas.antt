-- Lines put one after the other give each byte as its line was written last.
use Rattle.std.proofs.Common.{◌≡◌, ◌≢◌, inl, inr, ℕ, zero, suc, ◌+◌, ◌-◌, ◌*◌, ◌/◌, ◌%◌, ◌<◌, ◌≤◌, Bool, true, false, Option, Some, None, List, [], ◌∷◌, ◌++◌, length, get_or, take, drop, refl, sym, ◌∙◌, ap, subst, arith, eq-eqb, append_assoc}
use Rattle.std.specs.Prelude.{All, if◌then◌else◌, ◌==◌, slice_index}
use Rattle.std.specs.Option.{option_or, option_map_or}
use Rattle.std.specs.List.{fold}
use Rattle.std.proofs.lemmas.List.{length-append, length-take-le, length-drop, get_or_append_left, get_or-append_right, get_or-take, get_or-drop, ext_get_or, take-append-drop, take_at, drop_at, drop-drop}
use Rattle.std.proofs.lemmas.List.Elements.{All-head, All-tail}
use Rattle.std.proofs.lemmas.Bool.{cases_lt, cases_eq}
use Rattle.std.proofs.lemmas.Bool.Decides.{nat_tests}
use Rattle.flash_traits.specs.Words.{bytes_of}
use Rattle.flash_traits.specs.Values.{put, Line, last_written, byte_written, IsValueUpTo}

pub length_bytes : (words : List ℕ) → length (bytes_of words) ≡ 2 * length words
length_bytes [] = omega arith
length_bytes (w ∷ words) = omega (arith, length_bytes words)

pub length_put : (at : ℕ) (new bytes : List ℕ) → at + length new ≤ length bytes → length (put at new bytes) ≡ length bytes
length_put at new bytes fits = omega (arith, length-append (take at bytes) (new ++ drop (at + length new) bytes), length-append new (drop (at + length new) bytes), length-take-le at bytes (omega arith), length-drop (at + length new) bytes)

pub put_below : (at : ℕ) (new bytes : List ℕ) (k : ℕ) → at ≤ length bytes → k < at → get_or (put at new bytes) k 0 ≡ get_or bytes k 0
put_below at new bytes k fits below =
    get_or_append_left (take at bytes) (new ++ drop (at + length new) bytes) 0 k (omega (arith, length-take-le at bytes fits)) ∙ get_or-take at bytes k 0 below

pub put_within : (at : ℕ) (new bytes : List ℕ) (k : ℕ) → at ≤ length bytes → at ≤ k → k < at + length new → get_or (put at new bytes) k 0 ≡ get_or new (k - at) 0
put_within at new bytes k fits from below =
    get_or-append_right (take at bytes) (new ++ drop (at + length new) bytes) at k 0 (length-take-le at bytes fits) from
    ∙ get_or_append_left new (drop (at + length new) bytes) 0 (k - at) (omega arith)

pub put_above : (at : ℕ) (new bytes : List ℕ) (k : ℕ) → at ≤ length bytes → at + length new ≤ k → get_or (put at new bytes) k 0 ≡ get_or bytes k 0
put_above at new bytes k fits from =
    get_or-append_right (take at bytes) (new ++ drop (at + length new) bytes) at k 0 (length-take-le at bytes fits) (omega arith)
    ∙ get_or-append_right new (drop (at + length new) bytes) (length new) (k - at) 0 refl (omega arith)
    ∙ get_or-drop (at + length new) bytes (k - at - length new) 0
    ∙ ap (λ (n : ℕ). get_or bytes n 0) (omega arith)

-- nothing is put, and two pieces are put one after the other
pub put_none : (at : ℕ) (bytes : List ℕ) → put at [] bytes ≡ bytes
put_none at bytes = ap (λ (n : ℕ). take at bytes ++ drop n bytes) (none at) ∙ take-append-drop at bytes
  where
    none : (n : ℕ) → n + length {A = ℕ} [] ≡ n
    none n = omega arith

pub put_both : (at : ℕ) (a b bytes : List ℕ) → at + length a ≤ length bytes → put at (a ++ b) bytes ≡ put (at + length a) b (put at a bytes)
put_both at a b bytes fits =
    let rest = drop (at + length a) bytes in
    let front : length (take at bytes ++ a) ≡ at + length a = length-append (take at bytes) a ∙ ap (λ (n : ℕ). n + length a) (length-take-le at bytes (omega arith)) in
    let split : put at a bytes ≡ (take at bytes ++ a) ++ rest = sym (append_assoc (take at bytes) a rest) in
    let first : take (at + length a) (put at a bytes) ≡ take at bytes ++ a = ap (λ (l : List ℕ). take (at + length a) l) split ∙ take_at (take at bytes ++ a) rest (at + length a) front in
    let behind : drop (at + length a + length b) (put at a bytes) ≡ drop (at + length (a ++ b)) bytes =
    sym (drop_more_of (length b) (at + length a) (put at a bytes))
    ∙ ap (λ (l : List ℕ). drop (length b) l) (ap (λ (l : List ℕ). drop (at + length a) l) split ∙ drop_at (take at bytes ++ a) rest (at + length a) front)
    ∙ drop_more_of (length b) (at + length a) bytes ∙ ap (λ (n : ℕ). drop n bytes) (omega (arith, length-append a b)) in
    ap (λ (l : List ℕ). take at bytes ++ l) (append_assoc a b (drop (at + length (a ++ b)) bytes))
    ∙ sym (append_assoc (take at bytes) a (b ++ drop (at + length (a ++ b)) bytes))
    ∙ ap (λ (l : List ℕ). l ++ (b ++ drop (at + length (a ++ b)) bytes)) (sym first)
    ∙ ap (λ (l : List ℕ). take (at + length a) (put at a bytes) ++ (b ++ l)) (sym behind)
  where
    drop_more_of : (m n : ℕ) (xs : List ℕ) → drop m (drop n xs) ≡ drop (n + m) xs
    drop_more_of m n xs = drop-drop m n xs

-- the bytes with a line at its place, and with lines one after the other
abbrev pub put_line : List ℕ → Line → List ℕ
put_line bytes l = put (8 * l.number) l.bytes bytes

-- a line of eight bytes, below this size of the storage
pub record IsLine (size : ℕ) (l : Line) : Type 0 where
  pub whole : length l.bytes ≡ 8
  pub inside : 8 * l.number + 8 ≤ size

pub length_lines : (lines : List Line) (bytes : List ℕ) → All (IsLine (length bytes)) lines → length (fold put_line bytes lines) ≡ length bytes
length_lines [] bytes each = refl
length_lines (l ∷ lines) bytes each =
    let first = All-head (IsLine (length bytes)) l lines each in
    let same : length (put_line bytes l) ≡ length bytes = length_put (8 * l.number) l.bytes bytes (omega (arith, first.whole, first.inside)) in
    length_lines lines (put_line bytes l) (subst (λ (n : ℕ). All (IsLine n) lines) (sym same) (All-tail (IsLine (length bytes)) l lines each)) ∙ same

-- the byte that a line gives
abbrev byte_in : ℕ → Line → ℕ
byte_in k l = slice_index l.bytes (k % 8)

line_byte : (bytes : List ℕ) (l : Line) (k : ℕ) → IsLine (length bytes) l → get_or (put_line bytes l) k 0 ≡ option_map_or (byte_in k) (if l.number == k / 8 then Some l else None) (get_or bytes k 0)
line_byte bytes l k is =
    let at = 8 * l.number in
    let fits : at ≤ length bytes = omega (arith, is.inside) in
    let pick : (b : Bool) → (l.number == k / 8) ≡ b → option_map_or (byte_in k) (if b then Some l else None) (get_or bytes k 0) ≡ option_map_or (byte_in k) (if l.number == k / 8 then Some l else None) (get_or bytes k 0) =
    λ b e. sym (ap (λ (c : Bool). option_map_or (byte_in k) (if c then Some l else None) (get_or bytes k 0)) e) in
    elim (cases_eq l.number (k / 8)) [
      | inl same ↦ put_within at l.bytes bytes k fits (omega (arith, same)) (omega (arith, same, is.whole)) ∙ ap (λ (n : ℕ). get_or l.bytes n 0) (omega (arith, same)) ∙ pick true (eq-eqb l.number (k / 8) same)
      | inr other ↦ elim (cases_lt k at) [
        | inl below ↦ put_below at l.bytes bytes k fits below ∙ pick false (not_same l.number (k / 8) other)
        | inr from ↦ put_above at l.bytes bytes k fits (omega (arith, from, other, is.whole)) ∙ pick false (not_same l.number (k / 8) other)
      ]
    ]
  where
    not_same : (a b : ℕ) → a ≢ b → (a == b) ≡ false
    not_same a b h = grind (arith, nat_tests)

map_or_later : {X : Type 0} (f : X → ℕ) (o p : Option X) (d : ℕ) → option_map_or f o (option_map_or f p d) ≡ option_map_or f (option_or o p) d
map_or_later f None p d = refl
map_or_later f (Some x) p d = refl

-- lines put one after the other give each byte as its line was written last
pub lines_byte : (lines : List Line) (bytes : List ℕ) (k : ℕ) → All (IsLine (length bytes)) lines → get_or (fold put_line bytes lines) k 0 ≡ byte_written lines (get_or bytes k 0) k
lines_byte [] bytes k each = refl
lines_byte (l ∷ lines) bytes k each =
    let first = All-head (IsLine (length bytes)) l lines each in
    let same : length (put_line bytes l) ≡ length bytes = length_put (8 * l.number) l.bytes bytes (omega (arith, first.whole, first.inside)) in
    lines_byte lines (put_line bytes l) k (subst (λ (n : ℕ). All (IsLine n) lines) (sym same) (All-tail (IsLine (length bytes)) l lines each))
    ∙ ap (λ (d : ℕ). option_map_or (byte_in k) (last_written lines (k / 8)) d) (line_byte bytes l k first)
    ∙ map_or_later (byte_in k) (last_written lines (k / 8)) (if l.number == k / 8 then Some l else None) (get_or bytes k 0)

-- lines have one value of a size
pub one_value_up_to : (size : ℕ) (lines : List Line) (a b : List ℕ) → IsValueUpTo size lines a → IsValueUpTo size lines b → a ≡ b
one_value_up_to size lines a b p q = ext_get_or 0 a b (p.size ∙ sym q.size)
    (λ k h. p.each k (omega (arith, h, p.size)) ∙ sym (q.each k (omega (arith, h, p.size))))
