-- The printed lines of frames, read from the back.
use Rattle.std.proofs.Common.{◌≡◌, ◌≢◌, ◌⊎◌, inl, inr, ◌/◌, ◌%◌, ◌<◌, ◌≤◌, ℕ, suc, List, [], ◌∷◌, ◌++◌, length, slice_index, Some, Result, Ok, refl, sym, ◌∙◌, ap, subst, arith, append-nil, length-append}
use Rattle.std.proofs.lemmas.List.{append_cancel_right}
use Rattle.hex.specs.Hex.{IsBytes, encode_with, encode_lower, decode_of, lower_digits, hex_digit_value}
use Rattle.hex.specs.declared.error.FromHexError.{FromHexError}
use Rattle.hex.proofs.HexLemmas.{IsDigits-lower_digits, decode_of-encode_lower}
use Rattle.flash_traits.specs.Losses.{SentFrame, sent_frame}
use Rattle.script_board.specs.Printing.{station_byte, frame_line, frame_lines}

-- none of these bytes is a space
abbrev HasNoSpace : List ℕ → Type 0
HasNoSpace [] = Unit {0}
HasNoSpace (x ∷ xs) = (x ≢ 32) × HasNoSpace xs

spaceless-append : (xs ys : List ℕ) → HasNoSpace xs → HasNoSpace ys → HasNoSpace (xs ++ ys)
spaceless-append [] ys first second = second
spaceless-append (x ∷ xs) ys first second = (first.0, spaceless-append xs ys first.1 second)

spaceless_end : (xs ys : List ℕ) → HasNoSpace (xs ++ ys) → HasNoSpace ys
spaceless_end [] ys all = all
spaceless_end (x ∷ xs) ys all = spaceless_end xs ys all.1

no_value : (d : ℕ) → hex_digit_value 32 ≡ Some d → ⊥
no_value d is = cc

digit : (d : ℕ) → d < 16 → slice_index lower_digits d ≢ 32
digit d fits is = no_value d (sym (ap hex_digit_value is) ∙ IsDigits-lower_digits d fits)

spaceless_digits : (bytes : List ℕ) → IsBytes bytes → HasNoSpace (encode_lower bytes)
unfolding encode_with
spaceless_digits [] are = tt
spaceless_digits (b ∷ rest) are =
    let fits : b < 256 = are 0 in
    (digit (b / 16) (omega arith), (digit (b % 16) (omega arith), spaceless_digits rest (λ k. are (suc k))))

-- what follows the station's byte and the second space
tail_of : SentFrame → List ℕ
tail_of f = encode_lower f.bytes ++ 10 ∷ []

spaceless_tail : (f : SentFrame) → IsBytes f.bytes → HasNoSpace (tail_of f)
unfolding tail_of
spaceless_tail f are = spaceless-append (encode_lower f.bytes) (10 ∷ []) (spaceless_digits f.bytes are) ((λ is. end is), tt)
  where
    end : (let n : ℕ = 10 in n) ≡ 32 → ⊥
    end is = omega (arith, is)

line_is : (f : SentFrame) → frame_line f ≡ 102 ∷ 32 ∷ station_byte f.peer ∷ 32 ∷ tail_of f
unfolding tail_of
line_is f = refl

-- the parts of two lists that are equal
module _ (a b c d e f g h : ℕ) (xs ys : List ℕ) (is : a ∷ b ∷ c ∷ d ∷ xs ≡ e ∷ f ∷ g ∷ h ∷ ys) where
  second : b ≡ f
  second = cc

  third : c ≡ g
  third = cc

  fourth : d ≡ h
  fourth = cc

  later : xs ≡ ys
  later = cc

not_space : (n m : ℕ) → n ≡ 32 → m ≡ 102 → n ≡ m → ⊥
not_space n m low high is = omega (arith, low, high, is)

-- Another line begins nowhere inside a line: it would bring two spaces.
inside : (a b : SentFrame) (x : ℕ) (w : List ℕ) → IsBytes b.bytes → frame_line b ≡ x ∷ (w ++ frame_line a) → ⊥
inside a b x w are is = by_length w (sym (line_is b) ∙ is ∙ ap (λ (l : List ℕ). x ∷ (w ++ l)) (line_is a))
  where
    by_length : (w : List ℕ) → 102 ∷ 32 ∷ station_byte b.peer ∷ 32 ∷ tail_of b ≡ x ∷ (w ++ 102 ∷ 32 ∷ station_byte a.peer ∷ 32 ∷ tail_of a) → ⊥
    by_length [] is = not_space 32 102 refl refl (second _ _ _ _ _ _ _ _ _ _ is)
    by_length (y ∷ []) is = (subst HasNoSpace (later _ _ _ _ _ _ _ _ _ _ is) (spaceless_tail b are)).1.0 refl
    by_length (y ∷ z ∷ []) is = not_space 32 102 refl refl (fourth _ _ _ _ _ _ _ _ _ _ is)
    by_length (y ∷ z ∷ u ∷ v) is =
        (spaceless_end v (102 ∷ 32 ∷ station_byte a.peer ∷ 32 ∷ tail_of a) (subst HasNoSpace (later _ _ _ _ _ _ _ _ _ _ is) (spaceless_tail b are))).1.0 refl

same_ok : (xs ys : List ℕ) → (let r : Result (List ℕ) FromHexError = Ok xs in r) ≡ Ok ys → xs ≡ ys
same_ok xs ys is = cc

same_bytes : (xs ys : List ℕ) → IsBytes xs → IsBytes ys → encode_lower xs ≡ encode_lower ys → xs ≡ ys
same_bytes xs ys first second is = same_ok xs ys (sym (decode_of-encode_lower xs first) ∙ ap decode_of is ∙ decode_of-encode_lower ys second)

same_tail : (a b : SentFrame) → tail_of a ≡ tail_of b → encode_lower a.bytes ≡ encode_lower b.bytes
unfolding tail_of
same_tail a b is = append_cancel_right (encode_lower a.bytes) (encode_lower b.bytes) (10 ∷ []) is

-- a line tells its frame
pub frame_line-same : (a b : SentFrame) → a.peer < 256 → b.peer < 256 → IsBytes a.bytes → IsBytes b.bytes → frame_line a ≡ frame_line b → a ≡ b
frame_line-same a b a_fits b_fits a_are b_are is =
    let lines = sym (line_is a) ∙ is ∙ line_is b in
    let stations : station_byte a.peer ≡ station_byte b.peer = third _ _ _ _ _ _ _ _ _ _ lines in
    let peers : a.peer ≡ b.peer = omega (arith, a_fits, b_fits, stations) in
    let bytes = same_bytes a.bytes b.bytes a_are b_are (same_tail a b (later _ _ _ _ _ _ _ _ _ _ lines)) in
    ap (λ (p : ℕ). sent_frame p a.bytes) peers ∙ ap (sent_frame b.peer) bytes

-- of two lists that are equal, one side's first part begins with the other's
split : (p q u v : List ℕ) → p ++ u ≡ q ++ v → ((w : List ℕ) × (p ≡ q ++ w) × (v ≡ w ++ u)) ⊎ ((w : List ℕ) × (q ≡ p ++ w) × (u ≡ w ++ v))
split [] q u v is = inr (q, refl, is)
split (x ∷ p) [] u v is = inl (x ∷ p, refl, sym is)
split (x ∷ p) (y ∷ q) u v is = by_rest (split p q u v (rest is))
  where
    head : x ∷ (p ++ u) ≡ y ∷ (q ++ v) → x ≡ y
    head is = cc

    rest : x ∷ (p ++ u) ≡ y ∷ (q ++ v) → p ++ u ≡ q ++ v
    rest is = cc

    both : (n m : ℕ) (k l : List ℕ) → n ≡ m → k ≡ l → n ∷ k ≡ m ∷ l
    both n m k l first more = cc

    by_rest : ((w : List ℕ) × (p ≡ q ++ w) × (v ≡ w ++ u)) ⊎ ((w : List ℕ) × (q ≡ p ++ w) × (u ≡ w ++ v))
        → ((w : List ℕ) × (x ∷ p ≡ y ∷ (q ++ w)) × (v ≡ w ++ u)) ⊎ ((w : List ℕ) × (y ∷ q ≡ x ∷ (p ++ w)) × (u ≡ w ++ v))
    by_rest (inl (w, first, more)) = inl (w, both x y p (q ++ w) (head is) first, more)
    by_rest (inr (w, first, more)) = inr (w, both y x q (p ++ w) (sym (head is)) first, more)

no_more : (a b : SentFrame) (p q w : List ℕ) → IsBytes b.bytes → p ≡ q ++ w → frame_line b ≡ w ++ frame_line a → (p ≡ q) × (frame_line a ≡ frame_line b)
no_more a b p q [] are first line = (first ∙ append-nil q, sym line)
no_more a b p q (x ∷ w) are first line = absurd (inside a b x w are line)

-- Text that ends with the line of a frame tells that frame, and what stands before it.
pub frame_line-last : (p q : List ℕ) (a b : SentFrame) → a.peer < 256 → b.peer < 256 → IsBytes a.bytes → IsBytes b.bytes
    → p ++ frame_line a ≡ q ++ frame_line b → (p ≡ q) × (a ≡ b)
frame_line-last p q a b a_fits b_fits a_are b_are is = by_split (split p q (frame_line a) (frame_line b) is)
  where
    by_split : ((w : List ℕ) × (p ≡ q ++ w) × (frame_line b ≡ w ++ frame_line a)) ⊎ ((w : List ℕ) × (q ≡ p ++ w) × (frame_line a ≡ w ++ frame_line b)) → (p ≡ q) × (a ≡ b)
    by_split (inl (w, first, line)) =
        let same = no_more a b p q w b_are first line in (same.0, frame_line-same a b a_fits b_fits a_are b_are same.1)
    by_split (inr (w, first, line)) =
        let same = no_more b a q p w a_are first line in (sym same.0, frame_line-same a b a_fits b_fits a_are b_are (sym same.1))

-- no frame's line is empty
pub frame_line-some : (f : SentFrame) → 1 ≤ length (frame_line f)
frame_line-some f = omega arith

pub frame_lines-none : (p : List ℕ) (fs : List SentFrame) → p ++ frame_lines fs ≡ p → fs ≡ []
frame_lines-none p [] is = refl
frame_lines-none p (f ∷ fs) is = absurd (omega (arith, ap length is, length-append p (frame_lines (f ∷ fs)), length-append (frame_line f) (frame_lines fs), frame_line-some f))
