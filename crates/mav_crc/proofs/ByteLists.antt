-- Lists of bytes.
use Rattle.std.proofs.Common.{ℕ, suc, ◌==◌, ◌<◌, ◌+◌, lit<, subst, sym, ap, ◌∙◌, Bool, true, false, cond, List, [], ◌∷◌, ◌++◌, get_or, take, length, All, append-nil}
use Rattle.std.proofs.lemmas.List.{take_more}
use Rattle.std.proofs.lemmas.List.Elements.{All-nil, All-cons, All-append}
use Rattle.mav_crc.specs.declared.Field.{Field}
use Rattle.mav_crc.specs.Extra.{field_text, field_bytes, fields_bytes}
use Rattle.mav_crc.proofs.Pieces.{fields_bytes-append}

abbrev pub IsByte : ℕ → Type 0
IsByte b = b < 256

pub bytes_of : (bs : List ℕ) → ((k : ℕ) → get_or bs k 0 < 256) → All IsByte bs
bytes_of [] h = All-nil IsByte
bytes_of (b ∷ bs) h = All-cons IsByte b bs (h 0) (bytes_of bs (λ k. h (suc k)))

pub text_bytes : (text more : List ℕ) → All IsByte text → All IsByte more → All IsByte (text ++ (32 ∷ more))
text_bytes text more h g = All-append IsByte text (32 ∷ more) h (All-cons IsByte 32 more (lit< tt) g)

array_bytes : (b : Bool) (array : ℕ) → array < 256 → All IsByte (cond b [] (array ∷ []))
array_bytes true array h = All-nil IsByte
array_bytes false array h = All-cons IsByte array [] h (All-nil IsByte)

pub all_field : (kind name : List ℕ) (array : ℕ) → All IsByte kind → All IsByte name → array < 256 → All IsByte (field_text kind name array)
all_field kind name array h g f = text_bytes kind _ h (text_bytes name _ g (array_bytes (array == 0) array f))

pub all_more : (i : ℕ) (fs : List Field) (d : Field) → i < length fs → All IsByte (fields_bytes (take i fs)) → All IsByte (field_bytes (get_or fs i d)) → All IsByte (fields_bytes (take (i + 1) fs))
all_more i fs d less h g =
    subst (All IsByte) (sym (ap fields_bytes (take_more fs i d less) ∙ fields_bytes-append (take i fs) (get_or fs i d ∷ []) ∙ ap (λ v. fields_bytes (take i fs) ++ v) (append-nil (field_bytes (get_or fs i d)))))
    (All-append IsByte (fields_bytes (take i fs)) (field_bytes (get_or fs i d)) h g)
