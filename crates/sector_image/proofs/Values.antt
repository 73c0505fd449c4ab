-- The bytes of a list of entries with one more at its end.
use Rattle.std.proofs.Common.{◌≡◌, ℕ, ◌*◌, ◌<◌, List, [], ◌∷◌, ◌++◌, length, get_or, replicate, refl, ◌∙◌, ap, subst, arith}
use Rattle.std.specs.Prelude.{All, if◌then◌else◌, ◌==◌}
use Rattle.std.proofs.lemmas.List.{length-replicate}
use Rattle.std.proofs.lemmas.List.Elements.{All-replicate}
use Rattle.std.proofs.lemmas.List.Sums.{fold_push}
use Rattle.std.proofs.lemmas.List.FromFn.{length-map-range_with_len, get_or-map-range_with_len}
use Rattle.sector_log.specs.Storage.{storage_bytes}
use Rattle.sector_log.specs.Entries.{Entry, IsEntry}
use Rattle.sector_log.specs.Bytes.{apply, applied, byte_of, IsValue, value_up_to, value_of}
use Rattle.flash_traits.specs.Values.{put}
use Rattle.flash_traits.specs.Words.{bytes_of}
use Rattle.sector_log.proofs.ValueLemmas.{value_applied, one_value}

length_value : (n : ℕ) (es : List Entry) → length (value_up_to n es) ≡ n
unfolding value_up_to
length_value n es = length-map-range_with_len (byte_of es 0) 0 n

byte_value : (n : ℕ) (es : List Entry) (k : ℕ) → k < n → get_or (value_up_to n es) k 0 ≡ byte_of es 0 k
unfolding value_up_to
byte_value n es k lt = get_or-map-range_with_len (byte_of es 0) 0 n k k 0 lt (omega arith)

pub is_value : (es : List Entry) → IsValue es (value_of es)
is_value es = record { size = length_value storage_bytes es; each = λ k lt. byte_value storage_bytes es k lt }

pub value_is : (es : List Entry) (bytes : List ℕ) → IsValue es bytes → value_of es ≡ bytes
value_is es bytes is = one_value es (value_of es) bytes (is_value es) is

-- so many zeros, as a list that doesn't compute
pub zeros_of : (n : ℕ) → (zeros : List ℕ) × (length zeros ≡ n) × All (λ b. b ≡ 0) zeros
zeros_of n = (replicate n 0, length-replicate {A = ℕ} n 0, All-replicate (λ (b : ℕ). b ≡ 0) n 0 refl)

-- one more entry is applied last
pub value_push : (es : List Entry) (e : Entry) (bytes : List ℕ) → All IsEntry es → All IsEntry (es ++ e ∷ []) → IsValue es bytes → IsValue (es ++ e ∷ []) (apply bytes e)
value_push es e bytes each all is =
    let zeros = zeros_of storage_bytes in
    let was : applied zeros.0 es ≡ bytes = one_value es (applied zeros.0 es) bytes (value_applied es zeros.0 each zeros.1 zeros.2) is in
    let step : applied zeros.0 (es ++ e ∷ []) ≡ apply bytes e = fold_push apply zeros.0 es e ∙ ap (λ (l : List ℕ). apply l e) was in
    subst (λ (l : List ℕ). IsValue (es ++ e ∷ []) l) step (value_applied (es ++ e ∷ []) zeros.0 all zeros.1 zeros.2)

pub apply_torn : (bytes : List ℕ) (e : Entry) → e.header.state ≡ 1 → apply bytes e ≡ bytes
apply_torn bytes e torn = ap (λ (s : ℕ). if s == 0 then put (8 * e.header.line) (bytes_of e.content) bytes else bytes) torn

pub apply_valid : (bytes : List ℕ) (e : Entry) → e.header.state ≡ 0 → apply bytes e ≡ put (8 * e.header.line) (bytes_of e.content) bytes
apply_valid bytes e valid = ap (λ (s : ℕ). if s == 0 then put (8 * e.header.line) (bytes_of e.content) bytes else bytes) valid
