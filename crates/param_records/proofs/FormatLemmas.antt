-- The storage formatted, line by line.
use Rattle.std.proofs.Common.{◌≡◌, inl, inr, ℕ, ◌+◌, ◌-◌, ◌<◌, ◌≤◌, List, [], ◌∷◌, ◌++◌, length, get_or, take, drop, refl, sym, ◌∙◌, ap, subst, arith, append_assoc}
use Rattle.std.proofs.lemmas.List.{drop_at, length-append, length-take, get_or-take, ext_get_or, append-nil, take-append-le, get_or_append_left, get_or-append_right}
use Rattle.std.proofs.lemmas.List.Elements.{All-nil, All-cons}
use Rattle.std.proofs.lemmas.Bool.{cases_lt}
use Rattle.storage_lines.specs.declared.lines.LineWrite.{LineWrite}
use Rattle.storage_lines.specs.declared.lines.TheConstants.{STORAGE_BYTES}
use Rattle.storage_lines.specs.declared.areas.Area.TheVariants.{Param}
use Rattle.storage_lines.specs.Areas.{logical_of}
use Rattle.storage_lines.specs.Lines.{after}
use Rattle.storage_lines.specs.Pieces.{writes_of, writes_of_piece}
use Rattle.storage_lines.proofs.LineLemmas.{length-after, after-append}
use Rattle.param_records.specs.Records.{IsRecord, HasRecords}
use Rattle.param_records.specs.Changes.{formatting, total_zero}
use Rattle.param_records.specs.Steps.{Formats, FormatsInSteps}
use Rattle.param_records.proofs.OtherAreas.{other_areas, two_fit}
use Rattle.param_records.proofs.RecordLemmas.{sentinel_ends}
use Rattle.param_records.proofs.PieceLemmas.{piece_prefix, piece_whole, length-logical}
use Rattle.param_records.proofs.AppendLemmas.{spelled_at}
use Rattle.param_records.proofs.CountLemmas.{few_writes}

abbrev line0 : List ℕ
line0 = 80 ∷ 65 ∷ 6 ∷ 0 ∷ 20 ∷ 66 ∷ 0 ∷ 0 ∷ []

abbrev line1 : List ℕ
line1 = 0 ∷ 0 ∷ 255 ∷ 255 ∷ 63 ∷ 0 ∷ 0 ∷ 0 ∷ []

front_line : (i : ℕ) → i < 8 → get_or line0 i 0 ≡ get_or (line0 ++ line1) i 0
front_line i h = sym (get_or_append_left line0 line1 0 i h)

back_line : (i : ℕ) → 8 ≤ i → get_or line1 (i - 8) 0 ≡ get_or (line0 ++ line1) i 0
back_line i h = sym (get_or-append_right line0 line1 8 i 0 refl h)

-- the first sixteen bytes are the two lines
both_lines : (L M : List ℕ) → ((i : ℕ) → i < 8 → get_or M (8 + i) 0 ≡ get_or line1 i 0) → ((i : ℕ) → i < 8 → get_or L (0 + i) 0 ≡ get_or line0 i 0) → ((i : ℕ) → 0 + 8 ≤ i → get_or L i 0 ≡ get_or M i 0) → 16 ≤ length L →
    L ≡ (line0 ++ line1) ++ drop 16 L
both_lines L M second first behind fits = spelled_at L (line0 ++ line1) 0 (omega arith) (λ i h. elim (cases_lt i 8) [
  | inl low ↦ first i low ∙ front_line i low
  | inr high ↦
      let at : 8 + (i - 8) ≡ 0 + i = omega arith in
      behind (0 + i) (omega arith) ∙ sym (ap (λ (k : ℕ). get_or M k 0) at) ∙ second (i - 8) (omega arith) ∙ back_line i high
])

format_whole : (bytes : List ℕ) → length bytes ≡ STORAGE_BYTES → HasRecords (logical_of Param (after bytes (writes_of bytes formatting))) (total_zero ∷ []) 10
format_whole bytes size =
    let w1 = writes_of_piece Param 8 line1 bytes in
    let b1 = after bytes w1 in
    let size1 : length b1 ≡ STORAGE_BYTES = length-after bytes w1 ∙ size in
    let w2 = writes_of_piece Param 0 line0 b1 in
    let b2 = after b1 w2 in
    let put1 = piece_whole 8 line1 bytes size (omega arith) in
    let put2 = piece_whole 0 line0 b1 size1 (omega arith) in
    let L = logical_of Param b2 in
    let more = drop 16 L in
    let whole = both_lines L (logical_of Param b1) put1.put put2.put put2.behind (omega (arith, length-logical b2)) in
    let one : IsRecord total_zero = record { key = omega arith; element = omega arith; value = refl } in
    let has : HasRecords L (total_zero ∷ []) 10 = record {
      rest = 255 ∷ 255 ∷ 63 ∷ 0 ∷ 0 ∷ 0 ∷ more;
      whole = whole;
      each = All-cons IsRecord total_zero [] one (All-nil IsRecord);
      last = sentinel_ends (0 ∷ 0 ∷ more);
      place = refl;
    } in
    let all : after bytes (w1 ++ (w2 ++ [])) ≡ b2 = after-append bytes w1 (w2 ++ []) ∙ ap (λ (l : List LineWrite). after b1 l) (append-nil w2) in
    subst (λ (b : List ℕ). HasRecords (logical_of Param b) (total_zero ∷ []) 10) (sym all) has

-- before the last write the first four bytes are as they were
format_front : (bytes : List ℕ) (j : ℕ) → length bytes ≡ STORAGE_BYTES → j < length (writes_of bytes formatting) → take 4 (logical_of Param (after bytes (take j (writes_of bytes formatting)))) ≡ take 4 (logical_of Param bytes)
format_front bytes j size h =
    let w1 = writes_of_piece Param 8 line1 bytes in
    let b1 = after bytes w1 in
    let size1 : length b1 ≡ STORAGE_BYTES = length-after bytes w1 ∙ size in
    let w2 = writes_of_piece Param 0 line0 b1 in
    let few = few_writes 0 line0 b1 size1 (omega arith) in
    let within : j ≤ length w1 = omega (arith, length-append w1 (w2 ++ []), length-append {A = LineWrite} w2 []) in
    let cut : take j (w1 ++ (w2 ++ [])) ≡ take j w1 = take-append-le j w1 (w2 ++ []) within in
    let found = piece_prefix 8 line1 bytes j size (omega arith) within in
    let now = after bytes (take j w1) in
    let N = logical_of Param now in
    let L = logical_of Param bytes in
    let same : take 4 N ≡ take 4 L = ext_get_or 0 (take 4 N) (take 4 L) (omega (arith, length-take 4 N, length-take 4 L, length-logical now, length-logical bytes))
    (λ i l. let low : i < 4 = omega (arith, length-take 4 N) in get_or-take 4 N i 0 low ∙ found.3.below i (omega arith) ∙ sym (get_or-take 4 L i 0 low)) in
    subst (λ (ws : List LineWrite). take 4 (logical_of Param (after bytes ws)) ≡ take 4 L) (sym cut) same

pub formats : FormatsInSteps
formats bytes size = record {
  areas = other_areas bytes formatting size (two_fit 8 0 line1 line0 (omega arith) (omega arith));
  whole = format_whole bytes size;
  unformatted = λ other j h e. other (sym (format_front bytes j size h) ∙ e);
}

-- the two pieces behind the writes of a batch
pub formats_behind : (current : List ℕ) (old mid new : List LineWrite) → length current ≡ STORAGE_BYTES → mid ≡ old ++ writes_of_piece Param 8 line1 (after current old) → new ≡ mid ++ writes_of_piece Param 0 line0 (after current mid) →
    Formats (after current old) (drop (length old) new)
formats_behind current old mid new size first second =
    let b = after current old in
    let w1 = writes_of_piece Param 8 line1 b in
    let b1 = after b w1 in
    let w2 = writes_of_piece Param 0 line0 b1 in
    let between : after current mid ≡ b1 = ap (λ (l : List LineWrite). after current l) first ∙ after-append current old w1 in
    let all : new ≡ old ++ (w1 ++ (w2 ++ [])) = second ∙ ap (λ (l : List LineWrite). l ++ writes_of_piece Param 0 line0 (after current mid)) first ∙ ap (λ (c : List ℕ). (old ++ w1) ++ writes_of_piece Param 0 line0 c) between
    ∙ append_assoc old w1 w2 ∙ ap (λ (l : List LineWrite). old ++ (w1 ++ l)) (sym (append-nil w2)) in
    let behind : drop (length old) new ≡ writes_of b formatting = ap (λ (l : List LineWrite). drop (length old) l) all ∙ drop_at old (w1 ++ (w2 ++ [])) (length old) refl in
    subst (λ (l : List LineWrite). Formats b l) (sym behind) (formats b (length-after current old ∙ size))
