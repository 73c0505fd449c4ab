-- The first four bytes of the parameter storage after a line write.
use Rattle.std.proofs.Common.{◌≡◌, ◌≢◌, ℕ, ◌+◌, ◌%◌, ◌<◌, Bool, List, [], ◌∷◌, length, get_or, take, sym, ◌∙◌, ap, arith}
use Rattle.std.specs.Prelude.{IsTrue, ◌↔◌}
use Rattle.storage_lines.specs.Lines.{after}
use Rattle.storage_lines.proofs.LineLemmas.{after-append, length-after}
use Rattle.param_records.specs.Records.{magic}
use Rattle.param_records.specs.Steps.{HasMagic}
use Rattle.std.proofs.lemmas.List.{take_more}
use Rattle.std.proofs.lemmas.List.{length-take, get_or-take, ext_get_or}
use Rattle.storage_lines.specs.declared.lines.LineWrite.{LineWrite}
use Rattle.storage_lines.specs.declared.lines.TheConstants.{STORAGE_BYTES}
use Rattle.storage_lines.specs.declared.areas.Area.TheVariants.{Param}
use Rattle.storage_lines.specs.Areas.{logical_of, place_of}
use Rattle.storage_lines.specs.Lines.{put_line}
use Rattle.storage_lines.proofs.LineLemmas.{put_line-same, put_line-other}
use Rattle.param_records.proofs.PieceLemmas.{get_or-logical, length-logical}

first_place : (i : ℕ) → i < 4 → place_of Param i ≡ i
first_place i h = grind arith

-- line 0 has them
pub front_written : (b : List ℕ) (w : LineWrite) → length b ≡ STORAGE_BYTES → length w.bytes ≡ 8 → w.line ≡ 0 → take 4 (logical_of Param (put_line b w)) ≡ take 4 w.bytes
front_written b w size eight zero =
    let N = logical_of Param (put_line b w) in
    ext_get_or 0 (take 4 N) (take 4 w.bytes) (omega (arith, length-take 4 N, length-take 4 w.bytes, length-logical (put_line b w))) (λ i h.
    let few : i < 4 = omega (arith, length-take 4 N) in
    let column : i % 8 ≡ i = omega arith in
    get_or-take 4 N i 0 few ∙ get_or-logical (put_line b w) i (omega arith) ∙ ap (λ (k : ℕ). get_or (put_line b w) k 0) (first_place i few)
    ∙ put_line-same b w i 0 (omega arith) (omega arith) ∙ ap (λ (k : ℕ). get_or w.bytes k 0) column ∙ sym (get_or-take 4 w.bytes i 0 few))

-- and no other line
pub front_kept : (b : List ℕ) (w : LineWrite) → length b ≡ STORAGE_BYTES → w.line ≢ 0 → take 4 (logical_of Param (put_line b w)) ≡ take 4 (logical_of Param b)
front_kept b w size other =
    let N = logical_of Param (put_line b w) in
    let L = logical_of Param b in
    ext_get_or 0 (take 4 N) (take 4 L) (omega (arith, length-take 4 N, length-take 4 L, length-logical (put_line b w), length-logical b)) (λ i h.
    let few : i < 4 = omega (arith, length-take 4 N) in
    let place = first_place i few in
    get_or-take 4 N i 0 few ∙ get_or-logical (put_line b w) i (omega arith) ∙ ap (λ (k : ℕ). get_or (put_line b w) k 0) place
    ∙ put_line-other b w i 0 (omega arith) (λ e. other (sym e ∙ (omega arith)))
    ∙ sym (get_or-take 4 L i 0 few ∙ get_or-logical b i (omega arith) ∙ ap (λ (k : ℕ). get_or b k 0) place))

pub next_bytes : (b : List ℕ) (ws : List LineWrite) (i : ℕ) (d : LineWrite) → i < length ws → after b (take (i + 1) ws) ≡ put_line (after b (take i ws)) (get_or ws i d)
next_bytes b ws i d h = ap (λ (l : List LineWrite). after b l) (take_more ws i d h) ∙ after-append b (take i ws) (get_or ws i d ∷ [])

-- one write more
pub magic_written : (b : List ℕ) (ws : List LineWrite) (i : ℕ) (d : LineWrite) (m : Bool) → length b ≡ STORAGE_BYTES → i < length ws → length (get_or ws i d).bytes ≡ 8 → (get_or ws i d).line ≡ 0 → IsTrue m ↔ (take 4 (get_or ws i d).bytes ≡ magic) →
    IsTrue m ↔ HasMagic (after b (take (i + 1) ws))
magic_written b ws i d m size h eight zero is =
    let same : take 4 (logical_of Param (after b (take (i + 1) ws))) ≡ take 4 (get_or ws i d).bytes =
    ap (λ (x : List ℕ). take 4 (logical_of Param x)) (next_bytes b ws i d h) ∙ front_written (after b (take i ws)) (get_or ws i d) (length-after b (take i ws) ∙ size) eight zero in
    (λ t. same ∙ is.0 t, λ e. is.1 (sym same ∙ e))

pub magic_kept : (b : List ℕ) (ws : List LineWrite) (i : ℕ) (d : LineWrite) (m : Bool) → length b ≡ STORAGE_BYTES → i < length ws → (get_or ws i d).line ≢ 0 → IsTrue m ↔ HasMagic (after b (take i ws)) →
    IsTrue m ↔ HasMagic (after b (take (i + 1) ws))
magic_kept b ws i d m size h other is =
    let same : take 4 (logical_of Param (after b (take (i + 1) ws))) ≡ take 4 (logical_of Param (after b (take i ws))) =
    ap (λ (x : List ℕ). take 4 (logical_of Param x)) (next_bytes b ws i d h) ∙ front_kept (after b (take i ws)) (get_or ws i d) (length-after b (take i ws) ∙ size) other in
    (λ t. same ∙ is.0 t, λ e. is.1 (sym same ∙ e))
