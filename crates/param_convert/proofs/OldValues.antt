-- The value of the first record that matches, as it is read at its place.
use Rattle.std.proofs.Common.{◌≡◌, ◌+◌, ◌<◌, ◌≤◌, ℕ, List, ◌++◌, length, take, drop, sym, ◌∙◌, ap, arith, Some, None}
use Rattle.std.proofs.lemmas.List.{length-take, take_at, get_or-take, get_or-drop, ext_get_or}
use Rattle.param_tree.specs.declared.Kind.{Kind}
use Rattle.storage_lines.specs.declared.areas.Area.TheVariants.{Param}
use Rattle.storage_lines.specs.Areas.{logical_of}
use Rattle.storage_lines.specs.Bytes.{IsBytes}
use Rattle.param_records.specs.declared.records.TheConstants.{PARAM_BYTES}
use Rattle.param_records.specs.Records.{Record, size_of, records_of, value_in, place_from}
use Rattle.param_records.proofs.PieceLemmas.{length-logical}
use Rattle.param_records.proofs.WalkLemmas.{logical_bytes}
use Rattle.param_records.proofs.ValueLemmas.{found_at, found_byte, first_at, value_first}

-- a record that stands at a place has a value
pub value_there : (key element at : ℕ) (kind : Kind) (rs : List Record) → place_from 4 key element kind rs ≡ Some at → value_in key element kind rs ≡ None → ⊥
value_there key element at kind rs is none =
    let f = first_at 4 key element kind rs at is in
    let some : value_in key element kind rs ≡ Some f.one.value = ap (λ (l : List Record). value_in key element kind l) f.whole ∙ value_first 4 key element kind f.front f.back f.one f.none f.is in
    cc

-- the storage's value at a place, and that it lies in the area
pub record ReadAt (bytes : List ℕ) (key element : ℕ) (kind : Kind) (at : ℕ) : Type 0 where
  pub fits : at + size_of kind ≤ PARAM_BYTES
  pub value : (read rest : List ℕ) → length read ≡ size_of kind → read ≡ take (size_of kind) (drop at (logical_of Param bytes))
      → value_in key element kind (records_of (logical_of Param bytes)) ≡ Some (take (size_of kind) (read ++ rest))

pub read_at : (bytes : List ℕ) (key element : ℕ) (kind : Kind) (at : ℕ) → IsBytes bytes → place_from 4 key element kind (records_of (logical_of Param bytes)) ≡ Some at → ReadAt bytes key element kind at
read_at bytes key element kind at low is =
    let L = logical_of Param bytes in
    let f = found_at L key element kind at (logical_bytes bytes low) is in
    record {
      fits = omega (arith, f.fits, length-logical bytes);
      value = λ read rest size same.
          let each : read ≡ f.first.one.value = same ∙ ext_get_or 0 (take (size_of kind) (drop at L)) f.first.one.value (omega (arith, f.size, ap (λ (l : List ℕ). length l) same))
          (λ i h. let few : i < size_of kind = omega (arith, length-take (size_of kind) (drop at L)) in get_or-take (size_of kind) (drop at L) i 0 few ∙ get_or-drop at L i 0 ∙ found_byte L key element kind at f i few) in
          f.value ∙ ap (λ (v : List ℕ). Some v) (sym each ∙ sym (take_at read rest (size_of kind) size));
    }
