-- Setting a row as a station asks for it.
use Rattle.std.proofs.Common.{◌≡◌, ◌⊎◌, inl, inr, ℕ, ◌<◌, Bool, true, false, cond, List, [], ◌++◌, length, take, drop, refl, sym, ◌∙◌, ap, subst, arith, Option, Some, None}
use Rattle.std.specs.Prelude.{IfSome, slice_get, Result, Ok, Err, IsErrOf, ◌↔◌}
use Rattle.std.specs.Option.{option_map_or}
use Rattle.std.proofs.lemmas.List.{take_all}
use Rattle.std.proofs.lemmas.Bool.{cases_lt, or_left, or_right, or_from, false_from_ne_true}
use Rattle.param_tree.specs.declared.Var.{Var}
use Rattle.param_tree.specs.Rows.{vehicle_rows}
use Rattle.storage_lines.specs.declared.lines.LineWrite.{LineWrite}
use Rattle.storage_lines.specs.declared.areas.Area.TheVariants.{Param}
use Rattle.storage_lines.specs.Areas.{logical_of}
use Rattle.storage_lines.specs.Lines.{after}
use Rattle.storage_lines.specs.Pieces.{writes_of}
use Rattle.param_records.specs.declared.values.Value.{Value}
use Rattle.param_records.specs.declared.setting.SetError.{SetError}
use Rattle.param_records.specs.declared.setting.SetError.TheVariants.{Range, Full}
use Rattle.param_records.specs.Records.{Record, end_of}
use Rattle.param_records.specs.Values.{params_of, value_in_records}
use Rattle.param_records.specs.Changes.{set_pieces, IsFull, is_full}
use Rattle.param_records.specs.Patterns.{IsNumberOf, IsValueOf}
use Rattle.param_records.specs.Steps.{HasMagic, records_in_storage, SetsRow}
use Rattle.storage_lines.specs.declared.lines.TheConstants.{LINES}
use Rattle.storage_lines.specs.Bytes.{IsBytes, AreInside}
use Rattle.std.proofs.lemmas.List.Elements.{All-nil}
use Rattle.param_records.proofs.SetLemmas.{is_some}
use Rattle.param_records.proofs.StepLemmas.{no_records}
use Rattle.param_records.proofs.WalkLemmas.{logical_bytes}
use Rattle.param_service.specs.Requests.{IsNumberFor}
use Rattle.param_service.specs.Budget.{exceeds, allowed_writes}
use Rattle.param_service.specs.Service.{is_total, writes_for, set_writes}
use Rattle.param_service.specs.Setting.{IsSet}
use Rattle.param_service.proofs.Numbers.{number_for}

abbrev pub succeeded : Unit {0} → Result (Unit {0}) SetError
succeeded u = Ok u

pub from_some : (o : Option Var) (P : Var → Type 0) (row : Var) → o ≡ Some row → P row → IfSome o P
from_some o P row e h = subst (λ (x : Option Var). IfSome x P) (sym e) h

abbrev set_there : List ℕ → Var → ℕ → List LineWrite
set_there bytes row number = writes_of bytes (set_pieces vehicle_rows (records_in_storage bytes) row number)

total_writes : (bytes : List ℕ) (row : Var) (number : ℕ) → is_total row ≡ true → writes_for bytes row number ≡ []
total_writes bytes row number h = ap (λ (b : Bool). cond b [] (set_there bytes row number)) (or_left (is_total row) (is_full (records_in_storage bytes) row number) h)

full_writes : (bytes : List ℕ) (row : Var) (number : ℕ) → IsFull (records_in_storage bytes) row number → writes_for bytes row number ≡ []
full_writes bytes row number h = ap (λ (b : Bool). cond b [] (set_there bytes row number)) (or_right (is_total row) (is_full (records_in_storage bytes) row number) h)

room_writes : (bytes : List ℕ) (row : Var) (number : ℕ) → is_total row ≡ false → (IsFull (records_in_storage bytes) row number → ⊥) → writes_for bytes row number ≡ set_there bytes row number
room_writes bytes row number h room =
    let none : is_full (records_in_storage bytes) row number ≡ false = false_from_ne_true _ room in
    ap (λ (b : Bool). cond b [] (set_there bytes row number)) (or_from (is_total row) (is_full (records_in_storage bytes) row number) h none)

set_writes-at : (bytes : List ℕ) (index number : ℕ) (row : Var) → slice_get vehicle_rows index ≡ Some row → set_writes bytes index (Some number) ≡ writes_for bytes row number
set_writes-at bytes index number row is = ap (λ (o : Option Var). option_map_or (λ r. writes_for bytes r number) o []) is

-- a row that keeps its value
pub not_set : (bytes : List ℕ) (index bits : ℕ) (row : Var) (number : Option ℕ) (writes : List LineWrite) (value : Value) → slice_get vehicle_rows index ≡ Some row → IsNumberFor row bits number →
    ((n : ℕ) → number ≡ Some n → writes_for bytes row n ≡ []) → writes ≡ [] → value ≡ params_of bytes row → IsSet bytes None row index bits writes value
not_set bytes index bits row None writes value is meant none w v =
    record { number = None; meant = meant; written = w; shown = v ∙ ap (λ (l : List LineWrite). params_of (after bytes l) row) (sym w) }
not_set bytes index bits row (Some n) writes value is meant none w v =
    record { number = Some n; meant = meant; written = w ∙ sym (set_writes-at bytes index n row is ∙ none n refl); shown = v ∙ ap (λ (l : List LineWrite). params_of (after bytes l) row) (sym w) }

pub total_kept : (bytes : List ℕ) (index bits : ℕ) (row : Var) (writes : List LineWrite) (value : Value) → slice_get vehicle_rows index ≡ Some row → is_total row ≡ true → writes ≡ [] → value ≡ params_of bytes row →
    IsSet bytes None row index bits writes value
total_kept bytes index bits row writes value is total w v =
    let number = number_for row bits in
    not_set bytes index bits row number.0 writes value is number.1 (λ n e. total_writes bytes row n total) w v

pub full_kept : (bytes : List ℕ) (index bits n : ℕ) (row : Var) (writes : List LineWrite) (value : Value) → slice_get vehicle_rows index ≡ Some row → IsNumberOf row.kind bits n → IsFull (records_in_storage bytes) row n → writes ≡ [] → value ≡ params_of bytes row →
    IsSet bytes None row index bits writes value
full_kept bytes index bits n row writes value is has full w v =
    not_set bytes index bits row (Some n) writes value is has (λ m e. let same : n ≡ m = cc in subst (λ (k : ℕ). writes_for bytes row k ≡ []) same (full_writes bytes row n full)) w v

pub no_number_kept : (bytes : List ℕ) (index bits : ℕ) (row : Var) (writes : List LineWrite) (value : Value) → slice_get vehicle_rows index ≡ Some row → ((n : ℕ) → IsNumberOf row.kind bits n → ⊥) → writes ≡ [] → value ≡ params_of bytes row →
    IsSet bytes None row index bits writes value
no_number_kept bytes index bits row writes value is none w v = not_set bytes index bits row None writes value is none (λ n e. cc) w v

-- What a set that was taken says of the row.
pub record Taken (bytes : List ℕ) (row : Var) (index bits : ℕ) (writes : List LineWrite) : Type 0 where
  pub number : ℕ
  pub meant : IsNumberOf row.kind bits number
  pub room : IsFull (records_in_storage bytes) row number → ⊥
  pub written : writes ≡ writes_of bytes (set_pieces vehicle_rows (records_in_storage bytes) row number)
  pub steps : SetsRow vehicle_rows index row number bytes writes
  pub value : HasMagic bytes → IsValueOf row.kind bits (params_of (after bytes writes) row)

pub taken : (bytes : List ℕ) (row : Var) (index bits : ℕ) (writes : List LineWrite) → slice_get vehicle_rows index ≡ Some row →
    IfSome (slice_get vehicle_rows index) (λ r. (n : ℕ) × IsNumberOf r.kind bits n × (writes ≡ writes_of bytes (set_pieces vehicle_rows (records_in_storage bytes) r n))) →
    IfSome (slice_get vehicle_rows index) (λ r. (n : ℕ) × IsNumberOf r.kind bits n × IsFull (records_in_storage bytes) r n → ⊥) →
    IfSome (slice_get vehicle_rows index) (λ r. (n : ℕ) → IsNumberOf r.kind bits n → SetsRow vehicle_rows index r n bytes writes) →
    (HasMagic bytes → IfSome (slice_get vehicle_rows index) (λ r. IsValueOf r.kind bits (params_of (after bytes writes) r))) → Taken bytes row index bits writes
taken bytes row index bits writes is ok full steps value =
    let here = is_some (slice_get vehicle_rows index) (λ r. (n : ℕ) × IsNumberOf r.kind bits n × (writes ≡ writes_of bytes (set_pieces vehicle_rows (records_in_storage bytes) r n))) row is ok in
    let room = is_some (slice_get vehicle_rows index) (λ r. (n : ℕ) × IsNumberOf r.kind bits n × IsFull (records_in_storage bytes) r n → ⊥) row is full in
    let each = is_some (slice_get vehicle_rows index) (λ r. (n : ℕ) → IsNumberOf r.kind bits n → SetsRow vehicle_rows index r n bytes writes) row is steps in
    record {
      number = here.0;
      meant = here.1;
      room = λ f. room (here.0, here.1, f);
      written = here.2;
      steps = each here.0 here.1;
      value = λ m. is_some (slice_get vehicle_rows index) (λ r. IsValueOf r.kind bits (params_of (after bytes writes) r)) row is (value m);
    }

-- from what `set` promises where it succeeds, on an empty batch
pub taken_by : (rows : List Var) (bytes : List ℕ) (old : List LineWrite) (row : Var) (index bits : ℕ) (writes : List LineWrite) (u : Unit {0}) → rows ≡ vehicle_rows → old ≡ [] → IsBytes bytes → slice_get rows index ≡ Some row →
    IfSome (slice_get rows index) (λ r. (n : ℕ) × IsNumberOf r.kind bits n × (writes ≡ old ++ writes_of (after bytes old) (set_pieces rows (records_in_storage (after bytes old)) r n))) →
    IfSome (slice_get rows index) (λ r. IsErrOf (succeeded u) (Full (end_of (logical_of Param (after bytes old)))) ↔ ((n : ℕ) × IsNumberOf r.kind bits n × IsFull (records_in_storage (after bytes old)) r n)) →
    (IsBytes (logical_of Param (after bytes old)) → IfSome (slice_get rows index) (λ r. (n : ℕ) → IsNumberOf r.kind bits n → SetsRow rows index r n (after bytes old) (drop (length old) writes))) →
    (IsBytes (logical_of Param (after bytes old)) → HasMagic (after bytes old) → IfSome (slice_get rows index) (λ r. IsValueOf r.kind bits (params_of (after bytes writes) r))) → Taken bytes row index bits writes
taken_by rows bytes old row index bits writes u table empty small is ok full steps value =
    let low = logical_bytes bytes small in
    let is' : slice_get vehicle_rows index ≡ Some row = subst (λ (l : List Var). slice_get l index ≡ Some row) table is in
    let Ok' : List Var → List LineWrite → Type 0 = λ l o. IfSome (slice_get l index) (λ r. (n : ℕ) × IsNumberOf r.kind bits n × (writes ≡ o ++ writes_of (after bytes o) (set_pieces l (records_in_storage (after bytes o)) r n))) in
    let Full' : List Var → List LineWrite → Type 0 = λ l o. IfSome (slice_get l index) (λ r. IsErrOf (succeeded u) (Full (end_of (logical_of Param (after bytes o)))) ↔ ((n : ℕ) × IsNumberOf r.kind bits n × IsFull (records_in_storage (after bytes o)) r n)) in
    let Steps' : List Var → List LineWrite → Type 0 = λ l o. IsBytes (logical_of Param (after bytes o)) → IfSome (slice_get l index) (λ r. (n : ℕ) → IsNumberOf r.kind bits n → SetsRow l index r n (after bytes o) (drop (length o) writes)) in
    let Value' : List Var → List LineWrite → Type 0 = λ l o. IsBytes (logical_of Param (after bytes o)) → HasMagic (after bytes o) → IfSome (slice_get l index) (λ r. IsValueOf r.kind bits (params_of (after bytes writes) r)) in
    let ok' = subst (λ (l : List Var). Ok' l []) table (subst (λ (o : List LineWrite). Ok' rows o) empty ok) in
    let full' = subst (λ (l : List Var). Full' l []) table (subst (λ (o : List LineWrite). Full' rows o) empty full) in
    let steps' = subst (λ (l : List Var). Steps' l []) table (subst (λ (o : List LineWrite). Steps' rows o) empty steps) in
    let value' = subst (λ (l : List Var). Value' l []) table (subst (λ (o : List LineWrite). Value' rows o) empty value) in
    let both = is_some (slice_get vehicle_rows index) (λ r. IsErrOf (succeeded u) (Full (end_of (logical_of Param bytes))) ↔ ((n : ℕ) × IsNumberOf r.kind bits n × IsFull (records_in_storage bytes) r n)) row is' full' in
    taken bytes row index bits writes is' ok' (from_some (slice_get vehicle_rows index) (λ r. (n : ℕ) × IsNumberOf r.kind bits n × IsFull (records_in_storage bytes) r n → ⊥) row is' (λ x. let e = both.1 x in cc)) (steps' low) (value' low)

pub taken_set : (bytes : List ℕ) (row : Var) (index bits : ℕ) (writes : List LineWrite) (value : Value) → slice_get vehicle_rows index ≡ Some row → Taken bytes row index bits writes → is_total row ≡ false → value ≡ params_of (after bytes writes) row →
    IsSet bytes None row index bits writes value
taken_set bytes row index bits writes value is t total v =
    record { number = Some t.number; meant = t.meant; written = t.written ∙ sym (set_writes-at bytes index t.number row is ∙ room_writes bytes row t.number total t.room); shown = v }

front_kept : (bytes : List ℕ) (row : Var) (index bits : ℕ) (writes : List LineWrite) → Taken bytes row index bits writes → (j : ℕ) → take 4 (logical_of Param (after bytes (take j writes))) ≡ take 4 (logical_of Param bytes)
front_kept bytes row index bits writes t j = elim (cases_lt (length writes) j) [
  | inl past ↦
      let all : take j writes ≡ take (length writes) writes = take_all j writes (omega arith) ∙ sym (take_all (length writes) writes (omega arith)) in
      ap (λ (l : List LineWrite). take 4 (logical_of Param (after bytes l))) all ∙ (t.steps.each (length writes) (omega arith)).front
  | inr within ↦ (t.steps.each j within).front
]

pub magic_kept : (bytes : List ℕ) (row : Var) (index bits : ℕ) (writes : List LineWrite) → Taken bytes row index bits writes → HasMagic bytes → (j : ℕ) → HasMagic (after bytes (take j writes))
magic_kept bytes row index bits writes t m j = front_kept bytes row index bits writes t j ∙ m

-- without the magic a row has its default before and after
pub old_value : (bytes : List ℕ) (row : Var) (index bits : ℕ) (writes : List LineWrite) → Taken bytes row index bits writes → (HasMagic bytes → ⊥) → params_of bytes row ≡ params_of (after bytes writes) row
old_value bytes row index bits writes t none =
    let all : take (length writes) writes ≡ writes = take_all (length writes) writes (omega arith) in
    let front : take 4 (logical_of Param (after bytes writes)) ≡ take 4 (logical_of Param bytes) = ap (λ (l : List LineWrite). take 4 (logical_of Param (after bytes l))) (sym all) ∙ front_kept bytes row index bits writes t (length writes) in
    ap (λ (rs : List Record). value_in_records rs row) (no_records (logical_of Param bytes) none ∙ sym (no_records (logical_of Param (after bytes writes)) (λ m. none (sym front ∙ m))))

-- a batch that was empty has lines of the storage
pub lines_inside : (old new : List LineWrite) → old ≡ [] → (AreInside old → AreInside new) → AreInside new
lines_inside old new empty keeps = keeps (subst (λ (l : List LineWrite). AreInside l) (sym empty) (All-nil (λ (write : LineWrite). write.line < LINES)))

-- from what `set` promises where it refuses
abbrev pub failed : SetError → Result (Unit {0}) SetError
failed e = Err e

pub refused_by : (rows : List Var) (bytes : List ℕ) (old : List LineWrite) (row : Var) (index bits : ℕ) (writes : List LineWrite) (value : Value) (e : SetError) → rows ≡ vehicle_rows → old ≡ [] → slice_get rows index ≡ Some row →
    IfSome (slice_get rows index) (λ r. IsErrOf (failed e) (Range bits) ↔ ((n : ℕ) → IsNumberOf r.kind bits n → ⊥)) →
    IfSome (slice_get rows index) (λ r. IsErrOf (failed e) (Full (end_of (logical_of Param (after bytes old)))) ↔ ((n : ℕ) × IsNumberOf r.kind bits n × IsFull (records_in_storage (after bytes old)) r n)) →
    (e ≡ Range bits) ⊎ (e ≡ Full (end_of (logical_of Param (after bytes old)))) → writes ≡ old → value ≡ params_of bytes row → IsSet bytes None row index bits writes value
refused_by rows bytes old row index bits writes value e table empty is range full only same v =
    let is' : slice_get vehicle_rows index ≡ Some row = subst (λ (l : List Var). slice_get l index ≡ Some row) table is in
    let range' = is_some (slice_get rows index) (λ r. IsErrOf (failed e) (Range bits) ↔ ((n : ℕ) → IsNumberOf r.kind bits n → ⊥)) row is range in
    let full' = is_some (slice_get rows index) (λ r. IsErrOf (failed e) (Full (end_of (logical_of Param (after bytes old)))) ↔ ((n : ℕ) × IsNumberOf r.kind bits n × IsFull (records_in_storage (after bytes old)) r n)) row is full in
    elim only [
      | inl out ↦ no_number_kept bytes index bits row writes value is' (range'.0 (ap (λ (x : SetError). failed x) out)) (same ∙ empty) v
      | inr no_room ↦
          let found = full'.0 (ap (λ (x : SetError). failed x) no_room) in
          let f : IsFull (records_in_storage bytes) row found.0 = subst (λ (o : List LineWrite). IsFull (records_in_storage (after bytes o)) row found.0) empty found.2 in
          full_kept bytes index bits found.0 row writes value is' found.1 f (same ∙ empty) v
    ]

-- the value of the row that stands there
pub value_there : (o : Option Var) (row : Var) (bytes : List ℕ) (value : Value) → o ≡ Some row → (r : Var) × (o ≡ Some r) × (value ≡ params_of bytes r) → value ≡ params_of bytes row
value_there o row bytes value is found =
    let both : Some found.0 ≡ Some row = sym found.1 ∙ is in
    let same : found.0 ≡ row = cc in
    subst (λ (r : Var). value ≡ params_of bytes r) same found.2

-- more lines are needed than may be issued: the row keeps its value
pub limit_kept : (bytes : List ℕ) (allowed : Option ℕ) (row : Var) (index bits : ℕ) (lines writes : List LineWrite) (set kept : Value) → IsSet bytes None row index bits lines set → exceeds allowed lines ≡ true → writes ≡ [] → kept ≡ params_of bytes row →
    IsSet bytes allowed row index bits writes kept
limit_kept bytes allowed row index bits lines writes set kept is over empty same =
    let none : allowed_writes allowed lines ≡ [] = ap (λ (b : Bool). cond b [] lines) over in
    record {
      number = is.number;
      meant = is.meant;
      written = empty ∙ sym none ∙ ap (allowed_writes allowed) is.written;
      shown = same ∙ ap (λ (l : List LineWrite). params_of (after bytes l) row) (sym empty);
    }

-- no more lines are needed than may be issued
pub limit_met : (bytes : List ℕ) (allowed : Option ℕ) (row : Var) (index bits : ℕ) (writes : List LineWrite) (value : Value) → IsSet bytes None row index bits writes value → exceeds allowed writes ≡ false → IsSet bytes allowed row index bits writes value
limit_met bytes allowed row index bits writes value is under =
    let all : allowed_writes allowed writes ≡ writes = ap (λ (b : Bool). cond b [] writes) under in
    record { number = is.number; meant = is.meant; written = sym all ∙ ap (allowed_writes allowed) is.written; shown = is.shown }
