-- What setting a row leaves of the mission.
use Rattle.std.proofs.Common.{◌≡◌, ◌≢◌, inl, inr, ℕ, ◌+◌, ◌≤◌, Bool, true, false, cond, List, [], ◌∷◌, ◌++◌, length, get_or, take, refl, sym, ◌∙◌, ap, subst, arith, Option, Some, None}
use Rattle.std.specs.Prelude.{IsTrue, slice_get, pos}
use Rattle.std.proofs.lemmas.Int.{ints}
use Rattle.std.proofs.lemmas.List.{take_all}
use Rattle.param_tree.specs.declared.Kind.{Kind}
use Rattle.param_tree.specs.declared.Kind.TheVariants.{I16}
use Rattle.param_tree.specs.declared.Var.{Var}
use Rattle.param_tree.specs.Rules.{row_fits}
use Rattle.param_tree.specs.Rows.{vehicle_rows, basic_rows, single_rows, mission_rows}
use Rattle.param_tree.proofs.Vehicle.{vehicle_is_table}
use Rattle.storage_lines.specs.declared.lines.LineWrite.{LineWrite}
use Rattle.storage_lines.specs.declared.areas.Area.TheVariants.{Param, Mission}
use Rattle.storage_lines.specs.Areas.{logical_of}
use Rattle.storage_lines.specs.Bytes.{IsBytes}
use Rattle.storage_lines.specs.Lines.{after, EachPrefix}
use Rattle.storage_lines.specs.Pieces.{writes_of}
use Rattle.storage_lines.proofs.LineLemmas.{length-after}
use Rattle.param_records.specs.Records.{Record, encoding, matches, place_from}
use Rattle.param_records.specs.Values.{value_of_number, params_of}
use Rattle.param_records.specs.Changes.{fresh, set_pieces, IsFull}
use Rattle.param_records.specs.Steps.{IsKept, records_in_storage, place_of_row, ReadsBetween, SetsRow}
use Rattle.param_records.proofs.OtherAreas.{set_pieces_fit}
use Rattle.param_records.proofs.SetLemmas.{kept_whole, whole_value}
use Rattle.param_records.proofs.StepLemmas.{set_steps}
use Rattle.param_records.proofs.StoreLemmas.{get_all, row_is, full_parts}
use Rattle.mission_records.specs.declared.reading.TheConstants.{CAPACITY, TOTAL_INDEX}
use Rattle.mission_records.specs.Mission.{total_row, mission_area, count_of, mission_of, total_writes}
use Rattle.mission_records.specs.Steps.{IsFormatted, IsTotalInOneLine, StaysFormatted, ClearsInSteps, SetsNoMission}
use Rattle.mission_records.proofs.Pieces.{all_low, set_of_bytes}
use Rattle.mission_records.proofs.Commands.{same_total, empty_mission, same_mission}

-- what holds after each prefix holds after all
pub all_writes : (P : List ℕ → Type 0) (b : List ℕ) (ws : List LineWrite) → EachPrefix P b ws → P (after b ws)
all_writes P b ws h = subst (λ (x : List LineWrite). P (after b x)) (take_all (length ws) ws (omega arith)) (h (length ws) (omega arith))

-- the row of MIS_TOTAL stands in the table
pub total_there : slice_get vehicle_rows TOTAL_INDEX ≡ Some total_row
unfolding vehicle_rows basic_rows single_rows mission_rows
total_there = refl

-- MIS_TOTAL keeps each number that a mission has
pub total_kept : (n : ℕ) → n ≤ CAPACITY → IsKept I16 n
total_kept n h = kept_whole I16 (pos n) (omega (arith, ints), omega (arith, ints))

pub total_number : (n : ℕ) → n ≤ CAPACITY → count_of (value_of_number I16 n) ≡ n
total_number n h = ap count_of (whole_value I16 (pos n) (omega (arith, ints), omega (arith, ints)))

place_chosen : (t : Bool) (x y z : Option ℕ) (at : ℕ) → (y ≡ Some at → z ≡ Some at) → cond t x y ≡ Some at → cond t x z ≡ Some at
place_chosen true x y z at f h = h
place_chosen false x y z at f h = f h

-- a first record stays the first one
place_stays : (start k e : ℕ) (kind : Kind) (rs more : List Record) (at : ℕ) → place_from start k e kind rs ≡ Some at → place_from start k e kind (rs ++ more) ≡ Some at
place_stays start k e kind [] more at h = cc
place_stays start k e kind (r ∷ rs) more at h = place_chosen (matches k e kind r) (Some (start + 4)) (place_from (start + length (encoding r)) k e kind rs) (place_from (start + length (encoding r)) k e kind (rs ++ more)) at
    (place_stays (start + length (encoding r)) k e kind rs more at) h

-- setting a row of the vehicle's table
pub record Setting (bytes : List ℕ) (i : ℕ) (row : Var) (number : ℕ) : Type 0 where
  pub formatted : IsFormatted bytes
  pub is : slice_get vehicle_rows i ≡ Some row
  pub kept : IsKept row.kind number
  pub room : ¬ IsFull (records_in_storage bytes) row number

abbrev pub row_writes : List ℕ → Var → ℕ → List LineWrite
row_writes bytes row number = writes_of bytes (set_pieces vehicle_rows (records_in_storage bytes) row number)

pub sets : (bytes : List ℕ) (i : ℕ) (row : Var) (number : ℕ) → Setting bytes i row number → SetsRow vehicle_rows i row number bytes (row_writes bytes row number)
sets bytes i row number s = set_steps bytes vehicle_rows i row number s.formatted.size s.formatted.params vehicle_is_table s.is s.kept s.room

stay_bytes : (bytes : List ℕ) (i : ℕ) (row : Var) (number : ℕ) → Setting bytes i row number → EachPrefix (λ now. IsBytes (logical_of Param now)) bytes (row_writes bytes row number)
stay_bytes bytes i row number s =
    let fits = row_is row (get_all (λ (x : Var). IsTrue (row_fits x)) vehicle_rows i row vehicle_is_table.fitting s.is) in
    all_low bytes (set_pieces vehicle_rows (records_in_storage bytes) row number) s.formatted.size
    (set_pieces_fit vehicle_rows bytes row number s.formatted.params fits s.room) (set_of_bytes vehicle_rows (records_in_storage bytes) row number) s.formatted.params

-- MIS_TOTAL stays in one line
pub same_place : (old now : List ℕ) → place_of_row now total_row ≡ place_of_row old total_row → IsTotalInOneLine old → IsTotalInOneLine now
same_place old now e t = record { at = t.at; there = e ∙ t.there; one_line = t.one_line }

stays_in_line : (old now : List ℕ) (i : ℕ) (row : Var) (number : ℕ) → ReadsBetween vehicle_rows i row number old now → (place : Option ℕ) → place_of_row old row ≡ place → IsTotalInOneLine old → IsTotalInOneLine now
stays_in_line old now i row number r (Some at) here t = same_place old now ((r.moves_none at here).places 20 1 I16) t
stays_in_line old now i row number r None none t = elim (r.appended none) [
  | inl absent ↦ same_place old now (ap (λ (rs : List Record). place_from 4 20 1 I16 rs) absent.0) t
  | inr added ↦ record {
    at = t.at;
    there = ap (λ (rs : List Record). place_from 4 20 1 I16 rs) added.0 ∙ place_stays 4 20 1 I16 (records_in_storage old) (fresh vehicle_rows row number ∷ []) t.at t.there;
    one_line = t.one_line;
  }
]

-- the bytes stay formatted
pub stays : (bytes : List ℕ) (i : ℕ) (row : Var) (number : ℕ) → Setting bytes i row number → EachPrefix (StaysFormatted bytes) bytes (row_writes bytes row number)
stays bytes i row number s j h =
    let now = after bytes (take j (row_writes bytes row number)) in
    let r = (sets bytes i row number s).each j h in
    record {
      formatted = record { size = length-after bytes (take j (row_writes bytes row number)) ∙ s.formatted.size; params = stay_bytes bytes i row number s j h; magic = r.front ∙ s.formatted.magic };
      one_line = stays_in_line bytes now i row number r (place_of_row bytes row) refl;
    }

mission_not_param : Mission ≢ Param
mission_not_param e = cc

-- the mission's area is as before
pub same_area : (bytes : List ℕ) (i : ℕ) (row : Var) (number : ℕ) → Setting bytes i row number → EachPrefix (λ now. mission_area now ≡ mission_area bytes) bytes (row_writes bytes row number)
same_area bytes i row number s j h = (sets bytes i row number s).areas j h Mission mission_not_param

-- over the same area with the same value of MIS_TOTAL
pub mission_stays : (a b : List ℕ) → mission_area a ≡ mission_area b → params_of a total_row ≡ params_of b total_row → mission_of a ≡ mission_of b
mission_stays a b m p = same_mission a b (same_total a b (ap (λ (l : List ℕ). take 4 l) m) p) (λ k h. ap (λ (l : List ℕ). get_or l k 0) m)

pub sets_no_mission : SetsNoMission
sets_no_mission bytes var row number formatted other is kept room =
    let s : Setting bytes var row number = record { formatted = formatted; is = is; kept = kept; room = room } in
    let ws = row_writes bytes row number in
    record {
      stays = stays bytes var row number s;
      same = λ j h. mission_stays (after bytes (take j ws)) bytes (same_area bytes var row number s j h) (((sets bytes var row number s).each j h).others TOTAL_INDEX total_row (λ e. other (sym e)) total_there);
      versioned = λ v. ap (λ (l : List ℕ). take 4 l) (all_writes (λ (now : List ℕ). mission_area now ≡ mission_area bytes) bytes ws (same_area bytes var row number s)) ∙ v;
    }

-- setting MIS_TOTAL
pub total_setting : (bytes : List ℕ) (n : ℕ) → IsFormatted bytes → n ≤ CAPACITY → ¬ IsFull (records_in_storage bytes) total_row n → Setting bytes TOTAL_INDEX total_row n
total_setting bytes n formatted few room = record { formatted = formatted; is = total_there; kept = total_kept n few; room = room }

pub zero_fits : (records : List Record) → ¬ IsFull records total_row 0
zero_fits records f = (full_parts records total_row 0 f).other refl

pub clears : ClearsInSteps
clears bytes formatted =
    let s = total_setting bytes 0 formatted (omega arith) (zero_fits (records_in_storage bytes)) in
    let ws = total_writes bytes 0 in
    let r = sets bytes TOTAL_INDEX total_row 0 s in
    record {
      stays = stays bytes TOTAL_INDEX total_row 0 s;
      each = λ t j h. let now = after bytes (take j ws) in elim ((r.each j h).in_one_line t.at t.there t.one_line) [
        | inl old ↦ inl (mission_stays now bytes (same_area bytes TOTAL_INDEX total_row 0 s j h) old)
        | inr new ↦ inr (empty_mission now (ap count_of new))
      ];
      whole = empty_mission (after bytes ws) (ap count_of (r.whole formatted.magic));
    }
