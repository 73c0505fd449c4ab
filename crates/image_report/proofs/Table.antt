-- The lines of the vehicle's table, row by row.
use Rattle.std.proofs.Common.{◌≡◌, ◌≤◌, ℕ, ◌+◌, ◌++◌, List, [], ◌∷◌, Option, Some, refl, sym, ◌∙◌, ap, subst, take, drop, length}
use Rattle.std.specs.Prelude.{slice_get, Result, Ok, Err, IsErrAnd, IfSome}
use Rattle.std.specs.List.{flat_map}
use Rattle.std.proofs.lemmas.List.{append-nil, take-append-drop, take_more, take_all}
use Rattle.std.proofs.lemmas.Option.{slice_get_within, get_or_from_slice_get}
use Rattle.std.proofs.lemmas.Grind.{flat_map-append}
use Rattle.flash_traits.specs.declared.stream.Sink.{Ghosts}
use Rattle.param_tree.specs.declared.Var.{Var}
use Rattle.param_tree.specs.Rows.{vehicle_rows, basic_rows, single_rows, mission_rows, fence_rows, rally_rows, navigation_rows, sensor_rows, compass_rows, inertial_rows, flight_rows, battery_rows, attitude_rows, rate_rows, flight_mode_rows, servo_rows, rc_rows, each_from}
use Rattle.param_records.specs.declared.values.Value.{Value}
use Rattle.param_records.specs.Values.{params_of}
use Rattle.image_report.specs.Dumps.{param_text, param_line, param_lines}
use Rattle.image_report.specs.Steps.Writes.{Writes}
use Rattle.image_report.proofs.Writing.{writes_then, writes_cut, retext}

length-vehicle_rows : length vehicle_rows ≡ 240
unfolding vehicle_rows basic_rows single_rows mission_rows fence_rows rally_rows navigation_rows sensor_rows compass_rows inertial_rows flight_rows battery_rows attitude_rows rate_rows flight_mode_rows servo_rows rc_rows each_from
length-vehicle_rows = refl

one_more : (rows : List Var) (i : ℕ) (row : Var) → slice_get rows i ≡ Some row → take (i + 1) rows ≡ take i rows ++ row ∷ []
one_more rows i row is = take_more rows i row (slice_get_within rows i row is) ∙ ap (λ (r : Var). take i rows ++ r ∷ []) (get_or_from_slice_get rows i row row is)

-- one more row
rows_more : (f : Var → List ℕ) (rows : List Var) (i : ℕ) (row : Var) → slice_get rows i ≡ Some row → flat_map f (take i rows) ++ f row ≡ flat_map f (take (i + 1) rows)
rows_more f rows i row is =
    sym (ap (flat_map f) (one_more rows i row is) ∙ flat_map-append f (take i rows) (row ∷ []) ∙ ap (λ (l : List ℕ). flat_map f (take i rows) ++ l) (append-nil (f row)))

-- the first rows, and the rest
rows_split : (f : Var → List ℕ) (rows : List Var) (i : ℕ) → flat_map f (take i rows) ++ flat_map f (drop i rows) ≡ flat_map f rows
rows_split f rows i = sym (flat_map-append f (take i rows) (drop i rows)) ∙ ap (flat_map f) (take-append-drop i rows)

-- the lines of the first i rows
unfoldable pub lines_to : List ℕ → ℕ → List ℕ
lines_to bytes i = flat_map (param_line bytes) (take i vehicle_rows)

module _ {K : Type 0} (g : Ghosts K) where
  pub params_step : {S F T E : Type 0} (old mid new : K) (bytes : List ℕ) (table : List Var) (i : ℕ) (x : S) (r : Result T E) → table ≡ vehicle_rows
      → ((row : Var) × (slice_get table i ≡ Some row) × Writes g mid new r (param_line bytes row))
      → Writes {T = S} {E = F} g old mid (Ok x) (lines_to bytes i) → Writes g old new r (lines_to bytes (i + 1))
  unfolding lines_to
  params_step old mid new bytes table i x r rows step before =
      retext g old new r _ _ (rows_more (param_line bytes) vehicle_rows i step.0 (subst (λ (t : List Var). slice_get t i ≡ Some step.0) rows step.1))
      (writes_then g old mid new x r (lines_to bytes i) (param_line bytes step.0) before step.2)

  pub params_cut : {S F T E : Type 0} (old new : K) (bytes : List ℕ) (i : ℕ) (e : F) (r : Result T E) (P : E → Type 0) → IsErrAnd r P
      → Writes {T = S} {E = F} g old new (Err e) (lines_to bytes i) → Writes g old new r (param_lines bytes)
  unfolding lines_to param_lines
  params_cut old new bytes i e r P failed part =
      retext g old new r _ _ (rows_split (param_line bytes) vehicle_rows i) (writes_cut g old new e r P (lines_to bytes i) (flat_map (param_line bytes) (drop i vehicle_rows)) failed part)

  pub params_all : {T E : Type 0} (old new : K) (bytes : List ℕ) (i : ℕ) (r : Result T E) → 240 ≤ i → Writes g old new r (lines_to bytes i) → Writes g old new r (param_lines bytes)
  unfolding lines_to param_lines
  params_all old new bytes i r all part =
      retext g old new r _ _ (ap (flat_map (param_line bytes)) (take_all i vehicle_rows (subst (λ (n : ℕ). n ≤ i) (sym length-vehicle_rows) all))) part

-- a row's line is made of its value
pub line_is : (bytes : List ℕ) (table : List Var) (i : ℕ) (row : Var) (value : Value) → slice_get table i ≡ Some row → IfSome (slice_get table i) (λ row. value ≡ params_of bytes row) → param_text row value ≡ param_line bytes row
unfolding param_line
line_is bytes table i row value is holds = ap (param_text row) (subst (λ (o : Option Var). IfSome o (λ row. value ≡ params_of bytes row)) is holds)
