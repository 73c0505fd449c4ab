-- Setting MIS_TOTAL by the rows of the table, and what the calls append.
use Rattle.std.proofs.Common.{◌≡◌, ℕ, ◌+◌, ◌<◌, ◌≤◌, List, ◌++◌, length, drop, refl, sym, ◌∙◌, ap, subst, arith, Some}
use Rattle.std.specs.Prelude.{All, slice_get, IfSome, OnOk, IfErr, IsErr, Result, ◌↔◌, ℤ, pos}
use mir.Val.{to_z, of_z}
use Rattle.std.specs.Int.{w32}
use Rattle.std.proofs.Math.Facts.{to_z-of_z}
use Rattle.std.proofs.lemmas.Int.{ints}
use Rattle.std.proofs.lemmas.List.{drop_at, append_assoc}
use Rattle.storage_lines.specs.declared.lines.LineWrite.{LineWrite}
use Rattle.storage_lines.specs.declared.lines.TheConstants.{STORAGE_BYTES}
use Rattle.storage_lines.specs.declared.areas.Area.TheVariants.{Param, Mission}
use Rattle.storage_lines.specs.Areas.{logical_of, size_of_area}
use Rattle.storage_lines.specs.Lines.{after}
use Rattle.storage_lines.specs.Pieces.{writes_of_piece, writes_of}
use Rattle.storage_lines.proofs.LineLemmas.{length-after, after-append}
use Rattle.param_tree.specs.declared.Var.{Var}
use Rattle.param_tree.specs.Rows.{vehicle_rows}
use Rattle.param_records.specs.declared.setting.SetError.{SetError}
use Rattle.param_records.specs.declared.setting.SetError.TheVariants.{Full}
use Rattle.mission_commands.specs.declared.commands.Command.{Command}
use Rattle.mission_commands.specs.Storable.{IsStorable}
use Rattle.param_records.specs.Records.{records_of, end_of, place_from}
use Rattle.param_records.specs.Changes.{set_pieces, IsFull, SamePlaces}
use Rattle.param_records.specs.Patterns.{IsInRangeOf, number_of_whole}
use Rattle.param_records.specs.Steps.{records_in_storage}
use Rattle.param_records.proofs.SetLemmas.{is_some, on_ok}
use Rattle.mission_records.specs.declared.reading.TheConstants.{CAPACITY, TOTAL_INDEX}
use Rattle.mission_records.specs.Mission.{version, total_row, mission_of, total_writes, version_writes, command_writes, begin_writes, put_writes}
use Rattle.mission_records.specs.Steps.{IsFormatted, HasVersion, PutsCommand}
use Rattle.mission_records.proofs.Totals.{all_writes, total_there}
use Rattle.mission_records.proofs.Puts.{KeepsParams, in_mission, puts}

pub row_there : (rows : List Var) → rows ≡ vehicle_rows → slice_get rows TOTAL_INDEX ≡ Some total_row
row_there rows e = ap (λ (l : List Var). slice_get l TOTAL_INDEX) e ∙ total_there

pub row_is_total : (rows : List Var) (row : Var) → rows ≡ vehicle_rows → slice_get rows TOTAL_INDEX ≡ Some row → row ≡ total_row
row_is_total rows row e there = let both : Some row ≡ Some total_row = sym there ∙ row_there rows e in cc

-- a small number is the same in 32 bits
pub back : (z : ℤ) (n : ℕ) → z ≡ pos n → n ≤ CAPACITY → to_z w32 (of_z w32 z) ≡ pos n
back z n e h = ap (λ (x : ℤ). to_z w32 (of_z w32 x)) e ∙ to_z-of_z {w = w32} {z = pos n} (omega (arith, ints))

pub in_range : (rows : List Var) (n : ℕ) (z : ℤ) → z ≡ pos n → rows ≡ vehicle_rows → n ≤ CAPACITY → IfSome (slice_get rows TOTAL_INDEX) (λ row. IsInRangeOf row.kind z)
in_range rows n z is e h = subst (λ (x : ℤ). IfSome (slice_get rows TOTAL_INDEX) (λ row. IsInRangeOf row.kind x)) (sym is) (subst (λ (o : _). IfSome o (λ row. IsInRangeOf row.kind (pos n))) (sym (row_there rows e)) (omega (arith, ints), omega (arith, ints)))

pub set_ok : (r : Result (Unit {0}) SetError) (rows : List Var) (n : ℕ) (z : ℤ) → z ≡ pos n → (before : List ℕ) (old new : List LineWrite) → rows ≡ vehicle_rows
    → OnOk r (IfSome (slice_get rows TOTAL_INDEX) (λ row. new ≡ old ++ writes_of before (set_pieces rows (records_in_storage before) row (number_of_whole z)))) → OnOk r (new ≡ old ++ total_writes before n)
set_ok r rows n z is before old new e h = on_ok r _ _ h (λ fine w.
    is_some (slice_get rows TOTAL_INDEX) (λ (row : Var). new ≡ old ++ writes_of before (set_pieces rows (records_in_storage before) row (number_of_whole z))) total_row (row_there rows e) w
    ∙ ap (λ (x : ℤ). old ++ writes_of before (set_pieces rows (records_in_storage before) total_row (number_of_whole x))) is
    ∙ ap (λ (l : List Var). old ++ writes_of before (set_pieces l (records_in_storage before) total_row n)) e)

pub set_full : (r : Result (Unit {0}) SetError) (rows : List Var) (n : ℕ) (z : ℤ) → z ≡ pos n → (before : List ℕ) → rows ≡ vehicle_rows
    → IfSome (slice_get rows TOTAL_INDEX) (λ row. IsErr r ↔ IsFull (records_in_storage before) row (number_of_whole z)) → IsErr r ↔ IsFull (records_in_storage before) total_row n
set_full r rows n z is before e h =
    let both = is_some (slice_get rows TOTAL_INDEX) (λ (row : Var). IsErr r ↔ IsFull (records_in_storage before) row (number_of_whole z)) total_row (row_there rows e) h in
    subst (λ (x : ℤ). IsErr r ↔ IsFull (records_in_storage before) total_row (number_of_whole x)) is both

-- the records of the rows are where they were before, over these bytes of the parameters' area
abbrev PlacesOver : List Var → List ℕ → List ℕ → Type 0
PlacesOver rows old area = All (λ row. place_from 4 row.key row.element row.kind (records_of area)
    ≡ place_from 4 row.key row.element row.kind (records_of (logical_of Param old))) rows

-- the same places, over the same bytes of the parameters' area
pub same_places : (rows : List Var) (old mid now : List ℕ) → KeepsParams mid now → SamePlaces rows old mid → SamePlaces rows old now
same_places rows old mid now e s = record { places = subst (PlacesOver rows old) (sym e) s.places; end = ap end_of e ∙ s.end }

-- a piece of the mission's area leaves the parameters
pub piece_beside : (at : ℕ) (new current : List ℕ) (old mid : List LineWrite) → length current ≡ STORAGE_BYTES → at + length new ≤ size_of_area Mission
    → mid ≡ old ++ writes_of_piece Mission at new (after current old)
    → (after current mid ≡ after (after current old) (writes_of_piece Mission at new (after current old))) × KeepsParams (after current old) (after current mid)
piece_beside at new current old mid size fits e =
    let b = after current old in
    let ws = writes_of_piece Mission at new b in
    let then : after current mid ≡ after b ws = ap (λ (l : List LineWrite). after current l) e ∙ after-append current old ws in
    (then, ap (λ (c : List ℕ). logical_of Param c) then ∙ all_writes (KeepsParams b) b ws (in_mission at new b (length-after current old ∙ size) fits))

-- what is appended comes after the old items
pub appended : (old new ws : List LineWrite) → new ≡ old ++ ws → drop (length old) new ≡ ws
appended old new ws e = ap (λ (l : List LineWrite). drop (length old) l) e ∙ drop_at old ws (length old) refl

-- the version comes after MIS_TOTAL
pub begin_items : (current : List ℕ) (old mid new : List LineWrite) → let before = after current old in mid ≡ old ++ total_writes before 0
    → new ≡ mid ++ writes_of_piece Mission 0 version (after current mid) → new ≡ old ++ begin_writes before
begin_items current old mid new first second =
    let b = after current old in
    let ws = total_writes b 0 in
    let then : after current mid ≡ after b ws = ap (λ (l : List LineWrite). after current l) first ∙ after-append current old ws in
    second ∙ ap (λ (l : List LineWrite). l ++ writes_of_piece Mission 0 version (after current mid)) first ∙ ap (λ (c : List ℕ). (old ++ ws) ++ version_writes c) then ∙ append_assoc old ws (version_writes (after b ws))

-- MIS_TOTAL comes after the command
pub put_items : (current : List ℕ) (old mid new : List LineWrite) (i : ℕ) (c : Command) → let before = after current old in mid ≡ old ++ command_writes before i c
    → new ≡ mid ++ total_writes (after current mid) (i + 1) → new ≡ old ++ put_writes before i c
put_items current old mid new i c first second =
    let b = after current old in
    let ws = command_writes b i c in
    let then : after current mid ≡ after b ws = ap (λ (l : List LineWrite). after current l) first ∙ after-append current old ws in
    second ∙ ap (λ (l : List LineWrite). l ++ total_writes (after current mid) (i + 1)) first ∙ ap (λ (x : List ℕ). (old ++ ws) ++ total_writes x (i + 1)) then ∙ append_assoc old ws (total_writes (after b ws) (i + 1))

-- the mission's records of MIS_TOTAL are as full as before
pub same_full : (r : Result (Unit {0}) SetError) (n : ℕ) (old now : List ℕ) → KeepsParams old now → IsErr r ↔ IsFull (records_in_storage now) total_row n → IsErr r ↔ IsFull (records_in_storage old) total_row n
same_full r n old now e h = subst (λ (l : List ℕ). IsErr r ↔ IsFull (records_of l) total_row n) e h

pub same_end : (r : Result (Unit {0}) SetError) (old now : List ℕ) → KeepsParams old now → IfErr r (λ e. e ≡ Full (end_of (logical_of Param now))) → IfErr r (λ e. e ≡ Full (end_of (logical_of Param old)))
same_end r old now e h = subst (λ (l : List ℕ). IfErr r (λ x. x ≡ Full (end_of l))) e h

-- a command that is put at the end
pub puts_here : (b : List ℕ) (i : ℕ) (c : Command) (ws : List LineWrite) → ws ≡ put_writes b i c → i < CAPACITY → ¬ IsFull (records_in_storage b) total_row (i + 1)
    → IsFormatted b → HasVersion b → IsStorable c → i ≡ length (mission_of b) → PutsCommand c b ws
puts_here b i c ws is few room formatted v storable last =
    let n = length (mission_of b) in
    subst (PutsCommand c b) (sym (is ∙ ap (λ (k : ℕ). put_writes b k c) last))
    (puts b c formatted v storable (omega arith) (λ f. room (subst (λ (k : ℕ). IsFull (records_in_storage b) total_row (k + 1)) (sym last) f)))
