-- What the lines of an act leave of the rows of the table.
use Rattle.std.proofs.Common.{◌≡◌, ◌≢◌, ◌⊎◌, inl, inr, ℕ, ◌+◌, ◌<◌, ◌≤◌, List, [], ◌∷◌, ◌++◌, length, take, refl, sym, ◌∙◌, ap, subst, arith, Option, Some, None, append-nil}
use Rattle.param_tree.specs.declared.Kind.{Kind}
use Rattle.param_tree.specs.declared.Var.{Var}
use Rattle.param_tree.specs.Rows.{vehicle_rows}
use Rattle.storage_lines.specs.declared.lines.LineWrite.{LineWrite}
use Rattle.storage_lines.specs.declared.lines.TheConstants.{STORAGE_BYTES}
use Rattle.storage_lines.specs.declared.areas.Area.TheVariants as area
use Rattle.storage_lines.specs.Areas.{size_of_area}
use Rattle.storage_lines.specs.Bytes.{IsBytes}
use Rattle.storage_lines.specs.Lines.{after, EachPrefix}
use Rattle.storage_lines.specs.Pieces.{writes_of, writes_of_piece}
use Rattle.storage_lines.proofs.LineLemmas.{after-append, length-after}
use Rattle.storage_lines.proofs.PieceLemmas.{pieces_in_steps}
use Rattle.storage_lines.proofs.PrefixLemmas.{prefix_append, prefix_nil}
use Rattle.param_records.specs.Records.{Record, records_of, end_of, value_in, place_from}
use Rattle.param_records.specs.Values.{params_of, value_in_records}
use Rattle.param_records.specs.Changes.{fresh, set_pieces, IsFull}
use Rattle.param_records.specs.Steps.{records_in_storage, place_of_row, ReadsBetween}
use Rattle.mission_commands.specs.declared.commands.Command.{Command}
use Rattle.mission_commands.specs.Storable.{IsStorable}
use Rattle.mission_records.specs.declared.reading.TheConstants.{CAPACITY, TOTAL_INDEX}
use Rattle.mission_records.specs.Mission.{version, total_row, place_of_command, command_bytes, total_writes, version_writes, command_writes, begin_writes, put_writes}
use Rattle.mission_records.specs.Steps.{IsFormatted}
use Rattle.mission_records.proofs.Commands.{length-command}
use Rattle.mission_records.proofs.Totals.{all_writes, Setting, sets, total_setting, zero_fits}
use Rattle.fence_records.specs.Lists as fences
use Rattle.mission_service.specs.declared.requests.MissionType.{MissionType}
use Rattle.mission_service.specs.declared.requests.MissionType.TheVariants.{Mission, Fence}
use Rattle.mission_service.specs.Uploads.{kinds, Missions}
use Rattle.mission_service.specs.Requests.{Begin, Clear}
use Rattle.mission_service.specs.Service.{clear_writes}
use Rattle.vehicle_laws.specs.Fitting.{ClearsOneOrAll}
use Rattle.vehicle_laws.specs.Uploads.{run_over}
use Rattle.vehicle_laws.specs.Rows.{total_to_set, KeepsParams, SetsTo, SetsOnly}
use Rattle.vehicle_laws.specs.Laws.{LawOfRecords}
use Rattle.vehicle_laws.proofs.ActLines.{OfRow, OfMissions, act_lines}
use Rattle.vehicle_laws.proofs.Fences.{clear_beside, replace_beside}
use Rattle.vehicle_laws.proofs.FenceSteps.{HasPlace, has_place}
use Rattle.vehicle_laws.proofs.Status.{status, fit_before, fit_since}

pub same_value : (a b : List ℕ) (row : Var) → KeepsParams b a → params_of a row ≡ params_of b row
same_value a b row p = ap (λ (l : List ℕ). value_in_records (records_of l) row) p

pub same_records : (a b : List ℕ) → KeepsParams b a → records_in_storage a ≡ records_in_storage b
same_records a b p = ap (λ (l : List ℕ). records_of l) p

same_place : (a b : List ℕ) (key element : ℕ) (kind : Kind) → KeepsParams b a → place_from 4 key element kind (records_in_storage a) ≡ place_from 4 key element kind (records_in_storage b)
same_place a b key element kind p = ap (λ (l : List ℕ). place_from 4 key element kind (records_of l)) p

abbrev Between : ℕ → Var → ℕ → List ℕ → List ℕ → Type 0
Between i row number old now = ReadsBetween vehicle_rows i row number old now

-- over the same parameters the rows read the same
same_reads : (i : ℕ) (row : Var) (number : ℕ) (old now old2 now2 : List ℕ) → KeepsParams old old2 → KeepsParams now now2 → Between i row number old now → Between i row number old2 now2
same_reads i row number old now old2 now2 po pn r =
    let place : place_of_row old2 row ≡ place_of_row old row = same_place old2 old row.key row.element row.kind po in
    let ro = same_records old2 old po in
    let rn = same_records now2 now pn in
    let vo = same_value old2 old row po in
    let vn = same_value now2 now row pn in
    record {
      front = ap (λ (l : List ℕ). take 4 l) pn ∙ r.front ∙ sym (ap (λ (l : List ℕ). take 4 l) po);
      others = λ k other ne is. same_value now2 now other pn ∙ r.others k other ne is ∙ sym (same_value old2 old other po);
      appended = λ none. elim (r.appended (sym place ∙ none)) [
        | inl absent ↦ inl (rn ∙ absent.0 ∙ sym ro, vn ∙ absent.1 ∙ sym vo)
        | inr whole ↦ inr (rn ∙ whole.0 ∙ ap (λ (rs : List Record). rs ++ fresh vehicle_rows row number ∷ []) (sym ro), vn ∙ whole.1)
      ];
      rewritten = λ at value there has.
          let torn = r.rewritten at value (sym place ∙ there) (sym (ap (λ (rs : List Record). value_in row.key row.element row.kind rs) ro) ∙ has) in
          (torn.0, torn.1, torn.2, vn ∙ torn.3);
      in_one_line = λ at there one. elim (r.in_one_line at (sym place ∙ there) one) [
        | inl same ↦ inl (vn ∙ same ∙ sym vo)
        | inr new ↦ inr (vn ∙ new)
      ];
      moves_none = λ at there. let m = r.moves_none at (sym place ∙ there) in record {
        places = λ key element kind. same_place now2 now key element kind pn ∙ m.places key element kind ∙ sym (same_place old2 old key element kind po);
        end = ap end_of pn ∙ m.end ∙ sym (ap end_of po);
      };
    }

-- lines that set a row, and lines after them that leave the parameters
sets_then : (i : ℕ) (row : Var) (number : ℕ) (b : List ℕ) (xs ys : List LineWrite) → SetsTo i row number b xs → EachPrefix (KeepsParams (after b xs)) (after b xs) ys → SetsTo i row number b (xs ++ ys)
sets_then i row number b xs ys s k =
    let mid = after b xs in
    let at_mid = all_writes (Between i row number b) b xs s.each in
    record {
      row_is = s.row_is;
      each = prefix_append (Between i row number b) b xs ys s.each (λ j h. same_reads i row number b mid b (after mid (take j ys)) refl (k j h) at_mid);
      whole = ap (λ (now : List ℕ). params_of now row) (after-append b xs ys) ∙ same_value (after mid ys) mid row (all_writes (KeepsParams mid) mid ys k) ∙ s.whole;
    }

-- lines that leave the parameters, and lines after them that set a row
then_sets : (i : ℕ) (row : Var) (number : ℕ) (b : List ℕ) (xs ys : List LineWrite) → EachPrefix (KeepsParams b) b xs → SetsTo i row number (after b xs) ys → SetsTo i row number b (xs ++ ys)
then_sets i row number b xs ys k s =
    let mid = after b xs in
    let p : KeepsParams b mid = all_writes (KeepsParams b) b xs k in
    let first : Between i row number mid mid = s.each 0 (omega arith) in
    record {
      row_is = s.row_is;
      each = prefix_append (Between i row number b) b xs ys (λ j h. same_reads i row number mid mid b (after b (take j xs)) (sym p) (k j h ∙ sym p) first)
          (λ j h. let now = after mid (take j ys) in same_reads i row number mid now b now (sym p) refl (s.each j h));
      whole = ap (λ (now : List ℕ). params_of now row) (after-append b xs ys) ∙ s.whole;
    }

pub row_sets : (bytes : List ℕ) (i : ℕ) (row : Var) (number : ℕ) → Setting bytes i row number → SetsTo i row number bytes (writes_of bytes (set_pieces vehicle_rows (records_in_storage bytes) row number))
row_sets bytes i row number s = let r = sets bytes i row number s in record { row_is = s.is; each = r.each; whole = r.whole s.formatted.magic }

keeps_none : (bytes : List ℕ) → EachPrefix (KeepsParams bytes) bytes []
keeps_none bytes = prefix_nil (KeepsParams bytes) bytes refl

mission_not_param : area.Mission ≢ area.Param
mission_not_param e = cc

pub piece_keeps : (at : ℕ) (new bytes : List ℕ) → length bytes ≡ STORAGE_BYTES → at + length new ≤ size_of_area area.Mission → EachPrefix (KeepsParams bytes) bytes (writes_of_piece area.Mission at new bytes)
piece_keeps at new bytes size fits j h = let steps = pieces_in_steps in steps.others area.Mission area.Param at new bytes j mission_not_param size fits h

abbrev SetsTotal : ℕ → List ℕ → List LineWrite → Type 0
SetsTotal number bytes ws = SetsTo TOTAL_INDEX total_row number bytes ws

total_zero : (bytes : List ℕ) → IsFormatted bytes → SetsTotal 0 bytes (total_writes bytes 0)
total_zero bytes f = row_sets bytes TOTAL_INDEX total_row 0 (total_setting bytes 0 f (omega arith) (zero_fits (records_in_storage bytes)))

begin_sets : (bytes : List ℕ) → IsFormatted bytes → SetsTotal 0 bytes (begin_writes bytes)
begin_sets bytes f =
    let w1 = total_writes bytes 0 in
    sets_then TOTAL_INDEX total_row 0 bytes w1 (version_writes (after bytes w1)) (total_zero bytes f) (piece_keeps 0 version (after bytes w1) (length-after bytes w1 ∙ f.size) (omega arith))

put_sets : (bytes : List ℕ) (n : ℕ) (c : Command) → IsFormatted bytes → IsStorable c → n < CAPACITY → ¬ IsFull (records_in_storage bytes) total_row (n + 1) → SetsTotal (n + 1) bytes (put_writes bytes n c)
put_sets bytes n c f storable few room =
    let at = place_of_command n in
    let new = command_bytes c in
    let long : length new ≡ 15 = length-command c storable in
    let fits : at + length new ≤ size_of_area area.Mission = omega arith in
    let w1 = command_writes bytes n c in
    let mid = after bytes w1 in
    let k = piece_keeps at new bytes f.size fits in
    let p : KeepsParams bytes mid = all_writes (KeepsParams bytes) bytes w1 k in
    let formatted : IsFormatted mid = record { size = length-after bytes w1 ∙ f.size; params = subst IsBytes (sym p) f.params; magic = ap (λ (l : List ℕ). take 4 l) p ∙ f.magic } in
    then_sets TOTAL_INDEX total_row (n + 1) bytes w1 (total_writes mid (n + 1)) k
    (row_sets mid TOTAL_INDEX total_row (n + 1) (total_setting mid (n + 1) formatted (omega arith) (λ g. room (subst (λ (rs : List Record). IsFull rs total_row (n + 1)) (same_records mid bytes p) g))))

-- the lines leave the parameters, or set MIS_TOTAL
abbrev OfTotal : List ℕ → List LineWrite → Type 0
OfTotal bytes ws = EachPrefix (KeepsParams bytes) bytes ws ⊎ ((number : ℕ) × SetsTotal number bytes ws)

fence_clears : (bytes : List ℕ) → length bytes ≡ STORAGE_BYTES → EachPrefix (KeepsParams bytes) bytes (fences.clear_fence_writes bytes)
fence_clears bytes size j h = (clear_beside bytes size j h).params

fence_keeps : (bytes : List ℕ) → IsFormatted bytes → EachPrefix (KeepsParams bytes) bytes (clear_writes bytes (Fence ∷ []))
unfolding clear_writes
fence_keeps bytes f = subst (EachPrefix (KeepsParams bytes) bytes) (sym (append-nil (fences.clear_fence_writes bytes))) (fence_clears bytes f.size)

nothing_set : (bytes : List ℕ) (row : Option ℕ) → SetsOnly row bytes []
nothing_set bytes None = keeps_none bytes
nothing_set bytes (Some index) = inl (keeps_none bytes)

one_clears : (bytes : List ℕ) (t : MissionType) → IsFormatted bytes → OfTotal bytes (clear_writes bytes (t ∷ []))
unfolding clear_writes
one_clears bytes Mission f = inr (0, subst (SetsTotal 0 bytes) (sym (append-nil (total_writes bytes 0))) (total_zero bytes f))
one_clears bytes Fence f = inl (fence_keeps bytes f)

all_clear : (bytes : List ℕ) → IsFormatted bytes → OfTotal bytes (clear_writes bytes kinds)
unfolding clear_writes
all_clear bytes f =
    let w1 = total_writes bytes 0 in
    let mid = after bytes w1 in
    let size : length mid ≡ STORAGE_BYTES = length-after bytes w1 ∙ f.size in
    inr (0, sets_then TOTAL_INDEX total_row 0 bytes w1 (fences.clear_fence_writes mid ++ []) (total_zero bytes f) (subst (EachPrefix (KeepsParams mid) mid) (sym (append-nil (fences.clear_fence_writes mid))) (fence_clears mid size)))

clears_total : (bytes : List ℕ) (types : List MissionType) → IsFormatted bytes → ClearsOneOrAll (Clear types) → OfTotal bytes (clear_writes bytes types)
clears_total bytes types f (inl one) = subst (λ (ts : List MissionType). OfTotal bytes (clear_writes bytes ts)) (sym one.1) (one_clears bytes one.0 f)
clears_total bytes types f (inr all) = subst (λ (ts : List MissionType). OfTotal bytes (clear_writes bytes ts)) (sym all) (all_clear bytes f)

total_only : (bytes : List ℕ) (ws : List LineWrite) → OfTotal bytes ws → SetsOnly (Some TOTAL_INDEX) bytes ws
total_only bytes ws (inl k) = inl k
total_only bytes ws (inr s) = inr (total_row, s.0, s.1)

of_row : (bytes : List ℕ) (index : ℕ) → IsFormatted bytes → OfRow (SetsOnly (Some index) bytes) bytes index
of_row bytes index f = record {
  none = inl (keeps_none bytes);
  sets = λ row number is kept room other. inr (row, number, row_sets bytes index row number (record { formatted = f; is = is; kept = kept; room = room }));
}

one_sets : (bytes : List ℕ) (t : MissionType) (count : ℕ) → IsFormatted bytes → SetsOnly (total_to_set (Begin t count)) bytes (clear_writes bytes (t ∷ []))
one_sets bytes Mission count f = total_only bytes (clear_writes bytes (Mission ∷ [])) (one_clears bytes Mission f)
one_sets bytes Fence count f = fence_keeps bytes f

of_missions : (bytes : List ℕ) (m : Missions) → IsFormatted bytes → HasPlace m → OfMissions (λ request. SetsOnly (total_to_set request) bytes) bytes m
of_missions bytes m f few = record {
  none = λ request. nothing_set bytes (total_to_set request);
  begins = λ count. total_only bytes (begin_writes bytes) (inr (0, begin_sets bytes f));
  empties = λ t count. one_sets bytes t count f;
  clears = λ types one. total_only bytes (clear_writes bytes types) (clears_total bytes types f one);
  puts = λ u seq c is storable room. total_only bytes (put_writes bytes u.expected c) (inr (u.expected + 1, put_sets bytes u.expected c f storable (few u is) room));
  replaces = λ seq i items ws e j h. (replace_beside bytes items f.size ws e j h).params;
}

pub law_of_records : LawOfRecords
law_of_records budget b acts act f fit =
    let r = run_over budget b acts in
    let bytes = after b r.issued in
    let st = status budget b acts f (fit_before acts (act ∷ []) fit) in
    let few = has_place budget b acts st in
    act_lines (λ row ws. SetsOnly row bytes ws) budget bytes r.machine.vehicle act
    (record { none = λ row. nothing_set bytes row; of_row = λ index. of_row bytes index st.formatted; of_missions = of_missions bytes r.machine.vehicle.missions st.formatted few })
    (fit_since acts (act ∷ []) fit).0
