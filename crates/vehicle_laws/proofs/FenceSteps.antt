-- The fence after each number of the lines of an act.
use Rattle.std.proofs.Common.{◌≡◌, ◌≢◌, ◌⊎◌, inl, inr, ℕ, ◌+◌, ◌<◌, ◌≤◌, cond, List, [], ◌∷◌, ◌++◌, length, take, drop, refl, sym, ◌∙◌, ap, subst, arith}
use Rattle.param_tree.specs.declared.Var.{Var}
use Rattle.param_tree.specs.Rows.{vehicle_rows}
use Rattle.storage_lines.specs.declared.lines.LineWrite.{LineWrite}
use Rattle.storage_lines.specs.declared.lines.TheConstants.{STORAGE_BYTES}
use Rattle.storage_lines.specs.declared.areas.Area.TheVariants as area
use Rattle.storage_lines.specs.Areas.{logical_of, size_of_area}
use Rattle.storage_lines.specs.Bytes.{IsBytes}
use Rattle.storage_lines.specs.Lines.{after, EachPrefix}
use Rattle.storage_lines.specs.Pieces.{writes_of, writes_of_piece}
use Rattle.storage_lines.proofs.LineLemmas.{after-append, length-after}
use Rattle.storage_lines.proofs.PieceLemmas.{pieces_in_steps}
use Rattle.storage_lines.proofs.PrefixLemmas.{prefix_append, prefix_nil}
use Rattle.param_records.specs.Changes.{IsFull, set_pieces}
use Rattle.param_records.specs.Steps.{records_in_storage}
use Rattle.mission_commands.specs.declared.commands.Command.{Command}
use Rattle.mission_records.specs.declared.reading.TheConstants.{CAPACITY, TOTAL_INDEX}
use Rattle.mission_records.specs.Mission.{total_row, version, place_of_command, command_bytes, total_writes, version_writes, command_writes, begin_writes, put_writes}
use Rattle.mission_records.specs.Steps.{IsFormatted}
use Rattle.mission_commands.specs.Storable.{IsStorable}
use Rattle.mission_records.proofs.Commands.{length-command}
use Rattle.mission_records.proofs.Totals.{all_writes, Setting, sets, total_setting, zero_fits, clears}
use Rattle.fence_records.specs.declared.items.FenceItem.{FenceItem}
use Rattle.fence_records.specs.Write.{fence_area}
use Rattle.fence_records.specs.Fence.{items_of, fence_version as version_of_fence}
use Rattle.std.specs.Str.{bytes_eq}
use Rattle.std.specs.List.{flat_map}
use Rattle.param_records.specs.Records.{Record, records_of}
use Rattle.fence_records.specs.Lists as fences
use Rattle.fence_records.specs.Lists.{fence_of, FencesInSteps}
use Rattle.fence_records.proofs.Replaces.{fences_in_steps}
use Rattle.mission_service.specs.declared.requests.MissionType.{MissionType}
use Rattle.mission_service.specs.declared.requests.MissionType.TheVariants.{Mission, Fence}
use Rattle.mission_service.specs.Uploads.{Upload, Open, Missions}
use Rattle.mission_service.specs.Service.{clear_writes}
use Rattle.vehicle_core.specs.Acts.{Act}
use Rattle.vehicle_runs.specs.Runs.{did_in, act_done}
use Rattle.vehicle_laws.specs.Uploads.{run_over}
use Rattle.vehicle_laws.specs.Laws.{IsFenceOneOf, LawOfFences}
use Rattle.vehicle_laws.proofs.Keeping.{formatted_then}
use Rattle.vehicle_laws.proofs.ActLines.{OfRow, OfMissions, act_lines}
use Rattle.vehicle_laws.proofs.Fences.{clear_keeps}
use Rattle.vehicle_laws.proofs.Status.{Status, status, the_open, fit_before, fit_since}

-- the old fence, none, or the new one
abbrev pub FenceStep : List ℕ → List LineWrite → Type 0
FenceStep bytes ws = EachPrefix (IsFenceOneOf (fence_of bytes) (fence_of (after bytes ws))) bytes ws

-- the area is as before
abbrev HasFence : List ℕ → List ℕ → Type 0
HasFence bytes now = fence_area now ≡ fence_area bytes

abbrev Left : List ℕ → List LineWrite → Type 0
Left bytes ws = EachPrefix (HasFence bytes) bytes ws

pub same_fence : (a b : List ℕ) → fence_area a ≡ fence_area b → fence_of a ≡ fence_of b
same_fence a b e = ap (λ (l : List ℕ). cond (bytes_eq (take 4 l) version_of_fence) (flat_map items_of (fences.figures_in 416 (drop 4 l))) []) e

left_step : (bytes : List ℕ) (ws : List LineWrite) → Left bytes ws → FenceStep bytes ws
left_step bytes ws h j l = inl (same_fence (after bytes (take j ws)) bytes (h j l))

left_none : (bytes : List ℕ) → Left bytes []
left_none bytes = prefix_nil (HasFence bytes) bytes refl

none_step : (bytes : List ℕ) → FenceStep bytes []
none_step bytes = left_step bytes [] (left_none bytes)

param_not_fence : area.Param ≢ area.Fence
param_not_fence e = cc

mission_not_param : area.Mission ≢ area.Param
mission_not_param e = cc

mission_not_fence : area.Mission ≢ area.Fence
mission_not_fence e = cc

left_row : (bytes : List ℕ) (i : ℕ) (row : Var) (number : ℕ) → Setting bytes i row number → Left bytes (writes_of bytes (set_pieces vehicle_rows (records_in_storage bytes) row number))
left_row bytes i row number s j h = (sets bytes i row number s).areas j h area.Fence (λ e. param_not_fence (sym e))

left_piece : (at : ℕ) (new bytes : List ℕ) → length bytes ≡ STORAGE_BYTES → at + length new ≤ size_of_area area.Mission → Left bytes (writes_of_piece area.Mission at new bytes)
left_piece at new bytes size fits j h = let steps = pieces_in_steps in steps.others area.Mission area.Fence at new bytes j mission_not_fence size fits h

all_left : (bytes : List ℕ) (ws : List LineWrite) → Left bytes ws → fence_area (after bytes ws) ≡ fence_area bytes
all_left bytes ws h = all_writes (HasFence bytes) bytes ws h

left_then : (bytes : List ℕ) (xs ys : List LineWrite) → Left bytes xs → Left (after bytes xs) ys → Left bytes (xs ++ ys)
left_then bytes xs ys x y = prefix_append (HasFence bytes) bytes xs ys x (λ j h. y j h ∙ all_left bytes xs x)

left_begin : (bytes : List ℕ) → IsFormatted bytes → Left bytes (begin_writes bytes)
left_begin bytes f =
    let w1 = total_writes bytes 0 in
    left_then bytes w1 (version_writes (after bytes w1)) (left_row bytes TOTAL_INDEX total_row 0 (total_setting bytes 0 f (omega arith) (zero_fits (records_in_storage bytes))))
    (left_piece 0 version (after bytes w1) (length-after bytes w1 ∙ f.size) (omega arith))

left_put : (bytes : List ℕ) (n : ℕ) (c : Command) → IsFormatted bytes → IsStorable c → n < CAPACITY → ¬ IsFull (records_in_storage bytes) total_row (n + 1) → Left bytes (put_writes bytes n c)
left_put bytes n c f storable few room =
    let at = place_of_command n in
    let new = command_bytes c in
    let long : length new ≡ 15 = length-command c storable in
    let fits : at + length new ≤ size_of_area area.Mission = omega arith in
    let w1 = command_writes bytes n c in
    let mid = after bytes w1 in
    let in_param : logical_of area.Param mid ≡ logical_of area.Param bytes = all_writes (λ (now : List ℕ). logical_of area.Param now ≡ logical_of area.Param bytes) bytes w1 (λ j h. let steps = pieces_in_steps in steps.others area.Mission area.Param at new bytes j mission_not_param f.size fits h) in
    let formatted : IsFormatted mid = record { size = length-after bytes w1 ∙ f.size; params = subst IsBytes (sym in_param) f.params; magic = ap (λ (l : List ℕ). take 4 l) in_param ∙ f.magic } in
    let records : records_in_storage mid ≡ records_in_storage bytes = ap (λ (l : List ℕ). records_of l) in_param in
    left_then bytes w1 (total_writes mid (n + 1)) (left_piece at new bytes f.size fits)
    (left_row mid TOTAL_INDEX total_row (n + 1) (total_setting mid (n + 1) formatted (omega arith) (λ g. room (subst (λ (rs : List Record). IsFull rs total_row (n + 1)) records g))))

-- clearing types leaves the old fence or none
abbrev IsOldOrNone : List ℕ → List ℕ → Type 0
IsOldOrNone bytes now = (fence_of now ≡ fence_of bytes) ⊎ (fence_of now ≡ [])

abbrev OldOrNone : List ℕ → List LineWrite → Type 0
OldOrNone bytes ws = EachPrefix (IsOldOrNone bytes) bytes ws

old_or_none_then : (bytes : List ℕ) (xs ys : List LineWrite) → OldOrNone bytes xs → OldOrNone (after bytes xs) ys → OldOrNone bytes (xs ++ ys)
old_or_none_then bytes xs ys x y = prefix_append (IsOldOrNone bytes) bytes xs ys x (λ j h. elim (y j h) [
  | inl same ↦ elim (all_writes (IsOldOrNone bytes) bytes xs x) [ inl old ↦ inl (same ∙ old) | inr none ↦ inr (same ∙ none) ]
  | inr none ↦ inr none
])

left_old : (bytes : List ℕ) (ws : List LineWrite) → Left bytes ws → OldOrNone bytes ws
left_old bytes ws h j l = inl (same_fence (after bytes (take j ws)) bytes (h j l))

clears_types : FencesInSteps → (types : List MissionType) (bytes : List ℕ) → IsFormatted bytes → OldOrNone bytes (clear_writes bytes types)
unfolding clear_writes
clears_types q [] bytes f = left_old bytes [] (left_none bytes)
clears_types q (Mission ∷ ts) bytes f =
    let w1 = total_writes bytes 0 in
    old_or_none_then bytes w1 (clear_writes (after bytes w1) ts) (left_old bytes w1 (left_row bytes TOTAL_INDEX total_row 0 (total_setting bytes 0 f (omega arith) (zero_fits (records_in_storage bytes)))))
    (clears_types q ts (after bytes w1) (formatted_then bytes w1 (clears bytes f).stays))
clears_types q (Fence ∷ ts) bytes f =
    let w1 = fences.clear_fence_writes bytes in
    old_or_none_then bytes w1 (clear_writes (after bytes w1) ts) (λ j h. q.clears bytes j f.size)
    (clears_types q ts (after bytes w1) (formatted_then bytes w1 (clear_keeps bytes f).stays))

-- the next item of an open upload of a mission has a place
abbrev pub HasPlace : Missions → Type 0
HasPlace m = (u : Upload) → m.mission ≡ Open u → u.expected < CAPACITY

fence_row : (bytes : List ℕ) (index : ℕ) → IsFormatted bytes → OfRow (FenceStep bytes) bytes index
fence_row bytes index f = record {
  none = none_step bytes;
  sets = λ row number is kept room other. left_step bytes (writes_of bytes (set_pieces vehicle_rows (records_in_storage bytes) row number))
      (left_row bytes index row number (record { formatted = f; is = is; kept = kept; room = room }));
}

fence_missions : FencesInSteps → (bytes : List ℕ) (m : Missions) → IsFormatted bytes → HasPlace m → OfMissions (λ request. FenceStep bytes) bytes m
fence_missions q bytes m f few = record {
  none = λ request. none_step bytes;
  empties = λ t count j h. elim (clears_types q (t ∷ []) bytes f j h) [ inl old ↦ inl old | inr none ↦ inr (inl none) ];
  begins = λ count. left_step bytes (begin_writes bytes) (left_begin bytes f);
  clears = λ types one j h. elim (clears_types q types bytes f j h) [ inl old ↦ inl old | inr none ↦ inr (inl none) ];
  puts = λ u seq c is storable room. left_step bytes (put_writes bytes u.expected c) (left_put bytes u.expected c f storable (few u is) room);
  replaces = λ seq i items ws e j h. q.replaces bytes items ws j f.size e;
}

-- at each act of a run
pub has_place : (budget : ℕ) (b : List ℕ) (acts : List Act) → Status budget b acts → HasPlace (run_over budget b acts).machine.vehicle.missions
has_place budget b acts st u e =
    let o = (the_open budget b acts u st e).ongoing in
    let same : u ≡ o.upload = let two : Open u ≡ Open o.upload = sym e ∙ o.is in cc in
    omega (arith, ap (λ (w : Upload). w.expected) same, o.expected, o.below, o.few)

pub law_of_fences : LawOfFences
law_of_fences budget b acts act f fit =
    let q = fences_in_steps in
    let r = run_over budget b acts in
    let bytes = after b r.issued in
    let ws = (did_in budget b r act).writes in
    let st = status budget b acts f (fit_before acts (act ∷ []) fit) in
    let few = has_place budget b acts st in
    let x = act_lines (λ row ws. FenceStep bytes ws) budget bytes r.machine.vehicle act
    (record { none = λ row. none_step bytes; of_row = λ index. fence_row bytes index st.formatted; of_missions = fence_missions q bytes r.machine.vehicle.missions st.formatted few })
    (fit_since acts (act ∷ []) fit).0 in
    let end : after b (act_done budget b r act).issued ≡ after bytes ws = after-append b r.issued ws in
    subst (λ (new : List FenceItem). EachPrefix (IsFenceOneOf (fence_of bytes) new) bytes ws) (sym (ap fence_of end)) x
