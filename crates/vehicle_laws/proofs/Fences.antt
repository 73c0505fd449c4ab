-- Writing and clearing a fence leaves the parameters and the mission.
use Rattle.std.proofs.Common.{◌≡◌, ◌≢◌, ℕ, ◌+◌, ◌≤◌, List, [], ◌∷◌, ◌++◌, length, take, drop, sym, ◌∙◌, ap, subst, arith, Option, Some, None}
use Rattle.std.specs.Prelude.{Result, Ok, Err, nat_lt, count_by}
use Rattle.std.proofs.lemmas.List.{length-take, length-drop}
use Rattle.std.proofs.lemmas.Bool.{cond_both}
use Rattle.std.proofs.lemmas.Bool.Decides.{nat_tests}
use Rattle.storage_lines.specs.declared.lines.LineWrite.{LineWrite}
use Rattle.storage_lines.specs.declared.lines.TheConstants.{STORAGE_BYTES}
use Rattle.storage_lines.specs.declared.areas.Area.TheVariants as area
use Rattle.storage_lines.specs.Areas.{spans_of, put_in}
use Rattle.storage_lines.specs.Lines.{after, EachPrefix}
use Rattle.storage_lines.specs.Pieces.{writes_of_piece}
use Rattle.storage_lines.proofs.AreaLemmas.{length-put_in}
use Rattle.storage_lines.proofs.ApartLemmas.{whole_changes}
use Rattle.storage_lines.proofs.PieceLemmas.{pieces_in_steps}
use Rattle.fence_records.specs.declared.items.FenceItem.{FenceItem}
use Rattle.fence_records.specs.Fence.{Figure, fence_version}
use Rattle.fence_records.specs.Write.{encoded, without_fence, with_records, fence_writes}
use Rattle.fence_records.specs.Lists.{clear_fence_writes, replace_writes, figure_writes, figures_of, is_return_point}
use Rattle.mission_records.specs.Steps.{IsFormatted, KeepsMission, IsBeside}
use Rattle.storage_lines.proofs.PrefixLemmas.{prefix_append}
use Rattle.storage_lines.proofs.LineLemmas.{length-after}
use Rattle.mission_records.proofs.Totals.{all_writes}
use Rattle.mission_records.proofs.Puts.{others_keep}

fence_not_param : area.Fence ≢ area.Param
fence_not_param e = cc

fence_not_mission : area.Fence ≢ area.Mission
fence_not_mission e = cc

beside_then : (bytes : List ℕ) (xs ys : List LineWrite) → EachPrefix (IsBeside bytes) bytes xs → EachPrefix (IsBeside (after bytes xs)) (after bytes xs) ys → EachPrefix (IsBeside bytes) bytes (xs ++ ys)
beside_then bytes xs ys x y =
    let mid = all_writes (IsBeside bytes) bytes xs x in
    prefix_append (IsBeside bytes) bytes xs ys x (λ j h. let now = y j h in record { params = now.params ∙ mid.params; mission = now.mission ∙ mid.mission })

piece_beside : (at : ℕ) (new bytes : List ℕ) → length bytes ≡ STORAGE_BYTES → at + length new ≤ 416 → EachPrefix (IsBeside bytes) bytes (writes_of_piece area.Fence at new bytes)
piece_beside at new bytes size fits j h = let steps = pieces_in_steps in record {
  params = steps.others area.Fence area.Param at new bytes j fence_not_param size fits h;
  mission = steps.others area.Fence area.Mission at new bytes j fence_not_mission size fits h;
}

-- the lines that clear a fence leave the parameters and the mission
pub clear_beside : (bytes : List ℕ) → length bytes ≡ STORAGE_BYTES → EachPrefix (IsBeside bytes) bytes (clear_fence_writes bytes)
clear_beside bytes size = piece_beside 0 (fence_version ++ 99 ∷ []) bytes size (omega arith)

-- the bytes after the piece are those that were meant
put_there : (at : ℕ) (new bytes : List ℕ) → length bytes ≡ STORAGE_BYTES → after bytes (writes_of_piece area.Fence at new bytes) ≡ put_in (spans_of area.Fence) at new bytes
put_there at new bytes size = whole_changes bytes (put_in (spans_of area.Fence) at new bytes) size (length-put_in (spans_of area.Fence) at new bytes ∙ size)

fence_beside : (new bytes : List ℕ) → length bytes ≡ STORAGE_BYTES → length new ≤ 416 → EachPrefix (IsBeside bytes) bytes (fence_writes new bytes)
fence_beside new bytes size fits =
    let w1 = writes_of_piece area.Fence 0 (fence_version ++ 99 ∷ []) bytes in
    let c1 = without_fence bytes in
    let k1 = piece_beside 0 (fence_version ++ 99 ∷ []) bytes size (omega arith) in
    let e1 : after bytes w1 ≡ c1 = put_there 0 (fence_version ++ 99 ∷ []) bytes size in
    let size1 : length c1 ≡ STORAGE_BYTES = ap (λ (l : List ℕ). length l) (sym e1) ∙ length-after bytes w1 ∙ size in
    let w2 = writes_of_piece area.Fence 8 (drop 8 new) c1 in
    let c2 = with_records new bytes in
    let k2 = piece_beside 8 (drop 8 new) c1 size1 (omega (arith, length-drop 8 new)) in
    let e2 : after c1 w2 ≡ c2 = put_there 8 (drop 8 new) c1 size1 in
    let size2 : length c2 ≡ STORAGE_BYTES = ap (λ (l : List ℕ). length l) (sym e2) ∙ length-after c1 w2 ∙ size1 in
    let w3 = writes_of_piece area.Fence 0 (take 8 new) c2 in
    let k3 = piece_beside 0 (take 8 new) c2 size2 (omega (arith, length-take 8 new)) in
    beside_then bytes w1 (w2 ++ w3) k1 (subst (λ (b : List ℕ). EachPrefix (IsBeside b) b (w2 ++ w3)) (sym e1) (beside_then c1 w2 w3 k2 (subst (λ (b : List ℕ). EachPrefix (IsBeside b) b w3) (sym e2) k3)))

figures_beside : (bytes : List ℕ) (fs : Option (List Figure)) → length bytes ≡ STORAGE_BYTES → (ws : List LineWrite) → figure_writes bytes fs ≡ Ok ws → EachPrefix (IsBeside bytes) bytes ws
figures_beside bytes None size ws e = cc
figures_beside bytes (Some fs) size ws e = cond_both (nat_lt 416 (length (encoded fs))) (Err 4) (Ok (fence_writes (encoded fs) bytes)) (λ (r : Result (List LineWrite) ℕ). r ≡ Ok ws → EachPrefix (IsBeside bytes) bytes ws)
    (λ t h. cc)
    (λ t h. let same : fence_writes (encoded fs) bytes ≡ ws = cc in subst (EachPrefix (IsBeside bytes) bytes) same (fence_beside (encoded fs) bytes size (grind (arith, nat_tests))))
    e

-- and so do the lines that write one
pub replace_beside : (bytes : List ℕ) (items : List FenceItem) → length bytes ≡ STORAGE_BYTES → (ws : List LineWrite) → replace_writes bytes items ≡ Ok ws → EachPrefix (IsBeside bytes) bytes ws
replace_beside bytes items size ws e = cond_both (nat_lt 1 (count_by is_return_point items)) (Err 5) (figure_writes bytes (figures_of (length items) items)) (λ (r : Result (List LineWrite) ℕ). r ≡ Ok ws → EachPrefix (IsBeside bytes) bytes ws)
    (λ t h. cc)
    (λ t h. figures_beside bytes (figures_of (length items) items) size ws h)
    e

pub clear_keeps : (bytes : List ℕ) → IsFormatted bytes → KeepsMission bytes (clear_fence_writes bytes)
clear_keeps bytes f = others_keep bytes (clear_fence_writes bytes) f (clear_beside bytes f.size)

pub replace_keeps : (bytes : List ℕ) (items : List FenceItem) → IsFormatted bytes → (ws : List LineWrite) → replace_writes bytes items ≡ Ok ws → KeepsMission bytes ws
replace_keeps bytes items f ws e = others_keep bytes ws f (replace_beside bytes items f.size ws e)
