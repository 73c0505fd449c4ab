-- What taking an item does.
use Rattle.std.proofs.Common.{◌≡◌, ℕ, List, length, take, sym, ◌∙◌, ap, subst, arith, inl, inr}
use Rattle.std.specs.Prelude.{Result, Ok, Err}
use Rattle.std.proofs.lemmas.List.{take_all}
use Rattle.std.proofs.lemmas.Bool.{cases_lt}
use Rattle.storage_lines.specs.declared.lines.LineWrite.{LineWrite}
use Rattle.storage_lines.specs.Lines.{after, EachPrefix}
use Rattle.fence_records.specs.declared.items.FenceItem.{FenceItem}
use Rattle.fence_records.specs.Cut.{IsAllowedFence}
use Rattle.fence_records.specs.Lists.{replace_writes}
use Rattle.fence_records.proofs.Runs.{figures_are_cuts}
use Rattle.mission_service.specs.Uploads.{MissionType, Missions, Upload, Uploads, with_uploads}
use Rattle.mission_service.specs.Service.{From, Did, Taken, Content, after_item, told_after, took, does}

-- what holds after each prefix, for any number
pub every_prefix : (P : List ℕ → Type 0) (b : List ℕ) (ws : List LineWrite) → EachPrefix P b ws → (j : ℕ) → P (after b (take j ws))
every_prefix P b ws each j = elim (cases_lt (length ws) j) [
  | inl more ↦ subst (λ (x : List LineWrite). P (after b x)) (take_all (length ws) ws (omega arith) ∙ sym (take_all j ws (omega arith))) (each (length ws) (omega arith))
  | inr within ↦ each j within
]

-- the item was taken
pub took_some : (m : Missions) (from : From) (t : MissionType) (u : Upload) (r : Result Taken ℕ) (ws : List LineWrite) (kept : List FenceItem) (now : Uploads) (content : Content) (new : Missions) (d : Did) → d ≡ took m from t u r
    → r ≡ Ok (record { writes = ws; kept = kept }) → now ≡ after_item u from.station kept → content ≡ told_after u → new ≡ with_uploads t m now → d ≡ does from new ws content
took_some m from t u r ws kept now content new d done taken after told with =
    done ∙ ap (took m from t u) taken ∙ ap (λ (x : Uploads). does from (with_uploads t m x) ws (told_after u)) (sym after) ∙ ap (λ (x : Content). does from (with_uploads t m now) ws x) (sym told) ∙ ap (λ (x : Missions). does from x ws content) (sym with)

-- items that are no fence
pub no_fence : (b : List ℕ) (items : List FenceItem) → ¬ IsAllowedFence items → replace_writes b items ≡ Err 5
no_fence b items h = let laws = figures_are_cuts in (laws.refused b items).0 h
