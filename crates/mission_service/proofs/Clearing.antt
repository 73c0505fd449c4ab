-- The lines that clear a type, or both.
use Rattle.std.proofs.Common.{◌≡◌, ℕ, List, [], ◌∷◌, ◌++◌, sym, ◌∙◌, ap, Option, Some, None}
use Rattle.std.proofs.lemmas.List.{append-nil}
use Rattle.storage_lines.specs.declared.lines.LineWrite.{LineWrite}
use Rattle.storage_lines.specs.Lines.{after}
use Rattle.mission_records.specs.Mission.{total_writes}
use Rattle.fence_records.specs.Lists as fence
use Rattle.mission_service.specs.Uploads.{MissionType, Mission, Fence}
use Rattle.mission_service.specs.Service.{type_writes, clear_writes}
use Rattle.mission_service.specs.Steps.Inside.{types_seen}

-- what is appended to an empty batch
pub from_empty : (b : List ℕ) (f : List ℕ → List LineWrite) (old new : List LineWrite) → old ≡ [] → new ≡ old ++ f (after b old) → new ≡ f b
from_empty b f old new e h = h ∙ ap (λ (o : List LineWrite). o ++ f (after b o)) e

pub one_type : (b : List ℕ) (t : MissionType) → clear_writes b (t ∷ []) ≡ type_writes t b
unfolding clear_writes
one_type b t = append-nil (type_writes t b)

pub both_types : (b : List ℕ) → clear_writes b (Mission ∷ Fence ∷ []) ≡ total_writes b 0 ++ fence.clear_fence_writes (after b (total_writes b 0))
unfolding clear_writes
both_types b = ap (λ (ws : List LineWrite). total_writes b 0 ++ ws) (append-nil (fence.clear_fence_writes (after b (total_writes b 0))))

pub clears_one : (b : List ℕ) (types : Option MissionType) (t : MissionType) (ws : List LineWrite) → types ≡ Some t → ws ≡ type_writes t b → ws ≡ clear_writes b (types_seen types)
clears_one b types t ws is h = h ∙ sym (one_type b t) ∙ ap (λ (o : Option MissionType). clear_writes b (types_seen o)) (sym is)

-- a fence is cleared after the mission
pub after_first : (b : List ℕ) (old first ws : List LineWrite) → old ≡ [] → first ≡ old ++ total_writes (after b old) 0 → ws ≡ first ++ fence.clear_fence_writes (after b first)
    → ws ≡ total_writes b 0 ++ fence.clear_fence_writes (after b (total_writes b 0))
after_first b old first ws e h k = k ∙ ap (λ (o : List LineWrite). o ++ fence.clear_fence_writes (after b o)) (from_empty b (λ x. total_writes x 0) old first e h)

pub clears_both : (b : List ℕ) (types : Option MissionType) (ws : List LineWrite) → types ≡ None → ws ≡ total_writes b 0 ++ fence.clear_fence_writes (after b (total_writes b 0)) → ws ≡ clear_writes b (types_seen types)
clears_both b types ws is h = h ∙ sym (both_types b) ∙ ap (λ (o : Option MissionType). clear_writes b (types_seen o)) (sym is)
