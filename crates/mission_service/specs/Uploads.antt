-- What is uploaded and downloaded, and what is known of the uploads.
use Rattle.std.specs.Prelude.{ℕ, ◌==◌, List, [], ◌∷◌, Option, find}
use Rattle.fence_records.specs.declared.items.FenceItem.{FenceItem}
pub use Rattle.mission_service.specs.declared.requests.MissionType.{MissionType}
pub use Rattle.mission_service.specs.declared.requests.MissionType.TheVariants.{Mission, Fence}
pub use Rattle.mission_service.specs.declared.uploads.Target.{Target}

-- MAV_MISSION_TYPE
abbrev pub mission_type_number : MissionType → ℕ
mission_type_number Mission = 0
mission_type_number Fence = 1

-- the types that are supported, in their order
abbrev pub kinds : List MissionType
kinds = Mission ∷ Fence ∷ []

-- the supported type with this number
abbrev pub type_of : ℕ → Option MissionType
type_of number = find (λ t. mission_type_number t == number) kinds

-- An upload that is open: its station, whom its COUNT came from, how many items it has, which one
-- is next, the items of a fence that came so far, and how many idle turns have passed since its
-- COUNT or an item was last accepted.
pub record Upload : Type 0 where
  pub owner : ℕ
  pub target : Target
  pub count : ℕ
  pub expected : ℕ
  pub kept : List FenceItem
  pub idle : ℕ

-- The uploads of a type: one is open; or the last one is finished, with this station's item of this
-- number, and neither a COUNT nor a CLEAR was accepted since; or neither is so.
pub data Uploads : Type 0 where
  Quiet : Uploads
  Open : (upload : Upload) → Uploads
  Finished : (station last : ℕ) → Uploads

-- the uploads of each type
pub record Missions : Type 0 where
  pub mission : Uploads
  pub fence : Uploads

-- at the start there are none
abbrev pub no_uploads : Missions
no_uploads = record { mission = Quiet; fence = Quiet }

-- the uploads of a type
abbrev pub uploads_of : MissionType → Missions → Uploads
uploads_of Mission m = m.mission
uploads_of Fence m = m.fence

-- these become the uploads of a type
abbrev pub with_uploads : MissionType → Missions → Uploads → Missions
with_uploads Mission m u = record m { mission = u }
with_uploads Fence m u = record m { fence = u }
