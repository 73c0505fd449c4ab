-- How the uploads inside are seen.
use Rattle.std.specs.Prelude.{◌≡◌, ◌<◌, ◌≤◌, ℕ, List, [], ◌∷◌, length, Option, Some, None}
use Rattle.storage_lines.specs.declared.lines.LineWrite.{LineWrite}
use Rattle.fence_records.specs.declared.items.FenceItem.{FenceItem}
use Rattle.mission_service.specs.Uploads as model
use Rattle.mission_service.specs.Requests as model_requests
use Rattle.mission_service.specs.Service.{Content, From, Did, does, fence_capacity, idle_turns}
use Rattle.mission_records.specs.declared.reading.TheConstants.{CAPACITY}
use Rattle.mission_service.specs.declared.uploads.Upload.{Upload}
use Rattle.mission_service.specs.declared.uploads.Uploads.{Uploads}
use Rattle.mission_service.specs.declared.uploads.Uploads.TheVariants as inner
use Rattle.mission_service.specs.declared.uploads.Asker.{Asker}
use Rattle.mission_service.specs.declared.requests.MissionType.{MissionType}
use Rattle.mission_service.specs.declared.requests.Given.{Given}
use Rattle.mission_service.specs.declared.requests.Given.TheVariants as given
use Rattle.mission_service.specs.declared.requests.Request.{Request}
use Rattle.mission_service.specs.declared.requests.Request.TheVariants as request
use Rattle.mission_service.specs.declared.requests.Asking.{Asking}

-- an upload, with the items that are kept of it
abbrev pub upload_seen : List FenceItem → Upload → model.Upload
upload_seen kept u = record {
  owner = u.owner;
  target = u.target;
  count = u.count;
  expected = u.expected;
  kept = kept;
  idle = u.idle;
}

-- the uploads of a type, with the items that are kept of an open one
abbrev pub uploads_seen : List FenceItem → Uploads → model.Uploads
uploads_seen kept inner.Quiet = model.Quiet
uploads_seen kept (inner.Open u) = model.Open (upload_seen kept u)
uploads_seen kept (inner.Finished station last) = model.Finished station last

-- the uploads of each type: of a mission no item is kept
abbrev pub missions_seen : Uploads → Uploads → List FenceItem → model.Missions
missions_seen mission fence kept =
    record { mission = uploads_seen [] mission; fence = uploads_seen kept fence }

-- an open upload has an item to come, at most so many items, and idle turns left
abbrev pub IsOpenRight : ℕ → Uploads → Type 0
IsOpenRight most inner.Quiet = Unit {0}
IsOpenRight most (inner.Open u) = (u.expected < u.count) × (u.count ≤ most) × (u.idle < idle_turns)
IsOpenRight most (inner.Finished station last) = Unit {0}

-- of an open upload each item is kept
abbrev pub AreKept : Uploads → List FenceItem → Type 0
AreKept inner.Quiet kept = Unit {0}
AreKept (inner.Open u) kept = length kept ≡ u.expected
AreKept (inner.Finished station last) kept = Unit {0}

-- the uploads are such
pub record AreUploadsRight (mission fence : Uploads) (kept : List FenceItem) : Type 0 where
  pub mission_right : IsOpenRight CAPACITY mission
  pub fence_right : IsOpenRight fence_capacity fence
  pub all_kept : AreKept fence kept

-- all types, or one
abbrev pub types_seen : Option MissionType → List MissionType
types_seen None = model.kinds
types_seen (Some t) = t ∷ []

-- what is given
abbrev pub given_seen : Given → model_requests.Given
given_seen (given.ForMission stored) = model_requests.ForMission stored
given_seen (given.ForFence stored) = model_requests.ForFence stored

-- what is asked
abbrev pub request_seen : Request → model_requests.Request
request_seen (request.Begin type count) = model_requests.Begin type count
request_seen (request.Give seq given) = model_requests.Give seq (given_seen given)
request_seen (request.Clear types) = model_requests.Clear (types_seen types)
request_seen (request.Count type) = model_requests.Count type
request_seen (request.Show type seq) = model_requests.Show type seq
request_seen (request.Cancel type) = model_requests.Cancel type
request_seen request.Unsupported = model_requests.Unsupported

-- what is asked, with its type's number, or nothing
abbrev pub asking_seen : Option Asking → Option model_requests.Asking
asking_seen None = None
asking_seen (Some a) = Some (record { number = a.number; request = request_seen a.request })

-- who asks
abbrev pub from_seen : Asker → From
from_seen a = record { station = a.station; target = a.target; number = a.number }

-- what was done, where something is told or nothing
abbrev pub done_for : From → model.Missions → List LineWrite → Option Content → Did
done_for from missions writes None =
    record { missions = missions; writes = writes; told = [] }
done_for from missions writes (Some content) = does from missions writes content
