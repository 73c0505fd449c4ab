-- What the parts of an answer do.
use Rattle.std.specs.Prelude.{◌≡◌, ℕ, List, [], Option, Result, Ok, Err, ⊤}
use Rattle.storage_lines.specs.declared.lines.LineWrite.{LineWrite}
use Rattle.storage_lines.specs.Bytes.{AreInside}
use Rattle.storage_lines.specs.Lines.{EachPrefix}
use Rattle.param_records.specs.Steps.{HasMagic}
use Rattle.fence_records.specs.declared.items.FenceItem.{FenceItem}
use Rattle.mission_service.specs.Uploads as model
use Rattle.mission_service.specs.Uploads.{MissionType, Missions}
use Rattle.mission_service.specs.Requests.{Given}
use Rattle.mission_service.specs.Service.{Content, if_allowed, taken, took, only, given_to}
use Rattle.mission_service.specs.Steps.Inside.{uploads_seen, upload_seen, from_seen}
use Rattle.mission_service.specs.declared.uploads.Upload.{Upload}
use Rattle.mission_service.specs.declared.uploads.Uploads.{Uploads}
use Rattle.mission_service.specs.declared.uploads.Uploads.TheVariants as inner
use Rattle.mission_service.specs.declared.uploads.Asker.{Asker}

-- the lines are of the storage, and it has the parameters' magic still after each prefix of them
pub record AreSafe (bytes : List ℕ) (writes : List LineWrite) : Type 0 where
  pub inside : AreInside writes
  pub magic : HasMagic bytes → EachPrefix HasMagic bytes writes

-- Whatever is given as an item with this number, it is taken or refused as the next one of the open
-- upload.
pub record IsNextItem (uploads : Uploads) (asker : Asker) (seq : ℕ) (upload : Upload) : Type 0 where
  pub open_is : uploads ≡ inner.Open upload
  pub takes : (bytes : List ℕ) (allowed : Option ℕ) (m : Missions) (t : MissionType) (given : Given)
      (kept : List FenceItem) → given_to bytes allowed m (from_seen asker) t seq given
      (uploads_seen kept uploads) ≡ took m (from_seen asker) t (upload_seen kept upload)
      (taken bytes allowed (upload_seen kept upload) given)

-- Whatever is given as an item with this number, its station is told this, and nothing is done.
pub record IsOtherItem (uploads : Uploads) (asker : Asker) (seq : ℕ) (content : Content)
    : Type 0 where
  pub tells : (bytes : List ℕ) (allowed : Option ℕ) (m : Missions) (t : MissionType) (given : Given)
      (kept : List FenceItem) → given_to bytes allowed m (from_seen asker) t seq given
      (uploads_seen kept uploads) ≡ only (from_seen asker) m content

-- the item with this number is the next one of an upload, or isn't
abbrev pub IsExpected : Uploads → Asker → ℕ → Result Upload Content → Type 0
IsExpected uploads asker seq (Ok upload) = IsNextItem uploads asker seq upload
IsExpected uploads asker seq (Err content) = IsOtherItem uploads asker seq content

-- The next item was taken, with these lines and these items kept then, or it was refused.
abbrev pub IsTaken :
    List ℕ → Option ℕ → model.Upload → Given → Result ⊤ ℕ → List LineWrite → List FenceItem → Type 0
IsTaken bytes allowed u given (Ok done) writes kept =
    taken bytes allowed u given ≡ Ok (record { writes = writes; kept = kept })
IsTaken bytes allowed u given (Err e) writes kept =
    (taken bytes allowed u given ≡ Err e) × (writes ≡ [])

-- These lines may be issued, or it was refused.
abbrev pub IsWritten :
    Option ℕ → Result (List LineWrite) ℕ → Result ⊤ ℕ → List LineWrite → Type 0
IsWritten allowed wanted (Ok done) writes =
    if_allowed allowed [] wanted ≡ Ok (record { writes = writes; kept = [] })
IsWritten allowed wanted (Err e) writes = (if_allowed allowed [] wanted ≡ Err e) × (writes ≡ [])
