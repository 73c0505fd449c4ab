-- Uploads in a run: where one opens, how long it goes on, where it ends, and what its station
-- gives.
use Rattle.std.specs.Prelude.{◌≡◌, ℕ, ◌+◌, Bool, ◌==◌, if◌then◌else◌, List, [], ◌∷◌, ◌++◌, Option, Some, None, Ok}
use Rattle.std.specs.Option.{option_map_or}
use Rattle.mission_commands.specs.declared.commands.Command.{Command}
use Rattle.fence_records.specs.declared.items.FenceItem.{FenceItem}
use Rattle.mission_service.specs.declared.requests.MissionType.{MissionType}
use Rattle.mission_service.specs.declared.uploads.Target.{Target}
use Rattle.mission_service.specs.Uploads.{Upload, Uploads, Open, uploads_of}
use Rattle.mission_service.specs.Requests.{Given, ForMission, ForFence, Request, Begin, Give, type_of_given}
use Rattle.mission_service.specs.declared.replies.Content.{Content}
use Rattle.mission_service.specs.declared.replies.Content.TheVariants.{Next, Answer}
use Rattle.mission_service.specs.Service.{accepted}
use Rattle.vehicle_core.specs.Vehicle.{Asked, Parameters, Missions, Orders, tells_of_missions}
use Rattle.vehicle_core.specs.Acts.{Act, Said, Beat, Stream, heard_as}
use Rattle.vehicle_runs.specs.Runs.{Run, did_in, act_done, all_acts, start}
use Rattle.vehicle_laws.specs.Fitting.{AllFit}

-- the run over these acts, from the start on
abbrev pub run_over : ℕ → List ℕ → List Act → Run
run_over budget b acts = all_acts budget b (start b) acts

-- the uploads of a type at a run
abbrev pub uploads_at : MissionType → Run → Uploads
uploads_at t r = uploads_of t r.machine.vehicle.missions

-- an upload of the type is open
abbrev pub IsOpen : MissionType → Run → Type 0
IsOpen t r = (u : Upload) × (uploads_at t r ≡ Open u)

-- a station says this to the mission protocol
abbrev pub says : ℕ → Bool → Target → ℕ → Request → Act
says station v2 sender number request = Said station
    (heard_as v2 (Some (Missions sender (record { number = number; request = request }))))

-- and is told this, and nobody is told anything else
abbrev pub IsTold : ℕ → List ℕ → Run → Act → ℕ → Target → ℕ → Content → Type 0
IsTold budget b r act station sender number content = (did_in budget b r act).told
    ≡ tells_of_missions station
    (record { target = sender; number = number; content = content }) ∷ []

-- Here the COUNT of a station opens an upload of the type: its first item is asked for.
pub record OpensUpload (budget : ℕ) (t : MissionType) (b : List ℕ) (r : Run) (act : Act)
    (station count : ℕ) : Type 0 where
  pub v2 : Bool
  pub sender : Target
  pub number : ℕ
  pub is : act ≡ says station v2 sender number (Begin t count)
  pub told : IsTold budget b r act station sender number (Next 0)

-- the act opens no upload of the type
abbrev pub OpensNone : ℕ → MissionType → List ℕ → Run → Act → Type 0
OpensNone budget t b r act = (station count : ℕ) → ¬ OpensUpload budget t b r act station count

-- Before each of these acts an upload of the type is open, and none of them opens another: they
-- belong to one upload, which the last one may end.
abbrev pub UploadGoesOn : ℕ → MissionType → List ℕ → Run → List Act → Type 0
UploadGoesOn budget t b r [] = Unit {0}
UploadGoesOn budget t b r (act ∷ acts) = IsOpen t r × OpensNone budget t b r act
    × UploadGoesOn budget t b (act_done budget b r act) acts

-- An upload of a type in a run: after some acts one act opens it for a station with a count, and
-- these acts belong to it.
pub record IsUpload (budget : ℕ) (t : MissionType) (b : List ℕ) (before : List Act) (opening : Act)
    (since : List Act) (station count : ℕ) : Type 0 where
  pub opens : OpensUpload budget t b (run_over budget b before) opening station count
  pub goes_on : UploadGoesOn budget t b (run_over budget b (before ++ opening ∷ [])) since
  pub fit : AllFit (before ++ opening ∷ since)

-- The open upload ends here: an item of its station is answered with 0.
pub record EndsUpload (budget : ℕ) (t : MissionType) (b : List ℕ) (r : Run) (act : Act) (u : Upload)
    : Type 0 where
  pub v2 : Bool
  pub sender : Target
  pub number : ℕ
  pub seq : ℕ
  pub given : Given
  pub was_open : uploads_at t r ≡ Open u
  pub is : act ≡ says u.owner v2 sender number (Give seq given)
  pub for_type : type_of_given given ≡ t
  pub told : IsTold budget b r act u.owner sender number (Answer accepted)

-- the command that a request gives with this number, if it does
abbrev pub command_in : ℕ → Request → Option Command
command_in seq (Give n (ForMission (Ok command))) = if n == seq then Some command else None
command_in seq _ = None

-- the same of an item of a fence
abbrev pub fence_item_in : ℕ → Request → Option FenceItem
fence_item_in seq (Give n (ForFence (Ok item))) = if n == seq then Some item else None
fence_item_in seq _ = None

-- what a request to the mission protocol has, where one was made
abbrev pub asked_in : {X : Type 0} → (Request → Option X) → Option Asked → Option X
asked_in f (Some (Missions sender asking)) = f asking.request
asked_in f (Some (Parameters request)) = None
asked_in f (Some (Orders sender command order)) = None
asked_in f None = None

-- what the station's request in an act has
abbrev pub said_in : {X : Type 0} → (Request → Option X) → ℕ → Act → Option X
said_in f station (Said s heard) = if station == s then asked_in f heard.asked else None
said_in f station (Beat s) = None
said_in f station (Stream s) = None

-- what the station gives: the first with this number, after it the first with the next number, and
-- so on
abbrev pub given_from : {X : Type 0} → (ℕ → Request → Option X) → ℕ → ℕ → List Act → List X
given_from f station seq [] = []
given_from f station seq (act ∷ acts) =
    option_map_or (λ x. x ∷ given_from f station (seq + 1) acts)
    (said_in (f seq) station act) (given_from f station seq acts)

-- the commands that the station gives from this number on
abbrev pub commands_from : ℕ → ℕ → List Act → List Command
commands_from station seq acts = given_from command_in station seq acts

-- the same of the items of a fence
abbrev pub fence_items_from : ℕ → ℕ → List Act → List FenceItem
fence_items_from station seq acts = given_from fence_item_in station seq acts
