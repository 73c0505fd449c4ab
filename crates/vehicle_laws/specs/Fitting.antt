-- What holds of each act that was read of frames: what is asked can be stored.
use Rattle.std.specs.Prelude.{◌≡◌, ◌⊎◌, List, [], ◌∷◌, Option, Some, None, IfSome, slice_get}
use Rattle.param_tree.specs.Rows.{vehicle_rows}
use Rattle.param_records.specs.Steps.{IsKept}
use Rattle.param_service.specs.Requests as parameters
use Rattle.param_service.specs.Requests.{Show, ShowAll, Set}
use Rattle.mission_service.specs.declared.requests.MissionType.{MissionType}
use Rattle.mission_service.specs.Uploads.{kinds}
use Rattle.mission_service.specs.Requests.{Request, Clear}
use Rattle.mission_service.specs.Asked.{RequestFits}
use Rattle.vehicle_core.specs.Vehicle.{Asked, Parameters, Missions, Orders}
use Rattle.vehicle_core.specs.Acts.{Act, Said, Beat, Stream}

-- the row keeps the number that it is to be set to
abbrev pub SettingFits : parameters.Request → Type 0
SettingFits (Set index (Some number)) =
    IfSome (slice_get vehicle_rows index) (λ row. IsKept row.kind number)
SettingFits _ = Unit {0}

-- one type is to be cleared, or all
abbrev pub ClearsOneOrAll : Request → Type 0
ClearsOneOrAll (Clear types) = ((t : MissionType) × (types ≡ t ∷ [])) ⊎ (types ≡ kinds)
ClearsOneOrAll _ = Unit {0}

-- the same of what is asked of either protocol, and of commands
abbrev pub AskedFits : Option Asked → Type 0
AskedFits (Some (Parameters request)) = SettingFits request
AskedFits (Some (Missions sender asking)) =
    RequestFits asking.request × ClearsOneOrAll asking.request
AskedFits (Some (Orders sender command order)) = Unit {0}
AskedFits None = Unit {0}

-- A row that is set keeps its number; a command or an item of a fence that is given can be stored,
-- and none is refused with the answer 0; one type is cleared, or all.
abbrev pub ActFits : Act → Type 0
ActFits (Said station heard) = AskedFits heard.asked
ActFits (Beat station) = Unit {0}
ActFits (Stream station) = Unit {0}

-- each of the acts fits
abbrev pub AllFit : List Act → Type 0
AllFit [] = Unit {0}
AllFit (act ∷ acts) = ActFits act × AllFit acts
