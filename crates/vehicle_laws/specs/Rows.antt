-- Which row of the table an act may set, and what the rows read then.
use Rattle.std.specs.Prelude.{◌≡◌, ◌≢◌, ◌⊎◌, ℕ, Bool, List, [], ◌∷◌, Option, Some, None, IsTrue, slice_get}
use Rattle.storage_lines.specs.declared.lines.LineWrite.{LineWrite}
use Rattle.storage_lines.specs.declared.areas.Area.TheVariants.{Param}
use Rattle.storage_lines.specs.Areas.{logical_of}
use Rattle.storage_lines.specs.Lines.{after, EachPrefix}
use Rattle.param_tree.specs.declared.Var.{Var}
use Rattle.param_tree.specs.Rows.{vehicle_rows}
use Rattle.param_records.specs.Values.{params_of, value_of_number}
use Rattle.param_records.specs.Changes.{IsFull}
use Rattle.param_records.specs.Steps.{records_in_storage, ReadsBetween}
use Rattle.param_service.specs.Requests as parameters
use Rattle.param_service.specs.Requests.{Show, ShowAll, Set}
use Rattle.param_service.specs.Budget.{exceeds}
use Rattle.param_service.specs.Service.{is_total, set_writes}
use Rattle.mission_records.specs.declared.reading.TheConstants.{TOTAL_INDEX}
use Rattle.mission_service.specs.declared.requests.MissionType.TheVariants.{Mission}
use Rattle.mission_service.specs.Requests as missions
use Rattle.mission_service.specs.Requests.{ForMission, Begin, Give, Clear}
use Rattle.vehicle_core.specs.Vehicle.{Asked, Parameters, Missions, Orders}
use Rattle.vehicle_core.specs.Acts.{Act, Said, Beat, Stream, heard_as}

-- the row that a request to the parameter protocol may set
abbrev pub row_to_set : parameters.Request → Option ℕ
row_to_set (Set index number) = Some index
row_to_set (Show index) = None
row_to_set ShowAll = None

-- the row that one to the mission protocol may set: MIS_TOTAL, where a mission is uploaded or
-- something is cleared
abbrev pub total_to_set : missions.Request → Option ℕ
total_to_set (Begin Mission count) = Some TOTAL_INDEX
total_to_set (Give seq (ForMission stored)) = Some TOTAL_INDEX
total_to_set (Clear types) = Some TOTAL_INDEX
total_to_set _ = None

-- the row that may be set by what is asked
abbrev pub row_asked : Option Asked → Option ℕ
row_asked (Some (Parameters request)) = row_to_set request
row_asked (Some (Missions sender asking)) = total_to_set asking.request
row_asked (Some (Orders sender command order)) = None
row_asked None = None

-- the one row that an act may set, by its index
abbrev pub row_of_act : Act → Option ℕ
row_of_act (Said station heard) = row_asked heard.asked
row_of_act (Beat station) = None
row_of_act (Stream station) = None

-- none of the acts may set the row at this index
abbrev pub AllLeave : ℕ → List Act → Type 0
AllLeave index [] = Unit {0}
AllLeave index (act ∷ acts) = (row_of_act act ≢ Some index) × AllLeave index acts

-- the parameters are as they were
abbrev pub KeepsParams : List ℕ → List ℕ → Type 0
KeepsParams old now = logical_of Param now ≡ logical_of Param old

-- Some writes set a row to a number. After each prefix of them every other row has its old value, a
-- new record is absent or whole, and the row has its old value or the new one, or, where it lies in
-- two lines, the new bytes of one and the old bytes of the other. After all it has the new one.
pub record SetsTo (index : ℕ) (row : Var) (number : ℕ) (old : List ℕ) (writes : List LineWrite)
    : Type 0 where
  pub row_is : slice_get vehicle_rows index ≡ Some row
  pub each : EachPrefix (ReadsBetween vehicle_rows index row number old) old writes
  pub whole : params_of (after old writes) row ≡ value_of_number row.kind number

-- the writes leave the parameters, or they set the row at this index, if one is given
abbrev pub SetsOnly : Option ℕ → List ℕ → List LineWrite → Type 0
SetsOnly None old writes = EachPrefix (KeepsParams old) old writes
SetsOnly (Some index) old writes = EachPrefix (KeepsParams old) old writes
    ⊎ ((row : Var) × (number : ℕ) × SetsTo index row number old writes)

-- The act is a PARAM_SET that sets the row at an index to a number over these bytes: it isn't a
-- count of commands or rally points, where a record has to be appended there is room, and no more
-- lines are needed than are allowed.
pub record SetsRowTo (bytes : List ℕ) (allowed : Option ℕ) (act : Act) (index : ℕ) (row : Var)
    (number : ℕ) : Type 0 where
  pub station : ℕ
  pub v2 : Bool
  pub is : act ≡ Said station (heard_as v2 (Some (Parameters (Set index (Some number)))))
  pub row_is : slice_get vehicle_rows index ≡ Some row
  pub no_total : ¬ IsTrue (is_total row)
  pub room : ¬ IsFull (records_in_storage bytes) row number
  pub few : ¬ IsTrue (exceeds allowed (set_writes bytes index (Some number)))
