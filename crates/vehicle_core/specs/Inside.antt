-- How the vehicle inside is seen.
use Rattle.std.specs.Prelude.{ℕ, List, map, Option}
use Rattle.mission_service.specs.Uploads.{Missions}
use Rattle.vehicle_core.specs.declared.StationState.{StationState as Inner}
use Rattle.vehicle_core.specs.Vehicle.{Vehicle, StationState}

abbrev pub stations_of : List Inner → List StationState
stations_of stations = map (λ s. record { heard = s.heard; v2 = s.v2 }) stations

abbrev pub view_of : List Inner → List ℕ → Missions → Option ℕ → Vehicle
view_of stations next_rows missions armed = record {
  stations = stations_of stations;
  next_rows = next_rows;
  missions = missions;
  armed = armed;
}
