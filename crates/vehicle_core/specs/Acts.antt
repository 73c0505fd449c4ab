-- The vehicle machine: what it does at each act of an event.
use Rattle.std.specs.Prelude.{◌≡◌, ℕ, ◌+◌, ◌≤◌, Bool, List, [], ◌∷◌, length, map, Option, Some}
use Rattle.std.specs.Prelude.{None, if◌then◌else◌}
use Rattle.storage_lines.specs.declared.lines.LineWrite.{LineWrite}
use Rattle.param_service.specs.Service as parameters
use Rattle.mav_messages.specs.declared.messages.To.TheVariants.{Station}
use Rattle.mission_service.specs.Service as missions
use Rattle.mission_service.specs.declared.uploads.Target.{Target}
use Rattle.vehicle_core.specs.Orders.{Need, Nothing, FlushAll, Order, result_of, need_of}
use Rattle.vehicle_core.specs.Orders.{armed_after}
use Rattle.vehicle_core.specs.Vehicle.{Vehicle, Asked, Parameters, Missions, Orders, Alive}
use Rattle.vehicle_core.specs.Vehicle.{Acknowledged, Told, tells_value, tells_of_missions, is_heard}
use Rattle.vehicle_core.specs.Vehicle.{is_armed, hears, allowed_of, issues}

-- What was heard: whether the frame was of version 2, and what its message asks for.
pub record Heard : Type 0 where
  pub v2 : Bool
  pub asked : Option Asked

abbrev pub heard_as : Bool → Option Asked → Heard
heard_as v2 asked = record { v2 = v2; asked = asked }

-- A right frame of a station came, and this was heard. Or it is a station's turn to be told that
-- the vehicle is there and to be asked for the next items of its uploads, or to be sent the next
-- values of its list.
pub data Act : Type 0 where
  Said : (station : ℕ) (heard : Heard) → Act
  Beat : (station : ℕ) → Act
  Stream : (station : ℕ) → Act

-- the state after an act, the lines that it writes, what is told, and what has to be done before
-- that is sent
pub record Did : Type 0 where
  pub vehicle : Vehicle
  pub writes : List LineWrite
  pub told : List Told
  pub need : Need

abbrev pub nothing : Vehicle → Did
nothing vehicle = record { vehicle = vehicle; writes = []; told = []; need = Nothing }

-- what the parameter protocol does
abbrev pub by_parameters : Vehicle → parameters.Did → Did
by_parameters vehicle d = record {
  vehicle = record vehicle { next_rows = d.next_rows };
  writes = d.writes;
  told = map tells_value d.shown;
  need = Nothing;
}

-- what the mission protocol does for a station
abbrev pub by_missions : Vehicle → ℕ → missions.Did → Did
by_missions vehicle station d = record {
  vehicle = record vehicle { missions = d.missions };
  writes = d.writes;
  told = map (tells_of_missions station) d.told;
  need = Nothing;
}

-- what is done at a command, and how it is answered
abbrev pub ordered : Vehicle → ℕ → Target → ℕ → Order → Did
ordered vehicle station target command order = record {
  vehicle = record vehicle { armed = armed_after order vehicle.armed };
  writes = [];
  told = record {
    to = Station station;
    content = Acknowledged target command (result_of order);
  } ∷ [];
  need = need_of order;
}

-- what is done for a station that was heard
abbrev pub asked_of : ℕ → List ℕ → Vehicle → ℕ → Option Asked → Did
asked_of budget bytes vehicle station None = nothing vehicle
asked_of budget bytes vehicle station (Some (Parameters request)) =
    by_parameters vehicle
    (parameters.answered bytes (allowed_of budget vehicle) vehicle.next_rows station request)
asked_of budget bytes vehicle station (Some (Missions sender asking)) =
    by_missions vehicle station
    (missions.did bytes (allowed_of budget vehicle) vehicle.missions station sender (Some asking))
asked_of budget bytes vehicle station (Some (Orders sender command order)) =
    ordered vehicle station sender command order

-- the lines that are written count where the vehicle is armed
abbrev pub lines_counted : Did → Did
lines_counted d = record d { vehicle = issues d.vehicle d.writes }

-- what is told at an idle turn to a station that was heard
abbrev pub beaten : Vehicle → ℕ → missions.Did → Did
beaten vehicle station d = record (by_missions vehicle station d) {
  told = record { to = Station station; content = Alive (is_armed vehicle) }
      ∷ map (tells_of_missions station) d.told;
}

-- What the vehicle does at an act, over these storage bytes. Where it is armed, no more lines may
-- be issued than the budget says. Stations that weren't heard are told nothing.
unfoldable pub did : ℕ → List ℕ → Vehicle → Act → Did
did budget bytes vehicle (Said station heard) =
    lines_counted (asked_of budget bytes (hears vehicle station heard.v2) station heard.asked)
did budget bytes vehicle (Beat station) =
    if is_heard vehicle station
    then beaten vehicle station (missions.idle vehicle.missions station)
    else nothing vehicle
did budget bytes vehicle (Stream station) =
    if is_heard vehicle station
    then by_parameters vehicle (parameters.streamed bytes vehicle.next_rows station)
    else nothing vehicle

-- What an act makes of the number of lines since arming. While the vehicle is armed it rises by the
-- lines that are written, and stays within the budget where it was. Where the vehicle is armed or
-- disarmed, nothing is written, and all lines are flushed before that is told; where it is armed,
-- no line was issued since.
abbrev pub SinceArming : ℕ → Option ℕ → Option ℕ → List LineWrite → Need → Type 0
SinceArming budget None None writes need = Unit {0}
SinceArming budget None (Some now) writes need = (now ≡ 0) × (writes ≡ []) × (need ≡ FlushAll)
SinceArming budget (Some since) None writes need = (writes ≡ []) × (need ≡ FlushAll)
SinceArming budget (Some since) (Some now) writes need =
    (now ≡ since + length writes) × (since ≤ budget → now ≤ budget)
