-- What holds of every act.
use Rattle.std.specs.Prelude.{◌≡◌, ℕ, List, [], ◌∷◌, All, IsTrue}
use Rattle.mav_messages.specs.declared.messages.To.TheVariants.{Station}
use Rattle.mission_service.specs.declared.uploads.Target.{Target}
use Rattle.vehicle_core.specs.Orders.{FlushAll, mav_result_accepted}
use Rattle.vehicle_core.specs.Vehicle.{Vehicle, Acknowledged, Told, is_storage_acknowledgement}
use Rattle.vehicle_core.specs.Acts.{Act, Did, did, SinceArming}

-- a station is told that its command was accepted, and nothing else is told
pub record IsAccepted (told : List Told) : Type 0 where
  pub station : ℕ
  pub target : Target
  pub command : ℕ
  pub answer : told ≡ record {
    to = Station station;
    content = Acknowledged target command mav_result_accepted;
  } ∷ []

-- Where all lines are to be flushed, the act writes none, and a command is answered as accepted.
pub record FlushesAlone (d : Did) : Type 0 where
  pub writes : d.writes ≡ []
  pub told : IsAccepted d.told

abbrev pub FlushesStandAlone : Type 0
FlushesStandAlone = (budget : ℕ) (bytes : List ℕ) (vehicle : Vehicle) (act : Act)
    → (did budget bytes vehicle act).need ≡ FlushAll → FlushesAlone (did budget bytes vehicle act)

-- A storage acknowledgement is told only where all lines are flushed before it.
abbrev pub AcknowledgesAfterFlush : Type 0
AcknowledgesAfterFlush = (budget : ℕ) (bytes : List ℕ) (vehicle : Vehicle) (act : Act)
    → All (λ told. IsTrue (is_storage_acknowledgement told.content)
    → (did budget bytes vehicle act).need ≡ FlushAll) (did budget bytes vehicle act).told

-- An act counts its lines while the vehicle is armed, and stays within the budget.
abbrev pub CountsLines : Type 0
CountsLines = (budget : ℕ) (bytes : List ℕ) (vehicle : Vehicle) (act : Act)
    → SinceArming budget vehicle.armed (did budget bytes vehicle act).vehicle.armed
    (did budget bytes vehicle act).writes (did budget bytes vehicle act).need
