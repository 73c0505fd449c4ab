-- What a message asks for.
use Rattle.std.specs.Prelude.{◌≡◌, ◌≢◌, Option, Some, Ok, Err}
use Rattle.mission_commands.specs.Storable.{IsStorable}
use Rattle.fence_records.specs.Lists.{IsFenceItem}
use Rattle.mav_messages.specs.declared.messages.Message.{Message}
use Rattle.mission_service.specs.Requests.{Given, ForMission, ForFence, Request, Give, Asking, Asks}

-- A message asks for one thing, or for nothing.
pub record AsksOneThing : Type 0 where
  pub some : (message : Message) → (asked : Option Asking) × Asks message asked
  pub only : (message : Message) (asked other : Option Asking)
      → Asks message asked → Asks message other → asked ≡ other

-- what is given can be stored, and 0 refuses nothing
abbrev pub GivenFits : Given → Type 0
GivenFits (ForMission (Ok c)) = IsStorable c
GivenFits (ForMission (Err result)) = result ≢ 0
GivenFits (ForFence (Ok i)) = IsFenceItem i
GivenFits (ForFence (Err result)) = result ≢ 0

abbrev pub RequestFits : Request → Type 0
RequestFits (Give seq given) = GivenFits given
RequestFits _ = Unit {0}

-- What a message gives fits.
abbrev pub AsksWhatFits : Type 0
AsksWhatFits = (message : Message) (asking : Asking)
    → Asks message (Some asking) → RequestFits asking.request
