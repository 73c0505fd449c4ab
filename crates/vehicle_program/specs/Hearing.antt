-- What a socket may give.
use Rattle.flash_traits.specs.Losses.{IsEventInRange}
use Rattle.vehicle_program.specs.declared.link.Heard.{Heard}
use Rattle.vehicle_program.specs.declared.link.Heard.TheVariants.{Event, Stranger, Silence}

-- an event that is heard has a peer below 8 and no more bytes than the buffer
abbrev pub IsHeardInRange : Heard → Type 0
IsHeardInRange (Event event) = IsEventInRange event
IsHeardInRange Stranger = Unit {0}
IsHeardInRange Silence = Unit {0}
