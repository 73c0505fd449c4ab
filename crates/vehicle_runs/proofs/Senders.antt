-- Who a frame says it is from, as it was read.
use Rattle.std.proofs.Common.{◌≡◌, ℕ, List, ap₂}
use Rattle.mav_frames.specs.Frames.{IsReadFrom, IsHeadingOf}
use Rattle.mav_frames.specs.declared.frames.Frame.{Frame as Read}
use Rattle.mav_frames.specs.declared.frames.Heading.{Heading}
use Rattle.mission_service.specs.declared.uploads.Target.{Target}
use Rattle.vehicle_runs.specs.Reading.{sender_in}

abbrev pub target : ℕ → ℕ → Target
target system component = record { system = system; component = component }

pub of_frame : (bytes : List ℕ) (frame : Read) → IsReadFrom bytes frame → target frame.system frame.component ≡ sender_in bytes
of_frame bytes frame read = ap₂ target read.system read.component

pub of_heading : (bytes : List ℕ) (heading : Heading) → IsHeadingOf bytes heading → target heading.system heading.component ≡ sender_in bytes
of_heading bytes heading read = ap₂ target read.system read.component
