use Rattle.std.proofs.Common.{◌<◌, IfSome}
use Rattle.flash_traits.specs.declared.numbers.TheConstants.{STATIONS}
use Rattle.vehicle_program.proofs.places.Places.place_for_a_new_one.Given as goal

abbrev pub invariant-loop-i : goal.invariant-loop-i
invariant-loop-i l = IfSome l.quietest (λ peer. peer < STATIONS)
