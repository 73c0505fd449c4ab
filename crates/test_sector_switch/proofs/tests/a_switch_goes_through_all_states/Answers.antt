use Rattle.test_sector_switch.proofs.tests.a_switch_goes_through_all_states.Goals as goal

pub append-requires-2-clause-fits : goal.append-requires-2-clause-fits
append-requires-2-clause-fits g c = rw c.in-Ok-More.field-0-is at c.in-Ok-More.ensures.fits
