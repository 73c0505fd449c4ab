use Rattle.session_boards.proofs.device.Device.blank.Goals as goal

pub returns : goal.returns
returns c = λ i. record { s0 = c.refill.ensures.after i; s1 = c.refill-2.ensures.after i; guard = c.refill-3.ensures.after i }
