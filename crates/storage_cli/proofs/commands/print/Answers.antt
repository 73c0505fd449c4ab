use Rattle.std.proofs.Common.{inl, inr, refl}
use Rattle.storage_cli.proofs.commands.print.Goals as goal

pub returns-in-Ok-clause-counts : goal.returns-in-Ok-clause-counts
returns-in-Ok-clause-counts g c = inr (c.requires, c.in-Ok.ensures.cause)

pub returns-in-Err-clause-counts : goal.returns-in-Err-clause-counts
returns-in-Err-clause-counts g c = inl (refl, c.in-Err.ensures.cause)
