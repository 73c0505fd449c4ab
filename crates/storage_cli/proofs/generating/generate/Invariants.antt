use Rattle.storage_cli.proofs.generating.generate.Given as goal

abbrev pub ghosts-generate_on : goal.ghosts-generate_on
ghosts-generate_on a = record { rounds = a.rounds }
