use Rattle.session_boards.proofs.tests.a_board_gives_the_events_and_counts_the_frames.Given as goal

abbrev pub ghosts-drive : goal.ghosts-drive
ghosts-drive g a = record { rounds = 1 }
