use Rattle.pb_runtime_tests.proofs.locks.who_finds_nothing_to_do_waits.Given as goal

abbrev pub ghosts-two_commits : goal.ghosts-two_commits
ghosts-two_commits g a = record { code = a.code.now }
