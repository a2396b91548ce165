use Rattle.pb_runtime_tests.proofs.locks.a_commit_makes_the_picks.Given as goal

abbrev pub ghosts-commit_once : goal.ghosts-commit_once
ghosts-commit_once g a = record { code = a.code.now }
