use Rattle.pb_runtime_tests.proofs.books.limits.Given as goal

abbrev pub ghosts-three_turns : goal.ghosts-three_turns
ghosts-three_turns g a = record { code = a.code.now }
