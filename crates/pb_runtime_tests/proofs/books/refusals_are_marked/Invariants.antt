use Rattle.pb_runtime_tests.proofs.books.refusals_are_marked.Given as goal

abbrev pub ghosts-all_turns : goal.ghosts-all_turns
ghosts-all_turns g a = record { code = a.code.now }
