use Rattle.dataset_tests.proofs.indexes.has_all.Given as goal

abbrev pub ghosts-all_found : goal.ghosts-all_found
ghosts-all_found g a = record { name = a.blank.name; parts = a.blank.parts }
