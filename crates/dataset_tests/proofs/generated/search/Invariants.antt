use Rattle.dataset_tests.proofs.generated.search.Given as goal

abbrev pub ghosts-find_anew : goal.ghosts-find_anew
ghosts-find_anew g a = record { name = a.blank.name; parts = a.blank.parts }
