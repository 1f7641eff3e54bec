use Rattle.dataset_bench.proofs.main.Given as goal

abbrev pub ghosts-match_keys : goal.ghosts-match_keys
ghosts-match_keys a = record { name = a.blank.name; parts = a.blank.parts }
