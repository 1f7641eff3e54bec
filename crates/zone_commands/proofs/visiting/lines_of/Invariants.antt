use Rattle.zone_commands.proofs.visiting.lines_of.Given as goal

abbrev pub ghosts-matching : goal.ghosts-matching
ghosts-matching g a = record { name = a.blank.name; parts = a.blank.parts }
