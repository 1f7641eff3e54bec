use Rattle.std.proofs.Common.{◌≡◌, ◌+◌, drop}
use Rattle.std.specs.List.{prefix_len}
use Rattle.std.specs.Char.{is_ascii_alphabetic}
use Rattle.patch_rows.proofs.words.letters_end.Given as goal

-- the run that began at the front goes on here
abbrev pub invariant-loop-at : goal.invariant-loop-at
invariant-loop-at l = l.at + prefix_len is_ascii_alphabetic (drop l.at l.text) ≡ l.from + prefix_len is_ascii_alphabetic (drop l.from l.text)
