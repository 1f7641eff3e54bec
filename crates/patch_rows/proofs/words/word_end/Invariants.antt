use Rattle.std.proofs.Common.{◌≡◌, ◌+◌, drop}
use Rattle.std.specs.List.{prefix_len}
use Rattle.patch_rows.specs.Grammar.{is_word_byte}
use Rattle.patch_rows.proofs.words.word_end.Given as goal

-- the run that began at the front goes on here
abbrev pub invariant-loop-at : goal.invariant-loop-at
invariant-loop-at l = l.at + prefix_len is_word_byte (drop l.at l.text) ≡ l.from + prefix_len is_word_byte (drop l.from l.text)
