use Rattle.std.proofs.Common.{◌≡◌, ◌-◌, length, map, take}
use Rattle.command_tables.specs.Names.{words_text}
use Rattle.command_tables.proofs.help.gap_behind.Given as goal

abbrev pub invariant-loop-position : goal.invariant-loop-position
invariant-loop-position l =
    l.left ≡ 18 - length (words_text l.row.word.now (map (λ text. text.now) (take l.position-index l.row.positions.now)))
