use Rattle.std.proofs.Common.{◌≡◌, map, drop}
use Rattle.command_tables.specs.Names.{first_name}
use Rattle.command_tables.proofs.name.first_name.Given as goal

abbrev pub invariant-loop-row : goal.invariant-loop-row
invariant-loop-row l =
    first_name l.word (map (λ row. (row.word.now, row.name)) l.rows) ≡ first_name l.word (map (λ row. (row.word.now, row.name)) (drop l.row-index l.rows))
