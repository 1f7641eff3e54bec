use Rattle.std.proofs.Common.{◌≤◌, ◌++◌, map, drop}
use Rattle.std.specs.List.{flat_map}
use Rattle.sink_writing.proofs.Pieces.{Written}
use Rattle.command_tables.specs.Help.{entry_text}
use Rattle.command_tables.proofs.help.print_rows.Given as goal

abbrev pub invariant-loop-row : goal.invariant-loop-row
invariant-loop-row g l = record {
  written :
      Written (g.K.Sink.written l.fn.out) (g.K.Sink.written l.out)
      (l.fn.head ++ flat_map (λ row. entry_text row.word.now (map (λ text. text.now) row.positions.now) (map (λ text. text.now) row.help.now)) l.rows)
      (flat_map (λ row. entry_text row.word.now (map (λ text. text.now) row.positions.now) (map (λ text. text.now) row.help.now)) (drop l.row-index l.rows));
  faults : g.K.Sink.faults l.fn.out ≤ g.K.Sink.faults l.out;
}
