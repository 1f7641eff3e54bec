use Rattle.std.proofs.Common.{◌≤◌, ◌∷◌, ◌++◌, map, drop}
use Rattle.std.specs.Prelude.{codes}
use Rattle.std.specs.List.{flat_map}
use Rattle.sink_writing.proofs.Pieces.{Written}
use Rattle.command_tables.specs.Names.{words_text}
use Rattle.command_tables.proofs.help.print_words.Given as goal

abbrev pub invariant-loop-position : goal.invariant-loop-position
invariant-loop-position g l = record {
  written :
      Written (g.K.Sink.written l.fn.out) (g.K.Sink.written l.out)
      (codes "  " ++ words_text l.row.word.now (map (λ text. text.now) l.row.positions.now))
      (flat_map (λ position. 32 ∷ position) (map (λ text. text.now) (drop l.position-index l.row.positions.now)));
  faults : g.K.Sink.faults l.fn.out ≤ g.K.Sink.faults l.out;
}
