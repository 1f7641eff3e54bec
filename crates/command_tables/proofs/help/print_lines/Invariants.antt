use Rattle.std.proofs.Common.{◌≤◌, map, drop}
use Rattle.sink_writing.proofs.Pieces.{Written}
use Rattle.command_tables.specs.Help.{help_lines}
use Rattle.command_tables.proofs.help.print_lines.Given as goal

abbrev pub invariant-loop-line : goal.invariant-loop-line
invariant-loop-line g l = record {
  written :
      Written (g.K.Sink.written l.fn.out) (g.K.Sink.written l.out)
      (help_lines l.fn.gap (map (λ text. text.now) l.lines))
      (help_lines l.gap (map (λ text. text.now) (drop l.line-index l.lines)));
  faults : g.K.Sink.faults l.fn.out ≤ g.K.Sink.faults l.out;
}
