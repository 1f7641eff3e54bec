use Rattle.std.proofs.Common.{◌≤◌, drop}
use Rattle.sink_writing.specs.Writing.{joined}
use Rattle.sink_writing.proofs.Pieces.{Written}
use Rattle.command_tables.proofs.help.print_all.Given as goal

abbrev pub invariant-loop-text : goal.invariant-loop-text
invariant-loop-text g l = record {
  written : Written (g.K.Sink.written l.fn.out) (g.K.Sink.written l.out) (joined l.texts) (joined (drop l.text-index l.texts));
  faults : g.K.Sink.faults l.fn.out ≤ g.K.Sink.faults l.out;
}
