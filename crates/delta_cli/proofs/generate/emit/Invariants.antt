use Rattle.std.proofs.Common.{◌+◌, ◌-◌, ◌≤◌, ◌++◌, vec_capacity}
use Rattle.sink_writing.proofs.Pieces.{Written}
use Rattle.stream_generator.specs.Generator.{stream_text, patches_from}
use Rattle.delta_cli.proofs.generate.emit.Given as goal

-- what isn't written stands in the room and in the patches that are left
abbrev pub invariant-loop-made : goal.invariant-loop-made
invariant-loop-made g l = record {
  written : Written (g.K.Sink.written l.fn.out) (g.K.Sink.written l.out) (stream_text l.fn.patches) (l.room ++ patches_from (l.made + 1) (l.fn.patches - l.made));
  ready : 256 ≤ vec_capacity l.text;
  faults : g.K.Sink.faults l.fn.out ≤ g.K.Sink.faults l.out;
}
