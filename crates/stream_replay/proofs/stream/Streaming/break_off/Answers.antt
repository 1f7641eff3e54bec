use Rattle.std.proofs.Common.{Some, subst}
use Rattle.patch_rows.specs.declared.fault.RowFault.{RowFault}
use Rattle.patch_reader.specs.Rows.{StopsRows}
use Rattle.stream_replay.proofs.Streams.{fault_within, refused_there}
use Rattle.stream_replay.proofs.stream.Streaming.break_off.Goals as goal

pub tell-requires-clause-high : goal.tell-requires-clause-high
tell-requires-clause-high c =
    let s = c.args.self.now in
    let there = c.requires.there in
    fault_within there.0 s.window.fed there.1 c.in-At.at c.in-At.kind (subst (λ (fault : RowFault). StopsRows there.0 s.window.fed there.1 (Some fault)) c.in-At.is there.2)

pub returns-in-At : goal.returns-in-At
returns-in-At c = λ end stop read.
    let s = c.args.self.now in
    c.tell.ensures end
    (refused_there end s.window.fed s.window.passed c.in-At.at s.progress c.in-At.kind c.break_stream.result (subst (λ (fault : RowFault). StopsRows end s.window.fed s.window.passed (Some fault)) c.in-At.is stop) read c.break_stream.ensures.fault)
