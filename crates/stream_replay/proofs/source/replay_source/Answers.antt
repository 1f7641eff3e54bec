use Rattle.std.proofs.Common.{◌≡◌, length, take, arith}
use Rattle.std.proofs.lemmas.List.{length-take}
use Rattle.stream_replay.proofs.Inputs.{read_more, too_long}
use Rattle.stream_replay.proofs.source.replay_source.Goals as goal

pub reading-preserved : goal.reading-preserved
reading-preserved g c =
    let i = c.reading.invariant in
    let got = c.in-Ok.ensures in
    let size : length (take c.in-Ok.count c.read.new.into) ≡ c.in-Ok.count = omega (arith, length-take c.in-Ok.count c.read.new.into, got.bound) in
    record {
      read = read_more (g.S.Source.left c.args.input.now) (g.S.Source.left c.reading.input) (g.S.Source.left c.read.new.self) c.reading.stream c.feed.new.self c.reading.length c.in-Ok.count (take c.in-Ok.count c.read.new.into)
          i.read got.bytes.0 size c.in_ok-feed.ensures.fed;
      few = c.in_ok-feed.ensures.few;
      within = omega (arith, c.in_ok-feed.ensures.end, i.within, size);
      short = omega (arith, c.reading-test.true, got.bound, c.read.auto.into, i.piece);
      faults = omega (arith, i.faults, got.cause.never_falls);
      piece = omega (arith, c.read.auto.into, i.piece);
    }

pub returns-clause-fault : goal.returns-clause-fault
returns-clause-fault g c =
    let i = c.reading.invariant in
    too_long (g.S.Source.left c.args.input.now) (g.S.Source.left c.reading.input) c.reading.stream c.reading.length i.read (omega (arith, c.reading-test.false)) i.short
