use Rattle.std.proofs.Common.{[], refl}
use Rattle.patch_meaning.proofs.Cuts.{nothing_cut}
use Rattle.stream_replay.proofs.Bounds.{bounded_none}
use Rattle.stream_replay.proofs.Held.{holds_has}
use Rattle.stream_replay.proofs.progress.StreamProgress.new.Goals as goal

pub returns-clause-streamed : goal.returns-clause-streamed
returns-clause-streamed c = record {
  rs = [];
  ms = [];
  reads = λ more. refl;
  parts = nothing_cut c.new.result c.new.ensures.rows c.new.ensures.from;
  changes = [];
  edits = holds_has c.new-3.result.fault [] [] c.new-2.result c.new-3.ensures.whole c.new-2.ensures.edits;
  memory = bounded_none [] c.new.result c.new-2.result c.new.ensures.from c.new-2.ensures.none c.new-2.ensures.enough;
  replayed = c.new-3.ensures.replay;
}
