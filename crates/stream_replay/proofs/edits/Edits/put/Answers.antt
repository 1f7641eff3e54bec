use Rattle.std.proofs.Common.{refl}
use Rattle.std.proofs.lemmas.Result.{on_ok_weaker}
use Rattle.stream_replay.proofs.Bounds.{grown}
use Rattle.stream_replay.proofs.Edited.{quad_more}
use Rattle.stream_replay.proofs.edits.Edits.put.Goals as goal

pub returns-clause-edits : goal.returns-clause-edits
returns-clause-edits c =
    let e = c.args.self.now in
    on_ok_weaker c.push.result (λ is quad of changes d has. quad_more e.before_block changes d e.log c.push.new.self c.args.adds c.args.bytes.now quad is of has) c.push.ensures.ok

pub returns-clause-grows : goal.returns-clause-grows
returns-clause-grows c = on_ok_weaker c.push.result (λ is. grown _ c.args.self.now _ is refl refl) c.push.ensures.ok
