use Rattle.std.proofs.Common.{refl}
use Rattle.stream_replay.proofs.Bounds.{fewer}
use Rattle.stream_replay.proofs.Edited.{aborted_outside}
use Rattle.stream_replay.proofs.edits.Edits.abort.Goals as goal

pub returns-in_default-clause-edits : goal.returns-in_default-clause-edits
returns-in_default-clause-edits c = λ changes d has. let e = c.args.self.now in aborted_outside e.before_block changes d e.log c.in_default.not-Some has

pub returns-in-Some-clause-grows : goal.returns-in-Some-clause-grows
returns-in-Some-clause-grows c = fewer _ c.args.self.now _ c.truncate.ensures refl refl
