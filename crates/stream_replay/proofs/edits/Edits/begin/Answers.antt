use Rattle.std.proofs.Common.{sym, ◌∙◌}
use Rattle.stream_replay.proofs.Edited.{begun_again}
use Rattle.stream_replay.proofs.edits.Edits.begin.Goals as goal

pub returns-then-is_some-clause-edits : goal.returns-then-is_some-clause-edits
returns-then-is_some-clause-edits c = λ changes d has. let e = c.args.self.now in begun_again e.before_block changes d e.log (sym c.is_some.ensures ∙ c.if-is_some.true) has
