use Rattle.std.proofs.Common.{Some, ◌∙◌}
use Rattle.patch_meaning.proofs.Cuts.{ends_stream}
use Rattle.patch_meaning.proofs.part.Part.finish_stream.Goals as goal

pub returns-in-Ok-clause-ok : goal.returns-in-Ok-clause-ok
returns-in-Ok-clause-ok c = ends_stream c.args.self.now c.args.stop (Some c.in-Ok.link) ((λ rs part. c.has_rows.ensures rs part ∙ c.if-not-has_rows.false), c.in-Ok.ensures.ok)
