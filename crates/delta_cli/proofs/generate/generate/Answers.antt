use Rattle.std.proofs.KnownBytes.{Keeps-refl}
use Rattle.delta_cli.proofs.Generated.{has_counts}
use Rattle.delta_cli.proofs.generate.generate.Goals as goal

-- the counts that would be printed
pub returns-in-Err-clause-stopped : goal.returns-in-Err-clause-stopped
returns-in-Err-clause-stopped g c = let it = has_counts c.args.patches c.requires in (it.0, it.1, Keeps-refl (g.K.Sink.written c.args.out.now))
